-- A checkpoint of a store raises the steps left of no interaction: an answer that was owed is in flight. It lowers those of one whose
-- head waits for the ack that its store owes, or whose entry waits for the uack that its destination owes. Assumes nothing.
use Prim.Native.Nat.{ℕ, ◌≤◌, ◌<◌}
use mathlib.Core.Path.{◌≡◌}
use mathlib.Core.Bool.{Bool, true, false, ◌&&◌, ◌||◌, not}
use native.Mathlib.Omega.{arith}
use lib.Dec.{eqb}
use Rattle.std.proofs.Common.{rules}
use Rattle.protocol.specs.Words.{pick}
use Rattle.protocol.specs.declared.Status.{Status}
use Rattle.protocol.specs.declared.Status.TheVariants.{Waiting}
use Rattle.drains.proofs.StepsLeft.{Seen, seen, job_left, repair_to_come, has_entry, entry_left, coordinator_left, own_left, steps_left}

-- what the drain sees of a view after a checkpoint: x says that it was of the view's store, y that it was of its entry's destination
abbrev pub noted : Bool → Bool → Seen → Seen
noted x y s =
    seen s.phase s.changed s.repair s.status
    (pick x (s.ack || s.ack_owed) s.ack) (pick x false s.ack_owed) s.sent
    (pick y (s.uack || s.uack_owed) s.uack) (pick y false s.uack_owed) s.update

same_to_come : (x : Bool) (p5 c r p3 a o s : Bool) → pick p5 r (c || (p3 && not (pick x (a || o) a) && not (pick x false o) && not s)) ≡ pick p5 r (c || (p3 && not a && not o && not s))
same_to_come x p5 c r p3 a o s = search rules

to_come_noted : (x y : Bool) (s : Seen) → repair_to_come (noted x y s) ≡ repair_to_come s
unfolding repair_to_come
to_come_noted x y s = same_to_come x (eqb s.phase 5) s.changed s.repair (eqb s.phase 3) s.ack s.ack_owed s.sent

answer_noted : (a o r : Bool) → pick (a || o) 2 (pick false 3 (pick r 4 6)) ≤ pick a 2 (pick o 3 (pick r 4 6))
answer_noted true o r = omega arith
answer_noted false true r = omega arith
answer_noted false false r = omega arith

job_noted : (x y : Bool) (s : Seen) → job_left (noted x y s) ≤ job_left s
unfolding job_left
job_noted x y s = search (rules, answer_noted)

entry_noted : (y : Bool) (q : Status) (u e d : Bool) → entry_left q (pick y (u || e) u) (pick y false e) d ≤ entry_left q u e d
entry_noted y q u e d = search rules

own_noted : (x y : Bool) (s : Seen) → own_left (noted x y s) ≤ own_left s
own_noted x y s = entry_noted y s.status s.uack s.uack_owed s.update

coordinator_fewer : (f g h i : Bool) (x y x' y' : ℕ) → x' ≤ x → y' ≤ y → coordinator_left f g h i x' y' ≤ coordinator_left f g h i x y
unfolding coordinator_left
coordinator_fewer true g h i x y x' y' p q = omega arith
coordinator_fewer false true h i x y x' y' p q = omega arith
coordinator_fewer false false h i x y x' y' p q = omega arith

module _ (x y z w : Bool) (s t : Seen) where
  coordinator_noted : coordinator_left (repair_to_come s) (repair_to_come t) (has_entry s.status) (has_entry t.status) (own_left (noted x y s)) (own_left (noted z w t))
      ≤ coordinator_left (repair_to_come s) (repair_to_come t) (has_entry s.status) (has_entry t.status) (own_left s) (own_left t)
  coordinator_noted =
      coordinator_fewer (repair_to_come s) (repair_to_come t) (has_entry s.status) (has_entry t.status) (own_left s) (own_left t) (own_left (noted x y s)) (own_left (noted z w t))
      (own_noted x y s) (own_noted z w t)

  pub noted_most : steps_left (noted x y s) (noted z w t) ≤ steps_left s t
  unfolding steps_left
  noted_most = rw (to_come_noted x y s, to_come_noted z w t) (omega (arith, job_noted x y s, job_noted z w t, coordinator_noted))

  noted_job : job_left (noted x y s) < job_left s → steps_left (noted x y s) (noted z w t) < steps_left s t
  unfolding steps_left
  noted_job l = rw (to_come_noted x y s, to_come_noted z w t) (omega (arith, l, job_noted z w t, coordinator_noted))

  noted_own : repair_to_come s ≡ false → repair_to_come t ≡ false → own_left (noted x y s) < own_left s → steps_left (noted x y s) (noted z w t) < steps_left s t
  unfolding steps_left coordinator_left
  noted_own none none' l = rw (to_come_noted x y s, to_come_noted z w t, none, none') (omega (arith, l, job_noted x y s, job_noted z w t, own_noted z w t))

job_answered : (y : Bool) (s : Seen) → s.phase ≡ 3 → s.ack ≡ false → s.ack_owed ≡ true → job_left (noted true y s) < job_left s
unfolding job_left
job_answered y s e a o = rw (e, a, o) (omega arith)

pub noted_ack : (y z w : Bool) (s t : Seen) → s.phase ≡ 3 → s.ack ≡ false → s.ack_owed ≡ true → steps_left (noted true y s) (noted z w t) < steps_left s t
noted_ack y z w s t e a o = noted_job true y z w s t (job_answered y s e a o)

own_answered : (x : Bool) (s : Seen) → s.status ≡ Waiting → s.uack ≡ false → s.uack_owed ≡ true → own_left (noted x true s) < own_left s
own_answered x s e a o = rw (e, a, o) (omega arith)

pub noted_uack : (x z w : Bool) (s t : Seen) → repair_to_come s ≡ false → repair_to_come t ≡ false → s.status ≡ Waiting → s.uack ≡ false → s.uack_owed ≡ true
    → steps_left (noted x true s) (noted z w t) < steps_left s t
noted_uack x z w s t none none' e a o = noted_own x true z w s t none none' (own_answered x s e a o)
