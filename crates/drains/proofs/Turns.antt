-- What the drain does next: a step that is taken and leaves one step less, or nothing, and then all interactions are closed.
-- By cases on what it looks for, in its order; assumes nothing.
use Rattle.std.specs.Prelude.{Some, None, Option}
use Prim.Native.Nat.{ℕ, ◌*◌, ◌/◌, ◌%◌, ◌≤◌, ◌<◌}
use mathlib.Core.Path.{◌≡◌, refl}
use mathlib.Core.Logic.{◌≢◌}
use mathlib.Core.Bool.{Bool, true, false, ◌&&◌, not}
use native.Mathlib.Omega.{arith}
use native.Mathlib.Decide.{ℕ_discrete, dec_lt}
use lib.Dec.{eqb, ltb}
use lib.ListN.{get_or}
use borrow.Author.Tests.{lt-leb, ltb-true, ltb-false, eqb-true, eqb-false, not-true, not-false}
use Rattle.std.proofs.lemmas.Bool.{and_from, and_parts, or_parts}
use Rattle.std.proofs.Common.{rules}
use Rattle.protocol.specs.Words.{pick, bit, times}
use Rattle.protocol.specs.Slots.{number, status_number, is_up, list, queue, view, repair, entry, record_copies, ack_copies, update_copies, uack_copies, owes_ack, owes_uack}
use Rattle.unbroken.specs.Unbroken.{Unbroken}
use Rattle.protocol.specs.Closed.{closed_of}
use Rattle.protocol.specs.declared.Step.{Step}
use Rattle.protocol.specs.declared.State.{State}
use Rattle.unbroken.proofs.Laws.Tests.{or_else}
use Rattle.unbroken.proofs.Laws.Every.{all_at}
use Rattle.unbroken.proofs.Laws.Room.{stores8, actors8, legal_actor_holds, made_view_holds, made_32, sender_made_holds}
use Rattle.protocol.specs.Rule.{head}
use Rattle.protocol.specs.declared.Step.TheVariants.{Receive, PreCheck, SendRecord, Timeout, TakeRecord, TakeAck, PostCheck, TakeRepair, SendUpdate, TakeUpdate, TakeUack, Expire, Checkpoint}
use Rattle.protocol.specs.Drain.{key_of, role_of, unreceived, busy, spare, job_step, repair_due, unfinished, entry_due, entry_step, turn_of, all_up}
use Rattle.drains.proofs.Lowest.{finds}
use Rattle.drains.proofs.StepsLeft.{repair_to_come}
use Rattle.drains.proofs.Total.{seen_of, opposite}
use Rattle.drains.proofs.Jobs.{Lowers, receive_good, pre_check_good, send_record_good, post_check_good, timeout_good, take_ack_good, take_record_good}
use Rattle.keeps.proofs.Conditions.{to_send_holds, waiting}
use Rattle.drains.proofs.Entries.{take_repair_good, send_update_good, take_uack_good, take_update_good, expire_good}
use Rattle.drains.proofs.Checkpoints.{ack_owed_good, uack_owed_good}
use Rattle.drains.proofs.Spare.{spare_there}

-- nothing applies: every view made is settled, with no repair in flight and no entry that is to-send or waiting
pub record AtRest (m : State) : Type 0 where
  pub settled : (v : ℕ) → v < m.made * 2 → (view m v).phase ≡ 5
  pub idle : (v : ℕ) → v < m.made * 2 → (repair m v).flying ≡ false
  pub finished : (v : ℕ) → v < m.made * 2 → unfinished m v ≡ false

abbrev pub Does : State → Option Step → Type 0
Does m (Some s) = Lowers m s
Does m None = AtRest m

module _ (m : State) (w : Unbroken m) where
  -- where the drain has received all, every view made is in a phase
  all_started : ((k : ℕ) → k < m.made → eqb (view m (number k 1)).phase 0 ≡ false) → (v : ℕ) → v < m.made * 2 → 1 ≤ (view m v).phase
  all_started received v h = go (ℕ_discrete (v % 2) 0)
    where
      go : Dec (v % 2 ≡ 0) → 1 ≤ (view m v).phase
      go (yes e) = let q : number (v / 2) 0 ≡ v = omega arith in rw q at (sender_made_holds m w (v / 2) (omega arith))
      go (no e) =
          let q : number (v / 2) 1 ≡ v = omega arith in
          let r = rw q at (eqb-false (view m (number (v / 2) 1)).phase 0 (received (v / 2) (omega arith))) in
          omega arith

  -- .. and settled, where all queues are empty
  all_settled : ((v : ℕ) → v < m.made * 2 → 1 ≤ (view m v).phase) → ((a : ℕ) → a < m.actors → not (eqb (queue m a).len 0) ≡ false)
      → (v : ℕ) → v < m.made * 2 → (view m v).phase ≡ 5
  unfolding times
  all_settled begun empty v h = go (dec_lt (view m v).phase 5)
    where
      a : ℕ
      a = (view m v).actor

      nobody : (queue m a).len ≡ 0
      nobody = eqb-true (queue m a).len 0 (not-false (eqb (queue m a).len 0) (empty a ((w.view_at v (made_32 m w v h)).actor_in h)))

      go : Dec ((view m v).phase < 5) → (view m v).phase ≡ 5
      go (yes l) = absurd (omega (arith, rw nobody at (w.queued_once v (made_32 m w v h) (begun v h) (omega arith))))
      go (no l) = omega (arith, (w.view_at v (made_32 m w v h)).phase5 h)

  module _ (up : all_up m ≡ true) where
    is_up_at : (p : ℕ) → p < m.stores → is_up m p ≡ true
    is_up_at p e = search (rules, or_else, all_at, stores8, lt-leb)

    -- (b) the head of a queue
    module _ (a : ℕ) (ha : a < m.actors) (busy : (queue m a).len ≢ 0) where
      abbrev v : ℕ
      v = head m a

      in8 : a < 8
      in8 = omega (arith, actors8 m w)

      from : 1 ≤ (view m v).phase
      from = (w.queue_at a in8).stands_from 0 (omega arith)

      to : (view m v).phase ≤ 4
      to = (w.queue_at a in8).stands_to 0 (omega arith)

      hv : v < m.made * 2
      hv = made_view_holds m w v from

      at : (view m v).store < m.stores
      at = (w.view_at v (made_32 m w v hv)).store_in from

      job_lowers : Lowers m (job_step m a)
      unfolding job_step
      job_lowers = go (eqb (view m v).phase 1) (eqb (view m v).phase 2) (eqb (view m v).phase 4) (eqb (ack_copies m p v) 0) (owes_ack m p v) (eqb (record_copies m p v) 0) refl refl refl refl refl refl
        where
          p : ℕ
          p = (view m v).store

          few : p < 8
          few = omega (arith, at, stores8 m w)

          third : eqb (view m v).phase 1 ≡ false → eqb (view m v).phase 2 ≡ false → eqb (view m v).phase 4 ≡ false → (view m v).phase ≡ 3
          third b c d = omega (arith, from, to, eqb-false (view m v).phase 1 b, eqb-false (view m v).phase 2 c, eqb-false (view m v).phase 4 d)

          there : spare m a < m.stores
          there = spare_there m.stores (get_or m.homes a 0) (list m a) p (legal_actor_holds m w a ha)

          chosen : bit (list m a) (spare m a) && not (eqb p (spare m a)) ≡ true
          chosen = (finds m.stores (λ q. bit (list m a) q && not (eqb p q))).holds there

          go : (b c d e o f : Bool) → eqb (view m v).phase 1 ≡ b → eqb (view m v).phase 2 ≡ c → eqb (view m v).phase 4 ≡ d → eqb (ack_copies m p v) 0 ≡ e → owes_ack m p v ≡ o → eqb (record_copies m p v) 0 ≡ f
              → Lowers m (pick b (PreCheck a) (pick c (SendRecord a) (pick d (PostCheck a)
              (pick (not e) (TakeAck p (key_of v) (role_of v)) (pick o (Checkpoint p) (pick (not f) (TakeRecord p (key_of v) (role_of v)) (Timeout a (spare m a))))))))
          go true c d e o f eb ec ed ee eo ef = pre_check_good m w a ha busy hv (eqb-true (view m v).phase 1 eb)
          go false true d e o f eb ec ed ee eo ef = send_record_good m w a ha busy hv few (eqb-true (view m v).phase 2 ec)
          go false false true e o f eb ec ed ee eo ef = post_check_good m w a ha busy hv few (eqb-true (view m v).phase 4 ed)
          go false false false false o f eb ec ed ee eo ef = take_ack_good m w a ha busy hv few (third eb ec ed) ((w.queue_at a in8).stands_own 0 (omega arith)) ee
          go false false false true true f eb ec ed ee eo ef = ack_owed_good m w v hv at (third eb ec ed) (is_up_at p at) ee eo
          go false false false true false false eb ec ed ee eo ef = take_record_good m w a ha busy hv few (third eb ec ed) (is_up_at p at) ee eo ef
          go false false false true false true eb ec ed ee eo ef =
              timeout_good m w a ha busy hv few (third eb ec ed) (spare m a) there
              (and_parts (bit (list m a) (spare m a)) (not (eqb p (spare m a))) chosen).0
              (eqb-false p (spare m a) (not-true (eqb p (spare m a)) (and_parts (bit (list m a) (spare m a)) (not (eqb p (spare m a))) chosen).1))
              ee eo ef

    -- (d) an entry, when all views are settled and no repair is in flight
    module _ (settled : (u : ℕ) → u < m.made * 2 → (view m u).phase ≡ 5) (idle : (u : ℕ) → u < m.made * 2 → (repair m u).flying ≡ false)
        (v : ℕ) (hv : v < m.made * 2) (due : unfinished m v ≡ true) where
      nothing_to_come : repair_to_come (seen_of m (opposite v)) ≡ false
      unfolding repair_to_come seen_of
      nothing_to_come =
          let ho : opposite v < m.made * 2 = omega arith in
          rw (settled (opposite v) ho, idle (opposite v) ho)

      entry_lowers : Lowers m (entry_step m v)
      unfolding entry_step
      entry_lowers = go (eqb n 1) (eqb (uack_copies m p v) 0) (owes_uack m p v) (eqb (update_copies m p v) 0) refl refl refl refl
        where
          n : ℕ
          n = status_number (entry m v).status

          p : ℕ
          p = (entry m v).destination

          second : eqb n 1 ≡ false → n ≡ 2
          second e = eqb-true n 2 (or_else (eqb n 1) (eqb n 2) due e)

          at' : 1 ≤ n → p < m.stores
          at' h = (w.entry_at v (omega (arith, w.made16))).destination_in h

          go : (b c o d : Bool) → eqb n 1 ≡ b → eqb (uack_copies m p v) 0 ≡ c → owes_uack m p v ≡ o → eqb (update_copies m p v) 0 ≡ d
              → Lowers m (pick b (SendUpdate (key_of v) (role_of v))
              (pick (not c) (TakeUack p (key_of v) (role_of v)) (pick o (Checkpoint p) (pick (not d) (TakeUpdate p (key_of v) (role_of v)) (Expire (key_of v) (role_of v))))))
          go true c o d eb ec eo ed =
              let h = eqb-true n 1 eb in
              send_update_good m w v hv (settled v hv) (idle v hv) nothing_to_come (at' (omega arith)) (stores8 m w) (to_send_holds (entry m v).status h)
          go false false o d eb ec eo ed =
              let h = second eb in
              take_uack_good m w v hv (settled v hv) (idle v hv) nothing_to_come (at' (omega arith)) (stores8 m w) (waiting (entry m v).status h) ec
          go false true true d eb ec eo ed =
              let h = second eb in
              let l = at' (omega arith) in
              uack_owed_good m w v hv l (settled v hv) (idle v hv) nothing_to_come (waiting (entry m v).status h) (is_up_at p l) ec eo
          go false true false false eb ec eo ed =
              let h = second eb in
              let l = at' (omega arith) in
              take_update_good m w v hv (settled v hv) (idle v hv) nothing_to_come l (stores8 m w) (waiting (entry m v).status h) (is_up_at p l) ec eo ed
          go false true false true eb ec eo ed =
              let h = second eb in
              expire_good m w v hv (settled v hv) (idle v hv) nothing_to_come (at' (omega arith)) (stores8 m w) (waiting (entry m v).status h) ec eo ed

    -- the turns from (d) on, and from (c) on
    abbrev entry_turn : Option Step
    entry_turn = pick (ltb (entry_due m) (m.made * 2)) (Some (entry_step m (entry_due m))) None

    abbrev repair_turn : Option Step
    repair_turn = pick (ltb (repair_due m) (m.made * 2)) (Some (TakeRepair (key_of (repair_due m)) (role_of (repair_due m)))) entry_turn

    pub does : Does m (turn_of m)
    unfolding turn_of
    does = first (ltb (unreceived m) m.made) refl
      where
        fourth : ((v : ℕ) → v < m.made * 2 → (view m v).phase ≡ 5) → ((v : ℕ) → v < m.made * 2 → (repair m v).flying ≡ false)
            → (b : Bool) → ltb (entry_due m) (m.made * 2) ≡ b → Does m (pick b (Some (entry_step m (entry_due m))) None)
        fourth settled idle true e =
            let l = ltb-true (entry_due m) (m.made * 2) e in
            entry_lowers settled idle (entry_due m) l ((finds (m.made * 2) (unfinished m)).holds l)
        fourth settled idle false e =
            record { settled = settled; idle = idle; finished = (finds (m.made * 2) (unfinished m)).none (ltb-false (entry_due m) (m.made * 2) e) }

        third : ((v : ℕ) → v < m.made * 2 → (view m v).phase ≡ 5) → (b : Bool) → ltb (repair_due m) (m.made * 2) ≡ b
            → Does m (pick b (Some (TakeRepair (key_of (repair_due m)) (role_of (repair_due m)))) entry_turn)
        third settled true e =
            let l = ltb-true (repair_due m) (m.made * 2) e in
            take_repair_good m w (repair_due m) l ((finds (m.made * 2) (λ v. (repair m v).flying)).holds l)
        third settled false e =
            fourth settled ((finds (m.made * 2) (λ v. (repair m v).flying)).none (ltb-false (repair_due m) (m.made * 2) e)) (ltb (entry_due m) (m.made * 2)) refl

        second : ((v : ℕ) → v < m.made * 2 → 1 ≤ (view m v).phase) → (b : Bool) → ltb (busy m) m.actors ≡ b
            → Does m (pick b (Some (job_step m (busy m))) repair_turn)
        second begun true e =
            let l = ltb-true (busy m) m.actors e in
            let some = (finds m.actors (λ a. not (eqb (queue m a).len 0))).holds l in
            job_lowers (busy m) l (eqb-false (queue m (busy m)).len 0 (not-true (eqb (queue m (busy m)).len 0) some))
        second begun false e =
            let empty = (finds m.actors (λ a. not (eqb (queue m a).len 0))).none (ltb-false (busy m) m.actors e) in
            third (all_settled begun empty) (ltb (repair_due m) (m.made * 2)) refl

        first : (b : Bool) → ltb (unreceived m) m.made ≡ b
            → Does m (pick b (Some (Receive (unreceived m))) (pick (ltb (busy m) m.actors) (Some (job_step m (busy m))) repair_turn))
        first true e =
            let l = ltb-true (unreceived m) m.made e in
            let h = (finds m.made (λ k. eqb (view m (number k 1)).phase 0)).holds l in
            receive_good m w (unreceived m) l (eqb-true (view m (number (unreceived m) 1)).phase 0 h)
        first false e =
            let received = (finds m.made (λ k. eqb (view m (number k 1)).phase 0)).none (ltb-false (unreceived m) m.made e) in
            second (all_started received) (ltb (busy m) m.actors) refl

-- a machine at rest has every interaction closed
pub rest_closes : (m : State) → AtRest m → (k : ℕ) → k < m.made → closed_of m k ≡ true
unfolding closed_of
rest_closes m e k f = search (rules, and_from, or_parts)
