-- What lasts in the stores of a backed machine stays, and the machine stays backed: by cases on a change, each of which writes one store
-- and what stands beside it, or none. Assumes nothing.
use Prim.Native.Nat.{ℕ, ◌+◌, ◌-◌, ◌≤◌, ◌<◌}
use mathlib.Core.Path.{◌≡◌, refl, sym, ap, subst, ◌∙◌}
use mathlib.Core.Bool.{Bool, true, ◌||◌, not}
use mathlib.Core.List.{List}
use native.Mathlib.Omega.{arith}
use lib.ListN.{length, get_or, set}
use lib.Dec.{eqb}
use borrow.Author.Tests.{eqb-true, not-false}
use Rattle.std.proofs.lemmas.Bool.{both_ways, or_parts, or_right}
use Rattle.std.proofs.Common.{rules}
use Rattle.protocol.specs.Words.{pick, bit}
use Rattle.protocol.specs.Slots.{number, place, links_place, no_contents, no_links, shelf, view, entry, contents, cause_links, is_held, viewlink, is_kept, kept_viewlink}
use Rattle.protocol.specs.Stores.{thrown_back, saved}
use Rattle.protocol.specs.Setup.{blank_links}
use Rattle.protocol.specs.Broken.{has_in}
use Rattle.protocol.specs.Sweep.{has_contents, swept_contents, swept_links, swept}
use Rattle.protocol.specs.Writes.{with_shelf, with_contents, with_links}
use Rattle.unbroken.specs.Unbroken.{Unbroken}
use Rattle.protocol.specs.declared.State.{State}
use Rattle.protocol.specs.declared.Contents.{Contents}
use Rattle.protocol.specs.declared.Links.{Links}
use Rattle.protocol.specs.declared.Store.{Store}
use Rattle.unbroken.proofs.Shelves.{shelf_same}
use Rattle.protocol.specs.Send.{sent}
use Rattle.protocol.specs.Receive.{received_of}
use Rattle.protocol.specs.PostCheck.{post_checked}
use Rattle.protocol.specs.TakeRepair.{repair_taken}
use Rattle.protocol.specs.TakeRecord.{written_contents, written_links, written_viewlink, taken_in}
use Rattle.protocol.specs.TakeUpdate.{updated_in}
use Rattle.protocol.specs.Crash.{crashed}
use Rattle.protocol.specs.Restart.{restarted}
use Rattle.protocol.specs.Checkpoint.{checkpointed}
use Rattle.keeps.specs.Taken.{PlaceOf}
use Rattle.keeps.specs.Change.{with_taken, with_updated, Change, on_send, on_receive, on_head, on_settle, on_flight, on_taken, on_updated, on_status, on_repair, on_crash, on_restart, on_checkpoint}
use Rattle.keeps.specs.Lasting.{Backed, Lasts, BlankBacked, StepBacked, StepLasts}
use Rattle.keeps.proofs.Cases.{pick_case}
use Rattle.keeps.proofs.Index.{at_index, at_place, at_links_place, at_places}
use Rattle.keeps.proofs.Stores.{store_8, key_16, number_32, joined_stays}
use Rattle.keeps.proofs.Changes.{step_related}
use Rattle.protocol.specs.Step.{step_of}
use Rattle.protocol.specs.declared.Step.{Step}

-- what goes from one machine to the next
record Carried (m n : State) : Type 0 where
  backed : Backed n
  lasts : Lasts m n

-- the store p becomes t, and the contents and cause links are cs and ls
record Written (m : State) (p : ℕ) (t : Store) (cs : List Contents) (ls : List Links) : Type 0 where
  held : (v : ℕ) → v < 32 → bit t.kept v ≡ true → bit t.held v ≡ true
  linked : (v : ℕ) → v < 32 → 1 ≤ get_or t.keptlinks v 0 → 1 ≤ get_or t.viewlinks v 0
  kept : (v : ℕ) → v < 32 → is_kept m p v ≡ true → bit t.kept v ≡ true
  kept_link : (v : ℕ) → v < 32 → 1 ≤ kept_viewlink m p v → 1 ≤ get_or t.keptlinks v 0
  contents : (q v : ℕ) → q < 8 → v < 32 → is_kept m q v ≡ true → get_or cs (place q v) no_contents ≡ contents m q v
  links : (q k : ℕ) → q < 8 → k < 16 → is_kept m q (number k 0) ≡ true → (get_or ls (links_place q k) no_links).to ≡ cause_links m q k

module _ (m : State) (long : length m.shelves ≡ 8) (b : Backed m) where
  written : (p : ℕ) → p < 8 → (t : Store) (cs : List Contents) (ls : List Links) → Written m p t cs ls → Carried m (with_shelf (with_links (with_contents m cs) ls) p t)
  written p e t cs ls f = search rules

  -- what is written is no store
  beside : (n : State) → n.shelves ≡ m.shelves → n.contents ≡ m.contents → n.links ≡ m.links → Carried m n
  beside n e f g = search rules

-- 6: contents and viewlinks are written only where the working state has none, so where none last
taken_carried : (m : State) → Unbroken m → Backed m → (p k r : ℕ) → PlaceOf m p k r → Carried m (with_taken m p k r)
taken_carried m s b p k r o =
    let v = number k r in
    let hp = store_8 m s p o.store_in in
    let hk = key_16 m s k o.key_in in
    let hr = o.role_in in
    let hv = number_32 m s k r o.key_in hr in
    let w = view m v in
    let t = taken_in (shelf m p) v w in
    let c = contents m p v in
    let l = get_or m.links (links_place p k) no_links in
    let link = written_viewlink (viewlink m p v) w in
    written m s.sized.shelves b p hp t (set m.contents (place p v) (written_contents (is_held m p v) c w)) (set m.links (links_place p k) (written_links r (is_held m p v) w l))
    (record {
      held = λ u hu e. joined_stays (shelf m p).held v u (b.held p u hp hu e);
      linked = λ u hu e.
          at_index (shelf m p).viewlinks 32 v link 0 (s.store_at p hp).working.long hv (λ i n. 1 ≤ viewlink m p i → 1 ≤ n)
          (λ h. pick_case (λ (n : ℕ). 1 ≤ n) (eqb (viewlink m p v) 0) (w.viewlink + 1) (viewlink m p v) (λ f. omega arith) (λ f. h)) (λ i hi h. h) u hu (b.linked p u hp hu e);
      kept = λ u hu e. e;
      kept_link = λ u hu e. e;
      contents = at_place m.contents p v (written_contents (is_held m p v) c w) no_contents s.sized.contents hp hv (λ q u x. is_kept m q u ≡ true → x ≡ contents m q u)
          (λ e. pick_case (λ (x : Contents). x ≡ c) (is_held m p v) c _ (λ f. refl) (λ f. absurd (both_ways (is_held m p v) f (b.held p v hp hv e)))) (λ q u hq hu e. refl);
      links = at_links_place m.links p k (written_links r (is_held m p v) w l) no_links s.sized.links hp hk (λ q j x. is_kept m q (number j 0) ≡ true → x.to ≡ cause_links m q j)
          (λ e. ap (λ (x : Links). x.to) (stay (b.held p (number k 0) hp (omega arith) e))) (λ q j hq hj n e. refl);
    })
  where
    stay : is_held m p (number k 0) ≡ true → written_links r (is_held m p (number k r)) (view m (number k r)) (get_or m.links (links_place p k) no_links) ≡ get_or m.links (links_place p k) no_links
    stay h =
        pick_case (λ (x : Links). x ≡ get_or m.links (links_place p k) no_links) (is_held m p (number k r) || not (eqb r 0)) _ _ (λ e. refl)
        (λ e.
        let z : r ≡ 0 = eqb-true r 0 (not-false (eqb r 0) (or_parts (is_held m p (number k r)) (not (eqb r 0)) e).1) in
        absurd (both_ways (is_held m p (number k r)) (or_parts (is_held m p (number k r)) (not (eqb r 0)) e).0 (ap (λ (i : ℕ). is_held m p (number k i)) z ∙ h)))

-- 11: a viewlink is written to a store
updated_carried : (m : State) → Unbroken m → Backed m → (p k r : ℕ) → PlaceOf m p k r → Carried m (with_updated m p k r)
updated_carried m s b p k r o =
    let hp = store_8 m s p o.store_in in
    let hr = o.role_in in
    let u = number k (1 - r) in
    let own = (entry m (number k r)).own in
    written m s.sized.shelves b p hp (updated_in (shelf m p) (number k r) u own) m.contents m.links
    (record {
      held = λ v hv e. b.held p v hp hv e;
      linked = λ v hv e.
          at_index (shelf m p).viewlinks 32 u (own + 1) 0 (s.store_at p hp).working.long (number_32 m s k (1 - r) o.key_in (omega arith)) (λ i n. 1 ≤ viewlink m p i → 1 ≤ n)
          (λ h. omega arith) (λ i hi h. h) v hv (b.linked p v hp hv e);
      kept = λ v hv e. e;
      kept_link = λ v hv e. e;
      contents = λ q v hq hv e. refl;
      links = λ q j hq hj e. refl;
    })

restarted_carried : (m : State) → Unbroken m → Backed m → (p : ℕ) → p < m.stores → Carried m (restarted m p)
unfolding restarted
restarted_carried m e f p g = search rules

-- 15, 17: the two states become one, which has what lasted; what is swept lasted in neither
module _ (m : State) (long : length m.shelves ≡ 8) (b : Backed m) (p : ℕ) (hp : p < 8) (t : Store) (same : t.held ≡ t.kept) (same_links : t.viewlinks ≡ t.keptlinks)
    (kept : (v : ℕ) → v < 32 → is_kept m p v ≡ true → bit t.kept v ≡ true) (kept_link : (v : ℕ) → v < 32 → 1 ≤ kept_viewlink m p v → 1 ≤ get_or t.keptlinks v 0) where
  abbrev now : State
  now = with_shelf m p t

  has_still : (v : ℕ) → v < 32 → is_kept m p v ≡ true → has_contents now p v ≡ true
  has_still v hv e = ap (λ (x : Store). has_in x v) (shelf_same m.shelves p t long hp) ∙ or_right (bit t.held v) (bit t.kept v) (kept v hv e)

  swept_carried : Carried m (swept now p)
  unfolding swept
  swept_carried =
      written m long b p hp t (swept_contents now p) (swept_links now p)
      (record {
        held = λ v hv e. ap (λ (x : ℕ). bit x v) same ∙ e;
        linked = λ v hv e. subst (λ (x : List ℕ). 1 ≤ get_or x v 0) (sym same_links) e;
        kept = kept;
        kept_link = kept_link;
        contents = at_places 32 p (λ v c. pick (has_contents now p v) c no_contents) no_contents m.contents (λ q v x. is_kept m q v ≡ true → x ≡ contents m q v)
            (λ v hv e. ap (λ (h : Bool). pick h (contents m p v) no_contents) (has_still v hv e)) (λ q v hq hv d e. refl);
        links = at_places 16 p (λ k l. pick (has_contents now p (number k 0)) l blank_links) no_links m.links (λ q k x. is_kept m q (number k 0) ≡ true → x.to ≡ cause_links m q k)
            (λ k hk e. ap (λ (h : Bool). (pick h (get_or m.links (links_place p k) no_links) blank_links).to) (has_still (number k 0) (omega arith) e)) (λ q k hq hk d e. refl);
      })

change_carried : (m n : State) → Unbroken m → Change m n → Backed m → Carried m n
unfolding sent received_of post_checked repair_taken crashed checkpointed swept
change_carried m n s (on_send from to own word causes c) b = beside m s.sized.shelves b n refl refl refl
change_carried m n s (on_receive k c) b = beside m s.sized.shelves b n refl refl refl
change_carried m n s (on_head a w h) b = beside m s.sized.shelves b n refl refl refl
change_carried m n s (on_settle a h) b = beside m s.sized.shelves b n refl refl refl
change_carried m n s (on_flight records acks updates uacks f) b = beside m s.sized.shelves b n refl refl refl
change_carried m n s (on_taken p k r o c) b = taken_carried m s b p k r o
change_carried m n s (on_updated p k r o c) b = updated_carried m s b p k r o
change_carried m n s (on_status k r t o c) b = beside m s.sized.shelves b n refl refl refl
change_carried m n s (on_repair k r c) b = beside m s.sized.shelves b n refl refl refl
change_carried m n s (on_crash p h) b = swept_carried m s.sized.shelves b p (store_8 m s p h) (thrown_back (shelf m p)) refl refl (λ v hv e. e) (λ v hv e. e)
change_carried m n s (on_restart p h) b = restarted_carried m s b p h
change_carried m n s (on_checkpoint p h up) b =
    let hp = store_8 m s p h in
    let c = swept_carried m s.sized.shelves b p hp (saved (shelf m p)) refl refl (λ v hv e. b.held p v hp hv e) (λ v hv e. b.linked p v hp hv e) in
    record {
      backed = record { held = c.backed.held; linked = c.backed.linked };
      lasts = record { lasting = c.lasts.lasting; contents = c.lasts.contents; links = c.lasts.links; linked = c.lasts.linked };
    }

-- what lasts stays, one step after another
pub lasts_still : (m : State) → Lasts m m
lasts_still m = record { lasting = λ p v hp hv e. e; contents = λ p v hp hv e. refl; links = λ p k hp hk e. refl; linked = λ p v hp hv e. e }

pub lasts_after : (m n o : State) → Lasts m n → Lasts n o → Lasts m o
lasts_after m n o e f = search rules

after : (m n o : State) → (Backed m → Carried m n) → (Backed n → Carried n o) → Backed m → Carried m o
after m n o e f g = search rules

step_carried : (m : State) (s : Step) → Backed m → Carried m (step_of m s).state
step_carried = step_related (λ m n. Backed m → Carried m n) (λ m b. record { backed = b; lasts = lasts_still m }) after change_carried

pub blank_backed : BlankBacked
blank_backed = search rules

pub step_backed : StepBacked
step_backed m s b = (step_carried m s b).backed

pub step_lasts : StepLasts
step_lasts m s b = (step_carried m s b).lasts
