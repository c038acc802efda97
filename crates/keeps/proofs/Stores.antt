-- What a store has once it has taken a record or an update, was restarted, was thrown back by a crash or made a checkpoint, and the copies
-- in flight: each slot is as it must be. Assumes nothing.
use Prim.Native.Nat.{ℕ, ◌+◌, ◌-◌, ◌≤◌, ◌<◌}
use mathlib.Core.Path.{◌≡◌, refl, sym, ap, subst, ◌∙◌}
use mathlib.Core.Logic.{◌≢◌, ⊎_elim}
use mathlib.Core.Bool.{Bool, true, false, ◌||◌, not}
use mathlib.Core.List.{List}
use native.Mathlib.Omega.{arith}
use native.Mathlib.Decide.{ℕ_discrete}
use lib.ListN.{get_or, set, length-set}
use lib.Seq.{get_or-set_same, get_or-set_other}
use lib.Dec.{eqb}
use borrow.Author.Tests.{eq-eqb, ne_eqb, eqb-true, eqb-false, not-true, not-false}
use Rattle.std.proofs.lemmas.Bool.{both_ways, or_cases, or_left, or_parts, or_right}
use Rattle.std.proofs.Math.Bool.{or-false}
use Rattle.std.proofs.Common.{rules}
use Rattle.protocol.specs.Words.{pick, bit, joined}
use Rattle.protocol.specs.Slots.{number, place, links_place, no_contents, no_links, no_store, status_number, shelf, view, entry, contents, record_copies, update_copies, is_held, is_kept, viewlink, owes_ack, owes_uack}
use Rattle.protocol.specs.Stores.{thrown_back, saved}
use Rattle.protocol.specs.Setup.{blank_links}
use Rattle.protocol.specs.Broken.{has_in}
use Rattle.protocol.specs.Sweep.{has_contents, swept_contents, swept_links, swept}
use Rattle.protocol.specs.Writes.{with_shelf, with_acks, with_uacks}
use Rattle.unbroken.specs.Unbroken.{CopySlot, ContentsSlot, LinksSlot, ViewlinkSlot, RowSlot, StoreSlot, Unbroken}
use Rattle.protocol.specs.declared.State.{State}
use Rattle.protocol.specs.declared.Contents.{Contents}
use Rattle.protocol.specs.declared.Links.{Links}
use Rattle.protocol.specs.declared.Store.{Store}
use Rattle.unbroken.proofs.Laws.Bits.{joined_bit, no_bit}
use Rattle.unbroken.proofs.Laws.Has.{has_held, has_kept}
use Rattle.unbroken.proofs.Laws.Room.{stores8}
use Rattle.unbroken.proofs.Laws.Fresh.{blank_contents_holds, blank_links_holds}
use Rattle.unbroken.proofs.Places.{places_length}
use Rattle.protocol.specs.Rule.{more}
use Rattle.protocol.specs.TakeRecord.{written_contents, written_links, written_viewlink, taken_in}
use Rattle.protocol.specs.TakeUpdate.{updated_in}
use Rattle.protocol.specs.Crash.{crashed}
use Rattle.protocol.specs.Restart.{restarted}
use Rattle.protocol.specs.Checkpoint.{sent_owed, checkpointed}
use Rattle.keeps.specs.Taken.{PlaceOf}
use Rattle.keeps.specs.Change.{with_taken, with_updated}
use Rattle.keeps.proofs.Cases.{pick_case}
use Rattle.keeps.proofs.Index.{at_index, place_store, place_same, at_links_place, at_places}
use Rattle.keeps.proofs.Writes.{store_write, beside_contents, acks_write, uacks_write}

-- another number of copies where there are some, one more, and one more where one is owed
pub other_copies : {stores p least at n : ℕ} → CopySlot stores p least at n → 1 ≤ n → (k : ℕ) → k ≤ 15 → CopySlot stores p least at k
other_copies c some k few = record { copies15 = few; at_store = λ h. c.at_store some; at_view = λ h. c.at_view some }

pub more_copies : {stores p least at n : ℕ} → CopySlot stores p least at n → p < stores → least ≤ at → CopySlot stores p least at (more n)
more_copies e f g = search rules

owed_copies : {stores p least at n : ℕ} (owes : Bool) → CopySlot stores p least at n → p < stores → (owes ≡ true → least ≤ at) → CopySlot stores p least at (pick owes (more n) n)
owed_copies {stores} {p} {least} {at} {n} owes c hp hl = pick_case (CopySlot stores p least at) owes (more n) n (λ e. more_copies c hp (hl e)) (λ e. c)

-- a viewlink is written; a store that is there
row_write : {stores made p : ℕ} {row : List ℕ} (v n : ℕ) → v < 32 → RowSlot stores made p row → ViewlinkSlot stores made p v n → RowSlot stores made p (set row v n)
row_write {stores} {made} {p} {row} v n hv o c =
    record { long = length-set row v n ∙ o.long; link_at = at_index row 32 v n 0 o.long hv (ViewlinkSlot stores made p) c o.link_at }

there_slot : {stores made p : ℕ} (t : Store) → p < stores → RowSlot stores made p t.viewlinks → RowSlot stores made p t.keptlinks → StoreSlot stores made p t
there_slot t e f g = search rules

-- a set that a view joins
pub joined_has : (w v : ℕ) → bit (joined w v) v ≡ true
joined_has w v = joined_bit w v v ∙ or_right (bit w v) (eqb v v) (eq-eqb v v refl)

pub joined_beside : (w v u : ℕ) → u ≢ v → bit (joined w v) u ≡ bit w u
joined_beside w v u n = joined_bit w v u ∙ (ap (λ (b : Bool). bit w u || b) (ne_eqb v u (λ e. n (sym e))) ∙ or-false (bit w u))

pub joined_stays : (w v u : ℕ) → bit w u ≡ true → bit (joined w v) u ≡ true
joined_stays w v u e = joined_bit w v u ∙ or_left (bit w u) (eqb v u) e

joined_cases : {P : Type 0} (w v u : ℕ) → bit (joined w v) u ≡ true → (u ≡ v → P) → (bit w u ≡ true → P) → P
joined_cases w v u e f g = ⊎_elim g (λ h. f (sym (eqb-true v u h))) (or_cases (bit w u) (eqb v u) (sym (joined_bit w v u) ∙ e))

module _ (m : State) (s : Unbroken m) where
  pub store_8 : (p : ℕ) → p < m.stores → p < 8
  store_8 p h = let t = stores8 m s in omega arith

  pub key_16 : (k : ℕ) → k < m.made → k < 16
  key_16 k h = let t = s.made16 in omega arith

  pub number_32 : (k r : ℕ) → k < m.made → r < 2 → number k r < 32
  number_32 k r hk hr = let t = s.made16 in omega arith

  -- 6: what the store then has
  module _ (p k r : ℕ) (o : PlaceOf m p k r) (copy : 1 ≤ record_copies m p (number k r)) where
    abbrev v : ℕ
    v = number k r

    abbrev t : Store
    t = taken_in (shelf m p) (number k r) (view m (number k r))

    hp : p < 8
    hp = store_8 p o.store_in

    hv : number k r < 32
    hv = number_32 k r o.key_in o.role_in

    ready : 2 ≤ (view m (number k r)).phase
    ready = (s.record_at p (number k r) hp hv).at_view copy

    link_slot : ViewlinkSlot m.stores m.made p (number k r) (written_viewlink (viewlink m p (number k r)) (view m (number k r)))
    link_slot =
        let h = ready in
        let hk = o.key_in in
        let hr = o.role_in in
        let in_stores = (s.view_at (number k r) hv).viewlink_in (omega arith) in
        pick_case (ViewlinkSlot m.stores m.made p (number k r)) (eqb (viewlink m p (number k r)) 0) _ _
        (λ e. record { link_in = omega arith; at_store = λ h. o.store_in; at_view = λ h. omega arith }) (λ e. (s.store_at p hp).working.link_at (number k r) hv)

    -- it has contents of the view, and of the others where it had
    has_here : has_in t (number k r) ≡ true
    has_here = or_left (bit t.held (number k r)) (bit t.kept (number k r)) (joined_has (shelf m p).held (number k r))

    has_beside : (u : ℕ) → u ≢ number k r → has_in t u ≡ has_contents m p u
    has_beside u n = ap (λ (b : Bool). b || is_kept m p u) (joined_beside (shelf m p).held (number k r) u n)

    abbrev c : Contents
    c = written_contents (is_held m p (number k r)) (contents m p (number k r)) (view m (number k r))

    abbrev l : Links
    l = written_links r (is_held m p (number k r)) (view m (number k r)) (get_or m.links (links_place p k) no_links)

    written_contents_holds : ContentsSlot m.stores p (has_in t (number k r)) (view m (number k r)) c
    written_contents_holds =
        pick_case (ContentsSlot m.stores p (has_in t (number k r)) (view m (number k r))) (is_held m p (number k r)) _ _
        (λ e. subst (λ (b : Bool). ContentsSlot m.stores p b (view m (number k r)) (contents m p (number k r))) (has_held m p (number k r) e ∙ sym has_here) (s.contents_at p (number k r) hp hv))
        (λ e. record {
          ready = λ f. ready;
          same_actor = λ f. refl;
          same_causes = λ f. refl;
          same_word = λ f. refl;
          at_store = λ f. o.store_in;
          blank = λ f. absurd (both_ways (has_in t (number k r)) f has_here);
        })

    -- a sender's links are written beside contents that were not there; else the links stay, and so does whether there are contents
    links_stay : is_held m p (number k r) || not (eqb r 0) ≡ true → has_in t (number k 0) ≡ has_contents m p (number k 0)
    links_stay e = search (rules, has_here, has_held, eqb-false, not-true, or_cases, has_beside)

    written_links_holds : LinksSlot (has_in t (number k 0)) (view m (number k 0)).links l.to
    written_links_holds =
        pick_case (λ (x : Links). LinksSlot (has_in t (number k 0)) (view m (number k 0)).links x.to) (is_held m p (number k r) || not (eqb r 0)) _ _
        (λ e. subst (λ (b : Bool). LinksSlot b (view m (number k 0)).links (get_or m.links (links_place p k) no_links).to) (sym (links_stay e)) (s.links_at p k hp (key_16 k o.key_in)))
        (λ e.
        let z : r ≡ 0 = eqb-true r 0 (not-false (eqb r 0) (or_parts (is_held m p (number k r)) (not (eqb r 0)) e).1) in
        record {
          long = (s.view_at (number k r) hv).causes.long;
          same_links = λ j b f. ap (λ (i : ℕ). get_or (view m (number k i)).links j 0) z;
          links_blank = λ j b f. absurd (both_ways (has_in t (number k 0)) f (ap (λ (i : ℕ). has_in t (number k i)) (sym z) ∙ has_here));
        })

    contents_here_holds : (u : ℕ) → u < 32 → ContentsSlot m.stores p (has_in t u) (view m u) (get_or (set m.contents (place p (number k r)) c) (place p u) no_contents)
    contents_here_holds u hu = go (ℕ_discrete u (number k r))
      where
        at : ℕ → Contents
        at i = get_or (set m.contents (place p (number k r)) c) (place p i) no_contents

        go : Dec (u ≡ number k r) → ContentsSlot m.stores p (has_in t u) (view m u) (get_or (set m.contents (place p (number k r)) c) (place p u) no_contents)
        go (yes e) =
            subst (λ (i : ℕ). ContentsSlot m.stores p (has_in t i) (view m i) (at i)) (sym e)
            (subst (ContentsSlot m.stores p (has_in t (number k r)) (view m (number k r))) (sym (place_same m.contents p (number k r) c no_contents s.sized.contents hp hv)) written_contents_holds)
        go (no n) =
            subst (ContentsSlot m.stores p (has_in t u) (view m u)) (sym (get_or-set_other m.contents (place p (number k r)) (place p u) c no_contents (λ e. n (omega arith))))
            (subst (λ (b : Bool). ContentsSlot m.stores p b (view m u) (contents m p u)) (sym (has_beside u n)) (s.contents_at p u hp hu))

    pub taken_kept : Unbroken (with_taken m p k r)
    taken_kept =
        let hk = key_16 k o.key_in in
        let hr = o.role_in in
        let old = s.store_at p hp in
        store_write m s p hp t (set m.contents (place p (number k r)) c) (set m.links (links_place p k) l)
        (record {
          slot = there_slot t o.store_in (row_write (number k r) _ hv old.working link_slot) old.checkpointed;
          acks = λ u hu e. joined_cases (shelf m p).acksowed (number k r) u e (λ d. subst (λ (i : ℕ). 2 ≤ (view m i).phase) (sym d) ready) (λ h. s.ack_owed p u hp hu h);
          uacks = λ u hu. s.uack_owed p u hp hu;
          contents_long = length-set m.contents (place p (number k r)) c ∙ s.sized.contents;
          links_long = length-set m.links (links_place p k) l ∙ s.sized.links;
          contents_here = contents_here_holds;
          links_here = λ j hj.
              at_links_place m.links p k l no_links s.sized.links hp hk (λ q i x. q ≡ p → LinksSlot (has_in t (number i 0)) (view m (number i 0)).links x.to) (λ e. written_links_holds)
              (λ q i hq hi n e.
              subst (λ (b : Bool). LinksSlot b (view m (number i 0)).links (get_or m.links (links_place q i) no_links).to) (sym (has_beside (number i 0) (λ d. n e (omega arith))))
              (subst (λ (y : ℕ). LinksSlot (has_contents m y (number i 0)) (view m (number i 0)).links (get_or m.links (links_place q i) no_links).to) e (s.links_at q i hq hi))) p j hp hj refl;
          contents_there = λ q u hq hu n. get_or-set_other m.contents (place p (number k r)) (place q u) c no_contents (λ e. n (place_store p (number k r) q u hv hu e));
          links_there = λ q j hq hj n. get_or-set_other m.links (links_place p k) (links_place q j) l no_links (λ e. n (omega arith));
        })

  -- 11
  pub updated_kept : (p k r : ℕ) → PlaceOf m p k r → 1 ≤ update_copies m p (number k r) → Unbroken (with_updated m p k r)
  updated_kept p k r o copy =
      let hp = store_8 p o.store_in in
      let hk = o.key_in in
      let hr = o.role_in in
      let hv = number_32 k r hk hr in
      let t = updated_in (shelf m p) (number k r) (number k (1 - r)) (entry m (number k r)).own in
      let some = (s.update_at p (number k r) hp hv).at_view copy in
      let own = (s.entry_at (number k r) hv).own_in some in
      let link : ViewlinkSlot m.stores m.made p (number k (1 - r)) ((entry m (number k r)).own + 1) = record { link_in = omega arith; at_store = λ h. o.store_in; at_view = λ h. omega arith } in
      let old = s.store_at p hp in
      beside_contents m s p hp t (there_slot t o.store_in (row_write (number k (1 - r)) _ (number_32 k (1 - r) hk (omega arith)) old.working link) old.checkpointed) (λ u. refl)
      (λ u hu. s.ack_owed p u hp hu)
      (λ u hu e. joined_cases (shelf m p).uacksowed (number k r) u e (λ d. subst (λ (i : ℕ). 1 ≤ status_number (entry m i).status) (sym d) some) (λ h. s.uack_owed p u hp hu h))

  -- 16
  pub restarted_kept : (p : ℕ) → p < m.stores → Unbroken (restarted m p)
  unfolding restarted
  restarted_kept p e = search (rules, hp, store_8, beside_contents, there_slot)

  -- 15, 17: nothing is owed any more, and what neither state has is swept
  module _ (p : ℕ) (hp : p < 8) (t : Store) (slot : StoreSlot m.stores m.made p t) (acks : t.acksowed ≡ 0) (uacks : t.uacksowed ≡ 0)
      (fewer : (v : ℕ) → has_in t v ≡ true → has_contents m p v ≡ true) where
    abbrev now : State
    now = with_shelf m p t

    has_now : (v : ℕ) → has_contents now p v ≡ has_in t v
    has_now v = let long = s.sized.shelves in ap (λ (x : Store). has_in x v) (get_or-set_same m.shelves p t no_store (omega arith))

    swept_contents_holds : (v : ℕ) → v < 32 → ContentsSlot m.stores p (has_in t v) (view m v) (pick (has_contents now p v) (contents m p v) no_contents)
    swept_contents_holds v hv = subst (λ (b : Bool). ContentsSlot m.stores p (has_in t v) (view m v) (pick b (contents m p v) no_contents)) (sym (has_now v)) (go (has_in t v) refl)
      where
        go : (b : Bool) → has_in t v ≡ b → ContentsSlot m.stores p (has_in t v) (view m v) (pick b (contents m p v) no_contents)
        go true e = subst (λ (b : Bool). ContentsSlot m.stores p b (view m v) (contents m p v)) (fewer v e ∙ sym e) (s.contents_at p v hp hv)
        go false e = blank_contents_holds m.stores p (has_in t v) (view m v) e

    swept_links_holds : (k : ℕ) → k < 16 → LinksSlot (has_in t (number k 0)) (view m (number k 0)).links (pick (has_contents now p (number k 0)) (get_or m.links (links_place p k) no_links) blank_links).to
    swept_links_holds k hk =
        subst (λ (b : Bool). LinksSlot (has_in t (number k 0)) (view m (number k 0)).links (pick b (get_or m.links (links_place p k) no_links) blank_links).to) (sym (has_now (number k 0)))
        (go (has_in t (number k 0)) refl)
      where
        go : (b : Bool) → has_in t (number k 0) ≡ b → LinksSlot (has_in t (number k 0)) (view m (number k 0)).links (pick b (get_or m.links (links_place p k) no_links) blank_links).to
        go true e = subst (λ (b : Bool). LinksSlot b (view m (number k 0)).links (get_or m.links (links_place p k) no_links).to) (fewer (number k 0) e ∙ sym e) (s.links_at p k hp hk)
        go false e = blank_links_holds (has_in t (number k 0)) (view m (number k 0)).links blank_links.to e refl

    abbrev sweep : ℕ → Contents → Contents
    sweep v c = pick (has_contents now p v) c no_contents

    abbrev sweep_links : ℕ → Links → Links
    sweep_links k l = pick (has_contents now p (number k 0)) l blank_links

    swept_kept : Unbroken (swept now p)
    unfolding swept
    swept_kept =
        store_write m s p hp t (swept_contents now p) (swept_links now p)
        (record {
          slot = slot;
          acks = λ v hv e. no_bit t.acksowed v acks e;
          uacks = λ v hv e. no_bit t.uacksowed v uacks e;
          contents_long = places_length 32 p sweep no_contents m.contents;
          links_long = places_length 16 p sweep_links no_links m.links;
          contents_here = λ v hv.
              at_places 32 p sweep no_contents m.contents (λ q u x. q ≡ p → ContentsSlot m.stores p (has_in t u) (view m u) x) (λ u hu e. swept_contents_holds u hu) (λ q u hq hu d e. absurd (d e)) p v hp hv refl;
          links_here = λ k hk.
              at_places 16 p sweep_links no_links m.links (λ q j x. q ≡ p → LinksSlot (has_in t (number j 0)) (view m (number j 0)).links x.to) (λ j hj e. swept_links_holds j hj) (λ q j hq hj d e. absurd (d e)) p k hp hk refl;
          contents_there = at_places 32 p sweep no_contents m.contents (λ q u x. q ≢ p → x ≡ contents m q u) (λ u hu d. absurd (d refl)) (λ q u hq hu d e. refl);
          links_there = at_places 16 p sweep_links no_links m.links (λ q j x. q ≢ p → x ≡ get_or m.links (links_place q j) no_links) (λ j hj d. absurd (d refl)) (λ q j hq hj d e. refl);
        })

  pub crashed_kept : (p : ℕ) → p < m.stores → Unbroken (crashed m p)
  unfolding crashed
  crashed_kept p h =
      let hp = store_8 p h in
      let old = s.store_at p hp in
      let t = thrown_back (shelf m p) in
      swept_kept p hp t (there_slot t h old.checkpointed old.checkpointed) refl refl (λ v e. ⊎_elim (has_kept m p v) (has_kept m p v) (or_cases (is_kept m p v) (is_kept m p v) e))

pub checkpointed_kept : (m : State) → Unbroken m → (p : ℕ) → p < m.stores → Unbroken (checkpointed m p)
unfolding checkpointed
checkpointed_kept m s p h =
    let hp = store_8 m s p h in
    let old = s.store_at p hp in
    let t = saved (shelf m p) in
    let send : (ℕ → Bool) → ℕ → ℕ → ℕ = λ owes v n. pick (owes v) (more n) n in
    let s₁ = acks_write m s (sent_owed (shelf m p).acksowed p m.acks) (places_length 32 p (send (owes_ack m p)) 0 m.acks)
    (at_places 32 p (send (owes_ack m p)) 0 m.acks (λ q v. CopySlot m.stores q 2 (view m v).phase) (λ v hv. owed_copies (owes_ack m p v) (s.ack_at p v hp hv) h (s.ack_owed p v hp hv)) (λ q v hq hv d. s.ack_at q v hq hv)) in
    let m₁ = with_acks m (sent_owed (shelf m p).acksowed p m.acks) in
    let s₂ = uacks_write m₁ s₁ (sent_owed (shelf m p).uacksowed p m.uacks) (places_length 32 p (send (owes_uack m p)) 0 m.uacks)
    (at_places 32 p (send (owes_uack m p)) 0 m.uacks (λ q v. CopySlot m.stores q 1 (status_number (entry m v).status)) (λ v hv. owed_copies (owes_uack m p v) (s.uack_at p v hp hv) h (s.uack_owed p v hp hv)) (λ q v hq hv d. s.uack_at q v hq hv)) in
    let m₂ = with_uacks m₁ (sent_owed (shelf m p).uacksowed p m.uacks) in
    swept_kept m₂ s₂ p hp t (there_slot t h old.working old.working) refl refl (λ v e. ⊎_elim (has_held m p v) (has_held m p v) (or_cases (is_held m p v) (is_held m p v) e))
