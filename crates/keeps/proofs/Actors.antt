-- The head of a queue is checked (3), its record sent (4), timed out (5), acknowledged (7): each keeps every slot. Assumes nothing.
use Prim.Native.Nat.{ℕ, ◌+◌, ◌-◌, ◌/◌, ◌≤◌, ◌<◌}
use mathlib.Core.Path.{◌≡◌, refl, sym, ap, subst, ◌∙◌}
use mathlib.Core.Bool.{Bool, true, ◌&&◌}
use mathlib.Core.List.{List}
use native.Mathlib.Omega.{arith}
use lib.ListN.{get_or}
use lib.Seq.{set-get_or}
use lib.Dec.{eqb}
use borrow.Author.Tests.{eqb-true}
use Rattle.std.proofs.lemmas.Bool.{and_parts, both_ways}
use Rattle.protocol.specs.Words.{bit}
use Rattle.protocol.specs.Slots.{number, no_view, view, queue}
use Rattle.protocol.specs.Writes.{with_view, with_views}
use Rattle.unbroken.specs.Unbroken.{CausesSlot, ViewSlot, Unbroken}
use Rattle.protocol.specs.declared.State.{State}
use Rattle.protocol.specs.declared.View.{View}
use Rattle.unbroken.proofs.Laws.Tests.{by_test}
use Rattle.unbroken.proofs.Laws.Every.{length_table, table_at}
use Rattle.unbroken.proofs.Laws.Says.{eq_says, zero_splits}
use Rattle.protocol.specs.Views.{rewritten, phased}
use Rattle.protocol.specs.Rule.{head, head_view}
use Rattle.protocol.specs.PreCheck.{checked_link, checked_view, pre_checked}
use Rattle.protocol.specs.Timeout.{is_current, tries_after, changed_after, timed_out}
use Rattle.keeps.specs.Taken.{HeadIn, TimeoutTaken}
use Rattle.keeps.proofs.Heads.{moved_job_holds, head_from, head_to, head_32, head_made, head_write}
use Rattle.keeps.proofs.Cases.{pick_case}

-- the head in another phase from 1 to 5, at a store, with up to three tries and the links of its causes, all else as it is
module _ (m : State) (s : Unbroken m) (a : ℕ) (ha : a < m.actors) (some : 1 ≤ (queue m a).len) (n p : ℕ) (b : Bool) (t : ℕ) (to : List ℕ) where
  abbrev w : View
  w = rewritten n p b t to (head_view m a)

  pub head_slot : 1 ≤ n → n ≤ 5 → p < m.stores → t ≤ 3 → CausesSlot m.stores (head m a / 2) (head_view m a).causes to
      → ViewSlot m.stores m.actors m.made (view m (head m a - 1)).actor (head m a) w
  head_slot low high inside few causes =
      let old = s.view_at (head m a) (head_32 m s a ha some) in
      let made = head_made m s a ha some in
      record {
        causes = causes;
        store_in = λ h. inside;
        viewlink_in = λ h. old.viewlink_in (head_from m s a ha some);
        tries3 = λ h. few;
        unset = λ e. absurd (omega arith);
        sender_made = λ h r. low;
        receiver_causes = old.receiver_causes;
        actor_in = old.actor_in;
        phase5 = λ h. high;
        two_actors = old.two_actors;
        actor_blank = old.actor_blank;
        phase_blank = λ h. absurd (omega arith);
      }

  pub head_onward : 2 ≤ n → n ≤ 4 → p < m.stores → t ≤ 3 → CausesSlot m.stores (head m a / 2) (head_view m a).causes to → (2 ≤ (head_view m a).phase → to ≡ (head_view m a).links) → Unbroken (with_view m (head m a) w)
  head_onward low high inside few causes links =
      head_write m s a ha some w refl (omega arith) high
      (moved_job_holds m s (head m a) (head_32 m s a ha some) (head_to m s a ha some) m.made (view m (head m a - 1)).actor w (head_slot (omega arith) (omega arith) inside few causes) (λ h. (low, refl, refl, refl, links h)))

module _ (m : State) (s : Unbroken m) (a : ℕ) (ha : a < m.actors) (some : 1 ≤ (queue m a).len) where
  abbrev old : ViewSlot m.stores m.actors m.made (view m (head m a - 1)).actor (head m a) (head_view m a)
  old = s.view_at (head m a) (head_32 m s a ha some)

  -- 4, 7
  pub phase_write : (n : ℕ) → 2 ≤ n → n ≤ 4 → Unbroken (with_view m (head m a) (phased n (head_view m a)))
  phase_write n low high =
      head_onward m s a ha some n _ _ _ _ low high (old.store_in (head_from m s a ha some)) (old.tries3 (head_from m s a ha some)) old.causes (λ h. refl)

pub timeout_kept : (m : State) → Unbroken m → (a p : ℕ) → TimeoutTaken m a p → Unbroken (timed_out m a p)
unfolding timed_out
timeout_kept m s a p c =
    let ha = c.head.actor_in in
    let some = c.head.queued in
    let o = head_view m a in
    head_onward m s a ha some 2 p (changed_after p o) (tries_after p o) _ (omega arith) (omega arith) c.store_in
    (pick_case (λ (n : ℕ). n ≤ 3) (is_current p o) (o.tries + 1) 0 (λ e. omega (arith, c.tries (eqb-true o.store p e))) (λ e. omega arith))
    (old m s a ha some).causes (λ h. refl)

pub pre_check_kept : (m : State) → Unbroken m → (a : ℕ) → HeadIn 1 m a → Unbroken (pre_checked m a)
unfolding pre_checked
pre_check_kept m s a c =
    let ha = c.actor_in in
    let some = c.queued in
    let first = c.head_phase in
    let was = old m s a ha some in
    let o = head_view m a in
    let at : (j : ℕ) → j < 16 → get_or (checked_view m o).links j 0 ≡ checked_link m o j = λ j h. table_at (checked_link m o) 16 0 j h in
    let store : (j : ℕ) → j < 16 → (view m (number j 1)).changed ≡ true → (view m (number j 1)).store < m.stores =
    λ j h e. (s.view_at (number j 1) (omega arith)).store_in
    ((zero_splits (view m (number j 1)).phase).fails (by_test (eqb (view m (number j 1)).phase 0)
    (λ z. absurd (both_ways (view m (number j 1)).changed (ap (λ (w : View). w.changed) ((s.view_at (number j 1) (omega arith)).unset ((eq_says (view m (number j 1)).phase 0).tells z))) e)) (λ z. z))) in
    let links : CausesSlot m.stores (head m a / 2) o.causes (checked_view m o).links =
    record {
      long = length_table (checked_link m o) 16;
      below = was.causes.below;
      link_in = λ j h b. subst (λ (n : ℕ). n < m.stores) (sym (at j h))
          (pick_case (λ (n : ℕ). n < m.stores) (bit o.causes j && (view m (number j 1)).changed) _ _
          (λ e. store j h (and_parts (bit o.causes j) (view m (number j 1)).changed e).1) (λ e. was.causes.link_in j h b));
      link_blank = λ j h b. at j h
          ∙ pick_case (λ (n : ℕ). n ≡ 0) (bit o.causes j && (view m (number j 1)).changed) _ _
          (λ e. absurd (both_ways (bit o.causes j) b (and_parts (bit o.causes j) (view m (number j 1)).changed e).0)) (λ e. was.causes.link_blank j h b);
    } in
    head_onward m s a ha some 2 o.store o.changed o.tries _ (omega arith) (omega arith) (was.store_in (head_from m s a ha some)) (was.tries3 (head_from m s a ha some)) links (λ h. absurd (omega arith))

-- a view that is written as it was
pub same_view : (m : State) (v : ℕ) → with_view m v (view m v) ≡ m
same_view m v = ap (with_views m) (set-get_or m.views v no_view)
