-- The laws of a step: from its condition's law, from the kinds that were walked, and by computation on setup M. Assumes nothing.
use Prim.Native.Nat.{ℕ, ◌+◌, ◌≤◌}
use mathlib.Core.Path.{◌≡◌, refl, sym, ap, subst, ◌∙◌}
use mathlib.Core.Logic.{◌≢◌}
use mathlib.Core.Bool.{true, false}
use mathlib.Core.List.{[], ◌∷◌}
use native.Mathlib.Omega.{arith}
use lib.ListN.{get_or, set, length-set}
use lib.Seq.{get_or-set_same, get_or-set_other}
use lib.Dec.{eqb}
use borrow.Author.Tests.{eq-eqb, ne_eqb}
use Rattle.std.proofs.lemmas.Bool.{both_ways}
use Rattle.std.proofs.Common.{rules}
use Rattle.protocol.specs.Words.{pick, bit, all_from, table}
use Rattle.protocol.specs.Slots.{number, no_view, shelf, is_up, view, is_held, viewlink}
use Rattle.protocol.specs.Setup.{answered, legal_actor, legal_actors, legal, fresh_with}
use Rattle.protocol.specs.Broken.{broken_of}
use Rattle.protocol.specs.declared.State.{State}
use Rattle.protocol.specs.declared.View.{View}
use Rattle.protocol.specs.declared.Store.{Store}
use Rattle.unbroken.proofs.Laws.{unbroken, only, fresh_unbroken}
use Rattle.unbroken.proofs.Shelves.{shelf_same}
use Rattle.unbroken.proofs.Laws.Has.{has_held}
use Rattle.unbroken.proofs.Laws.Every.{table_at}
use Rattle.unbroken.proofs.Laws.Says.{zero_splits}
use Rattle.protocol.specs.Send.{sent_view, awaited_view, sent}
use Rattle.protocol.specs.Receive.{received_view, received_of}
use Rattle.protocol.specs.TakeRecord.{taken_in, record_taken}
use Rattle.protocol.specs.Sweep.{swept}
use Rattle.protocol.specs.Crash.{crash_no, crashed}
use Rattle.protocol.specs.Restart.{restart_no}
use Rattle.protocol.specs.Step.{number_of, after_of, rule_of, step_of}
use Rattle.protocol.specs.declared.Step.{Step}
use Rattle.protocol.specs.declared.Step.TheVariants.{TakeRecord, Crash, Restart}
use Rattle.keeps.specs.Laws.{TakenExactly, TakenGives, RefusedGives, BrokenGives, TakenBy, AnswerZero, JointSame, MadeCounts, SendsNewKey, SendWritesLinks}
use Rattle.keeps.specs.Laws.{ReceiveWritesLink, StoreWritesLinks, OneResult, marked, Program, RefuserOut, ConstantOut, PretenderOut, ResultsDiffer}
use Rattle.keeps.proofs.Index.{same}
use Rattle.keeps.proofs.Conditions.{taken_when, when_taken}
use Rattle.keeps.proofs.Joins.{home_in_holds}
use Rattle.keeps.proofs.Cases.{pick_case, step_case}
use Rattle.keeps.proofs.Which.{kinds}
use Rattle.keeps.proofs.Stores.{store_8, key_16, number_32, joined_has}
use Rattle.keeps.proofs.Keeps.{every_kept}

pub taken_exactly : TakenExactly
taken_exactly m s = (taken_when m s, when_taken m s)

pub joint_same : JointSame
unfolding step_of
joint_same m s e = ap (λ b. pick b (answered 1 m) (rule_of m s)) e

rule_taken : (m : State) (s : Step) → number_of m s ≡ 0 → rule_of m s ≡ answered 0 (after_of m s)
unfolding rule_of
rule_taken m s z = ap (λ b. pick b (answered 0 (after_of m s)) (answered (number_of m s) m)) (eq-eqb (number_of m s) 0 z)

rule_refused : (m : State) (s : Step) → number_of m s ≢ 0 → rule_of m s ≡ answered (number_of m s) m
unfolding rule_of
rule_refused m s n = ap (λ b. pick b (answered 0 (after_of m s)) (answered (number_of m s) m)) (ne_eqb (number_of m s) 0 n)

pub taken_gives : TakenGives
taken_gives m s e c = joint_same m s e ∙ rule_taken m s (when_taken m s c)

pub refused_gives : RefusedGives
refused_gives m s e f = let n : number_of m s ≢ 0 = λ z. f (taken_when m s z) in (n, joint_same m s e ∙ rule_refused m s n)

pub broken_gives : BrokenGives
unfolding step_of
broken_gives m s e = ap (λ b. pick b (answered 1 m) (rule_of m s)) e

pub answer_zero : AnswerZero
answer_zero m s =
    step_case m s (λ x. x.answer ≡ 0 → TakenBy m s) (λ e z. absurd (omega arith))
    (λ e z y. let c = taken_when m s z in record { unbroken = e; condition = c; gives = taken_gives m s e c }) (λ e n z. absurd (n z))

-- the number of interactions
pub made_counts : MadeCounts
unfolding sent
made_counts = search (rules, kinds)

pub sends_new_key : SendsNewKey
unfolding sent
sends_new_key m from to own word causes e c =
    let s = unbroken m e in
    let w = sent_view m from to own word causes in
    let k = m.made in
    let room = c.room in
    let long = s.sized.views in
    let inner = length-set m.views (number k 0) w in
    record {
      made = refl;
      sender = get_or-set_other (set m.views (number k 0) w) (number k 1) (number k 0) (awaited_view to) no_view (omega arith) ∙ get_or-set_same m.views (number k 0) w no_view (omega arith);
      receiver = get_or-set_same (set m.views (number k 0) w) (number k 1) (awaited_view to) no_view (omega arith);
      others = λ v h. get_or-set_other (set m.views (number k 0) w) (number k 1) v (awaited_view to) no_view (omega arith) ∙ get_or-set_other m.views (number k 0) v w no_view (omega arith);
    }

-- the links
pub send_writes_links : SendWritesLinks
send_writes_links = search (rules, unbroken, sends_new_key, home_in_holds, table_at, pick_case, both_ways)

pub receive_writes_link : ReceiveWritesLink
unfolding received_of
receive_writes_link m k e c =
    let s = unbroken m e in
    let hv = number_32 m s k 1 c.key_in (omega arith) in
    let long = s.sized.views in
    let g = s.message_at k (key_16 m s k c.key_in) in
    record {
      viewlink = ap (λ (x : View). x.viewlink) (get_or-set_same m.views (number k 1) (received_view m k) no_view (omega arith));
      viewlink_in = g.own_in (g.sent c.key_in c.unreceived);
    }

pub store_writes_links : StoreWritesLinks
unfolding record_taken
store_writes_links m p k r e c =
    let s = unbroken m e in
    let o = c.place in
    let hs = o.store_in in
    let hk = o.key_in in
    let hr = o.role_in in
    let hp = store_8 m s p hs in
    let v = number k r in
    let hv = number_32 m s k r hk hr in
    let kept = every_kept m (TakeRecord p k r) s c in
    let here = shelf_same m.shelves p (taken_in (shelf m p) v (view m v)) s.sized.shelves hp in
    let held : is_held (record_taken m p k r) p v ≡ true = ap (λ (x : Store). bit x.held v) here ∙ joined_has (shelf m p).held v in
    record {
      held = held;
      viewlink = subst (λ (n : ℕ). 1 ≤ n) (sym (ap (λ (x : Store). get_or x.viewlinks v 0) here ∙ same (shelf m p).viewlinks 32 v _ 0 (s.store_at p hp).working.long hv))
          (pick_case (λ (n : ℕ). 1 ≤ n) (eqb (viewlink m p v) 0) ((view m v).viewlink + 1) (viewlink m p v) (λ f. omega arith) (λ f. (zero_splits (viewlink m p v)).fails f));
      ack_owed = ap (λ (x : Store). bit x.acksowed v) here ∙ joined_has (shelf m p).acksowed v;
      links = λ j h z.
          (kept.links_at p k hp (key_16 m s k hk)).same_links j h (has_held (record_taken m p k r) p (number k 0) (ap (λ (i : ℕ). is_held (record_taken m p k r) p (number k i)) (sym z) ∙ held))
          ∙ ap (λ (i : ℕ). get_or (view m (number k i)).links j 0) (sym z);
    }

pub one_result_holds : OneResult
one_result_holds = (λ m s. only (step_of m s), λ m s. only (rule_of m s))

-- setup M: a crash is taken and a store is down then; a restart is refused with 6
marked_unbroken : broken_of marked ≡ false
unfolding legal legal_actors legal_actor all_from
marked_unbroken = fresh_unbroken 3 2 (0 ∷ 1 ∷ 0 ∷ 0 ∷ 0 ∷ 0 ∷ 0 ∷ 0 ∷ []) (5 ∷ 6 ∷ 0 ∷ 0 ∷ 0 ∷ 0 ∷ 0 ∷ 0 ∷ []) refl refl refl

crash_rule : rule_of marked (Crash 0) ≡ answered 0 (crashed marked 0)
unfolding rule_of crash_no fresh_with table
crash_rule = refl

restart_rule : rule_of marked (Restart 0) ≡ answered 6 marked
unfolding rule_of restart_no fresh_with table
restart_rule = refl

pub crash_step : step_of marked (Crash 0) ≡ answered 0 (crashed marked 0)
crash_step = joint_same marked (Crash 0) marked_unbroken ∙ crash_rule

pub restart_step : step_of marked (Restart 0) ≡ answered 6 marked
restart_step = joint_same marked (Restart 0) marked_unbroken ∙ restart_rule

up_before : is_up marked 0 ≡ true
unfolding fresh_with table
up_before = refl

up_after : is_up (crashed marked 0) 0 ≡ false
unfolding swept crashed fresh_with table
up_after = refl

pub refuser_out : (f : Program) → RefuserOut f
refuser_out f refuses e = refuses marked (Crash 0) (ap (λ x. x.answer) (e ∙ crash_step))

pub constant_out : (f : Program) → ConstantOut f
constant_out f = search (rules, same, crash_step, restart_step)

pub pretender_out : (f : Program) → PretenderOut f
pretender_out f = search (rules, crash_step, up_before, up_after)

pub results_differ : ResultsDiffer
results_differ = search (rules, crash_step, restart_step, crash_rule, restart_rule)
