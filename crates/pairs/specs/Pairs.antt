-- What the pair rule is worth, sentence by sentence. It is said of any check, so that it can be said of a wrong one too (crate
-- pair_bites); the rule's own is `check_of`.
use Rattle.std.specs.Prelude.{ℕ, ◌<◌, ◌≡◌, ◌≢◌, true, false, List, ◌++◌}
use Rattle.protocol.specs.declared.State.{State}
use Rattle.protocol.specs.declared.Setup.{Setup}
use Rattle.protocol.specs.declared.Step.{Step}
use Rattle.protocol.specs.Drain.{all_up, drain_of}
use Rattle.protocol.specs.Walk.{walk_of}
use Rattle.guarantees.specs.Acknowledged.{Legal, after}
use Rattle.guarantees.specs.Sent.{sent_as}
use Rattle.guarantees.specs.Guarantees.{SentReach}
use Rattle.pairing.specs.Pair.{Checked, kind_of, bundle_of, record_of, check_of}

abbrev pub Check : Type 0
Check = State → ℕ → ℕ → Checked

-- the two rules
pub data Rule : ℕ → Type 0 where
  old : Rule 1
  new : Rule 2

-- 1. Everything rule two passes rule one passes, on every machine value.
abbrev pub TwoThenOne : Check → Type 0
TwoThenOne check = (m : State) (k : ℕ) → (check m 2 k).passes ≡ true → (check m 1 k).passes ≡ true

-- 2. Refusals: 19 for a rule number other than 1 or 2, then the walk's own, then 20 if the key's word isn't a forecast; nothing that
-- is refused passes, and in every other case the check is answered.
pub record Refuses (check : Check) : Type 0 where
  pub no_rule : (m : State) (rule k : ℕ) → rule ≢ 1 → rule ≢ 2 → (check m rule k).answer ≡ 19
  pub walk_first : (m : State) (rule k : ℕ) → Rule rule → (walk_of m k).answer ≢ 0 → (check m rule k).answer ≡ (walk_of m k).answer
  pub no_forecast : (m : State) (rule k : ℕ) → Rule rule → (walk_of m k).answer ≡ 0 → kind_of (record_of m k).word ≢ 3 → (check m rule k).answer ≡ 20
  pub answered : (m : State) (rule k : ℕ) → Rule rule → (walk_of m k).answer ≡ 0 → kind_of (record_of m k).word ≡ 3 → (check m rule k).answer ≡ 0
  pub no_pass : (m : State) (rule k : ℕ) → (check m rule k).answer ≢ 0 → (check m rule k).passes ≡ false

-- 3. Rule one over what was sent: among the interactions that lead to the forecast over the causes as they were sent there is a
-- weights word and a scaler word, and all of both kinds have the forecast's bundle. (Words, as the sends said them.)
pub record SentKind (u : Setup) (steps : List Step) (k kind : ℕ) : Type 0 where
  pub key : ℕ
  pub leads : SentReach u steps k key
  pub word : kind_of (sent_as u steps key).word ≡ kind

-- weights and scaler, the two that travel together
pub data Part : ℕ → Type 0 where
  weights : Part 1
  scaler : Part 2

pub record RightPair (u : Setup) (steps : List Step) (k : ℕ) : Type 0 where
  pub some : (kind : ℕ) → Part kind → SentKind u steps k kind
  pub bundle : (kind : ℕ) → Part kind → (i : ℕ) → SentReach u steps k i → kind_of (sent_as u steps i).word ≡ kind
      → bundle_of (sent_as u steps i).word ≡ bundle_of (sent_as u steps k).word

pub record Speaks (r : Checked) (u : Setup) (steps : List Step) (k : ℕ) : Type 0 where
  pub tells : r.passes ≡ true → RightPair u steps k
  pub told : RightPair u steps k → r.passes ≡ true

-- On a machine that a run reached, a check that is answered speaks of the causes as they were sent.
abbrev pub AsSent : Check → Type 0
AsSent check = (u : Setup) → Legal u → (steps : List Step) (k : ℕ) → (check (after u steps) 1 k).answer ≡ 0 → Speaks (check (after u steps) 1 k) u steps k

-- 4. No store that was left, no lost acknowledgement and no late repair changes the answer: whatever steps follow, a check that is
-- answered stays answered, and by rule one it says the same.
abbrev pub Lasts : Check → Type 0
Lasts check =
    (u : Setup) → Legal u → (steps further : List Step) (rule k : ℕ) → Rule rule → (check (after u steps) rule k).answer ≡ 0
    → ((check (after u (steps ++ further)) rule k).answer ≡ 0) × ((check (after u (steps ++ further)) 1 k).passes ≡ (check (after u steps) 1 k).passes)

-- 5. After a drain with all stores up the check of every forecast made is answered, and speaks of the causes as they were sent.
abbrev pub AfterDrain : Check → Type 0
AfterDrain check =
    (u : Setup) → Legal u → (steps : List Step) → all_up (after u steps) ≡ true → (k : ℕ) → k < (after u steps).made
    → kind_of (sent_as u steps k).word ≡ 3 → (rule : ℕ) → Rule rule
    → ((check (drain_of (after u steps)).state rule k).answer ≡ 0) × Speaks (check (drain_of (after u steps)).state 1 k) u steps k

-- All of it.
pub record PairLaws (check : Check) : Type 0 where
  pub two_then_one : TwoThenOne check
  pub refuses : Refuses check
  pub as_sent : AsSent check
  pub lasts : Lasts check
  pub after_drain : AfterDrain check

abbrev pub ThePairRule : Type 0
ThePairRule = PairLaws check_of
