-- The laws of the pair rule are not empty, and they bite: runs on which their premises hold, and wrong checks with a run on which a
-- law fails by each.
use Rattle.std.specs.Prelude.{ℕ, ◌+◌, ◌<◌, ◌≡◌, Bool, true, false, ◌&&◌, List, [], ◌∷◌, leb, ltb, eqb, get_or}
use Rattle.protocol.specs.Words.{pick, table}
use Rattle.protocol.specs.Slots.{number, view, lasting_contents, no_contents}
use Rattle.protocol.specs.declared.State.{State}
use Rattle.protocol.specs.declared.Contents.{Contents}
use Rattle.protocol.specs.Walk.{Walked, walk_of}
use Rattle.protocol.specs.declared.Step.{Step}
use Rattle.protocol.specs.declared.Step.TheVariants.{Send, Receive}
use Rattle.protocol.specs.Drain.{all_up, drain_of}
use Rattle.guarantees.specs.Acknowledged.{after}
use Rattle.guarantees.specs.Sent.{sent_as}
use Rattle.bites.specs.Setting.{M}
use Rattle.pairing.specs.Pair.{Checked, kind_of, bundle_of, record_of, met_at, met_of, is_a, is_cause, is_rule, counted, passes_of, refused_check, answered_check, check_of}
use Rattle.pairs.specs.Pairs.{AfterDrain}

-- the words of a bundle
abbrev pub weights_of : ℕ → ℕ
weights_of bundle = 16777216 + bundle

abbrev pub scaler_of : ℕ → ℕ
scaler_of bundle = 33554432 + bundle

abbrev pub forecast_of : ℕ → ℕ
forecast_of bundle = 50331648 + bundle

-- Actor 0 sends weights and a scaler of bundle 7, and actor 1 a forecast from both.
abbrev pub right_pair : List Step
right_pair = Send 0 1 0 (weights_of 7) 0 ∷ Send 0 1 0 (scaler_of 7) 0 ∷ Receive 0 ∷ Receive 1 ∷ Send 1 0 1 (forecast_of 7) 3 ∷ []

-- The rollback: weights of bundle 7, the newer scaler of bundle 8.
abbrev pub mixed_pair : List Step
mixed_pair = Send 0 1 0 (weights_of 7) 0 ∷ Send 0 1 0 (scaler_of 8) 0 ∷ Receive 0 ∷ Receive 1 ∷ Send 1 0 1 (forecast_of 7) 3 ∷ []

-- A second scaler, of another bundle.
abbrev pub two_scalers : List Step
two_scalers =
    Send 0 1 0 (weights_of 7) 0 ∷ Send 0 1 0 (scaler_of 7) 0 ∷ Send 0 1 0 (scaler_of 8) 0 ∷ Receive 0 ∷ Receive 1 ∷ Receive 2
    ∷ Send 1 0 1 (forecast_of 7) 7 ∷ []

-- The weights were made with a scaler of another bundle, which is no direct cause of the forecast.
abbrev pub behind_the_weights : List Step
behind_the_weights =
    Send 0 1 0 (scaler_of 8) 0 ∷ Receive 0 ∷ Send 1 0 1 (weights_of 7) 1 ∷ Send 1 0 1 (scaler_of 7) 0 ∷ Receive 1 ∷ Receive 2
    ∷ Send 0 1 0 (forecast_of 7) 6 ∷ []

-- after the drain the check of key k is answered, and says so by each rule
pub record Says (steps : List Step) (k : ℕ) (one two : Bool) : Type 0 where
  pub up : all_up (after M steps) ≡ true
  pub made : k < (after M steps).made
  pub forecast : kind_of (sent_as M steps k).word ≡ 3
  pub by_one : check_of (drain_of (after M steps)).state 1 k ≡ answered_check one
  pub by_two : check_of (drain_of (after M steps)).state 2 k ≡ answered_check two

-- as checked_of, over other records
abbrev pub checked_by : List Contents → Walked → ℕ → Contents → Checked
checked_by met w rule f =
    pick (eqb w.answer 0) (pick (is_a 3 f) (answered_check (passes_of rule met w.keys f)) (refused_check 20)) (refused_check w.answer)

-- A check that looks only at direct causes.
abbrev pub direct_at : State → Walked → Contents → ℕ → Contents
direct_at m w f i = pick (is_cause f.causes (get_or w.keys i 0)) (met_at m w i) no_contents

abbrev pub direct_by : State → Walked → ℕ → ℕ → Checked
direct_by m w rule k = pick (is_rule rule) (checked_by (table (direct_at m w (record_of m k)) 16) w rule (record_of m k)) (refused_check 19)

unfoldable pub direct_check : State → ℕ → ℕ → Checked
direct_check m rule k = direct_by m (walk_of m k) rule k

-- A check that reads the receipt's word.
abbrev pub receipt_of : State → ℕ → Contents
receipt_of m k = lasting_contents m (view m (number k 0)).store (number k 1)

abbrev pub receipt_by : State → Walked → ℕ → ℕ → Checked
receipt_by m w rule k =
    pick (is_rule rule) (checked_by (table (λ i. pick (ltb i w.count) (receipt_of m (get_or w.keys i 0)) no_contents) 16) w rule (receipt_of m k)) (refused_check 19)

unfoldable pub receipt_check : State → ℕ → ℕ → Checked
receipt_check m rule k = receipt_by m (walk_of m k) rule k

-- A check that forgets a second scaler: any one of the forecast's bundle is enough.
abbrev pub any_of : ℕ → ℕ → List Contents → Bool
any_of kind bundle met = leb 1 (counted 16 (λ i. is_a kind (get_or met i no_contents) && eqb (bundle_of (get_or met i no_contents).word) bundle))

abbrev pub any_by : State → Walked → ℕ → ℕ → Checked
any_by m w rule k =
    pick (is_rule rule)
    (pick (eqb w.answer 0)
    (pick (is_a 3 (record_of m k)) (answered_check (any_of 1 (bundle_of (record_of m k).word) (met_of m w) && any_of 2 (bundle_of (record_of m k).word) (met_of m w))) (refused_check 20))
    (refused_check w.answer))
    (refused_check 19)

unfoldable pub any_check : State → ℕ → ℕ → Checked
any_check m rule k = any_by m (walk_of m k) rule k

-- what such a check says of a key after the drain, and that law 5 fails by it
pub record BreaksAfterDrain (check : State → ℕ → ℕ → Checked) (steps : List Step) (k : ℕ) (says : Checked) : Type 0 where
  pub up : all_up (after M steps) ≡ true
  pub made : k < (after M steps).made
  pub forecast : kind_of (sent_as M steps k).word ≡ 3
  pub wrong : check (drain_of (after M steps)).state 1 k ≡ says
  pub refuted : ¬ AfterDrain check

pub record PairBites : Type 0 where
  pub right : Says right_pair 2 true true
  pub mixed : Says mixed_pair 2 false false
  pub second : Says two_scalers 3 false false
  pub behind : Says behind_the_weights 3 false false
  pub direct : BreaksAfterDrain direct_check behind_the_weights 3 (answered_check true)
  pub receipt : BreaksAfterDrain receipt_check right_pair 2 (refused_check 20)
  pub forgotten : BreaksAfterDrain any_check two_scalers 3 (answered_check true)
