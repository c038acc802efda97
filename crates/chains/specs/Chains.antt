-- What is promised of the chain of a walk and of its text.
use Rattle.std.specs.Prelude.{ℕ, ◌%◌, ◌-◌, ◌≤◌, ◌<◌, ◌≡◌, true, List, [], ◌∷◌, map, length}
use Rattle.protocol.specs.Words.{bit}
use Rattle.protocol.specs.Slots.{number, view, lasting_contents}
use Rattle.protocol.specs.Walk.{found_of, walk_of}
use Rattle.protocol.specs.Chain.{stated, chain_of, Interaction}
use Rattle.protocol.specs.Provn.{text_of, lines_of, provn_text, provn_of, provn_buffer}
use Rattle.protocol.specs.declared.State.{State}
use Rattle.protocol.specs.Lent.{Written}
use Rattle.chains.specs.Reading.{recovered}

-- every element of a list
pub data Each {A : Type 0} (P : A → Type 0) : List A → Type 0 where
  none : Each P []
  more : {x : A} {l : List A} → P x → Each P l → Each P (x ∷ l)

-- sixteen interactions, eight actors, a cause below its effect
pub record Lawful (met : Interaction) : Type 0 where
  pub key16 : met.key < 16
  pub sender8 : met.sender < 8
  pub below : (j : ℕ) → j < 16 → bit met.causes j ≡ true → j < met.key

-- an interaction with its causes in sixteen bits, which is all that the code's values have
abbrev pub sixteen_bits : Interaction → Interaction
sixteen_bits met = record { key = met.key; sender = met.sender; causes = met.causes % 65536 }

-- every chain of such interactions is recovered from its text
abbrev pub ChainRecovered : Type 0
ChainRecovered = (chain : List Interaction) → Each Lawful chain → recovered (text_of (lines_of chain)) ≡ map sixteen_bits chain

-- from the text of an answered walk the keys in order, each one's sender and each one's causes are recovered
abbrev pub WalkRecovered : Type 0
WalkRecovered = (m : State) (k : ℕ) → (walk_of m k).answer ≡ 0 → recovered (provn_text m k) ≡ map sixteen_bits (chain_of m k)

-- .. which is the chain itself in every machine of the code, where a set of causes has sixteen bits
abbrev pub ValueRecovered : Type 0
ValueRecovered =
    (m : State) (k : ℕ) → ((i : ℕ) → (view m (number i 0)).causes < 65536) → (walk_of m k).answer ≡ 0 →
    recovered (provn_text m k) ≡ chain_of m k

-- walks that differ in keys, senders or causes never give the same text
abbrev pub OneChain : Type 0
OneChain =
    (m n : State) (k l : ℕ) → (walk_of m k).answer ≡ 0 → (walk_of n l).answer ≡ 0 → provn_text m k ≡ provn_text n l →
    map sixteen_bits (chain_of m k) ≡ map sixteen_bits (chain_of n l)

-- the longest text has 6,247 bytes
abbrev pub Longest : Type 0
Longest = (m : State) (k : ℕ) → length (provn_text m k) ≤ 6247

-- in whatever store the walk finds a sender record, it states the same sender and causes
abbrev pub LookedUp : Type 0
LookedUp =
    (m : State) (k i link : ℕ) → (walk_of m k).answer ≡ 0 → i < 16 → found_of m i link ≡ true →
    ((lasting_contents m (link - 1) (number i 0)).asserter ≡ (stated m i).sender) × ((lasting_contents m (link - 1) (number i 0)).causes ≡ (stated m i).causes)

-- no two results of the call can both satisfy its promise
abbrev pub OneDocument : Type 0
OneDocument =
    (m : State) (k : ℕ) (buffer : List ℕ) (x y : Written) (b c : List ℕ) →
    x ≡ provn_of m k buffer → b ≡ provn_buffer m k buffer → y ≡ provn_of m k buffer → c ≡ provn_buffer m k buffer → (x ≡ y) × (b ≡ c)
