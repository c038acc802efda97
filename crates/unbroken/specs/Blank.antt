-- A machine with nothing made, nothing in flight and nothing held: blank beyond its setup.
use Rattle.std.specs.Prelude.{ℕ, ◌<◌, ◌≡◌, false, ltb, replicate}
use Rattle.protocol.specs.Slots.{no_message, no_repair, no_entry, no_contents, shelf, queue, message, view, repair, entry}
use Rattle.protocol.specs.Slots.{record_copies, ack_copies, update_copies, uack_copies, contents, cause_links}
use Rattle.protocol.specs.Views.{blank_view}
use Rattle.protocol.specs.Stores.{fresh_store}
use Rattle.protocol.specs.Setup.{blank_queue, empty_machine}
use Rattle.protocol.specs.Broken.{broken_of}
use Rattle.protocol.specs.declared.State.{State}

pub record Blank (m : State) : Type 0 where
  pub made : m.made ≡ 0
  pub shelves : (p : ℕ) → p < 8 → shelf m p ≡ fresh_store (ltb p m.stores)
  pub queues : (a : ℕ) → a < 8 → queue m a ≡ blank_queue
  pub messages : (k : ℕ) → k < 16 → message m k ≡ no_message
  pub views : (v : ℕ) → v < 32 → view m v ≡ blank_view
  pub repairs : (v : ℕ) → v < 32 → repair m v ≡ no_repair
  pub entries : (v : ℕ) → v < 32 → entry m v ≡ no_entry
  pub records : (p v : ℕ) → p < 8 → v < 32 → record_copies m p v ≡ 0
  pub acks : (p v : ℕ) → p < 8 → v < 32 → ack_copies m p v ≡ 0
  pub updates : (p v : ℕ) → p < 8 → v < 32 → update_copies m p v ≡ 0
  pub uacks : (p v : ℕ) → p < 8 → v < 32 → uack_copies m p v ≡ 0
  pub held : (p v : ℕ) → p < 8 → v < 32 → contents m p v ≡ no_contents
  pub links : (p k : ℕ) → p < 8 → k < 16 → cause_links m p k ≡ replicate 16 0

-- a machine that isn't broken and has no stores, actors or interactions is the empty machine
abbrev pub OneEmpty : Type 0
OneEmpty = (m : State) → broken_of m ≡ false → m.stores ≡ 0 → m.actors ≡ 0 → m.made ≡ 0 → m ≡ empty_machine
