-- A store in the form that the code tests, given the sets of the views that may have an ack, a uack. No reader has to believe it:
-- `stores_same` says that it is what `store_fine` says.
use Rattle.std.specs.Prelude.{ℕ, Bool, ◌&&◌, ◌||◌, ltb}
use Rattle.protocol.specs.Words.{bit}
use Rattle.protocol.specs.Broken.{blank_store, notes_fine, viewlinks_fine}
use Rattle.protocol.specs.declared.Store.{Store}

abbrev pub store_noted : (acked uacked : ℕ) → ℕ → ℕ → ℕ → Store → Bool
store_noted acked uacked stores made p s =
    (ltb p stores || blank_store s) && notes_fine (bit acked) s.acksowed && notes_fine (bit uacked) s.uacksowed
    && viewlinks_fine stores made p s.viewlinks && viewlinks_fine stores made p s.keptlinks
