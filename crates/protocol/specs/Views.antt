-- A view's record: as it is before anything is recorded, as it is first recorded, and with what the rules write in it.
-- Only these name every field; the rules are composed of them.
use Rattle.std.specs.Prelude.{ℕ, Bool, false, List, [], replicate}
use Rattle.protocol.specs.declared.View.{View}

-- just the actor is set
abbrev pub unset_view : ℕ → View
unset_view a = record { actor = a; phase = 0; store = 0; viewlink = 0; changed = false; tries = 0; causes = 0; word = 0; links = replicate 16 0 }

-- in phase 1, at a store, with a viewlink, data, causes and their links
abbrev pub first_view : (actor store viewlink word causes : ℕ) → List ℕ → View
first_view a p l d c to = record { actor = a; phase = 1; store = p; viewlink = l; changed = false; tries = 0; causes = c; word = d; links = to }

-- phase, current store, changed flag, number of tries and cause links written anew; all else stays
abbrev pub rewritten : (phase store : ℕ) → Bool → (tries : ℕ) → List ℕ → View → View
rewritten n p b t to w = record { actor = w.actor; phase = n; store = p; viewlink = w.viewlink; changed = b; tries = t; causes = w.causes; word = w.word; links = to }

-- in another phase
abbrev pub phased : ℕ → View → View
phased n w = rewritten n w.store w.changed w.tries w.links w

-- with other cause links
abbrev pub relinked : List ℕ → View → View
relinked to w = rewritten w.phase w.store w.changed w.tries to w

-- what a slot holds that has no view, and what a read past the slots gives
abbrev pub blank_view : View
blank_view = unset_view 0

abbrev pub no_view : View
no_view = relinked [] blank_view
