-- Every place of one store at once: the map over its places, and contents that neither of its states has any more.
use Rattle.std.specs.Prelude.{ℕ, ◌*◌, ◌/◌, ◌%◌, Bool, ◌||◌, List, get_or, eqb}
use Rattle.protocol.specs.Words.{pick, table}
use Rattle.protocol.specs.Slots.{number, is_held, is_kept, no_contents, no_links}
use Rattle.protocol.specs.Setup.{blank_links}
use Rattle.protocol.specs.Writes.{with_contents, with_links}
use Rattle.protocol.specs.declared.State.{State}
use Rattle.protocol.specs.declared.Contents.{Contents}
use Rattle.protocol.specs.declared.Links.{Links}

-- eight stores with so many places each: what stands at the places of store p becomes f of its number there and of what
-- stands there; all else stays
abbrev pub on_places : {A : Type 0} → ℕ → ℕ → (ℕ → A → A) → A → List A → List A
on_places places p f none l =
    table (λ at. pick (eqb (at / places) p) (f (at % places) (get_or l at none)) (get_or l at none)) (places * 8)

-- one of the two states has contents of the view
abbrev pub has_contents : State → ℕ → ℕ → Bool
has_contents m p v = is_held m p v || is_kept m p v

-- contents and cause links that neither state has are nothing
abbrev pub swept_contents : State → ℕ → List Contents
swept_contents m p = on_places 32 p (λ v c. pick (has_contents m p v) c no_contents) no_contents m.contents

abbrev pub swept_links : State → ℕ → List Links
swept_links m p = on_places 16 p (λ k l. pick (has_contents m p (number k 0)) l blank_links) no_links m.links

unfoldable pub swept : State → ℕ → State
swept m p = with_links (with_contents m (swept_contents m p)) (swept_links m p)
