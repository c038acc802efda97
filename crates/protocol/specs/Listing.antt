-- What the recorder prints (RULES.md, Listing), byte by byte: 10 a line feed, 32 a space, 45 `-`, 48 to 57 the digits.
use Rattle.std.specs.Prelude.{ℕ, zero, suc, ◌+◌, ◌*◌, ◌-◌, ◌/◌, ◌%◌, List, [], ◌∷◌, ◌++◌, ltb, leb, eqb}
use Rattle.protocol.specs.Words.{pick}
use Rattle.protocol.specs.Slots.{view, lasting_viewlink}
use Rattle.protocol.specs.declared.State.{State}

-- the byte of a digit
abbrev pub glyph : ℕ → ℕ
glyph d = 48 + d

-- four digits or five
unfoldable pub large : ℕ → List ℕ
large n =
    pick (ltb n 10000) (glyph (n / 1000) ∷ glyph (n / 100 % 10) ∷ glyph (n / 10 % 10) ∷ glyph (n % 10) ∷ [])
    (glyph (n / 10000) ∷ glyph (n / 1000 % 10) ∷ glyph (n / 100 % 10) ∷ glyph (n / 10 % 10) ∷ glyph (n % 10) ∷ [])

-- a number below 100,000 in decimal
unfoldable pub decimal : ℕ → List ℕ
decimal n =
    pick (ltb n 10) (glyph n ∷ [])
    (pick (ltb n 100) (glyph (n / 10) ∷ glyph (n % 10) ∷ [])
    (pick (ltb n 1000) (glyph (n / 100) ∷ glyph (n / 10 % 10) ∷ glyph (n % 10) ∷ [])
    (large n)))

-- `refused N`, a line of its own
unfoldable pub refused_line : ℕ → List ℕ
refused_line n = 114 ∷ 101 ∷ 102 ∷ 117 ∷ 115 ∷ 101 ∷ 100 ∷ 32 ∷ (decimal n ++ (10 ∷ []))

-- a line of stores, actors, interactions, steps, steps taken
unfoldable pub counts_line : ℕ → ℕ → ℕ → ℕ → ℕ → List ℕ
counts_line stores actors made steps taken =
    decimal stores ++ (32 ∷ (decimal actors ++ (32 ∷ (decimal made ++ (32 ∷ (decimal steps ++ (32 ∷ (decimal taken ++ (10 ∷ [])))))))))

-- the viewlink that a store holds, `-` if none: 0 for none, and p + 1 for store p
unfoldable pub link_text : ℕ → List ℕ
link_text held = pick (eqb held 0) (45 ∷ []) (decimal (held - 1))

-- the current store and its viewlink for the view; in phase 0 both are `-`
unfoldable pub place_text : ℕ → ℕ → ℕ → List ℕ
place_text phase store held =
    pick (eqb phase 0) (45 ∷ 32 ∷ 45 ∷ 10 ∷ []) (decimal store ++ (32 ∷ (link_text held ++ (10 ∷ []))))

-- key, role, phase, current store, viewlink
unfoldable pub line_of : ℕ → ℕ → ℕ → ℕ → ℕ → List ℕ
line_of key role phase store held =
    decimal key ++ (32 ∷ (decimal role ++ (32 ∷ (decimal phase ++ (32 ∷ place_text phase store held)))))

-- the line of a view that is made
unfoldable pub view_line : State → ℕ → List ℕ
view_line m v =
    let w = view m v in
    pick (leb (m.made * 2) v) [] (line_of (v / 2) (v % 2) w.phase w.store (lasting_viewlink m w.store v))

-- key rising, sender first
unfoldable pub lines_to : State → ℕ → List ℕ
lines_to m zero = []
lines_to m (suc v) = lines_to m v ++ view_line m v

unfoldable pub listing_of : State → ℕ → ℕ → List ℕ
listing_of m steps taken = counts_line m.stores m.actors m.made steps taken ++ lines_to m 32
