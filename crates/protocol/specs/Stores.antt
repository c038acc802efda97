-- A store: as it is before anything is taken, and with what the rules write in it. Only these name every field; the rules are
-- composed of them.
use Rattle.std.specs.Prelude.{ℕ, Bool, false, List, [], set, replicate}
use Rattle.protocol.specs.Words.{joined}
use Rattle.protocol.specs.declared.Store.{Store}

-- nothing held, nothing owed
abbrev pub fresh_store : Bool → Store
fresh_store up = record { up = up; held = 0; kept = 0; acksowed = 0; uacksowed = 0; viewlinks = replicate 32 0; keptlinks = replicate 32 0 }

-- what a read past the slots gives
abbrev pub no_store : Store
no_store = record { up = false; held = 0; kept = 0; acksowed = 0; uacksowed = 0; viewlinks = []; keptlinks = [] }

-- up or down, working state and owed notes written anew; the checkpointed state stays
abbrev pub reworked : Bool → (held acksowed uacksowed : ℕ) → List ℕ → Store → Store
reworked b h a u l s = record { up = b; held = h; kept = s.kept; acksowed = a; uacksowed = u; viewlinks = l; keptlinks = s.keptlinks }

-- up or down
abbrev pub turned : Store → Bool → Store
turned s b = reworked b s.held s.acksowed s.uacksowed s.viewlinks s

-- the working state has contents of a view; its viewlink for a view
abbrev pub holding : Store → ℕ → Store
holding s v = reworked s.up (joined s.held v) s.acksowed s.uacksowed s.viewlinks s

abbrev pub relinked_at : Store → ℕ → ℕ → Store
relinked_at s v l = reworked s.up s.held s.acksowed s.uacksowed (set s.viewlinks v l) s

-- an ack, a uack is owed of a view: at most one of each
abbrev pub owing_ack : Store → ℕ → Store
owing_ack s v = reworked s.up s.held (joined s.acksowed v) s.uacksowed s.viewlinks s

abbrev pub owing_uack : Store → ℕ → Store
owing_uack s v = reworked s.up s.held s.acksowed (joined s.uacksowed v) s.viewlinks s

-- Up becomes down. A crash throws back to the checkpoint and drops the notes.
abbrev pub thrown_back : Store → Store
thrown_back s = reworked false s.kept 0 0 s.keptlinks s

-- The working state becomes the checkpointed one, and nothing is owed any more.
abbrev pub saved : Store → Store
saved s = record { up = s.up; held = s.held; kept = s.held; acksowed = 0; uacksowed = 0; viewlinks = s.viewlinks; keptlinks = s.viewlinks }
