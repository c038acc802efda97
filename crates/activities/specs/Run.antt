-- A run: messages received one after another.
use Rattle.std.specs.Prelude.{List, [], ◌∷◌}
use Rattle.activities.specs.Receive.{receive}
use Rattle.activities.specs.declared.Message.{Message}
use Rattle.activities.specs.declared.Store.{Store}

-- the store after the messages
unfoldable pub after : Store → List Message → Store
after s [] = s
after s (m ∷ l) = after (receive s m).store l
