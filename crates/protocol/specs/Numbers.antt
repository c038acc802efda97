-- The numbers of a status's cases.
use Rattle.std.specs.Prelude.{ℕ}
use Rattle.protocol.specs.declared.Status.{Status}
use Rattle.protocol.specs.declared.Status.TheVariants.{Nothing, ToSend, Waiting, Done}

-- the number of a status: 0 nothing, 1 to-send, 2 waiting, 3 done
abbrev pub status_number : Status → ℕ
status_number Nothing = 0
status_number ToSend = 1
status_number Waiting = 2
status_number Done = 3
