-- The numbers passed are written. Assumes nothing.
use Rattle.std.proofs.Common.{◌∷◌, take}
use Rattle.std.specs.Fmt.{decimal, HasWritten, IsPlainFormatter}
use Rattle.std.specs.List.{flat_map}
use Rattle.edge.proofs.print.FieldsDisplay.fmt.Given as goal

abbrev pub invariant-loop-n : goal.invariant-loop-n
invariant-loop-n g l =
    IsPlainFormatter l.initial.f → HasWritten g.W.Write.write_str_gives l.initial.f (flat_map (λ n. 32 ∷ decimal n) (take l.n-index l.n-items)) l.f
