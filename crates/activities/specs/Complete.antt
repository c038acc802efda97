-- complete[ai]: both rows have all of the first four, and sf.nm - 4 = |apl|.
use Rattle.std.specs.Prelude.{◌+◌, Bool, ◌&&◌, eqb}
use Rattle.activities.specs.Side.{additions}
use Rattle.activities.specs.declared.Side.{Side}
use Rattle.activities.specs.declared.Exchange.{Exchange}

unfoldable pub complete_side : Side → Bool
complete_side x =
    x.negotiation.held && x.invocation.held && x.result.held && x.finished.held && eqb x.finished.count (4 + additions x.additional)

-- of both the client and the service
unfoldable pub complete : Exchange → Bool
complete e = complete_side e.client && complete_side e.service
