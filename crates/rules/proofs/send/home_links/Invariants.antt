use Rattle.std.proofs.Common.{◌≡◌, ℕ, ◌<◌, get_or, length}
use Rattle.protocol.specs.Send.{home_link}
use Rattle.rules.proofs.send.home_links.Given as goal

abbrev pub invariant-loop-j : goal.invariant-loop-j
invariant-loop-j l = record {
  long : length l.links ≡ 16;
  each : (k : ℕ) → k < l.j → get_or l.links k 0 ≡ home_link l.causes l.home k;
}
