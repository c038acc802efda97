use Rattle.std.proofs.Common.{◌≡◌, ℕ, ◌<◌, get_or, length}
use Rattle.protocol.specs.PreCheck.{checked_link}
use Rattle.rules.proofs.pre_check.checked_links.Given as goal

abbrev pub invariant-loop-j : goal.invariant-loop-j
invariant-loop-j l = record {
  long : length l.links ≡ 16;
  each : (k : ℕ) → k < l.j → get_or l.links k 0 ≡ checked_link l.m l.w k;
}
