use Rattle.std.proofs.Common.{◌≡◌, ℕ, ◌<◌, true}
use Rattle.protocol.specs.Send.{cause_known}
use Rattle.rules.proofs.send.are_known.Given as goal

abbrev pub invariant-loop-j : goal.invariant-loop-j
invariant-loop-j l = (k : ℕ) → k < l.j → cause_known l.m l.actor l.causes k ≡ true
