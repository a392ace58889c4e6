use Rattle.std.proofs.Common.{◌≡◌, drop}
use Rattle.turns.specs.Checking.{stretches_fault}
use Rattle.turns.proofs.texts.check_stretches.Given as goal

abbrev pub invariant-loop-stretch : goal.invariant-loop-stretch
invariant-loop-stretch l =
    stretches_fault l.totals.guests l.stretches ≡ stretches_fault l.totals.guests (drop l.stretch-index l.stretches)
