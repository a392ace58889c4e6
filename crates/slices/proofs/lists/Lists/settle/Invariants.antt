use Rattle.slices.proofs.Settling.{Settled}
use Rattle.slices.proofs.lists.Lists.settle.Given as goal

abbrev pub invariant-loop-guest : goal.invariant-loop-guest
invariant-loop-guest l = Settled l.self l.initial.owed l.guest l.owed
