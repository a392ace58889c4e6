use Rattle.slices.proofs.Stretching.{Given}
use Rattle.slices.proofs.lists.Lists.run.Given as goal

abbrev pub invariant-loop-slice : goal.invariant-loop-slice
invariant-loop-slice l = Given l.self.shares.now l.self.wants.now l.initial.owed l.slice l.owed l.runners
