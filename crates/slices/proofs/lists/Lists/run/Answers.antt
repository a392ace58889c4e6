use Rattle.std.proofs.Common.{arith}
use Rattle.slices.proofs.Reach.{in_reach_at}
use Rattle.slices.proofs.Stretching.{Given_more}
use Rattle.slices.proofs.lists.Lists.run.Goals as goal

pub give-runner-requires : goal.give-runner-requires
give-runner-requires c = in_reach_at c.args.self.now c.args.owed.now c.requires.accepted.no_fault c.loop-slice.slice c.loop-slice.owed c.loop-slice.invariant.long c.loop-slice.invariant.owed

pub loop-slice-preserved : goal.loop-slice-preserved
loop-slice-preserved c =
    rw c.put.ensures
    (Given_more c.args.self.now.shares.now c.args.self.now.wants.now c.args.owed.now c.loop-slice.slice c.loop-slice.owed c.give-runner.new.owed c.loop-slice.runners c.give-runner.result
    c.loop-slice.invariant (omega arith) c.give-runner.ensures.runs c.give-runner.ensures.settles)
