use Rattle.std.proofs.Common.{◌<◌, length, ◌∙◌, arith, rules, w64, SFits}
use Rattle.std.proofs.lemmas.Int.{to_z-of_z}
use Rattle.slices.proofs.Settling.{Settled_more, settled_is}
use Rattle.slices.proofs.lists.Lists.settle.Goals as goal

pub loop-guest-preserved : goal.loop-guest-preserved
loop-guest-preserved c =
    let l = c.args.self.now in
    let g = c.loop-guest.guest in
    let h : g < length l.shares.now = omega (arith, c.requires.reach.long) in
    let fits : SFits w64 c.settled.result = search rules in
    Settled_more l c.args.owed.now g c.loop-guest.owed _ c.loop-guest.invariant c.loop-guest-test.true
    (to_z-of_z w64 c.settled.result fits
    ∙ settled_is l c.args.owed.now c.args.turn c.requires.turn c.requires.reach g h _ _ _ (c.loop-guest.invariant.above g (omega arith)) c.earned_by.ensures c.settled.ensures)
