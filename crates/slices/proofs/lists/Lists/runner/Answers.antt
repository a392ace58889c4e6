use Rattle.std.proofs.Common.{◌≡◌, length, sym, ap, ◌∙◌, rules}
use Rattle.std.proofs.lemmas.Iterator.Consumers.{YieldsList-turn, YieldsList-end}
use Rattle.std.proofs.lemmas.List.{length_push}
use Rattle.slices.proofs.Amounts.{owed_read}
use Rattle.slices.proofs.Beside.{Stands, gone_through, stands, length-beside}
use Rattle.slices.proofs.Deciding.{best_of-lower, best_of-awake, best_of-asleep, best_of-some, runner_of-best, runner_of}
use Rattle.slices.proofs.lists.Lists.runner.Goals as goal
use Rattle.slices.proofs.lists.Lists.runner.Goals.{In-Some, In-None}

-- what stands at this turn
at : (c : In-Some) → (c.in-Some.guest ≡ length c.loop-guest.yielded) × Stands c.args.self.now c.args.owed.now (length c.loop-guest.yielded) c.in-Some.share.now c.in-Some.want.now c.in-Some.amount.now
at c =
    stands c.args.self.now c.args.owed.now c.requires.reach (length c.loop-guest.yielded) _ _ _ _
    (YieldsList-turn (gone_through c.args.self.now c.args.owed.now c.into_iter-guest-iterator.result (cc) (cc) (cc) (cc)) c.loop-guest.yielded c.loop-guest.guest-iterator c.loop-guest.yielded_by c.next.result c.next.new.self _ c.in-Some.is c.next.ensures.steps)

-- every guest had its turn
all : (c : In-None) → length c.loop-guest.yielded ≡ length c.args.self.now.shares.now
all c =
    (YieldsList-end (gone_through c.args.self.now c.args.owed.now c.into_iter-guest-iterator.result (cc) (cc) (cc) (cc)) c.loop-guest.yielded c.loop-guest.guest-iterator c.loop-guest.yielded_by c.next.result c.next.new.self c.in-None.is c.next.ensures.steps).1
    ∙ length-beside c.args.self.now c.args.owed.now c.requires.reach

pub new-requires : goal.new-requires
new-requires c =
    let l = c.args.self.now in
    let here = (at (goal.at.new-requires c).In-Some).1 in
    ((owed_read l c.args.owed.now c.requires.reach _ here.within _ here.owed).1, rw here.share (l.valid.share_most _ here.within))

pub or_better-best-requires : goal.or_better-best-requires
or_better-best-requires c =
    let here = at (goal.at.or_better-best-requires c).In-Some in
    rw (c.loop-guest.invariant.2, c.new.ensures.guest, here.0) (best_of-lower c.args.self.now c.args.owed.now (length c.loop-guest.yielded))

pub loop-guest-preserved-then-want-eq1 : goal.loop-guest-preserved-then-want-eq1
loop-guest-preserved-then-want-eq1 c =
    let here = at (goal.at.loop-guest-preserved-then-want-eq1 c).In-Some in
    let more = best_of-awake c.args.self.now c.args.owed.now (length c.loop-guest.yielded) _ _ _ here.1 c.requires.reach c.if-want-eq1.true c.new.result (c.new.ensures.guest ∙ here.0) c.new.ensures.claim in
    (search rules, search rules, rw length_push (cc))

pub loop-guest-preserved : goal.loop-guest-preserved
loop-guest-preserved c =
    let here = at (goal.at.loop-guest-preserved c).In-Some in
    let more = best_of-asleep c.args.self.now c.args.owed.now (length c.loop-guest.yielded) _ _ _ here.1 c.if-want-eq1.false in
    (search rules, search rules, rw length_push (cc))

pub unwrap-requires : goal.unwrap-requires
unwrap-requires c =
    let every = all (goal.at.unwrap-requires c).In-None in
    let some = best_of-some c.args.self.now c.args.owed.now (length c.loop-guest.yielded) (rw every c.requires.some) in
    rw c.loop-guest.invariant.2 some

pub returns : goal.returns
returns c =
    let every = all (goal.at.returns c).In-None in
    ap (runner_of c.args.self.now c.args.owed.now) (sym every) ∙ runner_of-best c.args.self.now c.args.owed.now (length c.loop-guest.yielded) c.unwrap.result (sym c.loop-guest.invariant.2 ∙ c.unwrap.ensures)
