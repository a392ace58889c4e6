use Rattle.std.proofs.Common.{ℕ, ◌<◌, length, Some, None, sym, refl, ap, ◌∙◌, arith}
use lib.Count.{ones}
use Rattle.guests.specs.Guests.{owed_in}
use Rattle.slices.specs.Steps.{host_of, wants_of}
use Rattle.slices.proofs.Amounts.{wanting_is, wanting_most}
use Rattle.slices.proofs.Carrying.{carries_on}
use Rattle.slices.proofs.Counted.{nobody_wants, nobody_runs, somebody_runs}
use Rattle.bounds.proofs.Earning.{after_slice_asleep, slice_laws}
use Rattle.slices.proofs.lists.Lists.give.Goals as goal

pub returns-then-count-eq0 : goal.returns-then-count-eq0
returns-then-count-eq0 c =
    let l = c.args.self.now in
    let os = c.args.owed.now in
    let none = nobody_wants l.wants.now (sym (c.count.ensures ∙ ap ones l.bits) ∙ c.if-count-eq0.true) in
    let runs = nobody_runs l.wants.now l.shares.now os l.wants_long none in
    let same = λ (g : ℕ) (b : g < length l.shares.now). sym (after_slice_asleep (host_of l) (wants_of l) (owed_in os) g (none g (rw l.wants_long b))) in
    record {
      runs = sym runs;
      settles = (refl, same);
      keeps = slice_laws (host_of l) (wants_of l) (owed_in os) (owed_in os) None same runs;
      carries = carries_on l.shares.now l.wants.now os os 1 refl same;
    }

pub runner-requires-clause-some : goal.runner-requires-clause-some
runner-requires-clause-some c =
    let l = c.args.self.now in
    somebody_runs l.wants.now l.shares.now c.args.owed.now l.wants_long (λ none. c.if-count-eq0.false (c.count.ensures ∙ ap ones l.bits ∙ none))

pub invariant_of-turn : goal.invariant_of-turn
invariant_of-turn c = record { cost_most = omega (arith, c.wanting.ensures, wanting_is c.args.self.now, wanting_most c.args.self.now) }

pub settle-requires-clause-turn : goal.settle-requires-clause-turn
settle-requires-clause-turn c = (c.runner.ensures, c.wanting.ensures ∙ wanting_is c.args.self.now)

pub returns : goal.returns
returns c =
    let l = c.args.self.now in
    record {
      runs = sym c.runner.ensures;
      settles = c.settle.ensures;
      keeps = slice_laws (host_of l) (wants_of l) (owed_in c.args.owed.now) (owed_in c.settle.new.owed) (Some c.runner.result) c.settle.ensures.1 c.runner.ensures;
      carries = carries_on l.shares.now l.wants.now c.args.owed.now c.settle.new.owed 1 c.settle.ensures.0 c.settle.ensures.1;
    }
