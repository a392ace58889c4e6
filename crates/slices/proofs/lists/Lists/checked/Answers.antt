use Rattle.std.proofs.Common.{refl}
use Rattle.guests.proofs.Taken.{Taken, taken}
use Rattle.slices.proofs.Reach.{in_reach_at}
use Rattle.slices.proofs.lists.Lists.checked.Goals as goal
use Rattle.slices.proofs.lists.Lists.checked.Goals.{In_ok-runnable}

accepted : (c : In_ok-runnable) → Taken c.args.shares.now c.args.wants.now c.args.owed.now
accepted c = taken c.args.shares.now c.args.wants.now c.args.owed.now c.in_ok-runnable.ensures.0

pub invariant_of-result-clause-valid : goal.invariant_of-result-clause-valid
invariant_of-result-clause-valid c = (accepted c).host

pub invariant_of-result-clause-wants_long : goal.invariant_of-result-clause-wants_long
invariant_of-result-clause-wants_long c = (accepted c).wants_long

pub returns-clause-checks : goal.returns-clause-checks
returns-clause-checks c =
    let none = c.in_ok-runnable.ensures.0 in
    (none, (refl, refl, record { no_fault = none; reach = in_reach_at _ c.args.owed.now none 0 c.args.owed.now refl (λ g b. refl) }))
