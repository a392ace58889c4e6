use Rattle.std.proofs.Common.{◌≡◌, length}
use Rattle.slices.proofs.Deciding.{best_of}
use Rattle.slices.proofs.lists.Lists.runner.Given as goal

abbrev pub invariant-loop-guest : goal.invariant-loop-guest
invariant-loop-guest l =
    (goal.iterator-loop-guest).can_next l.guest-iterator × (goal.iterator-loop-guest).is_finite l.guest-iterator
    × (l.best ≡ best_of l.self l.owed (length l.yielded))
