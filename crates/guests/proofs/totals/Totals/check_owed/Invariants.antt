use Rattle.std.proofs.Common.{◌≡◌, ◌*◌, ◌≤◌, pos, nat_abs}
use Rattle.guests.specs.Faults.{amount_ok}
use Rattle.guests.specs.Guests.{owed_in, int_sum_below}
use Rattle.guests.proofs.Failing.{Passed}
use Rattle.guests.proofs.totals.Totals.check_owed.Given as goal

abbrev pub invariant-loop-guest : goal.invariant-loop-guest
invariant-loop-guest l =
    (l.limit ≤ 4096000)
    × Passed (amount_ok l.limit) l.owed (pos 0) l.guest
    × (l.sum ≡ int_sum_below l.guest (owed_in l.owed))
    × (nat_abs (int_sum_below l.guest (owed_in l.owed)) ≤ 4096000 * l.guest)
