use Rattle.std.proofs.Common.{◌≡◌, ◌*◌, ◌≤◌}
use Rattle.guests.specs.Faults.{share_ok}
use Rattle.guests.specs.Guests.{host_in, sum_below}
use Rattle.guests.proofs.Failing.{Passed}
use Rattle.guests.proofs.totals.Totals.of.Given as goal

abbrev pub invariant-loop-guest : goal.invariant-loop-guest
invariant-loop-guest l =
    Passed share_ok l.shares 0 l.guest
    × (l.total ≡ sum_below l.guest (host_in l.shares).share)
    × (sum_below l.guest (host_in l.shares).share ≤ 1000 * l.guest)
