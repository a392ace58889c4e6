use Rattle.std.proofs.Common.{◌≡◌, take}
use Rattle.guests.specs.Faults.{want_ok}
use Rattle.guests.specs.Guests.{wants_bits}
use Rattle.guests.proofs.Failing.{Passed}
use Rattle.guests.proofs.totals.Totals.runnable.Given as goal

abbrev pub invariant-loop-guest : goal.invariant-loop-guest
invariant-loop-guest l = Passed want_ok l.wants 0 l.guest × (l.bits ≡ wants_bits (take l.guest l.wants))
