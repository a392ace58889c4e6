-- What slices come to from nothing owed is never refused as an amount.
use Rattle.std.proofs.Common.{◌≡◌, ℕ, ◌*◌, ◌<◌, length, pos, nat_abs, None, ap, ◌∙◌, arith}
use Rattle.std.proofs.lemmas.Bool.Decides.{nat_tests}
use Rattle.guests.specs.Faults.{amount_ok, first_failing}
use Rattle.guests.specs.Guests.{host_in, owed_in, total}
use Rattle.guests.specs.declared.faults.Fault.TheVariants.{OwedOutOfRange}
use Rattle.guests.proofs.Failing.{first_failing_each}
use Rattle.guests.proofs.Sums.{int_sum_below_same}
use Rattle.guests.proofs.Taken.{Valid-host_in}
use Rattle.bounds.specs.Promises.{BelowTheLimit, ComesToNothing, NeverRefused}
use Rattle.bounds.proofs.Balance.{comes_to_nothing}
use Rattle.bounds.proofs.Bound.{below_the_limit}

pub never_refused : NeverRefused
unfolding NeverRefused BelowTheLimit ComesToNothing
never_refused ss ws t os valid long same =
    let n = length ss in
    let limit = total (host_in ss) * n in
    let small : (g : ℕ) → g < n → nat_abs (owed_in os g) < limit = λ g h. omega (arith, ap nat_abs (same g h), below_the_limit (host_in ss) ws t g (Valid-host_in ss valid) h) in
    let range : first_failing (amount_ok limit) OwedOutOfRange os ≡ None = first_failing_each (amount_ok limit) OwedOutOfRange os (pos 0) (λ g h. grind (arith, nat_tests, small g)) in
    let sum = int_sum_below_same n (owed_in os) _ same ∙ comes_to_nothing (host_in ss) ws t in
    grind (arith, nat_tests, ap nat_abs sum)
