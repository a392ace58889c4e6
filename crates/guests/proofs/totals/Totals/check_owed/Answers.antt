use Rattle.std.proofs.Common.{◌≡◌, ◌*◌, pos, ap, ◌∙◌, arith}
use Rattle.std.proofs.lemmas.Bool.Decides.{nat_tests}
use Rattle.guests.specs.Faults.{amount_ok}
use Rattle.guests.specs.Guests.{owed_in, int_sum_below}
use Rattle.guests.proofs.Failing.{first_failing_here, first_failing_each}
use Rattle.guests.specs.declared.faults.Fault.TheVariants.{OwedOutOfRange}
use Rattle.guests.proofs.totals.Totals.check_owed.Goals as goal

pub returns-then-unsigned_abs-limit : goal.returns-then-unsigned_abs-limit
returns-then-unsigned_abs-limit c =
    let limit = c.args.self.share * c.args.self.guests in
    let here = first_failing_here (amount_ok limit) OwedOutOfRange c.args.owed.now (pos 0) c.loop-guest.guest c.loop-guest-test.true c.loop-guest.invariant.1 (grind (arith, nat_tests)) in
    grind (arith, nat_tests, here)

pub returns-then-sum-ne0 : goal.returns-then-sum-ne0
returns-then-sum-ne0 c =
    let limit = c.args.self.share * c.args.self.guests in
    let end : c.loop-guest.guest ≡ c.args.self.guests = omega arith in
    let none = first_failing_each (amount_ok limit) OwedOutOfRange c.args.owed.now (pos 0) (λ k h. c.loop-guest.invariant.1 k (omega arith)) in
    let sum = c.loop-guest.invariant.2 ∙ ap (λ n. int_sum_below n (owed_in c.args.owed.now)) end in
    grind (arith, nat_tests, none, sum)

pub returns : goal.returns
returns c =
    let limit = c.args.self.share * c.args.self.guests in
    let end : c.loop-guest.guest ≡ c.args.self.guests = omega arith in
    let none = first_failing_each (amount_ok limit) OwedOutOfRange c.args.owed.now (pos 0) (λ k h. c.loop-guest.invariant.1 k (omega arith)) in
    let sum = c.loop-guest.invariant.2 ∙ ap (λ n. int_sum_below n (owed_in c.args.owed.now)) end in
    (grind (arith, nat_tests, none, sum), tt)
