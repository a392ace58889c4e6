use Rattle.std.proofs.Common.{◌≡◌, ◌≤◌, true, length, get_or, sym, refl, ap, ◌∙◌, arith, add-one, below_more}
use Rattle.std.proofs.lemmas.Bool.Decides.{nat_tests}
use Rattle.guests.specs.Faults.{share_ok}
use Rattle.guests.specs.Guests.{host_in, sum_below}
use Rattle.guests.proofs.Failing.{first_failing_here, first_failing_each}
use Rattle.guests.specs.declared.faults.Fault.TheVariants.{ShareOutOfRange}
use Rattle.guests.proofs.totals.Totals.of.Goals as goal

pub returns-then-not-share_ok : goal.returns-then-not-share_ok
returns-then-not-share_ok c =
    let here = first_failing_here share_ok ShareOutOfRange c.args.shares.now 0 c.loop-guest.guest c.loop-guest-test.true c.loop-guest.invariant.0 (sym c.share_ok.ensures ∙ c.if-not-share_ok.true) in
    grind (arith, nat_tests, here, c.if-is_empty.ensures)

pub loop-guest-preserved : goal.loop-guest-preserved
loop-guest-preserved c =
    let g = c.loop-guest.guest in
    let passes : share_ok (get_or c.args.shares.now g 0) ≡ true = sym c.share_ok.ensures ∙ c.if-not-share_ok.false in
    let most : get_or c.args.shares.now g 0 ≤ 1000 = grind (arith, nat_tests, passes) in
    let more = ap (λ n. sum_below n (host_in c.args.shares.now).share) (add-one g) in
    (below_more _ g c.loop-guest.invariant.0 passes, omega (arith, more), omega (arith, more))

pub returns : goal.returns
returns c =
    let end : c.loop-guest.guest ≡ length c.args.shares.now = omega arith in
    let none = first_failing_each share_ok ShareOutOfRange c.args.shares.now 0 (λ k h. c.loop-guest.invariant.0 k (omega arith)) in
    (grind (arith, nat_tests, none, c.if-is_empty.ensures), (refl, c.loop-guest.invariant.1 ∙ ap (λ n. sum_below n (host_in c.args.shares.now).share) end))
