use Rattle.std.proofs.Common.{◌≡◌, ◌*◌, ◌%◌, ◌^◌, true, eqb, map, length, get_or, take, sym, ap, ◌∙◌, arith, below_more, length-take}
use lib.Bits.{bit_or}
use lib.Lanes.{mask_l}
use Rattle.std.proofs.lemmas.List.{map_more, length-map, take_all}
use Rattle.std.proofs.lemmas.Bool.Decides.{nat_tests}
use Rattle.guests.specs.Faults.{want_ok}
use Rattle.guests.specs.Guests.{wants_bits}
use Rattle.guests.proofs.Failing.{first_failing_here, first_failing_each}
use Rattle.guests.proofs.Masks.{mask_l_fill}
use Rattle.guests.specs.declared.faults.Fault.TheVariants.{WantAboveOne}
use Rattle.guests.proofs.totals.Totals.runnable.Goals as goal

pub returns-then-want-gt1 : goal.returns-then-want-gt1
returns-then-want-gt1 c =
    let here = first_failing_here want_ok WantAboveOne c.args.wants.now 0 c.loop-guest.guest c.loop-guest-test.true c.loop-guest.invariant.0 (grind (arith, nat_tests)) in
    grind (arith, nat_tests, here)

pub loop-guest-preserved : goal.loop-guest-preserved
loop-guest-preserved c =
    let g = c.loop-guest.guest in
    let wants = c.args.wants.now in
    let passes : want_ok (get_or wants g 0) ≡ true = grind (arith, nat_tests) in
    let long : length (map (λ w. eqb w 1) (take g wants)) ≡ g = simp (length-map, length-take) (omega arith) in (
      below_more _ g c.loop-guest.invariant.0 passes,
      ap (λ n. bit_or n ((c.from.result * 2 ^ g) % 2 ^ 64)) c.loop-guest.invariant.1
          ∙ mask_l_fill (map (λ w. eqb w 1) (take g wants)) (eqb (get_or wants g 0) 1) g c.from.result long (omega arith) (grind (arith, nat_tests))
          ∙ ap mask_l (sym (map_more (λ w. eqb w 1) wants g 0 c.loop-guest-test.true)),
    )

pub returns : goal.returns
returns c =
    let none = first_failing_each want_ok WantAboveOne c.args.wants.now 0 (λ k h. c.loop-guest.invariant.0 k (omega arith)) in
    (grind (arith, nat_tests, none), c.loop-guest.invariant.1 ∙ ap wants_bits (take_all c.loop-guest.guest c.args.wants.now c.loop-guest-test.false))
