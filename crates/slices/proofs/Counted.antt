-- The count of those who want says whether somebody runs.
use Rattle.std.proofs.Common.{◌≡◌, ℕ, ◌<◌, ◌≤◌, true, false, cond, eqb, List, length, ℤ, is_some, Some, None, Option, sym, refl, arith}
use lib.Count.{ones}
use Rattle.std.proofs.ByRecursion.{All-from_get_or, sum_by_le}
use Rattle.std.proofs.lemmas.Simd.{ones-mask_l}
use Rattle.std.proofs.lemmas.List.Sums.{get_or-le-sum_by}
use Rattle.std.proofs.lemmas.Bool.{both_ways}
use Rattle.std.proofs.lemmas.Bool.Decides.{nat_tests}
use Rattle.guests.specs.Guests.{host_in, wants_in, owed_in, wants_bits}
use Rattle.bounds.specs.Rule.{runner}
use Rattle.bounds.proofs.Earning.{Chosen_is}

module _ (ws : List ℕ) where
  pub nobody_wants : ones (wants_bits ws) ≡ 0 → (g : ℕ) → g < length ws → wants_in ws g ≡ false
  nobody_wants none g h =
      let count = ones-mask_l (λ w. eqb w 1) ws in
      let here = get_or-le-sum_by (λ w. cond (eqb w 1) 1 0) ws g 0 h in
      grind (arith, nat_tests)

  nobody_counted : ((g : ℕ) → g < length ws → wants_in ws g ≡ false) → ones (wants_bits ws) ≡ 0
  nobody_counted none =
      let count = ones-mask_l (λ w. eqb w 1) ws in
      let all = All-from_get_or (λ w. cond (eqb w 1) 1 0 ≤ 0) ws 0 (λ g h. let here = none g h in grind (arith, nat_tests)) in
      omega (arith, count, sum_by_le (λ w. cond (eqb w 1) 1 0) 0 ws all)

  pub somebody_runs : (ss : List ℕ) (os : List ℤ) → length ws ≡ length ss → (ones (wants_bits ws) ≡ 0 → ⊥) → is_some (runner (host_in ss) (wants_in ws) (owed_in os)) ≡ true
  somebody_runs ss os long some = by (runner (host_in ss) (wants_in ws) (owed_in os)) refl
    where
      by : (r : Option ℕ) → runner (host_in ss) (wants_in ws) (owed_in os) ≡ r → is_some r ≡ true
      by None e = absurd (some (nobody_counted (λ g h. Chosen_is (host_in ss) (wants_in ws) (owed_in os) None e g (rw (sym long) h))))
      by (Some g) e = refl

  pub nobody_runs : (ss : List ℕ) (os : List ℤ) → length ws ≡ length ss → ((g : ℕ) → g < length ws → wants_in ws g ≡ false) → runner (host_in ss) (wants_in ws) (owed_in os) ≡ None
  nobody_runs ss os long none = by (runner (host_in ss) (wants_in ws) (owed_in os)) refl
    where
      by : (r : Option ℕ) → runner (host_in ss) (wants_in ws) (owed_in os) ≡ r → r ≡ None
      by None e = refl
      by (Some g) e =
          let c = Chosen_is (host_in ss) (wants_in ws) (owed_in os) (Some g) e in
          absurd (both_ways (wants_in ws g) (none g (rw long c.0)) c.1)
