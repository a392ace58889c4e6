-- What guests earn and pay in a slice, and the laws that follow.
use Rattle.std.proofs.Common.{◌≡◌, ℕ, ◌<◌, ◌≤◌, true, false, cond, eqb, Some, None, Option, refl, ap, ◌∙◌, subst, arith}
use Rattle.std.proofs.lemmas.Int.{ints}
use Rattle.std.proofs.lemmas.Bool.{cond-true, cond-false, cond_both, ne_eqb, both_ways}
use Rattle.guests.specs.Guests.{Agree, Host, Wants, Owed, sum_below, int_sum_below}
use Rattle.guests.proofs.Sums.{sum_below-le, int_sum_below_moved, int_sum_below_same}
use Rattle.bounds.specs.Laws.{Chosen, SliceLaws}
use Rattle.bounds.specs.Rule.{earned, wanting, claim, runner, is_runner, paid, after_slice}
use Rattle.bounds.proofs.Runner.{Chosen-runner_below}
use Rattle.sets.proofs.Sums.{sum_over_one}

module _ (h : Host) (w : Wants) where
  pub earned_asleep : (g : ℕ) → w g ≡ false → earned h w g ≡ 0
  earned_asleep g e = cond-false (w g) (h.share g) 0 e

  pub earned_awake : (g : ℕ) → w g ≡ true → earned h w g ≡ h.share g
  earned_awake g e = cond-true (w g) (h.share g) 0 e

  pub earned_most : (g : ℕ) → earned h w g ≤ h.share g
  earned_most g = cond_both (w g) (h.share g) 0 (λ n. n ≤ h.share g) (λ _. omega arith) (λ _. omega arith)

  -- where nobody wants, nothing is earned
  pub wanting_none : (n : ℕ) → ((g : ℕ) → g < n → w g ≡ false) → sum_below n (earned h w) ≡ 0
  wanting_none n none =
      omega (arith, sum_below-le n 0 (earned h w) (λ g b. omega (arith, earned_asleep g (none g b))))

  module _ (o : Owed) where
    paid_all : (r : Option ℕ) → Chosen w (claim h w o) h.guests r → sum_below h.guests (λ g. cond (is_runner r g) (wanting h w) 0) ≡ wanting h w
    paid_all None none =
        omega (arith, sum_below-le h.guests 0 (λ g. 0) (λ g b. omega arith), wanting_none h.guests none)
    paid_all (Some g) c = sum_over_one h.guests g (λ _. wanting h w) c.0

    -- who does not want is not the runner
    paid_asleep : (r : Option ℕ) → Chosen w (claim h w o) h.guests r → (g : ℕ) → w g ≡ false → cond (is_runner r g) (wanting h w) 0 ≡ 0
    paid_asleep None none g e = refl
    paid_asleep (Some k) c g e =
        cond-false (eqb g k) (wanting h w) 0 (ne_eqb g k (λ same. both_ways (w g) e (ap w same ∙ c.1)))

    pub Chosen_is : (r : Option ℕ) → runner h w o ≡ r → Chosen w (claim h w o) h.guests r
    Chosen_is r e = subst (Chosen w (claim h w o) h.guests) e (Chosen-runner_below w (claim h w o) h.guests)

    pub after_slice_asleep : (g : ℕ) → w g ≡ false → after_slice h w o g ≡ o g
    after_slice_asleep g e =
        let earns = earned_asleep g e in
        let pays = paid_asleep (runner h w o) (Chosen_is _ refl) g e in
        omega (arith, ints)

    pub after_slice_balanced : int_sum_below h.guests (after_slice h w o) ≡ int_sum_below h.guests o
    after_slice_balanced =
        let moved = int_sum_below_moved h.guests o (earned h w) (paid h w o) in
        let pays = paid_all (runner h w o) (Chosen_is _ refl) in
        omega (arith, ints)

    -- the laws hold of whatever is owed after a slice, as the rule has it
    pub slice_laws : (o₁ : Owed) (r : Option ℕ) → Agree h.guests o₁ (after_slice h w o) → runner h w o ≡ r → SliceLaws h w o o₁ r
    slice_laws o₁ r after runs =
        record {
          chosen = Chosen_is r runs;
          asleep = λ g b e. after g b ∙ after_slice_asleep g e;
          balanced = int_sum_below_same h.guests o₁ (after_slice h w o) after ∙ after_slice_balanced;
        }
