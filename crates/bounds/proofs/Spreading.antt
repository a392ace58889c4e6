-- A slice is a step in which the runner pays, so whatever spread what is owed has it keeps over any run; and what no run can pass.
use Rattle.std.proofs.Common.{◌≡◌, ℕ, zero, suc, ◌+◌, ◌-◌, ◌*◌, ◌<◌, ◌≤◌, Bool, true, false, cond, eqb, ltb, pos, nat_abs, Some, None, Option, refl, ap, ◌∙◌, arith}
use borrow.Author.Differences.{up, down}
use Rattle.std.proofs.lemmas.Nat.{mul-le}
use Rattle.std.proofs.lemmas.Int.{ints}
use Rattle.std.proofs.lemmas.Bool.{eqb-true, both_ways}
use Rattle.std.proofs.lemmas.Bool.Decides.{nat_tests}
use Rattle.guests.specs.Guests.{Host, Wants, Owed, int_sum_below, total}
use Rattle.guests.proofs.Sums.{sum_below_part, sum_below_same}
use Rattle.bounds.specs.Laws.{Chosen}
use Rattle.bounds.specs.Rule.{earned, wanting, claim, runner, is_runner, after_slice}
use Rattle.bounds.specs.Runs.{owed_at}
use Rattle.bounds.proofs.Balance.{owed_sum_same}
use Rattle.bounds.proofs.Earning.{Chosen_is, earned_asleep, earned_most, wanting_none}
use Rattle.sets.proofs.Spread.{Spread, Spread_step, Spread_from_limit, Spread_turned}
use Rattle.sets.proofs.Step.{Step}
use Rattle.sets.proofs.Sums.{all, ∁, size, size-∁, sum_over, Pairs, sum_over_one}

-- what is owed as naturals: the guests' amounts above 0, and those below
abbrev pub above : Owed → ℕ → ℕ
above o g = up (o g)

abbrev pub below : Owed → ℕ → ℕ
below o g = down (o g)

module _ (h : Host) (w : Wants) (o : Owed) where
  covered : (r : Option ℕ) → Chosen w (claim h w o) h.guests r → sum_over h.guests all (earned h w) ≤ wanting h w * size h.guests (is_runner r)
  covered None none = omega (arith, wanting_none h w h.guests none)
  covered (Some r) c =
      omega (arith, ap (λ n. wanting h w * n) (sum_over_one h.guests r (λ _. 1) c.0))

  pub beaten : (r : Option ℕ) → Chosen w (claim h w o) h.guests r → (g k : ℕ) → g < h.guests → w g ≡ true → is_runner r k ≡ true → above o g + earned h w g + below o k ≤ above o k + earned h w k + below o g
  beaten None none g k b awake runs = absurd (both_ways false refl runs)
  beaten (Some r) c g k b awake runs =
      let most = c.2 g b awake in
      rw (eqb-true k r runs) (omega (arith, ints))

  pub slice_step : Step h.guests (earned h w) (wanting h w) w (is_runner (runner h w o)) (above o) (below o) (above (after_slice h w o)) (below (after_slice h w o))
  slice_step = record {
    moves = λ g b. omega (arith, ints);
    asleep = λ g b e. earned_asleep h w g e;
    capped = λ g b e. sum_below_part h.guests (earned h w) g b;
    covered = covered (runner h w o) (Chosen_is h w o _ refl);
    most = λ g k b c awake waits runs. beaten (runner h w o) (Chosen_is h w o _ refl) g k b awake runs;
  }

int_sum_below_parts : (n : ℕ) (o : Owed) → up (int_sum_below n o) + sum_over n all (below o) ≡ down (int_sum_below n o) + sum_over n all (above o)
int_sum_below_parts zero o = omega arith
int_sum_below_parts (suc n) o = omega (arith, ints, int_sum_below_parts n o)

int_sum_below_at : (n g : ℕ) (o : Owed) → int_sum_below n (λ k. cond (eqb k g) (o k) (pos 0)) ≡ cond (ltb g n) (o g) (pos 0)
int_sum_below_at zero g o = grind (arith, nat_tests)
int_sum_below_at (suc n) g o = grind (arith, nat_tests, ints, int_sum_below_at n g o)

int_sum_below_one : (n g : ℕ) (o : Owed) → g < n → int_sum_below n (λ k. cond (eqb k g) (o k) (pos 0)) ≡ o g
int_sum_below_one n g o b = grind (arith, nat_tests, int_sum_below_at n g o)

-- of amounts that come to nothing all together
module _ (n : ℕ) (o : Owed) (nothing : int_sum_below n o ≡ pos 0) where
  pub sum_above_is_sum_below : sum_over n all (above o) ≡ sum_over n all (below o)
  sum_above_is_sum_below = omega (arith, ints, int_sum_below_parts n o)

  pub together_from_spread : (c : ℕ) → Spread n c (above o) (below o) → (A : ℕ → Bool) → 2 * nat_abs (int_sum_below n (λ g. cond (A g) (o g) (pos 0))) ≤ size n A * (n - size n A) * c
  together_from_spread c s A =
      let parts = int_sum_below_parts n (λ g. cond (A g) (o g) (pos 0)) in
      let ups : sum_over n all (above (λ g. cond (A g) (o g) (pos 0))) ≡ sum_over n A (above o) = sum_below_same n _ _ (λ g b. grind arith) in
      let downs : sum_over n all (below (λ g. cond (A g) (o g) (pos 0))) ≡ sum_over n A (below o) = sum_below_same n _ _ (λ g b. grind arith) in
      let rest : n - size n A ≡ size n (∁ A) = omega (arith, size-∁ n A) in
      rw rest (omega (arith, ints, s A, Spread_turned n c (above o) (below o) s sum_above_is_sum_below A))

  pub most_from_spread : (c : ℕ) → Spread n c (above o) (below o) → (g : ℕ) → g < n → 2 * nat_abs (o g) ≤ (n - 1) * c
  most_from_spread c s g b =
      omega (arith, rw (int_sum_below_one n g o b, sum_over_one n g (λ _. 1) b) at (together_from_spread c s (λ k. eqb k g)))

  Spread_from_most : (l c : ℕ) → 4 * l ≤ n * c → ((g : ℕ) → g < n → nat_abs (o g) ≤ l) → Spread n c (above o) (below o)
  Spread_from_most l c small most =
      Spread_from_limit n l c (above o) (below o) small (λ g b. omega (arith, ints, most g b)) (λ g b. omega (arith, ints, most g b)) sum_above_is_sum_below

module _ (h : Host) (ws : ℕ → Wants) (o : Owed) where
  pub Spread_at : (c : ℕ) → Pairs h.guests c h.share → Spread h.guests c (above o) (below o) → (t : ℕ) → Spread h.guests c (above (owed_at h ws o t)) (below (owed_at h ws o t))
  Spread_at c pairs s zero = s
  Spread_at c pairs s (suc t) =
      Spread_step (slice_step h (ws t) (owed_at h ws o t))
      (λ i j b d apart. omega (arith, earned_most h (ws t) i, earned_most h (ws t) j, pairs i j b d apart))
      (Spread_at c pairs s t)

  -- From amounts that are not refused no run comes further than twice the limit.
  pub owed_at_most : int_sum_below h.guests o ≡ pos 0 → ((g : ℕ) → g < h.guests → nat_abs (o g) ≤ total h * h.guests) → (t g : ℕ) → g < h.guests → nat_abs (owed_at h ws o t g) ≤ 2 * (total h * h.guests)
  owed_at_most nothing most t g b =
      let n = h.guests in
      let s = total h in
      let pairs : Pairs n (4 * s) h.share = λ i j b d apart. omega (arith, sum_below_part n h.share i b, sum_below_part n h.share j d) in
      let start = Spread_from_most n o nothing (s * n) (4 * s) (omega arith) most in
      omega (arith, most_from_spread n (owed_at h ws o t) (owed_sum_same h ws o t ∙ nothing) (4 * s) (Spread_at (4 * s) pairs start t) g b, mul-le (n - 1) (4 * s) n (4 * s) (omega arith) (omega arith))
