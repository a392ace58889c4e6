-- Where all want and one pays, a set of k of n guests is owed at most k · c · (1/(k + 1) + .. + 1/n): a step keeps this, and it bounds what each is owed.
use Rattle.std.proofs.Common.{◌≡◌, ℕ, zero, suc, ◌+◌, ◌-◌, ◌*◌, ◌<◌, ◌≤◌, Bool, true, cond, eqb, ap, inl, inr, add-zero, eq-zero-or-pos, mul-le-mul_left, arith}
use native.Mathlib.Nat.{le_of_mul-le-mul_left}
use Rattle.guests.specs.Guests.{sum_below}
use Rattle.sets.proofs.Step.{Step, waiting, settled, payers, Step_keeps, Step_mean}
use Rattle.sets.proofs.Sums.{all, ∁, ◌∩◌, ◌∪◌, sum_over, size, size-∁, sum_over-add, sum_over-le, sum_over_none, sum_over_one, sum_over_split, sum_over-∪}

-- f i is at least one i-th of d
abbrev pub Parts : (n d : ℕ) (f : ℕ → ℕ) → Type 0
Parts n d f = (i : ℕ) → 2 ≤ i → i ≤ n → d ≤ i * f i

-- f (k + 1) + .. + f (k + r)
abbrev parts_past : (f : ℕ → ℕ) (k r : ℕ) → ℕ
parts_past f k r = sum_below r (λ i. f (suc k + i))

-- d times what a set of k is owed is at most k · c · (f (k + 1) + .. + f n)
abbrev pub HarmonicSpread : (n c d : ℕ) (f u v : ℕ → ℕ) → Type 0
HarmonicSpread n c d f u v = (A : ℕ → Bool) → d * sum_over n A u ≤ size n A * (c * parts_past f (size n A) (size n (∁ A))) + d * sum_over n A v

parts_past_first : (f : ℕ → ℕ) (k r : ℕ) → parts_past f k (suc r) ≡ f (suc k) + parts_past f (suc k) r
parts_past_first f k zero = omega (arith, ap f (add-zero (suc k)))
parts_past_first f k (suc r) =
    let last : suc k + suc r ≡ suc (suc k) + r = omega arith in
    omega (arith, parts_past_first f k r, ap f last)

-- the step inequality in numbers: of k guests, and one outside who pays
mean_le : (k c d p h e o o' a a' : ℕ) → d ≤ suc k * p → e ≤ c → d * a ≤ suc k * (c * h) + d * a' → suc k * o + k * a' ≤ suc k * o' + k * a + k * e → d * o ≤ k * (c * (p + h)) + d * o'
mean_le k c d p h e o o' a a' part earned more step =
    le_of_mul-le-mul_left {k = suc k} (omega (
      arith,
      mul-le-mul_left d step,
      mul-le-mul_left k more,
      mul-le-mul_left (k * c) part,
      mul-le-mul_left (d * k) earned,
    )) (omega arith)

module _ {n C : ℕ} {e u v u' v' : ℕ → ℕ} {W M : ℕ → Bool} (s : Step n e C W M u v u' v') (awake : (g : ℕ) → g < n → W g ≡ true) (one : size n M ≤ 1) where
  -- as all want, who is settled pays
  settled_pay : (A : ℕ → Bool) → size n (settled s A) + size n (payers s A) ≤ size n M
  settled_pay A =
      let in_settled : ℕ → ℕ = λ g. cond (settled s A g) 1 0 in
      let in_payers : ℕ → ℕ = λ g. cond (payers s A g) 1 0 in
      omega (
        arith,
        sum_over-le n all (λ g. in_settled g + in_payers g) (λ g. cond (M g) 1 0) 0 0 (λ g h _. grind (arith, awake g h)),
        sum_over-add n all in_settled in_payers,
      )

  -- of a set with one who pays outside it
  module _ (A : ℕ → Bool) (payer : 0 < size n (payers s A)) where
    one_payer : size n (payers s A) ≡ 1
    one_payer = omega (arith, settled_pay A)

    settled_none : size n (settled s A) ≡ 0
    settled_none = omega (arith, settled_pay A)

    size-waiting : size n (waiting s A) ≡ size n A
    size-waiting = omega (arith, settled_none, sum_over_split n A (W ∩ ∁ M) (λ _. 1))

    size_more : size n (A ∪ M) ≡ suc (size n A)
    size_more = omega (arith, one_payer, sum_over-∪ n A M (λ _. 1))

    size_rest : size n (∁ A) ≡ suc (size n (∁ (A ∪ M)))
    size_rest = omega (arith, size_more, size-∁ n A, size-∁ n (A ∪ M))

    earned-le : sum_over n (waiting s A) e + sum_over n (payers s A) e ≤ C
    earned-le =
        omega (
          arith,
          s.covered,
          mul-le-mul_left C one,
          sum_over_split n all A e,
          sum_over_split n A (W ∩ ∁ M) e,
          sum_over_split n (∁ A) M e,
        )

    Step_one : let k = size n A in suc k * sum_over n A u' + k * sum_over n (A ∪ M) v ≤ suc k * sum_over n A v' + k * sum_over n (A ∪ M) u + k * (sum_over n (waiting s A) e + sum_over n (payers s A) e)
    Step_one =
        let none = sum_over_none n (settled s A) in
        omega (arith, rw (size-waiting, one_payer, none u settled_none, none v settled_none) at (Step_mean s A))

  pub harmonic_step : {c d : ℕ} (f : ℕ → ℕ) → C ≤ c → Parts n d f → HarmonicSpread n c d f u v → HarmonicSpread n c d f u' v'
  harmonic_step {c} {d} f small parts spread A =
      elim (eq-zero-or-pos (size n (waiting s A))) [
        | inl none ↦ omega (arith, spread A, mul-le-mul_left d (Step_keeps s A (inl none)))
        | inr some ↦
            elim (eq-zero-or-pos (size n (payers s A))) [
              | inl none ↦ omega (arith, spread A, mul-le-mul_left d (Step_keeps s A (inr none)))
              | inr payer ↦
                  let k = size n A in
                  let part = parts (suc k) (omega (arith, size-waiting A payer)) (omega (arith, size_rest A payer, size-∁ n A)) in
                  let more = rw (size_more A payer) at (spread (A ∪ M)) in
                  rw (size_rest A payer, parts_past_first f k) (mean_le k c d _ _ _ _ _ _ _ part (omega (arith, earned-le A payer)) more (Step_one A payer))
            ]
      ]

pub harmonic_up : (n c d : ℕ) (f u v : ℕ → ℕ) → HarmonicSpread n c d f u v → (g : ℕ) → g < n → d * u g ≤ c * sum_below (n - 1) (λ i. f (2 + i)) + d * v g
harmonic_up n c d f u v spread g h =
    let one : ℕ → Bool = λ k. eqb k g in
    let here = sum_over_one n g (λ _. 1) h in
    let rest : size n (∁ one) ≡ n - 1 = omega (arith, size-∁ n one) in
    omega (arith, rw (here, rest, sum_over_one n g u h, sum_over_one n g v h) at (spread one))
