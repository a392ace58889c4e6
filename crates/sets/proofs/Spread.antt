-- Twice what a set of guests is owed is at most c times its size times that of the rest: a step keeps this.
use Rattle.std.proofs.Common.{◌≡◌, ℕ, ◌+◌, ◌*◌, ◌<◌, ◌≤◌, Bool, cond, inl, inr, eq-zero-or-pos, mul-le-mul_left, arith}
use native.Mathlib.Nat.{le_of_mul-le-mul_left}
use Rattle.std.proofs.lemmas.Bool.{cases_lt}
use Rattle.sets.proofs.Step.{Step, waiting, settled, payers, Step_keeps, Step_mean}
use Rattle.sets.proofs.Sums.{all, ∁, ◌∩◌, ◌∪◌, sum_over, size, Pairs, size-∁, sum_over-cond, sum_over-le, sum_over-Pairs, sum_over_split, sum_over-∪}

abbrev pub Spread : (n c : ℕ) (u v : ℕ → ℕ) → Type 0
Spread n c u v = (A : ℕ → Bool) → 2 * sum_over n A u ≤ size n A * size n (∁ A) * c + 2 * sum_over n A v

pub Spread_of_nothing : (n c : ℕ) → Spread n c (λ _. 0) (λ _. 0)
Spread_of_nothing n c A = omega arith

-- the step inequality in numbers: with 2 · a at most x, and 2 · b at most y, 2 · o is at most w
mean_le : {d m z : ℕ} (x y w e o o' a a' b b' : ℕ) → 0 < d → 0 < m → d * x + m * y + d * m * z ≡ (d + m) * w → 2 * e ≤ z → 2 * a ≤ x + 2 * a' → 2 * b ≤ y + 2 * b' → (d + m) * o + d * a' + m * b' ≤ (d + m) * o' + d * a + m * b + d * e → 2 * o ≤ w + 2 * o'
mean_le {d} {m} {z} x y w e o o' a a' b b' some payer sizes earned more fewer step =
    le_of_mul-le-mul_left {k = d + m} (omega (
      arith,
      mul-le-mul_left d more,
      mul-le-mul_left m fewer,
      mul-le-mul_left d earned,
      mul-le-mul_left (d * z) payer,
    )) (omega arith)

-- of R inside A, and M outside it
module _ (n c : ℕ) (A R M : ℕ → Bool) where
  earned-le : (e : ℕ → ℕ) → Pairs n c e → 0 < size n (A ∩ R) → 0 < size n (∁ A ∩ M) → 2 * (sum_over n (A ∩ R) e + sum_over n (∁ A ∩ M) e) ≤ (size n (A ∩ R) + size n (∁ A ∩ M)) * c
  earned-le e pairs some payer =
      let both = sum_over-cond n A R M in
      let half = sum_over-Pairs n c (λ g. cond (A g) (R g) (M g)) e pairs (omega (arith, both (λ _. 1))) in
      rw (← both e, ← both (λ _. 1)) half

  -- d · (k + d + m) · r + m · k · (r + m + d) + d · m · (d + m) = (d + m) · (k + d) · (r + m)
  size_mean : let d = size n (A ∩ R) in let m = size n (∁ A ∩ M) in d * (size n (A ∪ M) * size n (∁ (A ∪ M)) * c) + m * (size n (A ∩ ∁ R) * size n (∁ (A ∩ ∁ R)) * c) + d * m * ((d + m) * c) ≡ (d + m) * (size n A * size n (∁ A) * c)
  size_mean =
      let d = size n (A ∩ R) in
      let m = size n (∁ A ∩ M) in
      let k = size n (A ∩ ∁ R) in
      let r = size n (∁ (A ∪ M)) in
      let inside : size n A ≡ k + d = omega (arith, sum_over_split n A R (λ _. 1)) in
      let more : size n (A ∪ M) ≡ k + d + m = omega (arith, sum_over-∪ n A M (λ _. 1)) in
      let outside : size n (∁ A) ≡ r + m = omega (arith, size-∁ n A, size-∁ n (A ∪ M)) in
      let rest : size n (∁ (A ∩ ∁ R)) ≡ r + m + d = omega (arith, size-∁ n A, size-∁ n (A ∩ ∁ R)) in
      rw (inside, more, outside, rest) (omega arith)

pub Spread_step : {n C c : ℕ} {e u v u' v' : ℕ → ℕ} {W M : ℕ → Bool} → Step n e C W M u v u' v' → Pairs n c e → Spread n c u v → Spread n c u' v'
Spread_step {n} {c = c} {e} {W = W} {M} s pairs spread A =
    elim (eq-zero-or-pos (size n (waiting s A))) [
      | inl none ↦ omega (arith, spread A, Step_keeps s A (inl none))
      | inr some ↦
          elim (eq-zero-or-pos (size n (payers s A))) [
            | inl none ↦ omega (arith, spread A, Step_keeps s A (inr none))
            | inr payer ↦
                mean_le _ _ _ _ _ _ _ _ _ _ some payer (size_mean n c A (W ∩ ∁ M) M) (earned-le n c A (W ∩ ∁ M) M e pairs some payer) (spread (A ∪ M)) (spread (settled s A)) (Step_mean s A)
          ]
    ]

-- of k + r guests the smaller part
half_le : (k r l c : ℕ) → k ≤ r → 4 * l ≤ (k + r) * c → 2 * (k * l) ≤ k * r * c
half_le k r l c h small =
    let half : 2 * l ≤ r * c = omega (arith, mul-le-mul_left c h) in
    omega (arith, mul-le-mul_left k half)

pub Spread_from_limit : (n l c : ℕ) (u v : ℕ → ℕ) → 4 * l ≤ n * c → ((g : ℕ) → g < n → u g ≤ l + v g) → ((g : ℕ) → g < n → v g ≤ l + u g) → sum_over n all u ≡ sum_over n all v → Spread n c u v
Spread_from_limit n l c u v small up down even A =
    let k = size n A in
    let r = size n (∁ A) in
    let whole : 4 * l ≤ (k + r) * c = rw (size-∁ n A) small in
    let above = sum_over-le n A u v 0 l (λ g h _. omega (arith, up g h)) in
    let below = sum_over-le n (∁ A) v u 0 l (λ g h _. omega (arith, down g h)) in
    elim (cases_lt k r) [
      | inl less ↦ omega (arith, half_le k r l c (omega arith) whole)
      | inr more ↦ omega (arith, half_le r k l c more (omega arith), sum_over_split n all A u, sum_over_split n all A v)
    ]

-- what a set is owed, the rest owes
pub Spread_turned : (n c : ℕ) (u v : ℕ → ℕ) → Spread n c u v → sum_over n all u ≡ sum_over n all v → Spread n c v u
Spread_turned n c u v spread even A =
    let back : size n (∁ (∁ A)) ≡ size n A = omega (arith, size-∁ n A, size-∁ n (∁ A)) in
    omega (arith, rw back at (spread (∁ A)), sum_over_split n all A u, sum_over_split n all A v)
