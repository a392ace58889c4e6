-- The step inequality: what a set of guests is owed after a step in which those with the greatest claims pay.
use Rattle.std.proofs.Common.{◌≡◌, ℕ, ◌+◌, ◌*◌, ◌<◌, ◌≤◌, Bool, true, false, cond, ◌⊎◌, ap, inl, inr, mul-le-mul_left, arith}
use Rattle.sets.proofs.Sums.{all, ∁, ◌∩◌, ◌∪◌, sum_over, size, sum_over-add, sum_over_const, sum_over-∩, sum_over-le, sum_over_none, sum_over_split, sum_over-∪, sum_over_weigh}

-- guest g is owed u g less v g, and then u' g less v' g; it earns e g, those in W want, and those in M pay the cost C each
pub record Step (n : ℕ) (e : ℕ → ℕ) (C : ℕ) (W M : ℕ → Bool) (u v u' v' : ℕ → ℕ) : Type 0 where
  pub moves : (g : ℕ) → g < n → u' g + v g + cond (M g) C 0 ≡ u g + e g + v' g
  pub asleep : (g : ℕ) → g < n → W g ≡ false → e g ≡ 0
  pub capped : (g : ℕ) → g < n → M g ≡ true → e g ≤ C
  -- what is earned is at most what is paid
  pub covered : sum_over n all e ≤ C * size n M
  -- nobody who wants and does not pay has a greater claim than one who pays
  pub most : (g k : ℕ) → g < n → k < n → W g ≡ true → M g ≡ false → M k ≡ true → (u g + e g) + v k ≤ (u k + e k) + v g

module _ {n C : ℕ} {e u v u' v' : ℕ → ℕ} {W M : ℕ → Bool} (s : Step n e C W M u v u' v') (A : ℕ → Bool) where
  -- those in A who want and do not pay; the others in A; those outside A who pay
  abbrev pub waiting : ℕ → Bool
  waiting = A ∩ (W ∩ ∁ M)

  abbrev pub settled : ℕ → Bool
  settled = A ∩ ∁ (W ∩ ∁ M)

  abbrev pub payers : ℕ → Bool
  payers = ∁ A ∩ M

  abbrev paid : ℕ → ℕ
  paid g = cond (M g) C 0

  Step_moves : sum_over n A u' + sum_over n A v + sum_over n A paid ≤ sum_over n A u + sum_over n A e + sum_over n A v'
  Step_moves =
      omega (
        arith,
        sum_over-le n A (λ g. u' g + v g + paid g) (λ g. u g + e g + v' g) 0 0 (λ g h _. omega (arith, s.moves g h)),
        sum_over-add n A (λ g. u' g + v g) paid,
        sum_over-add n A u' v,
        sum_over-add n A (λ g. u g + e g) v',
        sum_over-add n A u e,
      )

  -- who pays earns no more than that, and who does not want earns nothing
  Step_owed : sum_over n A u' + sum_over n A v ≤ sum_over n A u + sum_over n A v' + sum_over n waiting e
  Step_owed =
      let waits : ℕ → ℕ = λ g. cond ((W ∩ ∁ M) g) (e g) 0 in
      omega (
        arith,
        sum_over-le n A (λ g. u' g + v g) (λ g. u g + v' g + waits g) 0 0 (λ g h _. grind (arith, s.moves g h, s.asleep g h, s.capped g h)),
        sum_over-add n A u' v,
        sum_over-add n A (λ g. u g + v' g) waits,
        sum_over-add n A u v',
        sum_over-∩ n A (W ∩ ∁ M) e,
      )

  pub Step_keeps : (size n waiting ≡ 0) ⊎ (size n payers ≡ 0) → sum_over n A u' + sum_over n A v ≤ sum_over n A u + sum_over n A v'
  Step_keeps (inl none) = omega (arith, Step_owed, sum_over_none n waiting e none)
  Step_keeps (inr none) =
      omega (
        arith,
        Step_moves,
        s.covered,
        sum_over_split n all A e,
        sum_over_split n all A paid,
        sum_over-∩ n all M (λ _. C),
        sum_over_const n M C,
        sum_over-∩ n (∁ A) M (λ _. C),
        sum_over_none n payers (λ _. C) none,
      )

  Step_claims : size n payers * (sum_over n waiting u + sum_over n waiting e) + size n waiting * sum_over n payers v ≤ size n waiting * (sum_over n payers u + sum_over n payers e) + size n payers * sum_over n waiting v
  Step_claims =
      let claim : ℕ → ℕ = λ g. u g + e g in
      let most = sum_over_weigh n waiting payers claim v claim v (λ g k h l d p. s.most g k h l (grind arith) (grind arith) (grind arith)) in
      rw (← sum_over-add n waiting u e, ← sum_over-add n payers u e) most

  pub Step_mean : let d = size n waiting in let m = size n payers in (d + m) * sum_over n A u' + d * sum_over n (A ∪ M) v + m * sum_over n settled v ≤ (d + m) * sum_over n A v' + d * sum_over n (A ∪ M) u + m * sum_over n settled u + d * (sum_over n waiting e + sum_over n payers e)
  Step_mean =
      let d = size n waiting in
      let m = size n payers in
      omega (
        arith,
        mul-le-mul_left (d + m) Step_owed,
        Step_claims,
        ap (λ t. d * t) (sum_over-∪ n A M u),
        ap (λ t. d * t) (sum_over-∪ n A M v),
        ap (λ t. m * t) (sum_over_split n A (W ∩ ∁ M) u),
        ap (λ t. m * t) (sum_over_split n A (W ∩ ∁ M) v),
      )
