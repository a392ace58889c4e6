-- Sums over the guests below n: one guest more, bounds, and sums of sums.
use Rattle.std.proofs.Common.{◌≡◌, ℕ, zero, suc, ◌+◌, ◌*◌, ◌<◌, ◌≤◌, List, [], ◌∷◌, length, get_or, sum, ℤ, pos, ◌+ℤ◌, ◌-ℤ◌, refl, ap, inl, inr, arith}
use Rattle.std.proofs.lemmas.Int.{ints}
use Rattle.std.proofs.lemmas.List.Sums.{sum_by-cons}
use Rattle.std.proofs.lemmas.Bool.{cases_eq}
use Rattle.guests.specs.Guests.{Agree, sum_below, int_sum_below}

pub sum_below_same : (n : ℕ) (f g : ℕ → ℕ) → ((k : ℕ) → k < n → f k ≡ g k) → sum_below n f ≡ sum_below n g
sum_below_same zero f g same = refl
sum_below_same (suc n) f g same = omega (arith, same n (omega arith), sum_below_same n f g (λ k h. same k (omega arith)))

pub int_sum_below_same : (n : ℕ) (f g : ℕ → ℤ) → Agree n f g → int_sum_below n f ≡ int_sum_below n g
int_sum_below_same zero f g same = omega (arith, ints)
int_sum_below_same (suc n) f g same =
    let here = same n (omega arith) in
    let below = int_sum_below_same n f g (λ k h. same k (omega arith)) in
    cc

pub int_sum_below_zero : (n : ℕ) → int_sum_below n (λ _. pos 0) ≡ pos 0
int_sum_below_zero zero = refl
int_sum_below_zero (suc n) = omega (arith, ints, int_sum_below_zero n)

pub sum_below-le : (n m : ℕ) (f : ℕ → ℕ) → ((k : ℕ) → k < n → f k ≤ m) → sum_below n f ≤ m * n
sum_below-le zero m f small = omega arith
sum_below-le (suc n) m f small = omega (arith, sum_below-le n m f (λ k h. small k (omega arith)), small n (omega arith))

pub sum_below_part : (n : ℕ) (f : ℕ → ℕ) (g : ℕ) → g < n → f g ≤ sum_below n f
sum_below_part zero f g h = absurd (omega arith)
sum_below_part (suc n) f g h =
    elim (cases_eq g n) [ inl e ↦ omega (arith, ap f e) | inr e ↦ omega (arith, sum_below_part n f g (omega arith)) ]

-- what all are owed moves by what all earn less what all pay
pub int_sum_below_moved : (n : ℕ) (o : ℕ → ℤ) (e p : ℕ → ℕ) → int_sum_below n (λ g. o g +ℤ pos (e g) -ℤ pos (p g)) ≡ int_sum_below n o +ℤ pos (sum_below n e) -ℤ pos (sum_below n p)
int_sum_below_moved zero o e p = omega (arith, ints)
int_sum_below_moved (suc n) o e p = omega (arith, ints, int_sum_below_moved n o e p)

pub sum_below_first : (n : ℕ) (f : ℕ → ℕ) → sum_below (suc n) f ≡ f 0 + sum_below n (λ k. f (suc k))
sum_below_first zero f = omega arith
sum_below_first (suc n) f = omega (arith, sum_below_first n f)

pub sum_below-get_or : (xs : List ℕ) → sum_below (length xs) (λ g. get_or xs g 0) ≡ sum xs
sum_below-get_or [] = refl
sum_below-get_or (x ∷ xs) =
    omega (arith, sum_below_first (length xs) (λ g. get_or (x ∷ xs) g 0), sum_below-get_or xs, sum_by-cons (λ n. n) x xs)
