-- Sums over sets of guests: a set is a test on the guests below n, and its size is the sum of ones.
use Rattle.std.proofs.Common.{◌≡◌, ℕ, zero, suc, ◌+◌, ◌*◌, ◌<◌, ◌≤◌, Bool, true, cond, not, ◌&&◌, ◌||◌, eqb, ltb, ap, arith}
use native.Mathlib.Nat.{le_dest, le_of_mul-le-mul_left}
use Rattle.std.proofs.lemmas.Bool.Decides.{nat_tests}
use Rattle.guests.specs.Guests.{sum_below}

abbrev pub all : ℕ → Bool
all g = true

abbrev pub ∁ : (ℕ → Bool) → ℕ → Bool
∁ A g = not (A g)

infixl 35 ◌∩◌
infixl 30 ◌∪◌
abbrev pub ◌∩◌ : (A B : ℕ → Bool) → ℕ → Bool
(A ∩ B) g = A g && B g

abbrev pub ◌∪◌ : (A B : ℕ → Bool) → ℕ → Bool
(A ∪ B) g = A g || B g

abbrev pub sum_over : ℕ → (ℕ → Bool) → (ℕ → ℕ) → ℕ
sum_over n A f = sum_below n (λ g. cond (A g) (f g) 0)

abbrev pub size : ℕ → (ℕ → Bool) → ℕ
size n A = sum_over n A (λ _. 1)

pub sum_over_split : (n : ℕ) (A B : ℕ → Bool) (f : ℕ → ℕ) → sum_over n A f ≡ sum_over n (A ∩ B) f + sum_over n (A ∩ ∁ B) f
sum_over_split zero A B f = omega arith
sum_over_split (suc n) A B f = grind (arith, sum_over_split n A B f)

pub sum_over-∪ : (n : ℕ) (A B : ℕ → Bool) (f : ℕ → ℕ) → sum_over n (A ∪ B) f ≡ sum_over n A f + sum_over n (∁ A ∩ B) f
sum_over-∪ zero A B f = omega arith
sum_over-∪ (suc n) A B f = grind (arith, sum_over-∪ n A B f)

-- B inside A, and D outside it
pub sum_over-cond : (n : ℕ) (A B D : ℕ → Bool) (f : ℕ → ℕ) → sum_over n (λ g. cond (A g) (B g) (D g)) f ≡ sum_over n (A ∩ B) f + sum_over n (∁ A ∩ D) f
sum_over-cond zero A B D f = omega arith
sum_over-cond (suc n) A B D f = grind (arith, sum_over-cond n A B D f)

-- the test B goes into the term
pub sum_over-∩ : (n : ℕ) (A B : ℕ → Bool) (f : ℕ → ℕ) → sum_over n (A ∩ B) f ≡ sum_over n A (λ g. cond (B g) (f g) 0)
sum_over-∩ zero A B f = omega arith
sum_over-∩ (suc n) A B f = grind (arith, sum_over-∩ n A B f)

sum_over_at : (n g : ℕ) (f : ℕ → ℕ) → sum_over n (λ k. eqb k g) f ≡ cond (ltb g n) (f g) 0
sum_over_at zero g f = grind (arith, nat_tests)
sum_over_at (suc n) g f = grind (arith, nat_tests, sum_over_at n g f)

pub sum_over_one : (n g : ℕ) (f : ℕ → ℕ) → g < n → sum_over n (λ k. eqb k g) f ≡ f g
sum_over_one n g f h = grind (arith, nat_tests, sum_over_at n g f)

pub sum_over_none : (n : ℕ) (A : ℕ → Bool) (f : ℕ → ℕ) → size n A ≡ 0 → sum_over n A f ≡ 0
sum_over_none zero A f none = omega arith
sum_over_none (suc n) A f none = grind (arith, sum_over_none n A f (omega arith))

pub sum_over_const : (n : ℕ) (A : ℕ → Bool) (c : ℕ) → sum_over n A (λ _. c) ≡ c * size n A
sum_over_const zero A c = omega arith
sum_over_const (suc n) A c = grind (arith, sum_over_const n A c)

sum_over-mul : (n : ℕ) (A : ℕ → Bool) (c : ℕ) (f : ℕ → ℕ) → sum_over n A (λ g. c * f g) ≡ c * sum_over n A f
sum_over-mul zero A c f = omega arith
sum_over-mul (suc n) A c f = grind (arith, sum_over-mul n A c f)

pub sum_over-add : (n : ℕ) (A : ℕ → Bool) (f h : ℕ → ℕ) → sum_over n A (λ g. f g + h g) ≡ sum_over n A f + sum_over n A h
sum_over-add zero A f h = omega arith
sum_over-add (suc n) A f h = grind (arith, sum_over-add n A f h)

size-all : (n : ℕ) → size n all ≡ n
size-all zero = omega arith
size-all (suc n) = omega (arith, size-all n)

pub size-∁ : (n : ℕ) (A : ℕ → Bool) → size n A + size n (∁ A) ≡ n
size-∁ n A = omega (arith, size-all n, sum_over_split n all A (λ _. 1))

-- x is added to each member's f, and y to its h
pub sum_over-le : (n : ℕ) (A : ℕ → Bool) (f h : ℕ → ℕ) (x y : ℕ) → ((g : ℕ) → g < n → A g ≡ true → f g + x ≤ h g + y) → sum_over n A f + size n A * x ≤ sum_over n A h + size n A * y
sum_over-le zero A f h x y le = omega arith
sum_over-le (suc n) A f h x y le =
    let here = le n (omega arith) in
    grind (arith, sum_over-le n A f h x y (λ g b. le g (omega arith)))

-- each in D has at most what each in P has: f less a, and h less b
pub sum_over_weigh : (n : ℕ) (D P : ℕ → Bool) (f a h b : ℕ → ℕ) → ((i j : ℕ) → i < n → j < n → D i ≡ true → P j ≡ true → f i + b j ≤ h j + a i) → size n P * sum_over n D f + size n D * sum_over n P b ≤ size n D * sum_over n P h + size n P * sum_over n D a
sum_over_weigh n D P f a h b le =
    let d = size n D in
    omega (
      arith,
      sum_over-le n P (λ j. d * b j) (λ j. d * h j) (sum_over n D f) (sum_over n D a) (λ j y p. omega (arith, sum_over-le n D f a (b j) (h j) (λ i x q. omega (arith, le i j x y q p)))),
      sum_over-mul n P d b,
      sum_over-mul n P d h,
    )

-- any two different guests have at most c
abbrev pub Pairs : (n c : ℕ) (e : ℕ → ℕ) → Type 0
Pairs n c e = (i j : ℕ) → i < n → j < n → (i ≡ j → ⊥) → e i + e j ≤ c

-- both sides of the next, times the size less one
sum_over-Pairs_mul : (n c : ℕ) (A : ℕ → Bool) (e : ℕ → ℕ) → Pairs n c e → size n A * (2 * sum_over n A e) + size n A * c ≤ size n A * (size n A * c) + 2 * sum_over n A e
sum_over-Pairs_mul zero c A e pairs = omega arith
sum_over-Pairs_mul (suc n) c A e pairs =
    grind (
      arith,
      sum_over-Pairs_mul n c A e (λ i j h k. pairs i j (omega arith) (omega arith)),
      sum_over-le n A e (λ _. 0) (e n) c (λ g h _. omega (arith, pairs g n (omega arith) (omega arith) (λ same. omega arith))),
      sum_over_const n A 0,
    )

pub sum_over-Pairs : (n c : ℕ) (A : ℕ → Bool) (e : ℕ → ℕ) → Pairs n c e → 2 ≤ size n A → 2 * sum_over n A e ≤ size n A * c
sum_over-Pairs n c A e pairs two =
    let k = le_dest two in
    le_of_mul-le-mul_left {k = suc k.0} (omega (
      arith,
      sum_over-Pairs_mul n c A e pairs,
      ap (λ t. t * (2 * sum_over n A e)) k.1,
      ap (λ t. t * (size n A * c)) k.1,
    )) (omega arith)
