-- The rule's runner is the one that the laws choose.
use Rattle.std.proofs.Common.{◌≡◌, ℕ, zero, suc, ◌+◌, ◌<◌, Bool, true, false, cond, ◌&&◌, ◌≤ℤ◌, ◌<ℤ◌, Some, None, Option, sym, refl, ap, subst, inl, inr, add-one, arith}
use lib.Signed.{lt_z}
use Rattle.std.proofs.lemmas.Int.{ints}
use Rattle.std.proofs.lemmas.Bool.{cases_eq, both_ways}
use Rattle.guests.specs.Guests.{Wants, Owed}
use Rattle.bounds.specs.Laws.{Chosen}
use Rattle.bounds.specs.Rule.{beats, runner_below}

pub runner_below_more : (w : Wants) (q : Owed) (n : ℕ) → runner_below w q (n + 1) ≡ cond (w n && beats q n (runner_below w q n)) (Some n) (runner_below w q n)
runner_below_more w q n = ap (runner_below w q) (add-one n)

below_suc : (P : ℕ → Type 0) (n : ℕ) → ((k : ℕ) → k < n → P k) → P n → (k : ℕ) → k < suc n → P k
below_suc P n below here k h = elim (cases_eq k n) [ inl e ↦ subst P (sym e) here | inr ne ↦ below k (omega arith) ]

-- one guest more, n: whether it wants, b, and whether its claim is greater, t
module _ (w : Wants) (q : Owed) (n : ℕ) where
  taken_first : w n ≡ true → Chosen w q n None → Chosen w q (suc n) (Some n)
  taken_first is c = (
    omega arith,
    is,
    below_suc (λ k. w k ≡ true → q k ≤ℤ q n) n (λ k h e. absurd (both_ways (w k) (c k h) e)) (λ _. omega (arith, ints)),
    λ k h e. absurd (both_ways (w k) (c k h) e),
  )

  taken_over : (g : ℕ) → w n ≡ true → q g <ℤ q n → Chosen w q n (Some g) → Chosen w q (suc n) (Some n)
  taken_over g is more c = (
    omega arith,
    is,
    below_suc (λ k. w k ≡ true → q k ≤ℤ q n) n (λ k h e. let le = c.2 k h e in omega (arith, ints)) (λ _. omega (arith, ints)),
    λ k h e. let le = c.2 k h e in omega (arith, ints),
  )

  kept : (g : ℕ) → (w n ≡ true → q n ≤ℤ q g) → Chosen w q n (Some g) → Chosen w q (suc n) (Some g)
  kept g less c = (omega (arith, c.0), c.1, below_suc (λ k. w k ≡ true → q k ≤ℤ q g) n c.2 less, c.3)

  Chosen_more : (r : Option ℕ) (b : Bool) → w n ≡ b → Chosen w q n r → Chosen w q (suc n) (cond (b && beats q n r) (Some n) r)
  Chosen_more None true is c = taken_first is c
  Chosen_more None false is c = below_suc (λ k. w k ≡ false) n c is
  Chosen_more (Some g) false is c = kept g (λ e. absurd (both_ways (w n) is e)) c
  Chosen_more (Some g) true is c = by_claim (lt_z (q g) (q n)) refl
    where
      by_claim : (t : Bool) → lt_z (q g) (q n) ≡ t → Chosen w q (suc n) (cond t (Some n) (Some g))
      by_claim true e = taken_over g is (grind (arith, ints)) c
      by_claim false e = kept g (λ _. grind (arith, ints)) c

pub Chosen-runner_below : (w : Wants) (q : Owed) (n : ℕ) → Chosen w q n (runner_below w q n)
Chosen-runner_below w q zero = λ k h. absurd (omega arith)
Chosen-runner_below w q (suc n) = Chosen_more w q n (runner_below w q n) (w n) refl (Chosen-runner_below w q n)
