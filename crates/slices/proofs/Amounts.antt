-- What guests earn and are owed is small, and the shares of all who want are the list's sum.
use Rattle.std.proofs.Common.{◌≡◌, ℕ, ◌<◌, ◌≤◌, cond, eqb, List, [], ◌∷◌, length, get_or, map, sum, ℤ, nat_abs, refl, ap, ◌∙◌, arith, w64, to_z, of_z}
use borrow.Author.Differences.{abs_is}
use Rattle.std.proofs.lemmas.Int.{ints}
use Rattle.std.proofs.lemmas.Bool.{cond_both}
use Rattle.std.proofs.lemmas.List.Sums.{sum-map, sum_by-cons}
use Rattle.std.specs.List.{zip, sum_by}
use Rattle.guests.specs.Guests.{host_in, wants_in, owed_in}
use Rattle.guests.proofs.Sums.{sum_below-le, sum_below_first}
use Rattle.bounds.specs.Rule.{earned, wanting}
use Rattle.slices.specs.Steps.{InReach, host_of, wants_of}
use Rattle.slices.specs.declared.lists.Lists.{Lists}

-- an amount that code has read
as_read : (x : ℤ) → nat_abs x ≤ 8192000 → to_z w64 (of_z w64 x) ≡ x
as_read x h = omega (arith, ints, abs_is x)

module _ (l : Lists) where
  pub earned_most : (g : ℕ) → g < length l.shares.now → earned (host_of l) (wants_of l) g ≤ 1000
  earned_most g h = cond_both (wants_of l g) (get_or l.shares.now g 0) 0 (λ n. n ≤ 1000) (λ _. l.valid.share_most g h) (λ _. omega arith)

  pub wanting_most : wanting (host_of l) (wants_of l) ≤ 64000
  wanting_most = omega (arith, sum_below-le (length l.shares.now) 1000 (earned (host_of l) (wants_of l)) earned_most, l.valid.few)

  pub owed_read : (os : List ℤ) → InReach l os → (g : ℕ) → g < length l.shares.now → (a : ℤ) → a ≡ owed_in os g → (to_z w64 (of_z w64 a) ≡ owed_in os g) × (nat_abs (to_z w64 (of_z w64 a)) ≤ 8192000)
  owed_read os r g h a e =
      let read = ap (λ z. to_z w64 (of_z w64 z)) e ∙ as_read (owed_in os g) (r.most g h) in
      (read, rw read (r.most g h))

sum-earned : (ss ws : List ℕ) → length ws ≡ length ss → sum_by (λ (p : ℕ × ℕ). cond (eqb p.1 1) p.0 0) (zip ss ws) ≡ wanting (host_in ss) (wants_in ws)
sum-earned [] ws e = refl
sum-earned (s ∷ ss) [] e = absurd (omega arith)
sum-earned (s ∷ ss) (w ∷ ws) e =
    omega (arith, sum_by-cons (λ (p : ℕ × ℕ). cond (eqb p.1 1) p.0 0) (s, w) (zip ss ws), sum-earned ss ws (omega arith), sum_below_first (length ss) (earned (host_in (s ∷ ss)) (wants_in (w ∷ ws))))

pub wanting_is : (l : Lists) → sum (map (λ (p : ℕ × ℕ). cond (eqb p.1 1) p.0 0) (zip l.shares.now l.wants.now)) ≡ wanting (host_of l) (wants_of l)
wanting_is l = sum-map (λ (p : ℕ × ℕ). cond (eqb p.1 1) p.0 0) (zip l.shares.now l.wants.now) ∙ sum-earned l.shares.now l.wants.now l.wants_long
