-- Nobody is ever owed, or owes, more than half of the bound, whatever is wanted in each slice.
use Rattle.std.proofs.Common.{◌≡◌, ℕ, zero, suc, ◌+◌, ◌-◌, ◌*◌, ◌<◌, ◌≤◌, ap, inl, inr, mul-le-mul_left, arith}
use Rattle.std.proofs.lemmas.Bool.{cases_eq}
use Rattle.guests.specs.Guests.{Host, Valid, Wants, sum_below, total}
use Rattle.guests.proofs.Sums.{sum_below_part}
use Rattle.bounds.specs.Promises.{BelowTheLimit, Bounded, BoundedTogether, ComesToNothing, bound, greatest_below, two_greatest_below}
use Rattle.bounds.specs.Runs.{nothing_owed, owed_at}
use Rattle.bounds.proofs.Balance.{comes_to_nothing}
use Rattle.bounds.proofs.Spreading.{above, below, most_from_spread, Spread_at, together_from_spread}
use Rattle.sets.proofs.Spread.{Spread, Spread_of_nothing}
use Rattle.sets.proofs.Sums.{Pairs}

greatest_below_most : (n : ℕ) (f : ℕ → ℕ) (g : ℕ) → g < n → f g ≤ greatest_below n f
greatest_below_most zero f g b = absurd (omega arith)
greatest_below_most (suc n) f g b = elim (cases_eq g n) [
  | inl e ↦ omega (arith, ap f e)
  | inr e ↦ omega (arith, greatest_below_most n f g (omega arith))
]

two_greatest_below_most : (n : ℕ) (f : ℕ → ℕ) → Pairs n (two_greatest_below n f) f
two_greatest_below_most zero f i j b d apart = absurd (omega arith)
two_greatest_below_most (suc n) f i j b d apart =
    elim (cases_eq i n) [
      | inl last ↦ omega (arith, ap f last, greatest_below_most n f j (omega arith))
      | inr before ↦
          elim (cases_eq j n) [
            | inl last ↦ omega (arith, ap f last, greatest_below_most n f i (omega arith))
            | inr neither ↦ omega (arith, two_greatest_below_most n f i j (omega arith) (omega arith) apart)
          ]
    ]

greatest_below_sum : (n : ℕ) (f : ℕ → ℕ) → greatest_below n f ≤ sum_below n f
greatest_below_sum zero f = omega arith
greatest_below_sum (suc n) f = omega (arith, greatest_below_sum n f)

two_greatest_below_sum : (n : ℕ) (f : ℕ → ℕ) → two_greatest_below n f ≤ sum_below n f
two_greatest_below_sum zero f = omega arith
two_greatest_below_sum (suc n) f = omega (arith, two_greatest_below_sum n f, greatest_below_sum n f)

Spread_from_nothing : (h : Host) (ws : ℕ → Wants) (t : ℕ) → let o = owed_at h ws nothing_owed t in Spread h.guests (two_greatest_below h.guests h.share) (above o) (below o)
Spread_from_nothing h ws =
    Spread_at h ws nothing_owed _ (two_greatest_below_most h.guests h.share) (Spread_of_nothing h.guests _)

pub bounded_together : BoundedTogether
unfolding BoundedTogether ComesToNothing
bounded_together h ws t = together_from_spread h.guests _ (comes_to_nothing h ws t) _ (Spread_from_nothing h ws t)

pub bounded : Bounded
unfolding Bounded ComesToNothing
bounded h ws t = most_from_spread h.guests _ (comes_to_nothing h ws t) _ (Spread_from_nothing h ws t)

below_product : (m c s : ℕ) → c ≤ s → 1 ≤ s → m * c < s * (m + 1)
below_product m c s le some = omega (arith, mul-le-mul_left m le)

pub bound_below_the_limit : (h : Host) → Valid h → bound h < total h * h.guests
bound_below_the_limit h v =
    let n = h.guests in
    let all : n - 1 + 1 ≡ n = omega (arith, v.some) in
    let some : 1 ≤ total h = omega (arith, sum_below_part n h.share 0 v.some, v.share_least 0 v.some) in
    rw all at (below_product (n - 1) _ (total h) (two_greatest_below_sum n h.share) some)

pub below_the_limit : BelowTheLimit
unfolding BelowTheLimit Bounded
below_the_limit h ws t g v b = omega (arith, bounded h ws t g b, bound_below_the_limit h v)
