-- Where all want all the while: the most that anybody is owed, and the most that anybody owes.
use Rattle.std.proofs.Common.{◌≡◌, ℕ, zero, suc, ◌+◌, ◌-◌, ◌*◌, ◌/◌, ◌<◌, ◌≤◌, true, pos, neg_ℤ, ◌<ℤ◌, Some, None, Option, refl, inl, inr, add-zero, add-suc, mul-le-mul_left, arith}
use native.Mathlib.Nat.{le_dest, lt-mul-div-succ}
use Rattle.std.proofs.lemmas.Int.{ints}
use Rattle.std.proofs.lemmas.Bool.{cases_lt}
use Rattle.guests.specs.Guests.{Host, Wants, Owed, Valid, sum_below, int_sum_below, total}
use Rattle.guests.proofs.Sums.{sum_below_part}
use Rattle.bounds.specs.Laws.{Chosen}
use Rattle.bounds.specs.Promises.{AllAwake, ComesToNothing, Harmonic, AllTheWhile}
use Rattle.bounds.specs.Rule.{earned, wanting, claim, runner, is_runner, after_slice}
use Rattle.bounds.specs.Runs.{nothing_owed, owed_at}
use Rattle.bounds.proofs.Balance.{comes_to_nothing}
use Rattle.bounds.proofs.Earning.{Chosen_is, earned_awake, earned_most}
use Rattle.bounds.proofs.Spreading.{above, below, beaten, slice_step, sum_above_is_sum_below}
use Rattle.sets.proofs.Harmonic.{Parts, HarmonicSpread, harmonic_step, harmonic_up}
use Rattle.sets.proofs.Sums.{all, size, sum_over-add, sum_over_const, sum_over-le, sum_over_one}

module _ (h : Host) (w : Wants) where
  wanting_most : wanting h w ≤ total h
  wanting_most =
      omega (arith, sum_over-le h.guests all (earned h w) h.share 0 0 (λ g b _. omega (arith, earned_most h w g)))

  module _ (o : Owed) where
    one_runner : (r : Option ℕ) → Chosen w (claim h w o) h.guests r → size h.guests (is_runner r) ≤ 1
    one_runner None none = omega (arith, sum_over_const h.guests all 0)
    one_runner (Some r) c = omega (arith, sum_over_one h.guests r (λ _. 1) c.0)

    -- a slice in which all want, where what is owed comes to nothing
    module _ (awake : (g : ℕ) → g < h.guests → w g ≡ true) (nothing : int_sum_below h.guests o ≡ pos 0) where
      -- the runner has a claim above 0: else nobody has, and all claims together come to what is earned
      runner_claims : (r : ℕ) → is_runner (runner h w o) r ≡ true → 0 < wanting h w → below o r < above o r + earned h w r
      runner_claims r runs some =
          elim (cases_lt (below o r) (above o r + earned h w r)) [
            | inl more ↦ more
            | inr none ↦
                absurd (omega (
                  arith,
                  sum_over-le h.guests all (λ g. above o g + earned h w g) (below o) 0 0 (λ g b _. omega (arith, beaten h w o _ (Chosen_is h w o _ refl) g r b (awake g b) runs)),
                  sum_over-add h.guests all (above o) (earned h w),
                  sum_above_is_sum_below h.guests o nothing,
                ))
          ]

      after_slice_least : (g : ℕ) → g < h.guests → 0 < h.share g → neg_ℤ (pos (total h)) <ℤ o g → neg_ℤ (pos (total h)) <ℤ after_slice h w o g
      after_slice_least g b some least =
          let most = wanting_most in
          let earns = earned_awake h w g (awake g b) in
          let part = sum_below_part h.guests (earned h w) g b in
          let claims = λ (runs : is_runner (runner h w o) g ≡ true). runner_claims g runs (omega arith) in
          grind (arith, ints)

module _ (h : Host) (ws : ℕ → Wants) (awake : AllAwake ws h.guests) where
  harmonic_at : (d : ℕ) (e : ℕ → ℕ) → Parts h.guests d e → (t : ℕ) → HarmonicSpread h.guests (total h) d e (above (owed_at h ws nothing_owed t)) (below (owed_at h ws nothing_owed t))
  harmonic_at d e parts zero = λ A. omega arith
  harmonic_at d e parts (suc t) =
      let o = owed_at h ws nothing_owed t in
      harmonic_step (slice_step h (ws t) o) (awake t) (one_runner h (ws t) o _ (Chosen_is h (ws t) o _ refl)) e (wanting_most h (ws t)) parts (harmonic_at d e parts t)

  harmonic_most : (d : ℕ) (e : ℕ → ℕ) → Parts h.guests d e → (t g : ℕ) → g < h.guests → let o = owed_at h ws nothing_owed t in d * above o g ≤ total h * sum_below (h.guests - 1) (λ i. e (2 + i)) + d * below o g
  harmonic_most d e parts t = let o = owed_at h ws nothing_owed t in harmonic_up h.guests (total h) d e (above o) (below o) (harmonic_at d e parts t)

  least_at : Valid h → (t g : ℕ) → g < h.guests → neg_ℤ (pos (total h)) <ℤ owed_at h ws nothing_owed t g
  unfolding ComesToNothing
  least_at v zero g b = omega (arith, ints, v.share_least g b, sum_below_part h.guests h.share g b)
  least_at v (suc t) g b =
      after_slice_least h (ws t) (owed_at h ws nothing_owed t) (awake t) (comes_to_nothing h ws t) g b (v.share_least g b) (least_at v t g b)

pub harmonic : Harmonic
unfolding Harmonic
harmonic h ws t g b awake d e parts x is = omega (arith, rw is at (harmonic_most h ws awake d e parts t g b))

sum_below_mono : (n k : ℕ) (f : ℕ → ℕ) → sum_below n f ≤ sum_below (n + k) f
sum_below_mono n zero f = rw (add-zero n) (omega arith)
sum_below_mono n (suc k) f = rw (add-suc n k) (omega (arith, sum_below_mono n k f))

-- more than one i-th of 1,000
abbrev thousandths : ℕ → ℕ
thousandths i = 1000 / i + 1

thousandths_most : (n : ℕ) → n ≤ 63 → sum_below n (λ i. thousandths (2 + i)) < 4000
thousandths_most n few =
    let k = le_dest few in
    omega (arith, rw k.1 at (sum_below_mono n k.0 (λ i. thousandths (2 + i))))

pub all_the_while : AllTheWhile
unfolding AllTheWhile
all_the_while h ws t g v b awake =
    let parts : Parts h.guests 1000 thousandths = λ i two _. omega (arith, lt-mul-div-succ 1000 {b = i} (omega arith)) in
    let most = harmonic_most h ws awake 1000 thousandths parts t g b in
    let few = mul-le-mul_left (total h) (thousandths_most (h.guests - 1) (omega (arith, v.few))) in
    (omega (arith, ints, v.share_least g b, sum_below_part h.guests h.share g b), least_at h ws awake v t g b)
