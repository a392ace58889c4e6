-- The bound is reached where all shares are equal: in slice t guest t runs, the lowest of those who still want, so each above it is owed a share more, and the first has paid for all.
use Rattle.std.proofs.Common.{◌≡◌, ℕ, zero, suc, ◌*◌, ◌<◌, ◌≤◌, true, pos, neg_ℤ, Some, None, Option, sym, refl, ap, ◌∙◌, inl, inr, sub-one, arith}
use Rattle.std.proofs.lemmas.Int.{ints}
use Rattle.std.proofs.lemmas.Bool.{cases_eq, both_ways, le-leb, leb-true, lt-leb, ne_eqb}
use Rattle.std.proofs.lemmas.Bool.Decides.{nat_tests}
use Rattle.guests.specs.Guests.{Host, Wants, Owed, sum_below}
use Rattle.bounds.specs.Laws.{Chosen}
use Rattle.bounds.specs.Promises.{Attained, bound, equal_shares, greatest_below, one_less_each_time, two_greatest_below}
use Rattle.bounds.specs.Rule.{earned, claim}
use Rattle.bounds.specs.Runs.{nothing_owed, owed_at, runner_at}
use Rattle.bounds.proofs.Earning.{after_slice_asleep, Chosen_is, earned_awake}

lowest_of_equals : (w : Wants) (q : Owed) (n t : ℕ) → t < n → w t ≡ true → ((k : ℕ) → k < n → w k ≡ true → (t ≤ k) × (q k ≡ q t)) → (r : Option ℕ) → Chosen w q n r → r ≡ Some t
lowest_of_equals w q n t b wants equal None none = absurd (both_ways (w t) (none t b) wants)
lowest_of_equals w q n t b wants equal (Some r) c =
    let same = equal r c.0 c.1 in
    elim (cases_eq r t) [ inl e ↦ ap Some e | inr ne ↦ absurd (omega (arith, ints, c.3 t (omega arith) wants)) ]

greatest_of_equals : (n s : ℕ) → greatest_below (suc n) (λ _. s) ≡ s
greatest_of_equals zero s = omega arith
greatest_of_equals (suc n) s = omega (arith, greatest_of_equals n s)

two_greatest_of_equals : (n s : ℕ) → two_greatest_below (suc (suc n)) (λ _. s) ≡ 2 * s
two_greatest_of_equals zero s = omega arith
two_greatest_of_equals (suc n) s = omega (arith, two_greatest_of_equals n s, greatest_of_equals n s)

bound_of_equals : (n s : ℕ) → bound (equal_shares (suc n) s) ≡ 2 * (n * s)
bound_of_equals zero s = omega arith
bound_of_equals (suc n) s = rw (two_greatest_of_equals n s, sub-one) (omega arith)

module _ (n s : ℕ) where
  abbrev host : Host
  host = equal_shares (suc n) s

  abbrev owed : ℕ → Owed
  owed = owed_at host one_less_each_time nothing_owed

  -- those who want in slice t are owed the same before it
  abbrev Level : ℕ → Type 0
  Level t = (g : ℕ) → t ≤ g → g ≤ n → owed t g ≡ pos (t * s)

  claim_level : (t : ℕ) → Level t → (g : ℕ) → t ≤ g → g ≤ n → claim host (one_less_each_time t) (owed t) g ≡ pos (suc t * s)
  claim_level t level g from to =
      let here = level g from to in
      let earns = earned_awake host (one_less_each_time t) g (le-leb t g from) in
      omega (arith, ints)

  lowest_runs : (t : ℕ) → t ≤ n → Level t → runner_at host one_less_each_time nothing_owed t ≡ Some t
  lowest_runs t b level =
      let w = one_less_each_time t in
      let least = claim_level t level t (omega arith) b in
      lowest_of_equals w (claim host w (owed t)) (suc n) t (omega arith) (le-leb t t (omega arith))
      (λ k c awake. let from = leb-true t k awake in (from, claim_level t level k from (omega arith) ∙ sym least))
      _ (Chosen_is host w (owed t) _ refl)

  level : (t : ℕ) → Level t
  level zero g from to = omega (arith, ints)
  level (suc t) g from to =
      let claims = claim_level t (level t) g (omega arith) to in
      let waits = ne_eqb g t (λ same. omega arith) in
      rw (lowest_runs t (omega arith) (level t), waits) (omega (arith, ints))

  wanting_first : (m : ℕ) → sum_below m (earned host (one_less_each_time 0)) ≡ m * s
  wanting_first zero = omega arith
  wanting_first (suc m) = grind (arith, nat_tests, wanting_first m)

  first_owes : (t : ℕ) → owed (suc t) 0 ≡ neg_ℤ (pos (n * s))
  first_owes zero = rw (lowest_runs 0 (omega arith) (level 0)) (omega (arith, ints, wanting_first (suc n)))
  first_owes (suc t) =
      after_slice_asleep host (one_less_each_time (suc t)) (owed (suc t)) 0 (lt-leb (suc t) 0 (omega arith)) ∙ first_owes t

first_owes_at_last : (n s : ℕ) → owed n s n 0 ≡ neg_ℤ (pos (n * s))
first_owes_at_last zero s = omega (arith, ints)
first_owes_at_last (suc n) s = first_owes (suc n) s n

pub attained : Attained
unfolding Attained
attained n s = (level n s n n (omega arith) (omega arith), first_owes_at_last n s, bound_of_equals n s)
