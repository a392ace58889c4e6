-- Which tests tell that a list has all guests in order, and that the numbers of all guests, sorted, pass them.
use Rattle.std.proofs.Common.{◌≡◌, ℕ, ◌+◌, ◌<◌, ◌≤◌, Bool, true, false, ◌&&◌, eqb, leb, ltb, List, length, get_or, ℤ, sym, ◌∙◌, inl, inr, arith, IsPermutation, int_cmp, nat_cmp, is_lt}
use Rattle.guests.specs.Guests.{Owed, owed_in}
use Rattle.owed.specs.Orders.{before, each_there, in_order, ranks_all}
use Rattle.owed.proofs.Order.{IsDistinct-from_in_order, in_order_from_before}
use Rattle.owed.proofs.There.{Decides-each_there, each_there_as_only}
use Rattle.std.specs.Cmp.{nat_eq_equiv}
use Rattle.std.specs.List.{IsDistinct, list_all, range_with_len}
use Rattle.std.specs.List.Sorted.{IsSortedBy}
use Rattle.std.specs.Ordering.{ordering_then}
use Rattle.std.proofs.lemmas.Bool.{cases_Bool, eq-eqb, eqb-true, ne_eqb}
use Rattle.std.proofs.lemmas.Bool.Decides.{nat_tests}
use Rattle.std.proofs.lemmas.Int.{ints}
use Rattle.std.proofs.lemmas.List.Folds.{list_any_at}
use Rattle.std.proofs.lemmas.List.FromFn.{get_or-range_with_len, length-range_with_len}
use Rattle.std.proofs.lemmas.List.Sorted.{length_permutation, list_any-IsPermutation}
use Rattle.std.proofs.lemmas.Map.Keys.{IsDistinct-IsPermutation, IsDistinct-from_apart, apart_from_distinct}

pub ranks_all_by_tests : (os : List ℤ) (by : List ℕ) → ranks_all os by ≡ (leb (length os) 64 && (eqb (length by) (length os) && (list_all (λ g. ltb g (length os)) by && in_order (owed_in os) by)))
ranks_all_by_tests os by =
    elim (cases_Bool (in_order (owed_in os) by)) [
      | inl ordered ↦ elim (cases_Bool (eqb (length by) (length os))) [
        | inl long ↦ grind (arith, each_there_as_only (length os) by (eqb-true (length by) (length os) long) (IsDistinct-from_in_order (owed_in os) by ordered))
        | inr other ↦ grind arith
      ]
      | inr not_ordered ↦ grind arith
    ]

-- the order of the ranks that the guests are sorted by
abbrev lesser : Owed → ℕ → ℕ → Bool
lesser o a b = is_lt (ordering_then (int_cmp (o b) (o a)) (nat_cmp a b))

-- two neighbours that are sorted and not the same guest
before_from_sorted : (o : Owed) (a b : ℕ) → lesser o b a ≡ false → eqb a b ≡ false → before o a b ≡ true
before_from_sorted o a b sorted apart = grind (arith, ints, nat_tests)

module _ (os : List ℤ) (by : List ℕ) (shuffled : IsPermutation (range_with_len 0 (length os)) by) where
  abbrev numbers : List ℕ
  numbers = range_with_len 0 (length os)

  long : length by ≡ length os
  long = length_permutation numbers by shuffled ∙ length-range_with_len 0 (length os)

  all_there : each_there (length os) by ≡ true
  all_there =
      (Decides-each_there (length os) by).1
      (λ g h. sym (list_any-IsPermutation (eqb g) numbers by shuffled) ∙ list_any_at (eqb g) numbers g 0 (omega (arith, length-range_with_len 0 (length os))) (eq-eqb g (get_or numbers g 0) (omega (arith, get_or-range_with_len 0 (length os) g 0 h))))

  distinct : IsDistinct eqb by
  distinct =
      IsDistinct-IsPermutation eqb nat_eq_equiv.symm numbers by shuffled
      (IsDistinct-from_apart eqb numbers (λ i j d h k. let few : j < length os = omega (arith, length-range_with_len 0 (length os)) in ne_eqb _ _ (λ same. omega (arith, same, get_or-range_with_len 0 (length os) i d (omega arith), get_or-range_with_len 0 (length os) j d few))))

  pub ranks_all_from_sorted : length os ≤ 64 → IsSortedBy (lesser (owed_in os)) by → ranks_all os by ≡ true
  ranks_all_from_sorted few sorted =
      let ordered = in_order_from_before (owed_in os) by (λ k d h. before_from_sorted (owed_in os) (get_or by k d) (get_or by (k + 1) d) (sorted k d (omega arith) h) (apart_from_distinct eqb by k (k + 1) d distinct (omega arith) h)) in
      grind (arith, nat_tests, long, all_there, ordered)
