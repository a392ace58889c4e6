-- The order of guests is strict, and in a list that is in order each guest comes before all that follow, so that none is there twice.
use Rattle.std.proofs.Common.{◌≡◌, ℕ, zero, suc, ◌+◌, Bool, true, false, eqb, List, [], ◌∷◌, length, get_or, pos, refl, sym, arith, add-one}
use lib.Signed.{lt_z}
use Rattle.guests.specs.Guests.{Owed}
use Rattle.owed.specs.Orders.{before, in_order}
use Rattle.std.specs.List.{AllAdjacentBelow, AllPairs, IsAllAdjacentAnswer, IsDistinct}
use Rattle.std.proofs.lemmas.Int.{ints}
use Rattle.std.proofs.lemmas.Bool.{and_from}
use Rattle.std.proofs.lemmas.Bool.Decides.{nat_tests}
use Rattle.std.proofs.lemmas.Map.Keys.{IsDistinct-from_apart}

module _ (o : Owed) where
  pub before_trans : (a b c : ℕ) → before o a b ≡ true → before o b c ≡ true → before o a c ≡ true
  before_trans a b c h k = grind (arith, ints, nat_tests)

  pub before_apart : (a b : ℕ) → before o a b ≡ true → eqb a b ≡ false
  before_apart a b h = grind (arith, ints, nat_tests)

  pub owed_before_owed : (a b : ℕ) → before o a b ≡ true → lt_z (pos 0) (o b) ≡ true → lt_z (pos 0) (o a) ≡ true
  owed_before_owed a b h owed = grind (arith, ints, nat_tests)

  pub before_from_in_order : (gs : List ℕ) → in_order o gs ≡ true → AllPairs (λ a b. before o a b ≡ true) gs
  before_from_in_order [] e i j d h k = absurd (omega arith)
  before_from_in_order (a ∷ []) e i j d h k = absurd (omega arith)
  before_from_in_order (a ∷ (b ∷ gs)) e i zero d h k = absurd (omega arith)
  before_from_in_order (a ∷ (b ∷ gs)) e zero (suc zero) d h k = grind (arith, e)
  before_from_in_order (a ∷ (b ∷ gs)) e zero (suc (suc j)) d h k = before_trans a b (get_or gs j d) (grind (arith, e)) (before_from_in_order (b ∷ gs) (grind (arith, e)) zero (suc j) d (omega arith) (omega arith))
  before_from_in_order (a ∷ (b ∷ gs)) e (suc i) (suc j) d h k = before_from_in_order (b ∷ gs) (grind (arith, e)) i j d (omega arith) (omega arith)

  pub in_order_from_before : (gs : List ℕ) → AllAdjacentBelow (λ a b. before o a b ≡ true) gs (length gs) → in_order o gs ≡ true
  in_order_from_before [] each = refl
  in_order_from_before (a ∷ []) each = refl
  in_order_from_before (a ∷ (b ∷ gs)) each =
      and_from (before o a b) (in_order o (b ∷ gs)) (each 0 0 (omega arith)) (in_order_from_before (b ∷ gs) (λ k d h. rw add-one (rw add-one at (each (suc k) d (omega arith)))))

  pub IsDistinct-from_in_order : (gs : List ℕ) → in_order o gs ≡ true → IsDistinct eqb gs
  IsDistinct-from_in_order gs ordered = IsDistinct-from_apart eqb gs (λ i j d h k. before_apart (get_or gs i d) (get_or gs j d) (before_from_in_order gs ordered i j d h k))

  -- what `is_sorted_by` answers
  pub is_in_order : (gs : List ℕ) (r : Bool) → IsAllAdjacentAnswer (λ x y b. b ≡ before o x y) gs r → r ≡ in_order o gs
  is_in_order gs true each = sym (in_order_from_before gs (λ k d h. sym (each k d h)))
  is_in_order gs false (k, h, not_before) = grind (arith, not_before 0, λ (ordered : in_order o gs ≡ true). before_from_in_order gs ordered k (k + 1) 0 (omega arith) h)
