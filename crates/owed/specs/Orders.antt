-- The order of guests by what they are owed, which lists have all guests in it, and when a list is refused one. Assumes nothing: these are definitions.
use Rattle.std.specs.Prelude.{◌≡◌, ℕ, zero, suc, Bool, true, cond, ◌&&◌, ◌||◌, List, [], ◌∷◌, length, ℤ, Some, None, Ok, Err, Option, Result, ◌==◌, int_le, int_lt, nat_le, nat_lt}
use Rattle.guests.specs.Guests.{Owed, owed_in}
use Rattle.std.specs.List.{list_any, range_with_len}
use Rattle.std.specs.List.Sorted.{IsPermutation}
use Rattle.owed.specs.declared.OrderFault.{OrderFault}
use Rattle.owed.specs.declared.OrderFault.TheVariants.{TooManyGuests, OtherLength}

-- guest a comes before guest b: it is owed more, or as much and has the lower number
abbrev pub before : Owed → ℕ → ℕ → Bool
before o a b = int_lt (o b) (o a) || (int_le (o b) (o a) && nat_lt a b)

-- each guest of a list comes before the next
abbrev pub in_order : Owed → List ℕ → Bool
in_order o [] = true
in_order o (a ∷ []) = true
in_order o (a ∷ (b ∷ gs)) = before o a b && in_order o (b ∷ gs)

-- each guest below n is in a list
abbrev pub each_there : ℕ → List ℕ → Bool
each_there zero gs = true
each_there (suc n) gs = list_any (λ g. n == g) gs && each_there n gs

-- a list of all guests, at most 64, and of nobody else, in order
abbrev pub ranks_all : List ℤ → List ℕ → Bool
ranks_all os by = nat_le (length os) 64 && (length by == length os && (each_there (length os) by && in_order (owed_in os) by))

-- why n guests can't be put in order in a list of m places
abbrev pub order_fault : (n m : ℕ) → Option OrderFault
order_fault n m = cond (nat_le n 64) (cond (m == n) None (Some OtherLength)) (Some TooManyGuests)

-- the list that was by holds the order of all guests, or is as it was
abbrev pub Ordered : List ℤ → (by by₁ : List ℕ) → Result (Unit {0}) OrderFault → Type 0
Ordered os by by₁ (Ok _) = (order_fault (length os) (length by) ≡ None) × (ranks_all os by₁ ≡ true) × IsPermutation (range_with_len 0 (length os)) by₁
Ordered os by by₁ (Err f) = (order_fault (length os) (length by) ≡ Some f) × (by₁ ≡ by)
