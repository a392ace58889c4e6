-- What it says that checks find a fault or none: of one after the other, and of a list's entries.
use Rattle.std.proofs.Common.{◌≡◌, ◌<◌, ℕ, Bool, true, false, not, List, length, get_or, Some, None, Option, refl, arith}
use Rattle.std.specs.Option.{option_map, option_or}
use Rattle.std.specs.List.{All, position, position_or_len}
use Rattle.std.proofs.lemmas.List.Sums.{fails_before_first, passes_at_first, position_or_len_is}
use Rattle.std.proofs.lemmas.Bool.Decides.{nat_tests}
use Rattle.guests.specs.Faults.{first_failing}
use Rattle.guests.specs.declared.faults.Fault.{Fault}

pub option_or_none : (a b : Option Fault) → option_or a b ≡ None → (a ≡ None) × (b ≡ None)
option_or_none None b e = (refl, e)
option_or_none (Some f) b e = cc

pub each_from_position : {X : Type 0} (ok : X → Bool) (xs : List X) → position (λ x. not (ok x)) xs ≡ None → All (λ x. ok x ≡ true) xs
each_from_position ok xs e k x h = grind (arith, nat_tests, fails_before_first (λ x. not (ok x)) xs k x)

-- the entries before i pass
abbrev pub Passed : {X : Type 0} → (X → Bool) → List X → X → ℕ → Type 0
Passed ok xs d i = (k : ℕ) → k < i → ok (get_or xs k d) ≡ true

-- a list's fault is at the first entry that fails, and it has none exactly where each passes
module _ {X : Type 0} (ok : X → Bool) (at : ℕ → Fault) (xs : List X) where
  pub first_failing_here : (d : X) (i : ℕ) → i < length xs → Passed ok xs d i → ok (get_or xs i d) ≡ false → first_failing ok at xs ≡ Some (at i)
  first_failing_here d i h before fails =
      let here : position_or_len (λ x. not (ok x)) xs ≡ i = position_or_len_is (λ x. not (ok x)) xs i d (omega arith) (λ k b. grind (arith, before k b)) (λ _. grind (arith, fails)) in
      grind (arith, nat_tests, here)

  pub first_failing_each : (d : X) → ((k : ℕ) → k < length xs → ok (get_or xs k d) ≡ true) → first_failing ok at xs ≡ None
  first_failing_each d each = grind (arith, nat_tests, passes_at_first (λ x. not (ok x)) xs d, each (position_or_len (λ x. not (ok x)) xs))

  pub each_from_first_failing : first_failing ok at xs ≡ None → All (λ x. ok x ≡ true) xs
  each_from_first_failing e = each_from_position ok xs (option_map_none at (position (λ x. not (ok x)) xs) e)
    where
      option_map_none : {A : Type 0} {B : Type 0} (f : A → B) (r : Option A) → option_map f r ≡ None → r ≡ None
      option_map_none f None e = refl
      option_map_none f (Some x) e = cc
