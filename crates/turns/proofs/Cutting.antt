-- The first piece of a text that is cut, by what `position` finds: what stands before the first cut, or all of it.
use Rattle.std.proofs.Common.{◌≡◌, ℕ, ◌+◌, true, false, Bool, not, cond, List, [], ◌∷◌, length, take, drop, Some, None, Option, refl, sym, ap, add-one, one-add, ◌∙◌, arith, nat_lt}
use Prim.Native.Nat.compare
use Rattle.std.proofs.lemmas.Bool.{lt-ltb}
use Rattle.std.specs.List.{onto_first, position, position_or_len, slice_split}

module _ {X : Type 0} (p : X → Bool) where
  abbrev pub cut_at : List X → Option ℕ → List (List X)
  cut_at xs None = xs ∷ []
  cut_at xs (Some e) = take e xs ∷ slice_split p (drop (e + 1) xs)

  onto_cut : (x : X) (xs : List X) (n : ℕ) (found : Bool) → onto_first x (cut_at xs (cond found (Some n) None)) ≡ cut_at (x ∷ xs) (cond found (Some (1 + n)) None)
  onto_cut x xs n true = simp (one-add, add-one)
  onto_cut x xs n false = refl

  pub split_position : (xs : List X) → slice_split p xs ≡ cut_at xs (position p xs)
  split_position [] = refl
  split_position (x ∷ xs) =
      let n = position_or_len p xs in
      elim (p x) as (λ t. cond t ([] ∷ slice_split p xs) (onto_first x (slice_split p xs)) ≡ cut_at (x ∷ xs) (cond (nat_lt (cond (not t) (1 + n) 0) (length (x ∷ xs))) (Some (cond (not t) (1 + n) 0)) None)) [
        | true ↦ ap (λ t. cut_at (x ∷ xs) (cond t (Some 0) None)) (sym (lt-ltb 0 (length (x ∷ xs)) (omega arith)))
        | false ↦ simp (one-add, compare.suc-suc) (ap (onto_first x) (split_position xs) ∙ simp one-add at onto_cut x xs n (nat_lt n (length xs)))
      ]
