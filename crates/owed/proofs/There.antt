-- Where no guest is in a list twice, and it has as many places as there are guests, each guest is there if and only if nobody else is.
use Rattle.std.proofs.Common.{◌≡◌, ◌≢◌, ℕ, suc, ◌<◌, ◌≤◌, Bool, true, cond, eqb, ltb, List, [], ◌∷◌, ◌++◌, length, get_or, take, drop, Decides, refl, sym, ap, ◌∙◌, inl, inr, arith}
use Rattle.owed.specs.Orders.{each_there}
use Rattle.std.specs.Cmp.{nat_eq_equiv}
use Rattle.std.specs.List.{IsDistinct, count_by, filter, list_all, list_any}
use Rattle.std.proofs.Math.Seq.{split_at}
use Rattle.std.proofs.lemmas.Bool.{cases_Bool, eq-eqb, eqb-true, lt-ltb, ltb-true}
use Rattle.std.proofs.lemmas.Bool.Decides.{Decides-below_and, same_from_decides, nat_tests}
use Rattle.std.proofs.lemmas.List.{get_or-take, length-append, length-drop, length-take-le}
use Rattle.std.proofs.lemmas.List.Elements.{All-contains}
use Rattle.std.proofs.lemmas.List.Folds.{list_any-append, list_any_at}
use Rattle.std.proofs.lemmas.List.Sums.{AllPass-from_list_all, count_by-le-length, length-filter, sum_by-cons}
use Rattle.std.proofs.lemmas.Map.Keys.{IsDistinct-push}
use Rattle.std.proofs.lemmas.Map.Steps.{le-length_from_below, length-le_from_distinct_below}
use Rattle.std.proofs.lemmas.Map.Views.{Contains-from_any, any-filter_same}

pub Decides-each_there : (n : ℕ) (xs : List ℕ) → Decides (each_there n xs) ((g : ℕ) → g < n → list_any (eqb g) xs ≡ true)
Decides-each_there n xs = Decides-below_and (λ g. list_any (eqb g) xs) (λ g. list_any (eqb g) xs ≡ true) (λ m. each_there m xs) (λ g. (λ e. e, λ e. e)) refl (λ _. refl) n

list_all-from_count : {X : Type 0} (p : X → Bool) (xs : List X) → length xs ≤ count_by p xs → list_all p xs ≡ true
list_all-from_count p [] h = refl
list_all-from_count p (x ∷ xs) h = grind (arith, count_by-le-length p xs, list_all-from_count p xs, sum_by-cons (λ y. cond (p y) 1 0) x xs)

module _ (n : ℕ) (xs : List ℕ) (long : length xs ≡ n) where
  abbrev is_guest : ℕ → Bool
  is_guest g = ltb g n

  pub only_from_each : ((g : ℕ) → g < n → list_any (eqb g) xs ≡ true) → list_all is_guest xs ≡ true
  only_from_each each =
      let kept = le-length_from_below (filter is_guest xs) n (λ g h. any-filter_same (eqb g) is_guest true (λ k same. lt-ltb k n (omega (arith, eqb-true g k same))) xs ∙ each g h) in
      list_all-from_count is_guest xs (omega (arith, length-filter is_guest xs))

  guest_from_only : list_all is_guest xs ≡ true → (g : ℕ) → list_any (eqb g) xs ≡ true → g < n
  guest_from_only only g here = ltb-true g n (All-contains (λ k. is_guest k ≡ true) xs g (AllPass-from_list_all is_guest xs only) (Contains-from_any eqb-true g xs here))

  -- one more guest would be one too many
  each_from_only : IsDistinct eqb xs → list_all is_guest xs ≡ true → (g : ℕ) → g < n → list_any (eqb g) xs ≡ true
  each_from_only distinct only g h =
      elim (cases_Bool (list_any (eqb g) xs)) [
        | inl here ↦ here
        | inr absent ↦ absurd (omega (arith, length-append xs (g ∷ []), length-le_from_distinct_below (xs ++ g ∷ []) n (IsDistinct-push nat_eq_equiv xs g distinct absent) (λ k e. grind (arith, nat_tests, list_any-append (eqb k) xs (g ∷ []), guest_from_only only k))))
      ]

  pub each_there_as_only : IsDistinct eqb xs → each_there n xs ≡ list_all is_guest xs
  each_there_as_only distinct = same_from_decides (each_there n xs) (list_all is_guest xs) (Decides-each_there n xs) (each_from_only distinct, only_from_each)

  -- with somebody twice, the list without the later place would have each guest too, and be too short
  pub differ_from_each_there : each_there n xs ≡ true → (i j : ℕ) → i < j → j < length xs → get_or xs i 0 ≢ get_or xs j 0
  differ_from_each_there there i j h k same =
      let x = get_or xs j 0 in
      let front = take j xs in
      let back = drop (suc j) xs in
      let here : get_or front i 0 ≡ x = get_or-take j xs i 0 h ∙ same in
      let each : (g : ℕ) → g < n → list_any (eqb g) (front ++ back) ≡ true =
      λ g b. elim (cases_Bool (eqb g x)) [
        | inl at ↦ grind (arith, list_any-append (eqb g) front back, list_any_at (eqb g) front i 0 (omega (arith, length-take-le j xs (omega arith))) (eq-eqb g (get_or front i 0) (eqb-true g x at ∙ sym here)))
        | inr other ↦ grind (arith, list_any-append (eqb g) front back, list_any-append (eqb g) front (x ∷ back), ap (list_any (eqb g)) (split_at xs j 0 k), (Decides-each_there n xs).0 there g b)
      ] in
      omega (arith, le-length_from_below (front ++ back) n each, length-append front back, length-take-le j xs (omega arith), length-drop (suc j) xs)
