-- The front of a list in order has those who are owed anything, and what follows of a part that is such a front, or none.
use Rattle.std.proofs.Common.{◌≡◌, ℕ, ◌<◌, ◌≤◌, true, false, List, length, get_or, take, ℤ, pos, sym, ap, ◌∙◌, inl, inr, arith}
use Rattle.guests.specs.Guests.{owed_in}
use Rattle.owed.specs.Orders.{before, each_there, in_order, ranks_all}
use Rattle.owed.specs.Parts.{Front, PartLaws, PartSays, is_owed}
use Rattle.owed.proofs.Order.{before_from_in_order, before_apart, owed_before_owed}
use Rattle.owed.proofs.There.{Decides-each_there}
use Rattle.std.specs.List.{All, AllPairs, Contains}
use Rattle.std.specs.List.Sorted.{IsPartitionPoint, IsPartitionedBy}
use Rattle.std.proofs.lemmas.List.{get_or_default, get_or_past, get_or-take, length-take, length-take-le}
use Rattle.std.proofs.lemmas.Bool.{both_ways, cases_Bool, cases_eq, cases_lt, eqb-false, eqb-true, le-ltb, lt-ltb, ltb-true}
use Rattle.std.proofs.lemmas.Bool.Decides.{nat_tests, when_false, when_true}
use Rattle.std.proofs.lemmas.Int.{ints}
use Rattle.std.proofs.lemmas.List.Elements.{All-contains}
use Rattle.std.proofs.lemmas.Map.Views.{Contains-from_any}

-- nobody past the list is owed anything
owed_is_guest : (os : List ℤ) (g : ℕ) → is_owed os g ≡ true → g < length os
owed_is_guest os g owed = grind (arith, ints, get_or_past os g (pos 0))

module _ (os : List ℤ) (by : List ℕ) (ranks : ranks_all os by ≡ true) where
  pub rank_parts : (length os ≤ 64) × (length by ≡ length os) × (each_there (length os) by ≡ true) × (in_order (owed_in os) by ≡ true)
  rank_parts = (grind (arith, nat_tests, ranks), grind (arith, nat_tests, ranks), grind (arith, ranks), grind (arith, ranks))

  pub IsPartitionedBy-ranks : IsPartitionedBy (is_owed os) by
  IsPartitionedBy-ranks i j d h k owed =
      elim (cases_eq i j) [
        | inl same ↦ rw same owed
        | inr other ↦ owed_before_owed (owed_in os) (get_or by i d) (get_or by j d) (before_from_in_order (owed_in os) by rank_parts.3 i j d (omega arith) k) owed
      ]

  -- as many places as come before the first whose guest is owed nothing
  module _ (r : ℕ) (within : r ≤ length by) (point : IsPartitionPoint (λ g. is_owed os g ≡ true) (λ g. is_owed os g ≡ false) by r) where
    long : length (take r by) ≡ r
    long = length-take-le r by within

    Front_is : Front os by (take r by)
    Front_is = (
      ap (λ k. take k by) (sym long),
      λ i l. elim (cases_lt i r) [
        | inl below ↦ point.0 i 0 (omega arith) below ∙ sym (lt-ltb i (length (take r by)) (omega (arith, long)))
        | inr above ↦ point.1 i 0 above l ∙ sym (le-ltb i (length (take r by)) (omega (arith, long)))
      ],
    )

    pub PartSays-Front : PartSays os by (take r by)
    PartSays-Front = rw ranks Front_is

-- what a part is, is also a law of who is in it
module _ (os : List ℤ) (by part : List ℕ) where
  laws_of_none : ranks_all os by ≡ false → length part ≡ 0 → PartLaws os by part
  laws_of_none not_taken none = record {
    exactly = λ taken. absurd (both_ways (ranks_all os by) not_taken taken);
    guests = λ k d h. absurd (omega (arith, none));
    once = λ i j d h k. absurd (omega (arith, none));
    ordered = λ i j d h k. absurd (omega (arith, none));
  }

  module _ (ranks : ranks_all os by ≡ true) (front : Front os by part) where
    short : length part ≤ length by
    short = omega (arith, ap length front.0, length-take (length part) by)

    -- a place of the part is that place of the list
    place : (i d : ℕ) → i < length part → get_or part i d ≡ get_or by i 0
    place i d h = ap (λ p. get_or p i d) front.0 ∙ get_or-take (length part) by i d h ∙ get_or_default by i d 0 (omega (arith, short))

    owed_in_part : All (λ g. is_owed os g ≡ true) part
    owed_in_part i d h = rw (place i d h) (front.1 i (omega (arith, short)) ∙ lt-ltb i (length part) h)

    owed_has : (g : ℕ) → g < length os → is_owed os g ≡ true → Contains part g
    owed_has g h owed =
        let p = Contains-from_any eqb-true g by ((Decides-each_there (length os) by).0 (rank_parts os by ranks).2 g h) in
        let there : get_or by p.0 0 ≡ g = get_or_default by p.0 0 g p.1 ∙ p.2 in
        let inside : p.0 < length part = ltb-true p.0 (length part) (sym (front.1 p.0 p.1) ∙ rw there owed) in
        (p.0, inside, place p.0 g inside ∙ there)

    ordered_in_part : AllPairs (λ g h. before (owed_in os) g h ≡ true) part
    ordered_in_part i j d h k = rw (place i d (omega arith), place j d k) (before_from_in_order (owed_in os) by (rank_parts os by ranks).3 i j 0 h (omega (arith, short)))

    laws_of_front : PartLaws os by part
    laws_of_front = record {
      exactly = λ _ g h. (owed_has g h, All-contains (λ k. is_owed os k ≡ true) part g owed_in_part);
      guests = λ k d h. (owed_is_guest os (get_or part k d) (owed_in_part k d h), owed_in_part k d h);
      once = λ i j d h k. eqb-false (get_or part i d) (get_or part j d) (before_apart (owed_in os) (get_or part i d) (get_or part j d) (ordered_in_part i j d h k));
      ordered = ordered_in_part;
    }

  pub laws_from_says : PartSays os by part → PartLaws os by part
  laws_from_says says =
      elim (cases_Bool (ranks_all os by)) [
        | inl taken ↦ laws_of_front taken (when_true _ _ taken says)
        | inr refused ↦ laws_of_none refused (when_false _ _ refused says)
      ]
