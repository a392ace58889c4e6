-- The turns of three guests with the shares 1, 2 and 3 that all want all the while, as a table.
use Rattle.std.proofs.Common.{◌≡◌, ℕ, zero, suc, ◌<◌, true, List, [], ◌∷◌, ◌++◌, ℤ, pos, negsuc, sym, refl, ◌∙◌, arith}
use Rattle.guests.specs.Guests.{owed_in}
use Rattle.bounds.specs.Examples.{three, turns_of_three, TurnsOfThree}
use Rattle.bounds.specs.Runs.{nothing_owed}
use Rattle.bounds.proofs.Tables.{Row, Along, along_runs, along_owed}

abbrev none : List ℤ
none = pos 0 ∷ pos 0 ∷ pos 0 ∷ []

-- from nothing owed the turns come back to nothing owed after six slices
abbrev six : List Row
six =
    record { runs = 2; after = pos 1 ∷ pos 2 ∷ negsuc 2 ∷ [] }
    ∷ record { runs = 1; after = pos 2 ∷ negsuc 1 ∷ pos 0 ∷ [] }
    ∷ record { runs = 0; after = negsuc 2 ∷ pos 0 ∷ pos 3 ∷ [] }
    ∷ record { runs = 2; after = negsuc 1 ∷ pos 2 ∷ pos 0 ∷ [] }
    ∷ record { runs = 1; after = negsuc 0 ∷ negsuc 1 ∷ pos 3 ∷ [] }
    ∷ record { runs = 2; after = none }
    ∷ []

-- each row is computed, and whatever comes after the six starts from nothing owed again
six_along : (rows : List Row) → Along three (λ g. true) none rows → Along three (λ g. true) none (six ++ rows)
six_along rows more = (refl, refl, (refl, refl, (refl, refl, (refl, refl, (refl, refl, (refl, refl, more))))))

twelve_along : Along three (λ g. true) none (six ++ six)
twelve_along = six_along six (six_along [] tt)

none_owed : (g : ℕ) → g < 3 → nothing_owed g ≡ owed_in none g
none_owed zero h = refl
none_owed (suc zero) h = refl
none_owed (suc (suc zero)) h = refl
none_owed (suc (suc (suc g))) h = absurd (omega arith)

pub turns_of_three_run : TurnsOfThree turns_of_three
turns_of_three_run = (
  along_runs three (λ g. true) none (six ++ six) nothing_owed none_owed twelve_along,
  λ g h. along_owed three (λ g. true) none (six ++ six) nothing_owed none_owed twelve_along g h ∙ sym (none_owed g h),
)
