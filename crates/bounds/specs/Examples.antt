-- A worked example: shares 1, 2 and 3, all wanting all the while. Assumes nothing: these are definitions.
use Rattle.std.specs.Prelude.{◌≡◌, ℕ, ◌<◌, true, List, [], ◌∷◌, length, pos, Some, slice_index}
use Rattle.guests.specs.Guests.{Host, Wants, host_in}
use Rattle.bounds.specs.Runs.{nothing_owed, owed_at, runner_at}

abbrev pub three : Host
three = host_in (1 ∷ 2 ∷ 3 ∷ [])

abbrev pub all_want : ℕ → Wants
all_want t g = true

abbrev pub turns_of_three : List ℕ
turns_of_three = 2 ∷ 1 ∷ 0 ∷ 2 ∷ 1 ∷ 2 ∷ 2 ∷ 1 ∷ 0 ∷ 2 ∷ 1 ∷ 2 ∷ []

-- these are who runs, slice by slice, and then nothing is owed
abbrev pub TurnsOfThree : List ℕ → Type 0
TurnsOfThree rs =
    ((t : ℕ) → t < length rs → runner_at three all_want nothing_owed t ≡ Some (slice_index rs t))
    × ((g : ℕ) → g < 3 → owed_at three all_want nothing_owed (length rs) g ≡ pos 0)
