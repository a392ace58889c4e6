-- The part of a list of guests that has those who are owed anything. Assumes nothing: these are definitions.
use Rattle.std.specs.Prelude.{◌≡◌, ℕ, ◌<◌, Bool, true, List, length, take, ℤ, pos, Decides, MatchBool, ◌≢◌, int_lt, nat_lt, slice_index, All, Contains}
use Rattle.guests.specs.Guests.{owed_in}
use Rattle.owed.specs.Orders.{before, ranks_all}
use Rattle.std.specs.List.{AllPairs}

-- a guest is owed more than 0
abbrev pub is_owed : List ℤ → ℕ → Bool
is_owed os g = int_lt (pos 0) (owed_in os g)

-- the first so many of the list: exactly those places whose guest is owed anything
abbrev pub Front : List ℤ → (by part : List ℕ) → Type 0
Front os by part =
    (part ≡ take (length part) by)
    × ((i : ℕ) → i < length by → is_owed os (slice_index by i) ≡ nat_lt i (length part))

-- of a list that has all guests in order the front, and of any other none
abbrev pub PartSays : List ℤ → (by part : List ℕ) → Type 0
PartSays os by part = MatchBool (ranks_all os by) (Front os by part) (length part ≡ 0)

-- who is in the part: of a list that is taken, a guest if and only if it is owed anything; of any list no guest twice, and the most owed first
pub record PartLaws (os : List ℤ) (by part : List ℕ) : Type 0 where
  pub exactly : ranks_all os by ≡ true → (g : ℕ) → g < length os → Decides (is_owed os g) (Contains part g)
  pub guests : All (λ g. (g < length os) × (is_owed os g ≡ true)) part
  pub once : AllPairs (λ g h. g ≢ h) part
  pub ordered : AllPairs (λ g h. before (owed_in os) g h ≡ true) part
