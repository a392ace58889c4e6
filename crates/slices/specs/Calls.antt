-- What calls for slices come to, one after the other and of whatever wants, from nothing owed. Assumes nothing: these are definitions.
use Rattle.std.specs.Prelude.{◌≡◌, ℕ, ◌*◌, ◌<◌, ◌≤◌, List, length, ℤ, unsigned_abs}
use Rattle.bounds.specs.Promises.{bound}
use Rattle.bounds.specs.Runs.{nothing_owed, owed_at}
use Rattle.std.specs.Option.{option_or}
use Rattle.guests.specs.Faults.{fault, shares_fault, wants_fault}
use Rattle.guests.specs.Guests.{Agree, Wants, host_in, owed_in}

-- guests with the shares ss are owed os after some slices from nothing: after none, each is owed 0
pub record FromNothing (ss : List ℕ) (os : List ℤ) : Type 0 where
  pub long : length os ≡ length ss
  pub wants : ℕ → Wants
  pub slices : ℕ
  pub owed : Agree (length ss) (owed_in os) (owed_at (host_in ss) wants nothing_owed slices)

-- a call that leaves os₁ where os was owed
pub record CarriesOn (ss : List ℕ) (os os₁ : List ℤ) : Type 0 where
  pub from_nothing : FromNothing ss os → FromNothing ss os₁
  -- nobody is owed, or owes, more than half of the bound
  pub bounded : FromNothing ss os → (g : ℕ) → g < length ss → 2 * unsigned_abs (owed_in os₁ g) ≤ bound (host_in ss)
  -- the next call, for whatever is wanted in it, is refused for its shares or its wants or not at all
  pub taken : FromNothing ss os → (ws : List ℕ) → fault ss ws os₁ ≡ option_or (shares_fault ss) (wants_fault (length ss) ws)
