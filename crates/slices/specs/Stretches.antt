-- What `stretch` answers and leaves behind, over the lists that it is lent. Assumes nothing: these are definitions.
use Rattle.std.specs.Prelude.{◌≡◌, ℕ, ◌<◌, false, List, length, ℤ, None, Option, slice_index_or}
use Rattle.bounds.specs.Runs.{owed_at, runner_at}
use Rattle.guests.specs.Guests.{Agree, host_in, wants_in, owed_in, int_sum_below}

-- as many slices as there are runners, the same guests wanting in each: who runs in it, and what is owed after the last
pub record Gives (ss ws : List ℕ) (os os₁ : List ℤ) (rs₁ : List (Option ℕ)) : Type 0 where
  pub runners : (t : ℕ) → t < length rs₁ → slice_index_or rs₁ t None ≡ runner_at (host_in ss) (λ _. wants_in ws) (owed_in os) t
  pub long : length os₁ ≡ length os
  pub owed : Agree (length ss) (owed_in os₁) (owed_at (host_in ss) (λ _. wants_in ws) (owed_in os) (length rs₁))

-- whatever the answer: who does not want is owed what it was, and all together what they were
pub record StretchLaws (ss ws : List ℕ) (os os₁ : List ℤ) : Type 0 where
  pub asleep : (g : ℕ) → g < length ss → wants_in ws g ≡ false → owed_in os₁ g ≡ owed_in os g
  pub balanced : int_sum_below (length ss) (owed_in os₁) ≡ int_sum_below (length ss) (owed_in os)
