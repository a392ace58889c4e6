-- What `slice` answers and leaves behind, over the lists that it is lent. Assumes nothing: these are definitions.
use Rattle.std.specs.Prelude.{◌≡◌, ℕ, List, length, ℤ, Some, None, Option}
use Rattle.guests.specs.Guests.{Agree, host_in, wants_in, owed_in}
use Rattle.guests.specs.Numbers.{number_of}
use Rattle.guests.specs.declared.faults.Fault.{Fault}
use Rattle.bounds.specs.Laws.{SliceLaws}
use Rattle.bounds.specs.Rule.{runner, after_slice}
use Rattle.slices.specs.declared.Done.{Done}
use Rattle.slices.specs.declared.Done.TheVariants.{Works, Idle, Refused}

-- what is owed after a slice, as the rule has it
abbrev pub Settles : (shares wants : List ℕ) → (owed owed₁ : List ℤ) → Type 0
Settles ss ws os os₁ =
    (length os₁ ≡ length os) × Agree (length ss) (owed_in os₁) (after_slice (host_in ss) (wants_in ws) (owed_in os))

abbrev pub answer : Option ℕ → Done
answer None = Idle
answer (Some g) = Works g

-- what is refused changes nothing; else the rule gives the answer and what is owed
abbrev pub SliceSays : Option Fault → (shares wants : List ℕ) → (owed owed₁ : List ℤ) → Done → Type 0
SliceSays (Some f) ss ws os os₁ d = (d ≡ Refused (number_of f)) × (os₁ ≡ os)
SliceSays None ss ws os os₁ d =
    (d ≡ answer (runner (host_in ss) (wants_in ws) (owed_in os))) × Settles ss ws os os₁

-- the laws, where somebody runs or nobody wants; what is refused changes nothing
abbrev pub SliceKeeps : (shares wants : List ℕ) → (owed owed₁ : List ℤ) → Done → Type 0
SliceKeeps ss ws os os₁ (Works g) = SliceLaws (host_in ss) (wants_in ws) (owed_in os) (owed_in os₁) (Some g)
SliceKeeps ss ws os os₁ Idle = SliceLaws (host_in ss) (wants_in ws) (owed_in os) (owed_in os₁) None
SliceKeeps ss ws os os₁ (Refused n) = os₁ ≡ os
