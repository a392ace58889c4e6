-- Amounts that are not refused are within reach, and so is whatever any number of slices make of them.
use Rattle.std.proofs.Common.{◌≡◌, ℕ, List, length, ℤ, nat_abs, None, ap, ◌∙◌, arith}
use Rattle.guests.specs.Faults.{fault}
use Rattle.guests.specs.Guests.{Agree, owed_in}
use Rattle.guests.proofs.Taken.{taken, limit_most}
use Rattle.bounds.specs.Runs.{owed_at}
use Rattle.bounds.proofs.Spreading.{owed_at_most}
use Rattle.slices.specs.Steps.{InReach, host_of, wants_of}
use Rattle.slices.specs.declared.lists.Lists.{Lists}

pub in_reach_at : (l : Lists) (os : List ℤ) → fault l.shares.now l.wants.now os ≡ None → (t : ℕ) (os₁ : List ℤ) → length os₁ ≡ length os → Agree (length l.shares.now) (owed_in os₁) (owed_at (host_of l) (λ _. wants_of l) (owed_in os) t) → InReach l os₁
in_reach_at l os accepted t os₁ long same =
    let k = taken l.shares.now l.wants.now os accepted in
    let most = owed_at_most (host_of l) (λ _. wants_of l) (owed_in os) k.owed_sum (λ g b. omega (arith, k.owed_most g b)) t in
    let few = limit_most (host_of l) k.host in
    record {
      long = long ∙ k.owed_long;
      most = λ g h. omega (arith, ap nat_abs (same g h), most g h, few);
    }
