-- Whoever began with nothing owed and has called for slices since can call for more: what is owed stays within the bound, and is never refused.
use Rattle.std.proofs.Common.{◌≡◌, ℕ, ◌+◌, List, [], length, ℤ, nat_abs, Some, None, Option, refl, ap, ◌∙◌, arith}
use Rattle.bounds.specs.Promises.{Bounded, NeverRefused}
use Rattle.bounds.specs.Runs.{owed_at}
use Rattle.bounds.proofs.Bound.{bounded}
use Rattle.bounds.proofs.Parts.{and_then, owed_at-and_then}
use Rattle.bounds.proofs.Refusals.{never_refused}
use Rattle.std.specs.Option.{option_or}
use Rattle.guests.specs.Faults.{shares_fault, wants_fault}
use Rattle.guests.specs.Guests.{Agree, host_in, wants_in, owed_in}
use Rattle.guests.specs.declared.faults.Fault.{Fault}
use Rattle.slices.specs.Calls.{CarriesOn, FromNothing}

option_or_last : (a b c : Option Fault) → (a ≡ None → c ≡ None) → option_or a (option_or b c) ≡ option_or a b
option_or_last (Some f) b c none = refl
option_or_last None (Some f) c none = refl
option_or_last None None c none = none refl

module _ (ss ws : List ℕ) (os os₁ : List ℤ) where
  -- k slices more
  pub carries_on : (k : ℕ) → length os₁ ≡ length os → Agree (length ss) (owed_in os₁) (owed_at (host_in ss) (λ _. wants_in ws) (owed_in os) k) → CarriesOn ss os os₁
  unfolding Bounded NeverRefused
  carries_on k long same = record {
    from_nothing = more;
    bounded = λ f g b. omega (arith, ap nat_abs ((more f).owed g b), bounded (host_in ss) (more f).wants (more f).slices g b);
    taken = λ f vs. option_or_last (shares_fault ss) (wants_fault (length ss) vs) _ (λ valid. never_refused ss (more f).wants (more f).slices os₁ valid (more f).long (more f).owed);
  }
    where
      more : FromNothing ss os → FromNothing ss os₁
      more f = record {
        long = long ∙ f.long;
        wants = and_then f.wants f.slices (wants_in ws);
        slices = f.slices + k;
        owed = λ g b. same g b ∙ owed_at-and_then (host_in ss) f.wants f.slices (wants_in ws) (owed_in os) k f.owed g b;
      }

pub unchanged_carries_on : (ss : List ℕ) (os : List ℤ) → CarriesOn ss os os
unchanged_carries_on ss os = carries_on ss [] os os 0 refl (λ g b. refl)
