-- What is owed while a slice is settled, guest by guest.
use Rattle.std.proofs.Common.{◌≡◌, ℕ, ◌+◌, ◌<◌, ◌≤◌, cond, eqb, List, length, set, ℤ, pos, ◌+ℤ◌, ◌-ℤ◌, sym, ap, ◌∙◌, arith, below_more, w64, to_z, of_z}
use Rattle.std.proofs.lemmas.List.{length-set, get_or-set_same, get_or-set_other}
use Rattle.guests.specs.Guests.{owed_in}
use Rattle.bounds.specs.Rule.{claim, earned, wanting, is_runner, after_slice}
use Rattle.slices.specs.Steps.{Decides, InReach, host_of, wants_of}
use Rattle.slices.specs.declared.lists.Lists.{Lists}
use Rattle.slices.specs.declared.lists.Turn.{Turn}
use Rattle.slices.proofs.Amounts.{owed_read}

module _ (l : Lists) (os : List ℤ) where
  -- the guests below i are settled, the others not yet
  pub record Settled (i : ℕ) (os₁ : List ℤ) : Type 0 where
    pub long : length os₁ ≡ length os
    pub below : (g : ℕ) → g < i → owed_in os₁ g ≡ after_slice (host_of l) (wants_of l) (owed_in os) g
    pub above : (g : ℕ) → i ≤ g → owed_in os₁ g ≡ owed_in os g

  pub Settled_more : (i : ℕ) (os₁ : List ℤ) (z : ℤ) → Settled i os₁ → i < length os → z ≡ after_slice (host_of l) (wants_of l) (owed_in os) i → Settled (i + 1) (set os₁ i z)
  Settled_more i os₁ z s h is = record {
    long = length-set os₁ i z ∙ s.long;
    below = below_more _ i (λ g b. get_or-set_other os₁ i g z (pos 0) (λ same. omega arith) ∙ s.below g b)
        (get_or-set_same os₁ i z (pos 0) (rw s.long h) ∙ is);
    above = λ g b. get_or-set_other os₁ i g z (pos 0) (λ same. omega arith) ∙ s.above g (omega arith);
  }

  -- what guest g is owed after the turn t, from the amount a that code has read and what it earns, e
  pub settled_is : (t : Turn) → Decides l (owed_in os) t → InReach l os → (g : ℕ) → g < length l.shares.now → (a z : ℤ) (e : ℕ) → a ≡ owed_in os g → e ≡ earned (host_of l) (wants_of l) g → z ≡ (to_z w64 (of_z w64 a) +ℤ pos e) -ℤ pos (cond (eqb g t.runner) t.cost 0) → z ≡ after_slice (host_of l) (wants_of l) (owed_in os) g
  settled_is t d r g h a z e ea ee is =
      is
      ∙ ap (λ x. (x +ℤ pos e) -ℤ pos (cond (eqb g t.runner) t.cost 0)) (owed_read l os r g h a ea).0
      ∙ ap (λ n. (owed_in os g +ℤ pos n) -ℤ pos (cond (eqb g t.runner) t.cost 0)) ee
      ∙ ap (λ n. claim (host_of l) (wants_of l) (owed_in os) g -ℤ pos (cond (eqb g t.runner) n 0)) d.1
      ∙ ap (λ x. claim (host_of l) (wants_of l) (owed_in os) g -ℤ pos (cond (is_runner x g) (wanting (host_of l) (wants_of l)) 0)) (sym d.0)
