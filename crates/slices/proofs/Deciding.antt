-- The search for the runner, guest by guest: the best candidate of those below a guest is the runner among them.
use Rattle.std.proofs.Common.{◌≡◌, ℕ, ◌+◌, ◌<◌, Bool, true, false, cond, ◌&&◌, List, ℤ, pos, ◌+ℤ◌, is_some, Some, None, Option, sym, refl, ap, ◌∙◌, w64, to_z, of_z}
use lib.Signed.{lt_z}
use Rattle.std.proofs.lemmas.Bool.{eq-eqb, ne_eqb}
use Rattle.std.specs.Option.{option_map, IfSome}
use Rattle.guests.specs.Guests.{Owed, owed_in}
use Rattle.bounds.specs.Laws.{Chosen}
use Rattle.bounds.specs.Rule.{beats, claim, runner_below}
use Rattle.bounds.proofs.Earning.{earned_awake}
use Rattle.bounds.proofs.Runner.{runner_below_more, Chosen-runner_below}
use Rattle.slices.specs.Steps.{InReach, better, host_of, wants_of}
use Rattle.slices.specs.declared.lists.Candidate.{Candidate}
use Rattle.slices.specs.declared.lists.Lists.{Lists}
use Rattle.slices.proofs.Amounts.{owed_read}
use Rattle.slices.proofs.Beside.{Stands}

abbrev pub candidate : Owed → ℕ → Candidate
candidate q g = record { claim = q g; guest = record { 0 = g } }

pub candidate_is : (q : Owed) (i : ℕ) (c : Candidate) → c.guest.0 ≡ i → c.claim ≡ q i → c ≡ candidate q i
candidate_is q i c e f =
    ap (λ (n : ℕ). record { claim = c.claim; guest = record { 0 = n } }) e ∙ ap (λ (a : ℤ). record { claim = a; guest = record { 0 = i } }) f

better_is : (q : Owed) (i : ℕ) (r : Option ℕ) → Some (better (option_map (candidate q) r) (candidate q i)) ≡ option_map (candidate q) (cond (beats q i r) (Some i) r)
better_is q i None = refl
better_is q i (Some g) =
    elim (lt_z (q g) (q i)) as (λ b. Some (cond b (candidate q i) (candidate q g)) ≡ option_map (candidate q) (cond b (Some i) (Some g))) [ true ↦ refl | false ↦ refl ]

-- what guests are owed once they have earned
abbrev pub claims : Lists → List ℤ → Owed
claims l os = claim (host_of l) (wants_of l) (owed_in os)

abbrev pub runner_of : Lists → List ℤ → ℕ → Option ℕ
runner_of l os i = runner_below (wants_of l) (claims l os) i

-- the best candidate of the guests below i
abbrev pub best_of : Lists → List ℤ → ℕ → Option Candidate
best_of l os i = option_map (candidate (claims l os)) (runner_of l os i)

module _ (l : Lists) (os : List ℤ) where
  pub best_of-lower : (i : ℕ) → IfSome (best_of l os i) (λ b. b.guest.0 < i)
  best_of-lower i = by (runner_of l os i) (Chosen-runner_below (wants_of l) (claims l os) i)
    where
      by : (r : Option ℕ) → Chosen (wants_of l) (claims l os) i r → IfSome (option_map (candidate (claims l os)) r) (λ b. b.guest.0 < i)
      by None c = tt
      by (Some g) c = c.0

  best_of_more : (i : ℕ) (b : Bool) → wants_of l i ≡ b → best_of l os (i + 1) ≡ option_map (candidate (claims l os)) (cond (b && beats (claims l os) i (runner_of l os i)) (Some i) (runner_of l os i))
  best_of_more i b e = ap (option_map (candidate (claims l os))) (runner_below_more (wants_of l) (claims l os) i ∙ ap (λ t. cond (t && beats (claims l os) i (runner_of l os i)) (Some i) (runner_of l os i)) e)

  module _ (i x v : ℕ) (y : ℤ) (at : Stands l os i x v y) where
    pub best_of-asleep : (v ≡ 1 → ⊥) → best_of l os (i + 1) ≡ best_of l os i
    best_of-asleep e = best_of_more i false (ne_eqb _ 1 (λ f. e (at.want ∙ f)))

    -- the candidate c is the guest, which wants, with its amount as code has read it
    pub best_of-awake : InReach l os → v ≡ 1 → (c : Candidate) → c.guest.0 ≡ i → c.claim ≡ to_z w64 (of_z w64 y) +ℤ pos x → best_of l os (i + 1) ≡ Some (better (best_of l os i) c)
    best_of-awake r e c g f =
        let awake = eq-eqb _ 1 (sym at.want ∙ e) in
        let claims_it = f ∙ ap (λ z. z +ℤ pos x) (owed_read l os r i at.within y at.owed).0
        ∙ ap (λ n. owed_in os i +ℤ pos n) (at.share ∙ sym (earned_awake (host_of l) (wants_of l) i awake)) in
        best_of_more i true awake ∙ sym (better_is (claims l os) i (runner_of l os i))
        ∙ ap (λ k. Some (better (best_of l os i) k)) (sym (candidate_is (claims l os) i c g claims_it))

  pub best_of-some : (i : ℕ) → is_some (runner_of l os i) ≡ true → is_some (best_of l os i) ≡ true
  best_of-some i some = by (runner_of l os i) some
    where
      by : (r : Option ℕ) → is_some r ≡ true → is_some (option_map (candidate (claims l os)) r) ≡ true
      by None e = e
      by (Some g) e = refl

  pub runner_of-best : (i : ℕ) (b : Candidate) → best_of l os i ≡ Some b → runner_of l os i ≡ Some b.guest.0
  runner_of-best i b e = by (runner_of l os i) e
    where
      by : (r : Option ℕ) → option_map (candidate (claims l os)) r ≡ Some b → r ≡ Some b.guest.0
      by None f = cc
      by (Some g) f = let same : candidate (claims l os) g ≡ b = cc in ap (λ (k : Candidate). Some k.guest.0) same
