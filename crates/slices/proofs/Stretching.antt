-- A stretch, slice by slice: what is owed before slice t, who has run in those before it, and the laws so far.
use Rattle.std.proofs.Common.{◌≡◌, ℕ, ◌+◌, ◌<◌, List, length, get_or, set, ℤ, None, Option, sym, ap, ◌∙◌, zero-add, add-one, arith, below_more}
use Rattle.std.proofs.lemmas.List.{get_or-set_same, get_or-set_other}
use Rattle.bounds.specs.Promises.{SleepsFree}
use Rattle.bounds.specs.Rule.{runner}
use Rattle.bounds.specs.Runs.{owed_at, runner_at}
use Rattle.bounds.proofs.Agree.{runner-Agree, after_slice-Agree}
use Rattle.bounds.proofs.Balance.{owed_sum_same, sleeps_free}
use Rattle.guests.specs.Guests.{Agree, host_in, wants_in, owed_in}
use Rattle.guests.proofs.Sums.{int_sum_below_same}
use Rattle.slices.specs.Answers.{Settles}
use Rattle.slices.specs.Calls.{CarriesOn}
use Rattle.slices.specs.Stretches.{StretchLaws}
use Rattle.slices.proofs.Carrying.{carries_on}

module _ (ss ws : List ℕ) (os : List ℤ) where
  -- os₁ is owed after t slices
  abbrev After : ℕ → List ℤ → Type 0
  After t os₁ = Agree (length ss) (owed_in os₁) (owed_at (host_in ss) (λ _. wants_in ws) (owed_in os) t)

  stretch_laws : (t : ℕ) (os₁ : List ℤ) → After t os₁ → StretchLaws ss ws os os₁
  unfolding SleepsFree
  stretch_laws t os₁ after = record {
    asleep = λ g b e. after g b ∙ ap (λ u. owed_at (host_in ss) (λ _. wants_in ws) (owed_in os) u g) (sym (zero-add t))
        ∙ sleeps_free (host_in ss) (λ _. wants_in ws) (owed_in os) g 0 t (λ u from to. e);
    balanced = int_sum_below_same (length ss) _ _ after ∙ owed_sum_same (host_in ss) (λ _. wants_in ws) (owed_in os) t;
  }

  pub record Given (t : ℕ) (os₁ : List ℤ) (rs₁ : List (Option ℕ)) : Type 0 where
    pub long : length os₁ ≡ length os
    pub owed : After t os₁
    pub runners : (u : ℕ) → u < t → get_or rs₁ u None ≡ runner_at (host_in ss) (λ _. wants_in ws) (owed_in os) u
    pub laws : StretchLaws ss ws os os₁
    pub carries : CarriesOn ss os os₁

  -- one slice more, in which r runs
  pub Given_more : (t : ℕ) (os₁ os₂ : List ℤ) (rs : List (Option ℕ)) (r : Option ℕ) → Given t os₁ rs → t < length rs → r ≡ runner (host_in ss) (wants_in ws) (owed_in os₁) → Settles ss ws os₁ os₂ → Given (t + 1) os₂ (set rs t r)
  Given_more t os₁ os₂ rs r s h is settles =
      let o = owed_at (host_in ss) (λ _. wants_in ws) (owed_in os) t in
      let after : After (t + 1) os₂ =
      λ g b. settles.1 g b ∙ after_slice-Agree (host_in ss) (wants_in ws) (owed_in os₁) o s.owed g b
      ∙ sym (ap (λ n. owed_at (host_in ss) (λ _. wants_in ws) (owed_in os) n g) (add-one t)) in
      record {
        long = settles.0 ∙ s.long;
        owed = after;
        runners = below_more _ t (λ u b. get_or-set_other rs t u r None (λ same. omega arith) ∙ s.runners u b)
            (get_or-set_same rs t r None h ∙ is ∙ runner-Agree (host_in ss) (wants_in ws) (owed_in os₁) o s.owed);
        laws = stretch_laws (t + 1) os₂ after;
        carries = carries_on ss ws os os₂ (t + 1) (settles.0 ∙ s.long) after;
      }
