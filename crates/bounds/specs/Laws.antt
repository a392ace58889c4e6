-- What anybody may rely on after a slice, whoever the others are and however the runner was found. Assumes nothing: these are definitions.
use Rattle.std.specs.Prelude.{◌≡◌, ℕ, ◌<◌, true, false, ◌≤ℤ◌, ◌<ℤ◌, Some, None, Option}
use Rattle.guests.specs.Guests.{Host, Wants, Owed, int_sum_below}
use Rattle.bounds.specs.Rule.{claim}

-- The one who runs, of n guests with the claims q, wants to; nobody who wants has a greater claim, and no lower guest that wants as great a one. Nobody runs only where nobody wants.
abbrev pub Chosen : Wants → Owed → ℕ → Option ℕ → Type 0
Chosen w q n None = (k : ℕ) → k < n → w k ≡ false
Chosen w q n (Some g) =
    (g < n) × (w g ≡ true) × ((k : ℕ) → k < n → w k ≡ true → q k ≤ℤ q g) × ((k : ℕ) → k < g → w k ≡ true → q k <ℤ q g)

-- h with the wants w is owed o before a slice and o₁ after it, and r runs
pub record SliceLaws (h : Host) (w : Wants) (o o₁ : Owed) (r : Option ℕ) : Type 0 where
  pub chosen : Chosen w (claim h w o) h.guests r
  -- who does not want is owed what it was
  pub asleep : (g : ℕ) → g < h.guests → w g ≡ false → o₁ g ≡ o g
  -- what is earned is what is paid
  pub balanced : int_sum_below h.guests o₁ ≡ int_sum_below h.guests o
