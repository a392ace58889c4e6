-- A host and its guests, who wants to run, and sums over the guests. Assumes nothing: these are definitions.
use Rattle.std.specs.Prelude.{◌≡◌, ℕ, zero, suc, ◌+◌, ◌<◌, ◌≤◌, Bool, List, map, length, ℤ, pos, ◌+ℤ◌, ◌==◌, nat_eq, slice_index, slice_index_or}
use Rattle.std.specs.Simd.Lanes.{mask_l}

-- so many guests, numbered from 0, each with a share of the host
pub record Host : Type 0 where
  pub guests : ℕ
  pub share : ℕ → ℕ

-- 1 to 64 guests, each with a share from 1 to 1,000
pub record Valid (h : Host) : Type 0 where
  pub some : 1 ≤ h.guests
  pub few : h.guests ≤ 64
  pub share_least : (g : ℕ) → g < h.guests → 1 ≤ h.share g
  pub share_most : (g : ℕ) → g < h.guests → h.share g ≤ 1000

-- who wants to run in a slice
abbrev pub Wants : Type 0
Wants = ℕ → Bool

-- what each guest is owed: service due less service had, counted in shares
abbrev pub Owed : Type 0
Owed = ℕ → ℤ

-- each of n guests is owed the same
abbrev pub Agree : ℕ → Owed → Owed → Type 0
Agree n o p = (g : ℕ) → g < n → o g ≡ p g

-- f 0 + .. + f (n - 1)
abbrev pub sum_below : ℕ → (ℕ → ℕ) → ℕ
sum_below zero f = 0
sum_below (suc n) f = sum_below n f + f n

abbrev pub int_sum_below : ℕ → (ℕ → ℤ) → ℤ
int_sum_below zero f = pos 0
int_sum_below (suc n) f = int_sum_below n f +ℤ f n

-- all shares together
abbrev pub total : Host → ℕ
total h = sum_below h.guests h.share

-- what lent lists say
abbrev pub host_in : List ℕ → Host
host_in ss = record { guests = length ss; share = λ g. slice_index ss g }

abbrev pub wants_in : List ℕ → Wants
wants_in ws g = slice_index ws g == 1

abbrev pub owed_in : List ℤ → Owed
owed_in os g = slice_index_or os g (pos 0)

-- bit g is set where guest g wants to run
abbrev pub wants_bits : List ℕ → ℕ
wants_bits ws = mask_l (map (λ w. nat_eq w 1) ws)
