-- Slices one after the other: in slice t the guests want ws t, and o is owed before the first. Assumes nothing: these are definitions.
use Rattle.std.specs.Prelude.{ℕ, zero, suc, ◌+◌, cond, pos, Option}
use Rattle.guests.specs.Guests.{Host, Wants, Owed, sum_below}
use Rattle.bounds.specs.Rule.{earned, runner, is_runner, paid, after_slice}

abbrev pub nothing_owed : Owed
nothing_owed g = pos 0

-- what is owed before slice t, which is after the t before it
abbrev pub owed_at : Host → (ℕ → Wants) → Owed → ℕ → Owed
owed_at h ws o zero = o
owed_at h ws o (suc t) = after_slice h (ws t) (owed_at h ws o t)

-- who runs in slice t
abbrev pub runner_at : Host → (ℕ → Wants) → Owed → ℕ → Option ℕ
runner_at h ws o t = runner h (ws t) (owed_at h ws o t)

-- in how many of the k slices from slice a on guest g ran
abbrev pub ran : Host → (ℕ → Wants) → Owed → ℕ → (a k : ℕ) → ℕ
ran h ws o g a zero = 0
ran h ws o g a (suc k) = ran h ws o g a k + cond (is_runner (runner_at h ws o (a + k)) g) 1 0

-- what guest g earns, and what it pays for its turns, in those slices
abbrev pub earned_in : Host → (ℕ → Wants) → ℕ → (a k : ℕ) → ℕ
earned_in h ws g a k = sum_below k (λ t. earned h (ws (a + t)) g)

abbrev pub paid_in : Host → (ℕ → Wants) → Owed → ℕ → (a k : ℕ) → ℕ
paid_in h ws o g a k = sum_below k (λ t. paid h (ws (a + t)) (owed_at h ws o (a + t)) g)
