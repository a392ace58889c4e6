-- The rule of one slice: each who wants earns its share; of those the one who is then owed most runs, and pays the shares of all who want. Assumes nothing: these are definitions.
use Rattle.std.specs.Prelude.{ℕ, zero, suc, Bool, true, false, cond, ◌&&◌, pos, ◌+ℤ◌, ◌-ℤ◌, Some, None, Option, ◌==◌, int_lt}
use Rattle.guests.specs.Guests.{Host, Wants, Owed, sum_below}

-- what a guest earns in a slice: who does not want earns nothing
abbrev pub earned : Host → Wants → ℕ → ℕ
earned h w g = cond (w g) (h.share g) 0

-- the shares of all who want
abbrev pub wanting : Host → Wants → ℕ
wanting h w = sum_below h.guests (earned h w)

-- what each is owed once it has earned, before anybody has run
abbrev pub claim : Host → Wants → Owed → Owed
claim h w o g = o g +ℤ pos (earned h w g)

-- guest n takes the turn from the runner so far: only with a greater claim, so that of equals the lowest keeps it
abbrev pub beats : Owed → ℕ → Option ℕ → Bool
beats q n None = true
beats q n (Some g) = int_lt (q g) (q n)

-- who runs, of the guests below n with the claims q
abbrev pub runner_below : Wants → Owed → ℕ → Option ℕ
runner_below w q zero = None
runner_below w q (suc n) = cond (w n && beats q n (runner_below w q n)) (Some n) (runner_below w q n)

abbrev pub runner : Host → Wants → Owed → Option ℕ
runner h w o = runner_below w (claim h w o) h.guests

abbrev pub is_runner : Option ℕ → ℕ → Bool
is_runner None g = false
is_runner (Some r) g = g == r

-- the runner pays for all who want
abbrev pub paid : Host → Wants → Owed → ℕ → ℕ
paid h w o g = cond (is_runner (runner h w o) g) (wanting h w) 0

abbrev pub after_slice : Host → Wants → Owed → Owed
after_slice h w o g = claim h w o g -ℤ pos (paid h w o g)
