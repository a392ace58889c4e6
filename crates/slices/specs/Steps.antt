-- What the steps of `slice` and `stretch` promise each other; their own contracts name none of these. Assumes nothing: these are definitions.
use Rattle.std.specs.Prelude.{◌≡◌, ℕ, ◌<◌, ◌≤◌, cond, List, length, ℤ, Some, None, Option, int_lt, unsigned_abs}
use Rattle.guests.specs.Guests.{Host, Wants, Owed, host_in, wants_in, owed_in}
use Rattle.guests.specs.Faults.{fault}
use Rattle.bounds.specs.Rule.{runner, wanting}
use Rattle.slices.specs.declared.lists.Candidate.{Candidate}
use Rattle.slices.specs.declared.lists.Lists.{Lists}
use Rattle.slices.specs.declared.lists.Turn.{Turn}

abbrev pub host_of : Lists → Host
host_of l = host_in l.shares.now

abbrev pub wants_of : Lists → Wants
wants_of l = wants_in l.wants.now

-- an amount for each guest, as far as any run can take it from amounts that are not refused
pub record InReach (l : Lists) (os : List ℤ) : Type 0 where
  pub long : length os ≡ length l.shares.now
  pub most : (g : ℕ) → g < length l.shares.now → unsigned_abs (owed_in os g) ≤ 8192000

-- lists that are not refused
pub record Accepted (l : Lists) (os : List ℤ) : Type 0 where
  pub no_fault : fault l.shares.now l.wants.now os ≡ None
  pub reach : InReach l os

-- a guest takes the turn from the best so far only by a greater claim
abbrev pub better : Option Candidate → Candidate → Candidate
better None c = c
better (Some b) c = cond (int_lt b.claim c.claim) c b

-- the turn that the rule gives
abbrev pub Decides : Lists → Owed → Turn → Type 0
Decides l o t =
    (runner (host_of l) (wants_of l) o ≡ Some t.runner) × (t.cost ≡ wanting (host_of l) (wants_of l))
