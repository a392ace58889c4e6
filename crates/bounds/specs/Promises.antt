-- What is promised of every run of slices, whatever each guest wants in each slice. Each promise is a statement, and `Kept` says that all of them are proved. Assumes nothing: these are definitions.
use Rattle.std.specs.Prelude.{◌≡◌, ℕ, zero, suc, ◌+◌, ◌-◌, ◌*◌, ◌<◌, ◌≤◌, max, Bool, true, false, cond, List, length, ℤ, pos, neg_ℤ, ◌<ℤ◌, None, nat_le, nat_lt, unsigned_abs}
use Rattle.std.specs.Option.{option_map}
use Rattle.guests.specs.Faults.{shares_fault, owed_fault}
use Rattle.guests.specs.Guests.{Agree, Host, Wants, Owed, Valid, host_in, owed_in, total, sum_below, int_sum_below}
use Rattle.bounds.specs.Rule.{wanting}
use Rattle.bounds.specs.Runs.{nothing_owed, owed_at, runner_at, ran, earned_in, paid_in}

-- the greatest of f 0 .. f (n - 1)
abbrev pub greatest_below : ℕ → (ℕ → ℕ) → ℕ
greatest_below zero f = 0
greatest_below (suc n) f = max (greatest_below n f) (f n)

-- the most that two different ones of f 0 .. f (n - 1) come to: the last is one of the two, or it is not; of one alone, that one
abbrev pub two_greatest_below : ℕ → (ℕ → ℕ) → ℕ
two_greatest_below zero f = 0
two_greatest_below (suc n) f = max (two_greatest_below n f) (greatest_below n f + f n)

-- the number of the contract: the two largest shares together, for each guest but one
abbrev pub bound : Host → ℕ
bound h = (h.guests - 1) * two_greatest_below h.guests h.share

-- x and y are no further apart than m
abbrev pub Within : (m x y : ℕ) → Type 0
Within m x y = (x ≤ y + m) × (y ≤ x + m)

-- all through the k slices from slice a on guest g wants, or does not
abbrev pub Awake : (ℕ → Wants) → (g a k : ℕ) → Type 0
Awake ws g a k = (t : ℕ) → a ≤ t → t < a + k → ws t g ≡ true

abbrev pub Asleep : (ℕ → Wants) → (g a k : ℕ) → Type 0
Asleep ws g a k = (t : ℕ) → a ≤ t → t < a + k → ws t g ≡ false

-- in each of them each of n guests wants what it wants in w
abbrev pub Steady : (ℕ → Wants) → Wants → (n a k : ℕ) → Type 0
Steady ws w n a k = (t g : ℕ) → a ≤ t → t < a + k → g < n → ws t g ≡ w g

-- in every slice each of n guests wants
abbrev pub AllAwake : (ℕ → Wants) → (n : ℕ) → Type 0
AllAwake ws n = (t g : ℕ) → g < n → ws t g ≡ true

-- What is owed comes to nothing, all together, after every slice.
unfoldable pub ComesToNothing : Type 0
ComesToNothing =
    (h : Host) (ws : ℕ → Wants) (t : ℕ) → int_sum_below h.guests (owed_at h ws nothing_owed t) ≡ pos 0

-- HOW MUCH. Twice what any k guests are owed, or owe, together is at most k times the number of the others times the two largest shares together.
unfoldable pub BoundedTogether : Type 0
BoundedTogether =
    (h : Host) (ws : ℕ → Wants) (t : ℕ) (A : ℕ → Bool) → let k = sum_below h.guests (λ g. cond (A g) 1 0) in
    2 * unsigned_abs (int_sum_below h.guests (λ g. cond (A g) (owed_at h ws nothing_owed t g) (pos 0))) ≤ k * (h.guests - k) * two_greatest_below h.guests h.share

-- So twice what anybody is owed, or owes, is at most the bound.
unfoldable pub Bounded : Type 0
Bounded =
    (h : Host) (ws : ℕ → Wants) (t g : ℕ) → g < h.guests → 2 * unsigned_abs (owed_at h ws nothing_owed t g) ≤ bound h

-- so it is never as much as all shares together times how many guests there are
unfoldable pub BelowTheLimit : Type 0
BelowTheLimit =
    (h : Host) (ws : ℕ → Wants) (t g : ℕ) → Valid h → g < h.guests → unsigned_abs (owed_at h ws nothing_owed t g) < total h * h.guests

-- n guests with the same share s
abbrev pub equal_shares : (n s : ℕ) → Host
equal_shares n s = record { guests = n; share = λ g. s }

-- guest g wants in the first g + 1 slices and then sleeps: in slice t all want but the lowest t
abbrev pub one_less_each_time : ℕ → Wants
one_less_each_time t g = nat_le t g

-- With equal shares the bound is reached, for every number of guests: after as many slices as there are guests but one, the last guest is owed half of it, and the first owes as much.
unfoldable pub Attained : Type 0
Attained =
    (n s : ℕ) → let o = owed_at (equal_shares (suc n) s) one_less_each_time nothing_owed n in
    (o n ≡ pos (n * s)) × (o 0 ≡ neg_ℤ (pos (n * s))) × (bound (equal_shares (suc n) s) ≡ 2 * (n * s))

-- HOW FAR OFF. In any stretch, whatever anybody wants in each slice of it, what a guest earns and what it pays for its turns are within the bound.
unfoldable pub Served : Type 0
Served =
    (h : Host) (ws : ℕ → Wants) (g a k : ℕ) → g < h.guests → Within (bound h) (earned_in h ws g a k) (paid_in h ws nothing_owed g a k)

-- So a guest that wants all through a stretch in which the others want the same in each slice gets its share of it: so many slices times its share, and how often it ran times the shares of those who want, are within the bound.
unfoldable pub ItsShare : Type 0
ItsShare =
    (h : Host) (ws : ℕ → Wants) (w : Wants) (g a k : ℕ) → g < h.guests → w g ≡ true → Steady ws w h.guests a k → Within (bound h) (k * h.share g) (ran h ws nothing_owed g a k * wanting h w)

-- and so within twice all shares together times how many guests there are
unfoldable pub ItsShareToTheLimit : Type 0
ItsShareToTheLimit =
    (h : Host) (ws : ℕ → Wants) (w : Wants) (g a k : ℕ) → Valid h → g < h.guests → w g ≡ true → Steady ws w h.guests a k → Within (2 * (h.guests * total h)) (k * h.share g) (ran h ws nothing_owed g a k * wanting h w)

-- HOW LONG. A guest that wants all through k slices runs in one of them, whatever the others want, as soon as k times its share is above the bound.
unfoldable pub Waits : Type 0
Waits =
    (h : Host) (ws : ℕ → Wants) (g a k : ℕ) → g < h.guests → Awake ws g a k → bound h < k * h.share g → 1 ≤ ran h ws nothing_owed g a k

-- and so in as many slices as twice all shares together times how many guests there are
unfoldable pub WaitsToTheLimit : Type 0
WaitsToTheLimit =
    (h : Host) (ws : ℕ → Wants) (g a k : ℕ) → Valid h → g < h.guests → Awake ws g a k → 2 * (h.guests * total h) ≤ k → 1 ≤ ran h ws nothing_owed g a k

-- ALL THE WHILE. Where all want in every slice nobody is owed more than all shares together times 1/2 + 1/3 + .. + 1/n. Without fractions: times e 2 + .. + e n, over d, for whatever e i that is at least one i-th of d.
unfoldable pub Harmonic : Type 0
Harmonic =
    (h : Host) (ws : ℕ → Wants) (t g : ℕ) → g < h.guests → AllAwake ws h.guests → (d : ℕ) (e : ℕ → ℕ) → ((i : ℕ) → 2 ≤ i → i ≤ h.guests → d ≤ i * e i) → (x : ℕ) → owed_at h ws nothing_owed t g ≡ pos x → d * x ≤ total h * sum_below (h.guests - 1) (λ i. e (2 + i))

-- so nobody is owed four times all shares together; and nobody owes them once
unfoldable pub AllTheWhile : Type 0
AllTheWhile =
    (h : Host) (ws : ℕ → Wants) (t g : ℕ) → Valid h → g < h.guests → AllAwake ws h.guests → (owed_at h ws nothing_owed t g <ℤ pos (4 * total h)) × (neg_ℤ (pos (total h)) <ℤ owed_at h ws nothing_owed t g)

-- Who sleeps is owed afterwards what it was owed before.
unfoldable pub SleepsFree : Type 0
SleepsFree =
    (h : Host) (ws : ℕ → Wants) (o : Owed) (g a k : ℕ) → Asleep ws g a k → owed_at h ws o (a + k) g ≡ owed_at h ws o a g

-- guest k of the host without g, by its number in the host with g: those past g are one further
abbrev pub past : ℕ → ℕ → ℕ
past g k = cond (nat_lt k g) k (suc k)

abbrev pub without : ℕ → Host → Host
without g h = record { guests = h.guests - 1; share = λ k. h.share (past g k) }

-- NOBODY NOTICES. A guest that never wants could as well not be there: the others run in the same slices.
unfoldable pub Unnoticed : Type 0
Unnoticed =
    (h : Host) (ws : ℕ → Wants) (g t : ℕ) → g < h.guests → ((u : ℕ) → ws u g ≡ false) → runner_at h ws nothing_owed t ≡ option_map (past g) (runner_at (without g h) (λ u k. ws u (past g k)) nothing_owed t)

-- So it is of one that sleeps through a stretch: the others' turns in it are those of the host without it, from what they are owed as the stretch begins.
unfoldable pub UnnoticedAsleep : Type 0
UnnoticedAsleep =
    (h : Host) (ws : ℕ → Wants) (o : Owed) (g a k t : ℕ) → g < h.guests → Asleep ws g a k → t < k → runner_at h ws o (a + t) ≡ option_map (past g) (runner_at (without g h) (λ u j. ws (a + u) (past g j)) (λ j. owed_at h ws o a (past g j)) t)

-- Slices that are asked for in two parts are the same slices: the second part goes on from what is owed after the first.
unfoldable pub InParts : Type 0
InParts =
    (h : Host) (ws : ℕ → Wants) (o : Owed) (a k : ℕ) → (owed_at h ws o (a + k) ≡ owed_at h (λ u. ws (a + u)) (owed_at h ws o a) k) × (runner_at h ws o (a + k) ≡ runner_at h (λ u. ws (a + u)) (owed_at h ws o a) k)

-- What comes of slices from nothing owed is never refused as an amount.
unfoldable pub NeverRefused : Type 0
NeverRefused =
    (ss : List ℕ) (ws : ℕ → Wants) (t : ℕ) (os : List ℤ) → shares_fault ss ≡ None → length os ≡ length ss → Agree (length ss) (owed_in os) (owed_at (host_in ss) ws nothing_owed t) → owed_fault (length ss) (total (host_in ss)) os ≡ None

-- all of them
pub record Kept : Type 0 where
  pub comes_to_nothing : ComesToNothing
  pub bounded_together : BoundedTogether
  pub bounded : Bounded
  pub below_the_limit : BelowTheLimit
  pub attained : Attained
  pub served : Served
  pub its_share : ItsShare
  pub its_share_to_the_limit : ItsShareToTheLimit
  pub waits : Waits
  pub waits_to_the_limit : WaitsToTheLimit
  pub harmonic : Harmonic
  pub all_the_while : AllTheWhile
  pub sleeps_free : SleepsFree
  pub unnoticed : Unnoticed
  pub unnoticed_asleep : UnnoticedAsleep
  pub in_parts : InParts
  pub never_refused : NeverRefused
