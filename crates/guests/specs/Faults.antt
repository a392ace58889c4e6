-- Which lent lists are refused, and by which fault: the checks in their order, the lowest guest first. Assumes nothing: these are definitions.
use Rattle.std.specs.Prelude.{◌≡◌, ℕ, ◌*◌, min, Bool, cond, not, ◌&&◌, List, length, ℤ, Some, None, Ok, Err, Option, Result, ◌==◌, nat_le, nat_lt, unsigned_abs}
use Rattle.std.specs.List.{position}
use Rattle.std.specs.Option.{option_map, option_or}
use Rattle.guests.specs.Guests.{host_in, owed_in, total, int_sum_below}
use Rattle.guests.specs.declared.faults.Fault.{Fault}
use Rattle.guests.specs.declared.faults.Fault.TheVariants.{NoGuests, TooManyGuests, ShareOutOfRange, WantsLength, WantAboveOne, OwedLength, OwedOutOfRange, OwedSumNotZero}

-- a check answers the fault if there is one, and else a value with the property P
abbrev pub Checks : {X : Type 0} → Option Fault → (X → Type 0) → Result X Fault → Type 0
Checks fault P (Ok x) = (fault ≡ None) × P x
Checks fault P (Err f) = fault ≡ Some f

abbrev pub fault_unless : Bool → Fault → Option Fault
fault_unless ok f = cond ok None (Some f)

-- the fault at the first entry that fails the test
abbrev pub first_failing : {X : Type 0} → (X → Bool) → (ℕ → Fault) → List X → Option Fault
first_failing ok at xs = option_map at (position (λ x. not (ok x)) xs)

abbrev pub share_ok : ℕ → Bool
share_ok s = nat_le 1 s && nat_le s 1000

-- 1 to 64 guests, shares 1 to 1,000
abbrev pub shares_fault : List ℕ → Option Fault
shares_fault ss =
    option_or (fault_unless (nat_lt 0 (length ss)) NoGuests)
    (option_or (fault_unless (nat_le (length ss) 64) TooManyGuests) (first_failing share_ok ShareOutOfRange ss))

abbrev pub want_ok : ℕ → Bool
want_ok w = nat_le w 1

-- a want for each of n guests, 0 or 1
abbrev pub wants_fault : ℕ → List ℕ → Option Fault
wants_fault n ws =
    option_or (fault_unless (length ws == n) (WantsLength (min (length ws) n))) (first_failing want_ok WantAboveOne ws)

abbrev pub amount_ok : ℕ → ℤ → Bool
amount_ok limit x = nat_lt (unsigned_abs x) limit

-- an amount for each of n guests with the shares s together, below s * n either way, and nothing all together
abbrev pub owed_fault : (n s : ℕ) → List ℤ → Option Fault
owed_fault n s os =
    option_or (fault_unless (length os == n) (OwedLength (min (length os) n)))
    (option_or (first_failing (amount_ok (s * n)) OwedOutOfRange os)
    (fault_unless (unsigned_abs (int_sum_below n (owed_in os)) == 0) OwedSumNotZero))

-- of a slice's three lists
abbrev pub fault : (shares wants : List ℕ) → (owed : List ℤ) → Option Fault
fault ss ws os =
    option_or (shares_fault ss) (option_or (wants_fault (length ss) ws) (owed_fault (length ss) (total (host_in ss)) os))
