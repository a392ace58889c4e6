-- The number and the place that each fault is refused by. Assumes nothing: these are definitions.
use Rattle.std.specs.Prelude.{ℕ}
use Rattle.guests.specs.declared.faults.Fault.{Fault}
use Rattle.guests.specs.declared.faults.Fault.TheVariants.{NoGuests, TooManyGuests, ShareOutOfRange, WantsLength, WantAboveOne, OwedLength, OwedOutOfRange, OwedSumNotZero}

abbrev pub number_of : Fault → ℕ
number_of NoGuests = 1
number_of TooManyGuests = 1
number_of (ShareOutOfRange g) = 1
number_of (WantsLength m) = 2
number_of (WantAboveOne g) = 2
number_of (OwedLength m) = 3
number_of (OwedOutOfRange g) = 3
number_of OwedSumNotZero = 3

abbrev pub place_of : Fault → ℕ
place_of NoGuests = 0
place_of TooManyGuests = 64
place_of (ShareOutOfRange g) = g
place_of (WantsLength m) = m
place_of (WantAboveOne g) = g
place_of (OwedLength m) = m
place_of (OwedOutOfRange g) = g
place_of OwedSumNotZero = 64
