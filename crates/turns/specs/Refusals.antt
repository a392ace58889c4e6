-- The number and the place that a text is refused by. Assumes nothing: these are definitions.
use Rattle.guests.specs.Numbers.{number_of, place_of}
use Rattle.guests.specs.declared.faults.Refusal.{Refusal}
use Rattle.std.specs.Prelude.{Some, None, Option}
use Rattle.turns.specs.declared.errors.Error.{Error}
use Rattle.turns.specs.declared.errors.Error.TheVariants.{Lists, Line, TooManyFiles, Memory, Input, Output}

abbrev pub refusal_of : Error → Option Refusal
refusal_of (Lists fault) = Some (record { number = number_of fault; place = place_of fault })
refusal_of (Line place) = Some (record { number = 4; place = place })
refusal_of TooManyFiles = None
refusal_of Memory = None
refusal_of (Input e) = None
refusal_of (Output e) = None
