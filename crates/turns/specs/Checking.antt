-- What a text is refused by: the first that applies to the whole of it. Assumes nothing: these are definitions.
use Rattle.std.specs.Prelude.{◌≡◌, ℕ, ◌⊎◌, List, [], ◌∷◌, length, replicate, ℤ, pos, Some, None, Ok, Err, vec_items, Option, Result}
use Rattle.guests.specs.Faults.{shares_fault, wants_fault, owed_fault}
use Rattle.guests.specs.Guests.{host_in, total}
use Rattle.guests.specs.declared.faults.Fault.{Fault}
use Rattle.std.specs.Option.{option_map, option_or, unwrap_or}
use Rattle.turns.specs.declared.errors.Error.{Error}
use Rattle.turns.specs.declared.errors.Error.TheVariants.{Lists, Line, Memory}
use Rattle.turns.specs.declared.runs.Run.{Run}
use Rattle.turns.specs.declared.runs.Stretch.{Stretch}
use Rattle.turns.specs.declared.texts.Text.{Text}

-- of the wants of n guests, line after line
abbrev pub stretches_fault : ℕ → List Stretch → Option Fault
stretches_fault n [] = None
stretches_fault n (s ∷ ss) = option_or (wants_fault n (vec_items s.wants)) (stretches_fault n ss)

abbrev pub lists_fault : List ℕ → List Stretch → List ℤ → Option Fault
lists_fault ss stretches os =
    option_or (shares_fault ss) (option_or (stretches_fault (length ss) stretches) (owed_fault (length ss) (total (host_in ss)) os))

-- the owed line, or nothing for each of n guests
abbrev pub owed_given : ℕ → Option (List ℤ) → List ℤ
owed_given n owed = unwrap_or owed (replicate n (pos 0))

-- a fault of the lists first, and then a line that can't be read
abbrev pub first_error : Option Fault → Option ℕ → Option Error
first_error (Some fault) unreadable = Some (Lists fault)
first_error None unreadable = option_map Line unreadable

-- with no shares only the line applies
abbrev pub error_by : Option (List ℕ) → Option (List ℤ) → List Stretch → Option ℕ → Option Error
error_by None owed stretches unreadable = Some (Line (unwrap_or unreadable 0))
error_by (Some ss) owed stretches unreadable = first_error (lists_fault ss stretches (owed_given (length ss) owed)) unreadable

abbrev pub error_of : Text → Option Error
error_of t = error_by (option_map vec_items t.shares) (option_map vec_items t.owed) (vec_items t.stretches) t.unreadable

-- a text is refused by its error, unless memory fails, and one that has none runs
abbrev pub Checked : Text → Result Run Error → Type 0
Checked t (Ok run) =
    (error_of t ≡ None) × (t.shares ≡ Some run.shares) × (t.stretches ≡ run.stretches)
    × (vec_items run.owed ≡ owed_given (length (vec_items run.shares)) (option_map vec_items t.owed))
Checked t (Err e) = (e ≡ Memory) ⊎ (error_of t ≡ Some e)
