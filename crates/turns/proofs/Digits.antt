-- Words of digits: that they are text, and that what `parse` makes of them is the number that they are read as.
use Rattle.std.proofs.Common.{◌≡◌, ℕ, ◌-◌, ◌^◌, ◌<◌, min, Bool, true, false, ◌&&◌, cond, List, [], ◌∷◌, length, Some, None, Option, Result, Ok, Err, MatchBool, refl, ap, ◌∙◌, arith}
use Rattle.std.proofs.lemmas.Bool.{and_parts, ltb-true}
use Rattle.std.proofs.lemmas.Str.{IsUtf8-from_ascii}
use Rattle.std.proofs.lemmas.Str.Ascii.{IsAscii-from_reads}
use Rattle.std.proofs.lemmas.Str.Parse.{IsNumeralModel, digit_at, numerals_by_value, parse_digits, tells_all_ascii_digits}
use Rattle.std.specs.Char.{is_ascii_digit}
use Rattle.std.specs.List.{list_all}
use Rattle.std.specs.Result.{result_unwrap_or}
use Rattle.std.specs.Str.{IsUtf8, all_ascii_digits}
use Rattle.std.specs.Str.Parse.{ExplainsUnsignedError, HasUnsignedDigitsIfOk, ParsesUnsigned, digits_value}
use Rattle.std.specs.declared.num.ParseIntError.{ParseIntError}
use Rattle.turns.specs.Numerals.{plain, up_to}

pub list_all-is_ascii_digit : (bs : List ℕ) → list_all is_ascii_digit bs ≡ all_ascii_digits bs
list_all-is_ascii_digit [] = refl
list_all-is_ascii_digit (b ∷ bs) = ap (λ t. is_ascii_digit b && t) (list_all-is_ascii_digit bs)

numerals : IsNumeralModel (λ ds. all_ascii_digits ds ≡ true) (digits_value 10)
numerals = numerals_by_value _ tells_all_ascii_digits

plain_parts : (bs : List ℕ) → plain bs ≡ true → (all_ascii_digits bs ≡ true) × (0 < length bs)
plain_parts bs h =
    let parts = and_parts _ _ (and_parts _ _ h).0 in
    (parts.0, ltb-true 0 (length bs) parts.1)

pub IsUtf8-from_plain : (bs : List ℕ) → plain bs ≡ true → IsUtf8 bs
IsUtf8-from_plain bs h =
    let digits = numerals.to bs (plain_parts bs h).0 in
    IsUtf8-from_ascii bs (IsAscii-from_reads bs (length bs) (omega arith) (λ k lt. omega (arith, digit_at bs k digits lt)))

parsed : {E : Type 0} (k : ℕ) (bs : List ℕ) (r : Result ℕ E) → plain bs ≡ true → ParsesUnsigned k 10 bs r → result_unwrap_or r (2 ^ k - 1) ≡ min (digits_value 10 bs) (2 ^ k - 1)
parsed {E = E} k bs (Ok n) h parses = omega (arith, parse_digits numerals {E = E} k bs (Ok n) parses (plain_parts bs h).0)
parsed {E = E} k bs (Err e) h parses =
    let parts = plain_parts bs h in
    let large : digits_value 10 bs < 2 ^ k → ⊥ = λ less. parse_digits numerals {E = E} k bs (Err e) parses parts.0 (parts.1, less) in
    omega (arith, large)

-- what a type of k bits reads of a text
abbrev Reads : ℕ → List ℕ → Result ℕ ParseIntError → Type 0
Reads k bs r = ParsesUnsigned k 10 bs r × ExplainsUnsignedError 10 bs r × HasUnsignedDigitsIfOk bs r

pub up_to_parsed : (k : ℕ) (bs : List ℕ) (n : Option ℕ) → MatchBool (plain bs) ((r : Result ℕ ParseIntError) × Reads k bs r × (n ≡ Some (result_unwrap_or r (2 ^ k - 1)))) (n ≡ None) → n ≡ up_to (2 ^ k - 1) bs
up_to_parsed k bs n =
    go (plain bs) refl
  where
    go : (b : Bool) → plain bs ≡ b → MatchBool b ((r : Result ℕ ParseIntError) × Reads k bs r × (n ≡ Some (result_unwrap_or r (2 ^ k - 1)))) (n ≡ None) → n ≡ cond b (Some (min (digits_value 10 bs) (2 ^ k - 1))) None
    go true h (r, reads, is) = is ∙ ap Some (parsed k bs r h reads.0)
    go false h none = none
