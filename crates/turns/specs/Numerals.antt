-- How a number is written, and which number a word stands for. Assumes nothing: these are definitions.
use Rattle.std.specs.Prelude.{ℕ, ◌-◌, ◌^◌, min, Bool, cond, not, ◌&&◌, List, length, drop, ℤ, pos, neg_ℤ, Some, None, Option, ◌==◌, nat_lt, slice_index}
use Rattle.std.specs.Option.{option_map}
use Rattle.std.specs.Str.Parse.{digits_value}
use Rattle.std.specs.Str.{all_ascii_digits}

-- the first byte is the digit 0
abbrev pub zero_first : List ℕ → Bool
zero_first bs = slice_index bs 0 == 48

-- digits, and no 0 before another
abbrev pub plain : List ℕ → Bool
plain bs = all_ascii_digits bs && nat_lt 0 (length bs) && not (nat_lt 1 (length bs) && zero_first bs)

-- the number that is written, or top where it is larger
abbrev pub up_to : ℕ → List ℕ → Option ℕ
up_to top bs = cond (plain bs) (Some (min (digits_value 10 bs) top)) None

-- the same below 0: the digits after a minus, and never -0
abbrev pub down_to : ℕ → List ℕ → Option ℤ
down_to top bs = cond (zero_first bs) None (option_map (λ n. neg_ℤ (pos n)) (up_to top bs))

-- a number of 64 bits with its sign
abbrev pub signed : List ℕ → Option ℤ
signed bs = cond (slice_index bs 0 == 45) (down_to (2 ^ 63) (drop 1 bs)) (option_map pos (up_to (2 ^ 63 - 1) bs))
