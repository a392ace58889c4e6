-- What stands between the bytes at which a text is cut. Assumes nothing: these are definitions.
use Rattle.std.specs.Prelude.{◌≡◌, ℕ, cond, List, [], ◌∷◌, length, take, Option, MatchOption, ◌==◌, slice_index}
use Rattle.std.specs.Borrow.{Bor}
use Rattle.std.specs.List.{slice_split}
use Rattle.std.specs.Option.{option_map, unwrap_or}
use Rattle.turns.specs.declared.lines.Pieces.{Pieces}

-- at each byte c: one piece more than there are such bytes
abbrev pub pieces : ℕ → List ℕ → List (List ℕ)
pieces c bs = slice_split (λ b. b == c) bs

-- a newline ends each line, and the last may lack it
abbrev pub lines_of : List ℕ → List (List ℕ)
lines_of [] = []
lines_of (b ∷ bs) = pieces 10 (cond (slice_index (b ∷ bs) (length bs) == 10) (take (length bs) (b ∷ bs)) (b ∷ bs))

abbrev pub to_come : Pieces → List (List ℕ)
to_come s = unwrap_or (option_map (λ t. pieces s.cut t.now) s.rest) []

-- a call of `next`
abbrev pub Cut : Pieces → Option (Bor (List ℕ)) → Pieces → Type 0
Cut s r t = MatchOption r (to_come s ≡ []) (λ x. to_come s ≡ x.now ∷ to_come t)
