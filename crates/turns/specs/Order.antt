-- Which line may stand where, and what it leaves in the text. Assumes nothing: these are definitions.
use Rattle.std.specs.Prelude.{◌≡◌, ℕ, List, [], ◌∷◌, ◌++◌, Some, None, Option, vec_items}
use Rattle.std.specs.Option.{unwrap_or}
use Rattle.turns.specs.declared.lines.Line.{Line}
use Rattle.turns.specs.declared.lines.Line.TheVariants as line
use Rattle.turns.specs.declared.runs.Stretch.{Stretch}
use Rattle.turns.specs.declared.texts.Next.{Next}
use Rattle.turns.specs.declared.texts.Text.{Text}
use Rattle.turns.specs.declared.texts.Next.TheVariants.{Shares, OwedOrWants, Wants, Slices}

-- what may come after a line, where the line may come next
abbrev pub after : Next → Line → Option Next
after Shares l = elim l [ line.Shares _ ↦ Some OwedOrWants | line.Owed _ ↦ None | line.Wants _ ↦ None | line.Slices _ ↦ None ]
after OwedOrWants l = elim l [ line.Shares _ ↦ None | line.Owed _ ↦ Some Wants | line.Wants _ ↦ Some Slices | line.Slices _ ↦ None ]
after Wants l = elim l [ line.Shares _ ↦ None | line.Owed _ ↦ None | line.Wants _ ↦ Some Slices | line.Slices _ ↦ None ]
after Slices l = elim l [ line.Shares _ ↦ None | line.Owed _ ↦ None | line.Wants _ ↦ None | line.Slices _ ↦ Some Wants ]

-- the first line that can't be read or is out of its place, once one more is read
abbrev pub with_line : Option Next → ℕ → Option ℕ → Option ℕ
with_line None place unreadable = Some (unwrap_or unreadable place)
with_line (Some next) place unreadable = unreadable

-- what the lines that could be read say is the same
abbrev pub SameLists : Text → Text → Type 0
SameLists s t = (t.shares ≡ s.shares) × (t.owed ≡ s.owed) × (t.stretches ≡ s.stretches)

-- the last stretch gets its slices
abbrev pub with_slices : ℕ → List Stretch → List Stretch
with_slices n [] = []
with_slices n (s ∷ []) = record { wants = s.wants; slices = n } ∷ []
with_slices n (s ∷ r ∷ ss) = s ∷ with_slices n (r ∷ ss)

-- what a line adds to a text: a stretch has its wants first, and its slices once they are read
abbrev pub Keeps : Text → Line → Text → Type 0
Keeps s (line.Shares v) t = (t.shares ≡ Some v) × (t.owed ≡ s.owed) × (t.stretches ≡ s.stretches)
Keeps s (line.Owed v) t = (t.shares ≡ s.shares) × (t.owed ≡ Some v) × (t.stretches ≡ s.stretches)
Keeps s (line.Wants v) t = (t.shares ≡ s.shares) × (t.owed ≡ s.owed) × (vec_items t.stretches ≡ vec_items s.stretches ++ record { wants = v; slices = 0 } ∷ [])
Keeps s (line.Slices n) t = (t.shares ≡ s.shares) × (t.owed ≡ s.owed) × (vec_items t.stretches ≡ with_slices n (vec_items s.stretches))

-- the first line that can't be read, once there are no more than so many lines: shares and slices are then missing
abbrev pub at_end : Next → ℕ → Option ℕ → Option ℕ
at_end Shares lines unreadable = Some (unwrap_or unreadable lines)
at_end OwedOrWants lines unreadable = unreadable
at_end Wants lines unreadable = unreadable
at_end Slices lines unreadable = Some (unwrap_or unreadable lines)
