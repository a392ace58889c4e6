use Rattle.std.proofs.Common.{rules, ◌≡◌, ℕ, zero, suc, ◌-◌, ◌<◌, List, [], ◌∷◌, length, get_or, slice_set, refl, ap, arith, vec_len}
use Rattle.turns.specs.Order.{with_slices}
use Rattle.turns.specs.declared.runs.Stretch.{Stretch}
use Rattle.turns.proofs.texts.Text.keep.Goals as goal

with_slices_last : (n : ℕ) (ss : List Stretch) (i : ℕ) (s : Stretch) → length ss ≡ suc i → s ≡ get_or ss i s → slice_set ss i (record { wants = s.wants; slices = n }) ≡ with_slices n ss
with_slices_last n [] i s last is = absurd (omega arith)
with_slices_last n (x ∷ []) zero s last is = ap (λ (t : Stretch). record { wants = t.wants; slices = n } ∷ []) is
with_slices_last n (x ∷ []) (suc i) s last is = absurd (omega arith)
with_slices_last n (x ∷ r ∷ ss) zero s last is = absurd (omega arith)
with_slices_last n (x ∷ r ∷ ss) (suc i) s last is = ap (λ t. x ∷ t) (with_slices_last n (r ∷ ss) i s (omega arith) is)

pub returns-in-Some-clause-keeps : goal.returns-in-Some-clause-keeps
returns-in-Some-clause-keeps c =
    let stretches = c.args.self.now.stretches in
    let s = c.in-Some.stretch.now in
    let some : 0 < vec_len stretches = search rules in
    let len : vec_len stretches ≡ length stretches.items = search rules in
    let is : s ≡ get_or stretches.items (vec_len stretches - 1) s = search rules in
    rw c.in-Slices.is (refl, refl, with_slices_last c.in-Slices.slices stretches.items (vec_len stretches - 1) s (omega (arith, some, len)) is)
