use Rattle.std.proofs.Common.{rules, ◌≡◌, ◌+◌, length, ℕ, ◌-◌, ◌==◌, [], ◌∷◌, ◌∙◌, ap, sym, take, drop}
use Rattle.std.proofs.lemmas.List.{take_rest}
use Rattle.turns.specs.Cuts.{pieces}
use Rattle.turns.proofs.Cutting.{cut_at, split_position}
use Rattle.turns.proofs.lines.PiecesIterator.next.Goals as goal

pub returns-in_default-clause-steps : goal.returns-in_default-clause-steps
returns-in_default-clause-steps c =
    let is_cut = λ (b : ℕ). b == c.args.self.now.cut in
    let rest = c.in_ok-rest.rest.now in
    let first : pieces c.args.self.now.cut rest ≡ rest ∷ [] = split_position is_cut rest ∙ ap (cut_at is_cut rest) (sym c.place_of.ensures ∙ c.in_default.is) in
    search (rules, first)

pub returns-clause-steps : goal.returns-clause-steps
returns-clause-steps c =
    let cut = c.args.self.now.cut in
    let is_cut = λ (b : ℕ). b == cut in
    let rest = c.in_ok-rest.rest.now in
    let end = c.in-Some.end in
    let first : pieces cut rest ≡ take end rest ∷ pieces cut (take (length rest - (end + 1)) (drop (end + 1) rest)) =
    rw take_rest (split_position is_cut rest ∙ ap (cut_at is_cut rest) (sym c.place_of.ensures ∙ c.in-Some.is)) in
    search (rules, first)
