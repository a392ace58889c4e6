-- A run that is written out as a table, with the same wants in every slice, is the run of the rule: each row is computed from the row before.
use Rattle.std.proofs.Common.{◌≡◌, ℕ, zero, suc, ◌<◌, List, [], ◌∷◌, map, length, get_or, ℤ, pos, Some, sym, refl, ap, ◌∙◌, arith}
use Rattle.std.proofs.lemmas.List.FromFn.{get_or-map-range_with_len}
use Rattle.std.specs.List.{range_with_len}
use Rattle.guests.specs.Guests.{Agree, Host, Wants, Owed, owed_in}
use Rattle.bounds.specs.Rule.{runner, after_slice}
use Rattle.bounds.specs.Runs.{owed_at, runner_at}
use Rattle.bounds.proofs.Agree.{runner-Agree, after_slice-Agree}

-- who runs in a slice, and what is owed after it
pub record Row : Type 0 where
  pub runs : ℕ
  pub after : List ℤ

module _ (h : Host) (w : Wants) where
  -- the first slice of a run, and the rest
  owed_at-suc : (o : Owed) (t : ℕ) → owed_at h (λ _. w) o (suc t) ≡ owed_at h (λ _. w) (after_slice h w o) t
  owed_at-suc o zero = refl
  owed_at-suc o (suc t) = ap (after_slice h w) (owed_at-suc o t)

  abbrev after_list : List ℤ → List ℤ
  after_list os = map (after_slice h w (owed_in os)) (range_with_len 0 h.guests)

  abbrev pub Along : List ℤ → List Row → Type 0
  Along os [] = Unit {0}
  Along os (row ∷ rows) =
      (runner h w (owed_in os) ≡ Some row.runs) × (after_list os ≡ row.after) × Along row.after rows

  abbrev pub last_after : List ℤ → List Row → List ℤ
  last_after os [] = os
  last_after os (row ∷ rows) = last_after row.after rows

  after_list_is : (os : List ℤ) → Agree h.guests (after_slice h w (owed_in os)) (owed_in (after_list os))
  after_list_is os g b = sym (get_or-map-range_with_len (after_slice h w (owed_in os)) 0 h.guests g g (pos 0) b (omega arith))

  row_agree : (os : List ℤ) (row : Row) (o : Owed) → after_list os ≡ row.after → Agree h.guests o (owed_in os) → Agree h.guests (after_slice h w o) (owed_in row.after)
  row_agree os row o e same g b =
      after_slice-Agree h w o (owed_in os) same g b ∙ after_list_is os g b ∙ ap (λ l. owed_in l g) e

  pub along_runs : (os : List ℤ) (rows : List Row) (o : Owed) → Agree h.guests o (owed_in os) → Along os rows → (t : ℕ) → t < length rows → runner_at h (λ _. w) o t ≡ Some (get_or (map (λ row. row.runs) rows) t 0)
  along_runs os [] o same along t b = absurd (omega arith)
  along_runs os (row ∷ rows) o same along zero b = runner-Agree h w o (owed_in os) same ∙ along.0
  along_runs os (row ∷ rows) o same along (suc t) b =
      ap (runner h w) (owed_at-suc o t)
      ∙ along_runs row.after rows (after_slice h w o) (row_agree os row o along.1 same) along.2 t (omega arith)

  pub along_owed : (os : List ℤ) (rows : List Row) (o : Owed) → Agree h.guests o (owed_in os) → Along os rows → Agree h.guests (owed_at h (λ _. w) o (length rows)) (owed_in (last_after os rows))
  along_owed os [] o same along g b = same g b
  along_owed os (row ∷ rows) o same along g b =
      ap (λ (p : Owed). p g) (owed_at-suc o (length rows))
      ∙ along_owed row.after rows (after_slice h w o) (row_agree os row o along.1 same) along.2 g b
