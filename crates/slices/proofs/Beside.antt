-- Shares, wants and what is owed, gone through side by side: what stands at each place.
use Rattle.std.proofs.Common.{◌≡◌, ℕ, ◌<◌, ◌≤◌, List, length, get_or, drop, ℤ, pos, None, inl, inr, ap, ◌∙◌, arith, length-drop}
use Rattle.std.proofs.iter.Yields.{fronts}
use Rattle.std.proofs.lemmas.Iterator.{YieldsList, YieldsList-from_slice, YieldsList-from_zip, zips}
use Rattle.std.proofs.lemmas.Iterator.Consumers.{YieldsList-from_enumerate}
use Rattle.std.proofs.lemmas.List.{get_or_read}
use Rattle.std.proofs.lemmas.List.FromFn.{get_or-enumerate_from, length-enumerate_from}
use Rattle.std.proofs.lemmas.Slice.Zip.{get_or-zip, length-zip}
use Rattle.std.specs.Iterator.Adapters.{zip_first, zip_second, enumerate_source, enumerate_count, enumerate_steps}
use Rattle.std.specs.List.{enumerate_from, zip}
use Rattle.std.specs.Slice.Iter.{iter_rest}
use Rattle.std.specs.declared.iter.Enumerate.{Enumerate}
use Rattle.std.specs.declared.iter.Zip.{Zip}
use Rattle.std.specs.declared.slice.Iter.{Iter}
use denote.Ref.{Bor}
use Rattle.slices.specs.Steps.{InReach}
use Rattle.slices.specs.declared.lists.Lists.{Lists}

abbrev pub SideBySide : Type 0
SideBySide = Enumerate (Zip (Zip (Iter ℕ) (Iter ℕ)) (Iter ℤ))

-- what is left of each list
abbrev pub shares_left : SideBySide → List ℕ
shares_left s = iter_rest (zip_first (zip_first (enumerate_source s)))

abbrev pub wants_left : SideBySide → List ℕ
wants_left s = iter_rest (zip_second (zip_first (enumerate_source s)))

abbrev pub owed_left : SideBySide → List ℤ
owed_left s = iter_rest (zip_second (enumerate_source s))

abbrev pub Beside : (ss ws : List ℕ) → (os : List ℤ) → SideBySide → Type 0
Beside ss ws os s =
    (shares_left s ≡ drop (enumerate_count s) ss) × (wants_left s ≡ drop (enumerate_count s) ws)
    × (owed_left s ≡ drop (enumerate_count s) os) × (enumerate_count s ≤ length ss)

-- lists of one length end together
pub beside_end : (ss ws : List ℕ) (os : List ℤ) (s t : SideBySide) → length ws ≡ length ss → length os ≡ length ss → Beside ss ws os s → zips (zips fronts fronts) fronts (enumerate_source s) None (enumerate_source t) → enumerate_count s ≡ length ss
beside_end ss ws os s t ew eo b p =
    let i = enumerate_count s in
    elim p [
      | inl q ↦ elim (q.1) [
        | inl r ↦ omega (arith, r.1.0, ap length b.0, length-drop i ss, b.3)
        | inr r ↦ omega (arith, r.1.0, ap length b.1, length-drop i ws, b.3)
      ]
      | inr r ↦ omega (arith, r.1.0, ap length b.2, length-drop i os, b.3)
    ]

abbrev pub read : ℕ × ((Bor ℕ × Bor ℕ) × Bor ℤ) → ℕ × ((ℕ × ℕ) × ℤ)
read p = (p.0, ((p.1.0.0.now, p.1.0.1.now), p.1.1.now))

abbrev pub beside : Lists → List ℤ → List (ℕ × ((ℕ × ℕ) × ℤ))
beside l os = enumerate_from 0 (zip (zip l.shares.now l.wants.now) os)

-- guest g has the share x, the want v and the amount y
pub record Stands (l : Lists) (os : List ℤ) (g x v : ℕ) (y : ℤ) : Type 0 where
  pub within : g < length l.shares.now
  pub share : x ≡ get_or l.shares.now g 0
  pub want : v ≡ get_or l.wants.now g 0
  pub owed : y ≡ get_or os g (pos 0)

module _ (l : Lists) (os : List ℤ) where
  pub gone_through : (s : SideBySide) → shares_left s ≡ l.shares.now → wants_left s ≡ l.wants.now → owed_left s ≡ os → enumerate_count s ≡ 0 → YieldsList (enumerate_steps (zips (zips fronts fronts) fronts)) read s (beside l os)
  gone_through s e f g h =
      YieldsList-from_enumerate {s = s} (YieldsList-from_zip (YieldsList-from_zip (YieldsList-from_slice l.shares.now e) (YieldsList-from_slice l.wants.now f)) (YieldsList-from_slice os g)) h

  module _ (r : InReach l os) where
    pub length-beside : length (beside l os) ≡ length l.shares.now
    length-beside =
        omega (arith, length-enumerate_from 0 (zip (zip l.shares.now l.wants.now) os), length-zip (zip l.shares.now l.wants.now) os, length-zip l.shares.now l.wants.now, l.wants_long, r.long)

    pub stands : (i g x v : ℕ) (y : ℤ) → (i < length (beside l os)) × ((g, ((x, v), y)) ≡ get_or (beside l os) i (g, ((x, v), y))) → (g ≡ i) × Stands l os i x v y
    stands i g x v y at =
        let ss = l.shares.now in
        let ws = l.wants.now in
        let h : i < length ss = omega (arith, at.0, length-beside) in
        let hw : i < length ws = omega (arith, l.wants_long) in
        let ho : i < length os = omega (arith, r.long) in
        let hs : i < length (zip ss ws) = omega (arith, length-zip ss ws) in
        let all = at.1 ∙ get_or-enumerate_from 0 (zip (zip ss ws) os) i (g, ((x, v), y)) (omega (arith, length-zip (zip ss ws) os)) in
        let three = ap (λ (p : ℕ × ((ℕ × ℕ) × ℤ)). p.1) all ∙ get_or-zip (zip ss ws) os i ((x, v), y) hs ho in
        let two = ap (λ (p : (ℕ × ℕ) × ℤ). p.0) three ∙ get_or-zip ss ws i (x, v) h hw in (
          omega (arith, ap (λ (p : ℕ × ((ℕ × ℕ) × ℤ)). p.0) all),
          record {
            within = h;
            share = get_or_read ss i x h (ap (λ (p : ℕ × ℕ). p.0) two) 0;
            want = get_or_read ws i v hw (ap (λ (p : ℕ × ℕ). p.1) two) 0;
            owed = get_or_read os i y ho (ap (λ (p : (ℕ × ℕ) × ℤ). p.1) three) (pos 0);
          },
        )
