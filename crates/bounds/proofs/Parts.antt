-- Slices asked for in parts are the same slices; so what is owed after slices from nothing, and then more of them, is owed after slices from nothing.
use Rattle.std.proofs.Common.{◌≡◌, ℕ, zero, suc, ◌+◌, ◌<◌, cond, ltb, refl, ap, ◌∙◌, add-zero, add-suc, arith}
use Rattle.std.proofs.lemmas.Bool.{le-ltb, lt-ltb}
use Rattle.guests.specs.Guests.{Agree, Host, Wants, Owed}
use Rattle.bounds.specs.Promises.{InParts}
use Rattle.bounds.specs.Rule.{runner, after_slice}
use Rattle.bounds.specs.Runs.{nothing_owed, owed_at}
use Rattle.bounds.proofs.Agree.{after_slice-Agree}

-- ws in the first a slices, and then w
abbrev pub and_then : (ℕ → Wants) → ℕ → Wants → ℕ → Wants
and_then ws a w u = cond (ltb u a) (ws u) w

module _ (h : Host) where
  owed_at_in_parts : (ws : ℕ → Wants) (o : Owed) (a k : ℕ) → owed_at h ws o (a + k) ≡ owed_at h (λ u. ws (a + u)) (owed_at h ws o a) k
  owed_at_in_parts ws o a zero = ap (owed_at h ws o) (add-zero a)
  owed_at_in_parts ws o a (suc k) = ap (owed_at h ws o) (add-suc a k) ∙ ap (after_slice h (ws (a + k))) (owed_at_in_parts ws o a k)

  owed_at_same : (ws vs : ℕ → Wants) (o : Owed) (k : ℕ) → ((u : ℕ) → u < k → ws u ≡ vs u) → owed_at h ws o k ≡ owed_at h vs o k
  owed_at_same ws vs o zero same = refl
  owed_at_same ws vs o (suc k) same =
      ap (λ w. after_slice h w (owed_at h ws o k)) (same k (omega arith))
      ∙ ap (after_slice h (vs k)) (owed_at_same ws vs o k (λ u b. same u (omega arith)))

  owed_at-Agree : (ws : ℕ → Wants) (o p : Owed) (k : ℕ) → Agree h.guests o p → Agree h.guests (owed_at h ws o k) (owed_at h ws p k)
  owed_at-Agree ws o p zero same = same
  owed_at-Agree ws o p (suc k) same = after_slice-Agree h (ws k) _ _ (owed_at-Agree ws o p k same)

  pub owed_at-and_then : (ws : ℕ → Wants) (a : ℕ) (w : Wants) (o : Owed) (k : ℕ) → Agree h.guests o (owed_at h ws nothing_owed a) → Agree h.guests (owed_at h (λ _. w) o k) (owed_at h (and_then ws a w) nothing_owed (a + k))
  owed_at-and_then ws a w o k reached g b =
      let vs = and_then ws a w in
      let first : owed_at h ws nothing_owed a ≡ owed_at h vs nothing_owed a = owed_at_same ws vs nothing_owed a (λ u c. rw (lt-ltb u a c)) in
      let then : owed_at h (λ _. w) (owed_at h vs nothing_owed a) k ≡ owed_at h vs nothing_owed (a + k) = rw (owed_at_in_parts vs nothing_owed a k) (owed_at_same (λ _. w) (λ u. vs (a + u)) (owed_at h vs nothing_owed a) k (λ u c. rw (le-ltb (a + u) a (omega arith)))) in
      owed_at-Agree (λ _. w) o _ k reached g b ∙ ap (λ (p : Owed). owed_at h (λ _. w) p k g) first ∙ ap (λ (p : Owed). p g) then

pub in_parts : InParts
unfolding InParts
in_parts h ws o a k = (owed_at_in_parts h ws o a k, ap (runner h (ws (a + k))) (owed_at_in_parts h ws o a k))
