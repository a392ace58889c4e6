-- A slice looks at the guests that there are, and at nothing past them: where what is owed agrees there, so do the runner and what is owed after it.
use Rattle.std.proofs.Common.{◌≡◌, ℕ, zero, suc, cond, ◌&&◌, pos, ◌+ℤ◌, ◌-ℤ◌, Some, None, Option, refl, ap, ◌∙◌, arith}
use lib.Signed.{lt_z}
use Rattle.guests.specs.Guests.{Agree, Host, Wants, Owed}
use Rattle.bounds.specs.Laws.{Chosen}
use Rattle.bounds.specs.Rule.{earned, wanting, claim, beats, runner_below, runner, is_runner, paid, after_slice}
use Rattle.bounds.proofs.Runner.{Chosen-runner_below}

module _ (w : Wants) (q r : Owed) where
  beats-Agree : (n : ℕ) → Agree (suc n) q r → (best : Option ℕ) → Chosen w q n best → beats q n best ≡ beats r n best
  beats-Agree n same None c = refl
  beats-Agree n same (Some g) c =
      ap (λ a. lt_z a (q n)) (same g (omega (arith, c.0))) ∙ ap (λ b. lt_z (r g) b) (same n (omega arith))

  runner_below-Agree : (n : ℕ) → Agree n q r → runner_below w q n ≡ runner_below w r n
  runner_below-Agree zero same = refl
  runner_below-Agree (suc n) same =
      let before = runner_below-Agree n (λ g h. same g (omega arith)) in
      ap (λ b. cond (w n && b) (Some n) (runner_below w q n)) (beats-Agree n same (runner_below w q n) (Chosen-runner_below w q n))
      ∙ ap (λ x. cond (w n && beats r n x) (Some n) x) before

module _ (h : Host) (w : Wants) (o p : Owed) (same : Agree h.guests o p) where
  claim-Agree : Agree h.guests (claim h w o) (claim h w p)
  claim-Agree g b = ap (λ a. a +ℤ pos (earned h w g)) (same g b)

  pub runner-Agree : runner h w o ≡ runner h w p
  runner-Agree = runner_below-Agree w (claim h w o) (claim h w p) h.guests claim-Agree

  pub after_slice-Agree : Agree h.guests (after_slice h w o) (after_slice h w p)
  after_slice-Agree g b =
      ap (λ a. a -ℤ pos (paid h w o g)) (claim-Agree g b)
      ∙ ap (λ x. claim h w p g -ℤ pos (cond (is_runner x g) (wanting h w) 0)) runner-Agree
