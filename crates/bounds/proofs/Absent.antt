-- A guest that does not want could as well not be there: without it the others run in the same slices and are owed the same.
use Rattle.std.proofs.Common.{◌≡◌, ℕ, zero, suc, ◌+◌, ◌-◌, ◌<◌, ◌≤◌, Bool, false, cond, ◌&&◌, Some, None, Option, refl, ap, ◌∙◌, add-zero, add-suc, zero-add, arith}
use Rattle.std.proofs.lemmas.Bool.Decides.{nat_tests}
use Rattle.std.specs.Option.{option_map}
use Rattle.guests.specs.Guests.{Agree, Host, Wants, Owed, sum_below}
use Rattle.bounds.specs.Promises.{Asleep, past, without, Unnoticed, UnnoticedAsleep}
use Rattle.bounds.specs.Rule.{earned, wanting, claim, beats, runner_below, runner, is_runner, after_slice}
use Rattle.bounds.specs.Runs.{nothing_owed, owed_at}
use Rattle.bounds.proofs.Agree.{runner-Agree, after_slice-Agree}
use Rattle.bounds.proofs.Earning.{earned_asleep}

-- f by the numbers of the host without g
abbrev others : {X : Type 0} → ℕ → (ℕ → X) → ℕ → X
others g f k = f (past g k)

-- f goes through the guests, and e through those without g: g leaves f as it is, and each other keeps it m of e
module _ {X Y : Type 0} (f : ℕ → X) (e : ℕ → Y) (m : Y → X) (g : ℕ) (still : f (suc g) ≡ f g) (start : f zero ≡ m (e zero)) (step : (n : ℕ) → f (past g n) ≡ m (e n) → f (suc (past g n)) ≡ m (e (suc n))) where
  fold-past : (n : ℕ) → f (past g n) ≡ m (e n)
  fold-past zero = grind (arith, nat_tests)
  fold-past (suc n) = let more = step n (fold-past n) in grind (arith, nat_tests)

  fold_without : (n : ℕ) → g < n → f n ≡ m (e (n - 1))
  fold_without n b = let all = fold-past (n - 1) in grind (arith, nat_tests)

module _ (g : ℕ) where
  is_runner-past : (r : Option ℕ) (k : ℕ) → is_runner (option_map (past g) r) (past g k) ≡ is_runner r k
  is_runner-past None k = refl
  is_runner-past (Some j) k = grind (arith, nat_tests)

  turn_past : (b : Bool) (q : Owed) (n : ℕ) (r : Option ℕ) → cond (b && beats q (past g n) (option_map (past g) r)) (Some (past g n)) (option_map (past g) r) ≡ option_map (past g) (cond (b && beats (others g q) n r) (Some n) r)
  turn_past b q n None = grind (arith, nat_tests)
  turn_past b q n (Some j) = grind (arith, nat_tests)

  module _ (h : Host) (inside : g < h.guests) where
    module _ (w : Wants) (asleep : w g ≡ false) where
      wanting-without : wanting h w ≡ wanting (without g h) (others g w)
      wanting-without =
          let e = earned h w in
          let still : sum_below (suc g) e ≡ sum_below g e = omega (arith, earned_asleep h w g asleep) in
          fold_without (λ n. sum_below n e) (λ n. sum_below n (others g e)) (λ s. s) g still refl (λ n. ap (λ s. s + e (past g n))) h.guests inside

      module _ (o : Owed) where
        runner-without : runner h w o ≡ option_map (past g) (runner (without g h) (others g w) (others g o))
        runner-without =
            let q = claim h w o in
            let still : runner_below w q (suc g) ≡ runner_below w q g = rw asleep in
            fold_without (runner_below w q) (runner_below (others g w) (others g q)) (option_map (past g)) g still refl (λ n so_far. rw so_far (turn_past (w (past g n)) q n _)) h.guests inside

        after_slice-without : (k : ℕ) → after_slice h w o (past g k) ≡ after_slice (without g h) (others g w) (others g o) k
        after_slice-without k = rw (runner-without, is_runner-past, wanting-without)

    module _ (ws : ℕ → Wants) (o : Owed) (a k : ℕ) (asleep : Asleep ws g a k) where
      owed_at-without : (t : ℕ) → t ≤ k → Agree (h.guests - 1) (others g (owed_at h ws o (a + t))) (owed_at (without g h) (λ u. others g (ws (a + u))) (others g (owed_at h ws o a)) t)
      owed_at-without zero b j _ = rw add-zero
      owed_at-without (suc t) b j c =
          let here = after_slice-without (ws (a + t)) (asleep (a + t) (omega arith) (omega arith)) (owed_at h ws o (a + t)) j in
          let before = after_slice-Agree (without g h) (others g (ws (a + t))) _ _ (owed_at-without t (omega arith)) j c in
          rw add-suc (here ∙ before)

pub unnoticed_asleep : UnnoticedAsleep
unfolding UnnoticedAsleep
unnoticed_asleep h ws o g a k t inside asleep b =
    runner-without g h inside (ws (a + t)) (asleep (a + t) (omega arith) (omega arith)) (owed_at h ws o (a + t))
    ∙ ap (option_map (past g)) (runner-Agree (without g h) (others g (ws (a + t))) _ _ (owed_at-without g h inside ws o a k asleep t (omega arith)))

pub unnoticed : Unnoticed
unfolding Unnoticed UnnoticedAsleep
unnoticed h ws g t inside never =
    simp zero-add at (unnoticed_asleep h ws nothing_owed g 0 (suc t) t inside (λ u _ _. never u) (omega arith))
