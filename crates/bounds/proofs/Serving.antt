-- What a guest earns and what it pays in a stretch of slices: what it is owed moves by the one less the other, and stays within the bound. So it gets its share, and runs before long.
use Rattle.std.proofs.Common.{◌≡◌, ℕ, zero, suc, ◌+◌, ◌*◌, ◌≤◌, cond, ℤ, pos, ◌+ℤ◌, nat_abs, ap, ◌∙◌, add-zero, add-suc, mul-le-mul_left, arith}
use Rattle.std.proofs.lemmas.Int.{ints}
use Rattle.guests.specs.Guests.{Host, Wants, Owed}
use Rattle.guests.proofs.Sums.{sum_below_same}
use Rattle.bounds.specs.Promises.{Awake, Bounded, ItsShare, ItsShareToTheLimit, Served, Steady, Waits, WaitsToTheLimit, Within, bound}
use Rattle.bounds.specs.Rule.{earned, wanting}
use Rattle.bounds.specs.Runs.{earned_in, nothing_owed, owed_at, paid_in, ran}
use Rattle.bounds.proofs.Bound.{bounded, bound_below_the_limit}
use Rattle.bounds.proofs.Earning.{earned_awake}

module _ (h : Host) (ws : ℕ → Wants) (g a : ℕ) where
  earned_in-Awake : (k : ℕ) → Awake ws g a k → earned_in h ws g a k ≡ k * h.share g
  earned_in-Awake zero awake = omega arith
  earned_in-Awake (suc k) awake =
      omega (arith, earned_in-Awake k (λ t from to. awake t from (omega arith)), earned_awake h (ws (a + k)) g (awake (a + k) (omega arith) (omega arith)))

  module _ (o : Owed) where
    owed_moved : (k : ℕ) → owed_at h ws o (a + k) g +ℤ pos (paid_in h ws o g a k) ≡ owed_at h ws o a g +ℤ pos (earned_in h ws g a k)
    owed_moved zero = rw add-zero (omega (arith, ints))
    owed_moved (suc k) = let before = owed_moved k in rw add-suc (omega (arith, ints))

    paid_in-Steady : (w : Wants) (k : ℕ) → Steady ws w h.guests a k → paid_in h ws o g a k ≡ ran h ws o g a k * wanting h w
    paid_in-Steady w zero steady = omega arith
    paid_in-Steady w (suc k) steady =
        let before = paid_in-Steady w k (λ t j from to. steady t j from (omega arith)) in
        let same : wanting h (ws (a + k)) ≡ wanting h w = sum_below_same h.guests (earned h (ws (a + k))) (earned h w) (λ j b. ap (λ x. cond x (h.share j) 0) (steady (a + k) j (omega arith) (omega arith) b)) in
        grind arith

    -- who pays runs
    ran_if_paid : (k : ℕ) → 1 ≤ paid_in h ws o g a k → 1 ≤ ran h ws o g a k
    ran_if_paid zero pays = omega arith
    ran_if_paid (suc k) pays = grind (arith, ran_if_paid k)

-- x is owed before and y after, e is earned and p is paid
moved_within : (b e p : ℕ) (x y : ℤ) → 2 * nat_abs x ≤ b → 2 * nat_abs y ≤ b → y +ℤ pos p ≡ x +ℤ pos e → Within b e p
moved_within b e p x y before after moved = (omega (arith, ints), omega (arith, ints))

pub served : Served
unfolding Served Bounded
served h ws g a k inside =
    moved_within (bound h) _ _ _ _ (bounded h ws a g inside) (bounded h ws (a + k) g inside) (owed_moved h ws g a nothing_owed k)

pub its_share : ItsShare
unfolding ItsShare Served
its_share h ws w g a k inside wants steady =
    let awake = earned_in-Awake h ws g a k (λ t from to. steady t g from to inside ∙ wants) in
    rw (awake, paid_in-Steady h ws g a nothing_owed w k steady) at (served h ws g a k inside)

pub waits : Waits
unfolding Waits Served
waits h ws g a k inside awake long =
    ran_if_paid h ws g a nothing_owed k (omega (arith, (served h ws g a k inside).0, earned_in-Awake h ws g a k awake))

pub its_share_to_the_limit : ItsShareToTheLimit
unfolding ItsShareToTheLimit ItsShare
its_share_to_the_limit h ws w g a k valid inside wants steady =
    let low = bound_below_the_limit h valid in
    let near = its_share h ws w g a k inside wants steady in
    (omega arith, omega arith)

pub waits_to_the_limit : WaitsToTheLimit
unfolding WaitsToTheLimit Waits
waits_to_the_limit h ws g a k valid inside awake long =
    waits h ws g a k inside awake (omega (arith, bound_below_the_limit h valid, mul-le-mul_left k (valid.share_least g inside)))
