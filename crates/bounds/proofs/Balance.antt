-- Over a run: all that is owed comes to what it came to before, and who sleeps is owed what it was.
use Rattle.std.proofs.Common.{◌≡◌, ℕ, zero, suc, ◌+◌, refl, ap, ◌∙◌, add-zero, add-suc, arith}
use Rattle.guests.specs.Guests.{Host, Wants, Owed, int_sum_below}
use Rattle.guests.proofs.Sums.{int_sum_below_zero}
use Rattle.bounds.specs.Promises.{ComesToNothing, SleepsFree}
use Rattle.bounds.specs.Runs.{nothing_owed, owed_at}
use Rattle.bounds.proofs.Earning.{after_slice_asleep, after_slice_balanced}

pub owed_sum_same : (h : Host) (ws : ℕ → Wants) (o : Owed) (t : ℕ) → int_sum_below h.guests (owed_at h ws o t) ≡ int_sum_below h.guests o
owed_sum_same h ws o zero = refl
owed_sum_same h ws o (suc t) = after_slice_balanced h (ws t) (owed_at h ws o t) ∙ owed_sum_same h ws o t

pub comes_to_nothing : ComesToNothing
unfolding ComesToNothing
comes_to_nothing h ws t = owed_sum_same h ws nothing_owed t ∙ int_sum_below_zero h.guests

pub sleeps_free : SleepsFree
unfolding SleepsFree
sleeps_free h ws o g a zero asleep = ap (λ t. owed_at h ws o t g) (add-zero a)
sleeps_free h ws o g a (suc k) asleep =
    ap (λ t. owed_at h ws o t g) (add-suc a k)
    ∙ after_slice_asleep h (ws (a + k)) (owed_at h ws o (a + k)) g (asleep (a + k) (omega arith) (omega arith))
    ∙ sleeps_free h ws o g a k (λ t from to. asleep t from (omega arith))
