-- What holds of three lists that are taken: the checks found no fault.
use Rattle.std.proofs.Common.{◌≡◌, ℕ, ◌*◌, ◌<◌, ◌≤◌, true, List, length, get_or, ℤ, pos, nat_abs, None, arith}
use Rattle.std.proofs.lemmas.Nat.{mul-le}
use Rattle.std.proofs.lemmas.Int.{ints}
use Rattle.std.proofs.lemmas.Bool.Decides.{nat_tests}
use Rattle.std.specs.List.{All}
use Rattle.guests.specs.Faults.{fault, shares_fault, wants_fault, owed_fault, share_ok, want_ok, amount_ok}
use Rattle.guests.specs.Guests.{Host, Valid, host_in, owed_in, total, int_sum_below}
use Rattle.guests.specs.declared.faults.Fault.TheVariants.{ShareOutOfRange, WantAboveOne, OwedOutOfRange}
use Rattle.guests.proofs.Failing.{option_or_none, each_from_first_failing}
use Rattle.guests.proofs.Sums.{sum_below-le}

unsigned_abs-zero : (z : ℤ) → nat_abs z ≡ 0 → z ≡ pos 0
unsigned_abs-zero z none = omega (arith, ints)

pub record Taken (ss ws : List ℕ) (os : List ℤ) : Type 0 where
  pub host : Valid (host_in ss)
  pub wants_long : length ws ≡ length ss
  pub want_most : (g : ℕ) → g < length ss → get_or ws g 0 ≤ 1
  pub owed_long : length os ≡ length ss
  pub owed_most : (g : ℕ) → g < length ss → nat_abs (get_or os g (pos 0)) < total (host_in ss) * length ss
  pub owed_sum : int_sum_below (length ss) (owed_in os) ≡ pos 0

pub Valid-host_in : (ss : List ℕ) → shares_fault ss ≡ None → Valid (host_in ss)
Valid-host_in ss e =
    let each : All (λ s. share_ok s ≡ true) ss = each_from_first_failing share_ok ShareOutOfRange ss (grind (arith, nat_tests)) in
    record {
      some = grind (arith, nat_tests);
      few = grind (arith, nat_tests);
      share_least = λ g h. grind (arith, nat_tests, each g 0 h);
      share_most = λ g h. grind (arith, nat_tests, each g 0 h);
    }

pub total_most : (h : Host) → Valid h → total h ≤ 64000
total_most h v = omega (arith, sum_below-le h.guests 1000 h.share v.share_most, v.few)

-- what anybody can be owed at most
pub limit_most : (h : Host) → Valid h → total h * h.guests ≤ 4096000
limit_most h v = mul-le (total h) h.guests 64000 64 (total_most h v) v.few

pub taken : (ss ws : List ℕ) (os : List ℤ) → fault ss ws os ≡ None → Taken ss ws os
taken ss ws os e =
    let n = length ss in
    let limit = total (host_in ss) * n in
    let shares = option_or_none (shares_fault ss) _ e in
    let lists = option_or_none (wants_fault n ws) (owed_fault n (total (host_in ss)) os) shares.1 in
    let wants : All (λ w. want_ok w ≡ true) ws = each_from_first_failing want_ok WantAboveOne ws (grind (arith, nat_tests)) in
    let each : All (λ x. amount_ok limit x ≡ true) os = each_from_first_failing (amount_ok limit) OwedOutOfRange os (grind (arith, nat_tests)) in
    record {
      host = Valid-host_in ss shares.0;
      wants_long = grind (arith, nat_tests);
      want_most = λ g h. grind (arith, nat_tests, wants g 0);
      owed_long = grind (arith, nat_tests);
      owed_most = λ g h. grind (arith, nat_tests, each g (pos 0));
      owed_sum = unsigned_abs-zero _ (grind (arith, nat_tests));
    }
