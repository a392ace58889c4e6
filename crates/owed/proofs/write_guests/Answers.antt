use Rattle.std.proofs.Common.{length, arith}
use Rattle.owed.proofs.write_guests.Goals as goal
use Rattle.std.specs.List.{range_with_len}
use Rattle.std.proofs.lemmas.List.{ext_get_or}
use Rattle.std.proofs.lemmas.List.FromFn.{get_or-range_with_len, length-range_with_len}

pub returns : goal.returns
returns c =
    let n = length c.args.by.now in
    ext_get_or 0 c.loop-guest.by (range_with_len 0 n) (omega (arith, length-range_with_len 0 n))
    (λ k h. omega (arith, get_or-range_with_len 0 n k 0, c.loop-guest.invariant k))
