use Rattle.std.proofs.Common.{rules}
use Rattle.guests.specs.Guests.{owed_in}
use Rattle.owed.specs.Orders.{before}
use Rattle.owed.proofs.Order.{is_in_order}
use Rattle.owed.proofs.in_order.Goals as goal
use Rattle.std.proofs.lemmas.Fn.{always_returns_same}

pub returns : goal.returns
returns c =
    let o = owed_in c.args.owed.now in
    is_in_order o c.args.by.now c.is_sorted_by.result (c.is_sorted_by.ensures.cases (before o) (always_returns_same _ _ _ (λ a r f' k. search rules)))
