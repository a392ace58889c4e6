use Rattle.std.proofs.Common.{rules}
use Rattle.guests.specs.Guests.{owed_in}
use Rattle.owed.proofs.Ranks.{ranks_all_from_sorted}
use Rattle.owed.proofs.put_in_order.Goals as goal
use Rattle.std.proofs.lemmas.Fn.{always_returns_same}

pub returns-clause-ranks : goal.returns-clause-ranks
returns-clause-ranks c =
    let os = c.args.owed.now in
    ranks_all_from_sorted os c.sort_unstable_by_key.new.self (search rules) c.requires.few
    (c.sort_unstable_by_key.ensures.sorted (λ g. (record { 0 = owed_in os g }, g)) (always_returns_same _ _ _ (λ a r f' k. search rules)))
