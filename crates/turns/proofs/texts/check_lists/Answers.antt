use Rattle.turns.proofs.texts.check_lists.Goals as goal

pub returns : goal.returns
returns c =
    let totals = c.in_ok-totals.ensures in
    rw (← c.deref.ensures.value, totals.0, ← totals.1.1, ← totals.1.0, ← c.deref-2.ensures.value, c.in_ok-check_stretches.ensures.0, ← c.deref-3.ensures.value) c.check_owed.ensures
