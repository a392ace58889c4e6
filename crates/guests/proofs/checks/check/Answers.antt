use Rattle.std.proofs.lemmas.Result.{err_from_is_err_and}
use Rattle.guests.proofs.checks.check.Goals as goal

pub returns-in_err-check_owed : goal.returns-in_err-check_owed
returns-in_err-check_owed c =
    let p = err_from_is_err_and c.from_residual-in_err-check_owed.result c.from_residual-in_err-check_owed.ensures.1 in
    let totals = c.in_ok-totals.ensures in
    rw (p.1, p.2, totals.0, ← totals.1.1, ← totals.1.0, c.in_ok-runnable.ensures.0) c.in_err-check_owed.ensures
