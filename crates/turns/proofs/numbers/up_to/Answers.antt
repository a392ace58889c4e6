use Rattle.std.proofs.Common.{rules, ◌≡◌, true, ap, Some}
use Rattle.turns.specs.Numerals.{plain}
use Rattle.turns.proofs.Digits.{IsUtf8-from_plain}
use Rattle.turns.proofs.numbers.up_to.Goals as goal

pub from_utf8_unchecked-digits-requires : goal.from_utf8_unchecked-digits-requires
from_utf8_unchecked-digits-requires g c =
    let all : plain c.args.word.now ≡ true = search rules in
    search (rules, IsUtf8-from_plain c.args.word.now all)

pub returns : goal.returns
returns g c =
    let all : plain c.args.word.now ≡ true = search rules in
    let text : c.from_utf8_unchecked-digits.result.now ≡ c.args.word.now = search rules in
    rw all (c.parse.result, rw text at c.parse.ensures.value, ap Some c.unwrap_or.ensures)
