-- All that is promised.
use Rattle.bounds.specs.Promises.{Kept}
use Rattle.bounds.proofs.Absent as absent
use Rattle.bounds.proofs.Attained as attained
use Rattle.bounds.proofs.Balance as balance
use Rattle.bounds.proofs.Bound as bound
use Rattle.bounds.proofs.Everybody as everybody
use Rattle.bounds.proofs.Parts as parts
use Rattle.bounds.proofs.Refusals as refusals
use Rattle.bounds.proofs.Serving as serving

pub kept : Kept
kept = record {
  comes_to_nothing = balance.comes_to_nothing;
  bounded_together = bound.bounded_together;
  bounded = bound.bounded;
  below_the_limit = bound.below_the_limit;
  attained = attained.attained;
  served = serving.served;
  its_share = serving.its_share;
  its_share_to_the_limit = serving.its_share_to_the_limit;
  waits = serving.waits;
  waits_to_the_limit = serving.waits_to_the_limit;
  harmonic = everybody.harmonic;
  all_the_while = everybody.all_the_while;
  sleeps_free = balance.sleeps_free;
  unnoticed = absent.unnoticed;
  unnoticed_asleep = absent.unnoticed_asleep;
  in_parts = parts.in_parts;
  never_refused = refusals.never_refused;
}
