use Rattle.vs_defs.proofs.StreamLaws.{splits_always, splits_once}
use Rattle.vs_stream.proofs.Place.{fault_ceases, ceases_fault, no_fault_begins, broken_more}
use Rattle.vs_stream.proofs.stream_laws.Goals as goal

pub returns : goal.returns
returns c = record {
  each_has_outcome = splits_always;
  one_outcome = splits_once;
  fault_ceases = fault_ceases;
  ceases_fault = ceases_fault;
  no_fault_begins = no_fault_begins;
  fault_stays = broken_more;
}
