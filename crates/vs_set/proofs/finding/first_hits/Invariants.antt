use Rattle.std.proofs.Common.{◌≡◌, take}
use Rattle.vs_set.proofs.Firsts.{nears_of}
use Rattle.vs_set.proofs.finding.first_hits.Given as goal

-- those before this one were offered
abbrev pub invariant-loop-key : goal.invariant-loop-key
invariant-loop-key l = record {
  most : l.first.most ≡ l.most;
  nears : l.first.nears ≡ nears_of l.order l.most (take l.key-index l.found);
}
