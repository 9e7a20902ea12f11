use Rattle.std.proofs.Common.{◌≡◌, ◌≤◌, take}
use Rattle.std.specs.Prelude.{count_by}
use Rattle.vs_defs.specs.Refuse.{has_key}
use Rattle.vs_defs.specs.Store.{plain}
use Rattle.vs_store.proofs.store.Store.exists.Given as goal

abbrev pub invariant-loop-key : goal.invariant-loop-key
invariant-loop-key l = record {
  value : l.count ≡ count_by (has_key (plain l.self)) (take l.key-index l.keys.items);
  few : l.count ≤ l.key-index;
}
