use Rattle.std.proofs.Common.{◌≡◌, take}
use Rattle.std.specs.Prelude.{Some, All}
use Rattle.vs_graph.specs.Good.{body_at}
use Rattle.vs_insert.specs.declared.draft.Chosen.{Chosen}
use Rattle.vs_insert.specs.Drafts.{ids_of}
use Rattle.vs_insert.proofs.choosing.with_bodies.Given as goal

abbrev pub invariant-loop-id : goal.invariant-loop-id
invariant-loop-id g l = record {
  ids : ids_of l.list ≡ take l.id-index l.ids;
  bodies : All (λ (one : Chosen). body_at (g.N.Nodes.at l.nodes) one.id ≡ Some one.body) l.list;
}
