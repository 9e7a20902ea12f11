use Rattle.std.proofs.Common.{◌≡◌, map, take}
use Rattle.std.specs.Prelude.{All}
use Rattle.vs_graph.specs.Edits.{overwritten}
use Rattle.vs_graph.specs.Good.{body_at}
use Rattle.vs_unlink.specs.Named.{id_of, IsNamedSo}
use Rattle.vs_unlink.proofs.named.with_names.Given as goal

-- those before this one
abbrev pub invariant-loop-id : goal.invariant-loop-id
invariant-loop-id g l = record {
  ids : map id_of l.all.items ≡ take l.id-index l.ids;
  named : All (IsNamedSo (body_at (overwritten l.edit (g.N.Nodes.at l.base)))) l.all.items;
}
