use Rattle.std.proofs.Common.{◌≡◌, ◌+◌, ℕ, take}
use Rattle.std.specs.Prelude.{IfSome, filter}
use Rattle.vs_graph.specs.Edits.{overwritten}
use Rattle.vs_graph.specs.Good.{links_at, body_at}
use Rattle.vs_graph.specs.Bodies.{words_at}
use Rattle.vs_link.specs.Picks.{farthest, nearest}
use Rattle.vs_link.specs.Linked.{has_room}
use Rattle.vs_link.specs.Scan.{near_id, IsNear}
use Rattle.vs_link.proofs.scan.survey.Given as goal

-- what is found of those before this one
abbrev pub invariant-loop-id : goal.invariant-loop-id
invariant-loop-id g l = record {
  farthest : (y : ℕ) → l.from ≡ words_at (body_at (overwritten l.edit (g.N.Nodes.at l.base))) y → near_id l.far ≡ farthest (body_at (overwritten l.edit (g.N.Nodes.at l.base))) y (take l.id-index l.ids);
  far : (y : ℕ) → l.from ≡ words_at (body_at (overwritten l.edit (g.N.Nodes.at l.base))) y → IfSome l.far (IsNear (overwritten l.edit (g.N.Nodes.at l.base)) y);
  nearest : (x : ℕ) → l.to ≡ words_at (body_at (overwritten l.edit (g.N.Nodes.at l.base))) x
      → near_id l.roomy ≡ nearest (body_at (overwritten l.edit (g.N.Nodes.at l.base))) x (filter (has_room l.most (links_at (overwritten l.edit (g.N.Nodes.at l.base)) l.layer)) (take l.id-index l.ids));
  near : (x : ℕ) → l.to ≡ words_at (body_at (overwritten l.edit (g.N.Nodes.at l.base))) x → IfSome l.roomy (IsNear (overwritten l.edit (g.N.Nodes.at l.base)) x);
  told : l.reads ≡ l.initial.reads + l.id-index;
}
