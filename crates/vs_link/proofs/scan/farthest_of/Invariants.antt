use Rattle.std.proofs.Common.{◌≡◌, ◌+◌, ℕ, take}
use Rattle.std.specs.Prelude.{IfSome}
use Rattle.vs_graph.specs.Edits.{overwritten}
use Rattle.vs_graph.specs.Good.{body_at}
use Rattle.vs_graph.specs.Bodies.{words_at}
use Rattle.vs_link.specs.Picks.{farthest}
use Rattle.vs_link.specs.Scan.{near_id, IsNear}
use Rattle.vs_link.proofs.scan.farthest_of.Given as goal

-- the farthest of those before this one
abbrev pub invariant-loop-id : goal.invariant-loop-id
invariant-loop-id g l = record {
  value : (y : ℕ) → l.words ≡ words_at (body_at (overwritten l.edit (g.N.Nodes.at l.base))) y → near_id l.best ≡ farthest (body_at (overwritten l.edit (g.N.Nodes.at l.base))) y (take l.id-index l.ids);
  near : (y : ℕ) → l.words ≡ words_at (body_at (overwritten l.edit (g.N.Nodes.at l.base))) y → IfSome l.best (IsNear (overwritten l.edit (g.N.Nodes.at l.base)) y);
  told : l.reads ≡ l.initial.reads + l.id-index;
}
