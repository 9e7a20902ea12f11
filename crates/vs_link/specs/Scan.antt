-- What a scan of neighbours keeps.
use Rattle.std.specs.Prelude.{◌≡◌, ℕ, cond, Some, None, option_map}
use Rattle.std.specs.Ordering.{nat_cmp, ordering_then, is_gt, is_lt}
use Rattle.std.specs.Cmp.Lexicographic.{slice_cmp}
use Rattle.std.specs.declared.option.Option.{Option}
use Rattle.std.specs.declared.cmp.Ordering.{Ordering}
use Rattle.vs_graph.specs.declared.node.Node.{Node}
use Rattle.vs_link.specs.declared.scan.Near.{Near}
use Rattle.vs_graph.specs.Bodies.{gap}
use Rattle.vs_graph.specs.Good.{body_at}

abbrev pub near_cmp : Near → Near → Ordering
near_cmp a b = ordering_then (nat_cmp a.dist b.dist) (slice_cmp nat_cmp a.node.now.body.name b.node.now.body.name)

abbrev pub later_near : Option Near → Near → Option Near
later_near None next = Some next
later_near (Some best) next = cond (is_gt (near_cmp next best)) (Some next) (Some best)

abbrev pub earlier_near : Option Near → Near → Option Near
earlier_near None next = Some next
earlier_near (Some best) next = cond (is_lt (near_cmp next best)) (Some next) (Some best)

-- the node at its id, and its distance to y
pub record IsNear (at : ℕ → Option Node) (y : ℕ) (near : Near) : Type 0 where
  pub there : at near.id ≡ Some near.node.now
  pub dist : near.dist ≡ gap (body_at at) y near.id

abbrev pub near_id : Option Near → Option ℕ
near_id near = option_map (λ (n : Near). n.id) near
