use Rattle.std.proofs.Common.{ap, ◌∙◌}
use Rattle.std.specs.Prelude.{is_some}
use Rattle.vs_defs.specs.Store.{is_member}
use Rattle.vs_set.proofs.Members.{has_is}
use Rattle.vs_set.proofs.set.Set.has.Goals as goal

pub returns : goal.returns
returns g c =
    let s = c.self.inside in
    c.is_some.ensures ∙ ap is_some c.id_of.ensures ∙ has_is (g.N.Nodes.at s.graph.nodes) s.graph.m s.graph.dim c.args.name.now s.names.entries c.self.invariant.0.named.names
    ∙ ap (λ x. is_member c.args.name.now x.contents.members) c.self.view_is
