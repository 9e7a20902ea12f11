use Rattle.std.proofs.Common.{ap, ◌∙◌}
use Rattle.std.specs.Prelude.{position}
use Rattle.vs_defs.specs.Store.{is_of_name}
use Rattle.vs_set.proofs.Members.{place_is}
use Rattle.vs_set.proofs.set.Set.place_of.Goals as goal

pub returns : goal.returns
returns g c =
    let s = c.self.inside in
    c.place_of.ensures ∙ place_is (g.N.Nodes.at s.graph.nodes) s.graph.m s.graph.dim c.args.name.now s.names.entries c.self.invariant.0.named.names
    ∙ ap (λ x. position (is_of_name c.args.name.now) x.contents.members) c.self.view_is
