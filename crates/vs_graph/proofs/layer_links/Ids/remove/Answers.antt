use Rattle.std.proofs.Common.{rules, not, eqb, ap, ◌∙◌}
use Rattle.arrayvec.proofs.ArrayVecLemmas.{filter-from_retain}
use Rattle.vs_graph.specs.Table.{without}
use Rattle.vs_graph.proofs.layer_links.Ids.remove.Goals as goal

pub returns : goal.returns
returns g c =
    filter-from_retain _ (λ z. not (eqb z c.args.id)) _ (λ x b f' y called. search rules) c.self.inside.ids.items c.retain.new.self.items c.retain.ensures.filtered ∙ ap (without c.args.id) c.self.view_is
