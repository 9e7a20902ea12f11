use Rattle.std.proofs.Common.{◌≡◌, sym, ap, ◌∙◌, length}
use Rattle.std.specs.Option.{option_map_or}
use Rattle.vs_graph.specs.Edits.{overwritten}
use Rattle.vs_graph.specs.Good.{layers_at}
use Rattle.vs_unlink.proofs.Layers.{out_gone, freed}
use Rattle.vs_unlink.proofs.removal.take_out.Goals as goal

pub returns-clause-out : goal.returns-clause-out
returns-clause-out g c =
    let base = g.N.Nodes.at c.args.base.now in
    let at = overwritten c.args.edit.now base in
    let f = freed base c.unlink_below.new.edit c.free.new.self c.args.x c.in_ok-free.ensures.ok in
    let same : c.len-count.result ≡ layers_at at c.args.x = c.len-count.ensures ∙ sym (ap (λ o. option_map_or (λ node. length node.links) o 0) c.in_ok-own.ensures.value) in
    out_gone at (overwritten c.unlink_below.new.edit base) (overwritten c.free.new.self base) c.args.x c.len-count.result c.requires.good.0 c.requires.good.1.0 c.requires.good.1.2 same f.0 f.1 c.in_ok-unlink_below.ensures
