use Rattle.std.proofs.Common.{◌<◌, [], length, refl, subst}
use Rattle.std.specs.Option.{option_map_or}
use Rattle.std.proofs.lemmas.Result.{on_ok_weaker}
use Rattle.vs_graph.proofs.Relinking.{relinks_links}
use Rattle.vs_unlink.proofs.layer.clear_links.Goals as goal

pub clear-requires : goal.clear-requires
clear-requires g c = subst (λ o. c.args.layer < option_map_or (λ n. length n.links) o 0) c.in_ok-own.ensures.value c.requires

pub returns : goal.returns
returns g c =
    on_ok_weaker c.put.result
    (relinks_links (g.N.Nodes.at c.args.base.now) c.args.edit.now c.put.new.self c.args.layer c.args.x c.in_ok-own.own c.clear.new.self [] [] c.clear.ensures refl c.in_ok-own.ensures.value c.requires) c.put.ensures.ok
