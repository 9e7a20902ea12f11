use Rattle.std.proofs.Common.{length, sym, ap, ◌∙◌, subst, arith, ◌==◌}
use Rattle.std.specs.Prelude.{◌++◌, All, IsSome, filter}
use Rattle.std.proofs.lemmas.List.{take_all}
use Rattle.std.proofs.lemmas.List.Elements.{All-filter}
use Rattle.vs_graph.specs.Edits.{overwritten}
use Rattle.vs_graph.specs.Good.{body_at, links_at}
use Rattle.vs_unlink.specs.Named.{AreByName}
use Rattle.vs_unlink.specs.Orphans.{at_layer}
use Rattle.vs_unlink.proofs.orphans.list_layer.Goals as goal

pub by_name-requires : goal.by_name-requires
by_name-requires g c =
    let at = overwritten c.args.edit.now (g.N.Nodes.at c.args.base.now) in
    subst (All (λ id. IsSome (at id))) (sym (c.as_slice.ensures ∙ c.in_ok-alone.ensures ∙ ap (filter (λ y. length (links_at at c.args.layer y) == 0)) c.links.ensures))
    (All-filter (λ y. length (links_at at c.args.layer y) == 0) (λ id. IsSome (at id)) _ c.requires)

pub returns : goal.returns
returns g c =
    let at = overwritten c.args.edit.now (g.N.Nodes.at c.args.base.now) in (
      c.in_ok-sorted.sorted,
      subst (λ l. AreByName (body_at at) l c.in_ok-sorted.sorted) (c.as_slice.ensures ∙ c.in_ok-alone.ensures ∙ ap (filter (λ y. length (links_at at c.args.layer y) == 0)) c.links.ensures) c.in_ok-sorted.ensures,
      c.loop-id.invariant ∙ ap (λ l. c.args.orphans.now ++ at_layer c.args.layer l) (take_all c.loop-id.id-index c.as_slice-id-items.result.now (omega arith) ∙ c.as_slice-id-items.ensures),
    )
