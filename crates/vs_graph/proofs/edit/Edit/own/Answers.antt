use Rattle.std.proofs.Common.{subst, sym, ap, ◌∙◌, arith}
use Rattle.std.specs.Prelude.{Some}
use Rattle.std.proofs.lemmas.Option.{slice_get-get_or}
use Rattle.vs_graph.specs.Said.{IsLastAt, IsNowhere}
use Rattle.vs_graph.proofs.Listed.{said_last, said_nowhere}
use Rattle.vs_graph.proofs.edit.Edit.own.Goals as goal

pub returns-in-Some : goal.returns-in-Some
returns-in-Some c =
    let it = c.args.self.now in
    let last = subst (λ xs. IsLastAt xs c.args.id c.in-Some.place) c.deref.ensures.value c.in-Some.ensures.some in
    ap Some c.index.ensures ∙ sym (slice_get-get_or it.nodes.items c.in-Some.place c.index.result.now (omega (arith, last.inside, it.beside)))
    ∙ sym (said_last it.ids.items it.nodes.items it.more c.args.id c.in-Some.place it.beside last)

pub returns-in-None : goal.returns-in-None
returns-in-None c =
    let it = c.args.self.now in
    c.get.ensures.value ∙ sym (said_nowhere it.ids.items it.nodes.items it.more c.args.id (subst (λ xs. IsNowhere xs c.args.id) c.deref.ensures.value c.in-None.ensures.none))
