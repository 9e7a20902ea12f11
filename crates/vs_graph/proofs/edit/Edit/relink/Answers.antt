use Rattle.std.proofs.Common.{◌≡◌, ◌<◌, length, length-set, refl, subst, sym, ap, ◌∙◌, arith}
use Rattle.std.specs.Prelude.{Some, IsSome, IsSomeAnd, slice_set, option_map}
use Rattle.std.specs.Option.{option_flatten}
use Rattle.std.proofs.lemmas.Option.{slice_get-get_or}
use Rattle.std.proofs.lemmas.Result.{on_ok_weaker}
use Rattle.vs_graph.specs.Said.{IsLastAt, IsNowhere}
use Rattle.vs_graph.specs.Edits.{changed, SaysAt}
use Rattle.vs_graph.specs.Relinks.{relinked}
use Rattle.vs_graph.proofs.Listed.{listed_nowhere, listed_set, listed_somewhere, said_last, said_nowhere, said_listed, said_mapped, says_at, below_there}
use Rattle.vs_graph.proofs.edit.Edit.relink.Goals as goal

pub apply-requires : goal.apply-requires
apply-requires c =
    let old = c.args.self.now in
    let last = subst (λ xs. IsLastAt xs c.args.id c.in-Some.place) c.deref.ensures.value c.in-Some.ensures.some in
    let is : changed old c.args.id ≡ Some c.index_mut.result.now = said_last old.ids.items old.nodes.items old.more c.args.id c.in-Some.place old.beside last ∙ slice_get-get_or old.nodes.items c.in-Some.place c.index_mut.result.now (omega (arith, last.inside, old.beside)) ∙ ap Some (sym c.index_mut.ensures.value) in
    subst (λ o. IsSomeAnd (option_flatten o) (λ node. c.args.layer < length node.links)) is c.requires

pub invariant_of-self : goal.invariant_of-self
invariant_of-self c =
    let old = c.args.self.now in
    let last = subst (λ xs. IsLastAt xs c.args.id c.in-Some.place) c.deref.ensures.value c.in-Some.ensures.some in
    record {
      beside = old.beside ∙ sym (length-set old.nodes.items c.in-Some.place c.apply.new.node);
      ends = below_there (changed old) _ c.args.id old.end c.apply.new.node (said_listed old.ids.items old.nodes.items (slice_set old.nodes.items c.in-Some.place c.apply.new.node) old.ids.items old.more c.args.id c.apply.new.node
          (listed_set old.ids.items old.nodes.items c.args.id c.in-Some.place c.apply.new.node old.beside last)) old.ends
          (listed_somewhere old.ids.items old.nodes.items old.more c.args.id c.in-Some.place old.beside last);
    }

pub apply-requires-in-Some-get_mut : goal.apply-requires-in-Some-get_mut
apply-requires-in-Some-get_mut c =
    let old = c.args.self.now in
    let nowhere = subst (λ xs. IsNowhere xs c.args.id) c.deref.ensures.value c.in-None.ensures.none in
    let is : changed old c.args.id ≡ Some c.in-Some-get_mut.node.now = said_nowhere old.ids.items old.nodes.items old.more c.args.id nowhere ∙ sym c.in-Some-get_mut.ensures.value in
    subst (λ o. IsSomeAnd (option_flatten o) (λ node. c.args.layer < length node.links)) is c.requires

pub unreachable-requires : goal.unreachable-requires
unreachable-requires c =
    let old = c.args.self.now in
    let nowhere = subst (λ xs. IsNowhere xs c.args.id) c.deref.ensures.value c.in-None.ensures.none in
    subst (λ o. IsSomeAnd (option_flatten o) (λ node. c.args.layer < length node.links)) (said_nowhere old.ids.items old.nodes.items old.more c.args.id nowhere ∙ sym c.in-None-get_mut.ensures.value) c.requires

pub returns-in-Some : goal.returns-in-Some
returns-in-Some c =
    let old = c.args.self.now in
    let last = subst (λ xs. IsLastAt xs c.args.id c.in-Some.place) c.deref.ensures.value c.in-Some.ensures.some in
    let is : changed old c.args.id ≡ Some c.index_mut.result.now = said_last old.ids.items old.nodes.items old.more c.args.id c.in-Some.place old.beside last ∙ slice_get-get_or old.nodes.items c.in-Some.place c.index_mut.result.now (omega (arith, last.inside, old.beside)) ∙ ap Some (sym c.index_mut.ensures.value) in
    on_ok_weaker c.apply.result
    (λ e. subst (SaysAt old _ c.args.id) (e ∙ ap (λ o. option_map (relinked c.args.layer c.args.change) (option_flatten o)) (sym is))
    (says_at old _ c.args.id c.apply.new.node (said_listed old.ids.items old.nodes.items (slice_set old.nodes.items c.in-Some.place c.apply.new.node) old.ids.items old.more c.args.id c.apply.new.node
    (listed_set old.ids.items old.nodes.items c.args.id c.in-Some.place c.apply.new.node old.beside last))))
    c.apply.ensures.ok

pub returns-in-Some-get_mut : goal.returns-in-Some-get_mut
returns-in-Some-get_mut c =
    let old = c.args.self.now in
    let nowhere = subst (λ xs. IsNowhere xs c.args.id) c.deref.ensures.value c.in-None.ensures.none in
    let is : changed old c.args.id ≡ Some c.in-Some-get_mut.node.now = said_nowhere old.ids.items old.nodes.items old.more c.args.id nowhere ∙ sym c.in-Some-get_mut.ensures.value in
    let node = c.apply-in-Some-get_mut.new.node in
    let writes = (c.get_mut.follows.holds node).3 (subst IsSome c.in-Some-get_mut.ensures.value refl) in
    on_ok_weaker c.apply-in-Some-get_mut.result
    (λ e. subst (SaysAt old _ c.args.id) (e ∙ ap (λ o. option_map (relinked c.args.layer c.args.change) (option_flatten o)) (sym is))
    (says_at old _ c.args.id node (said_mapped old.ids.items old.nodes.items old.more (c.get_mut.follows.lender node) c.args.id node (listed_nowhere old.ids.items old.nodes.items c.args.id nowhere) writes.0)))
    c.apply-in-Some-get_mut.ensures.ok
