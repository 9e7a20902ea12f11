use Rattle.std.proofs.Common.{length, ap, ◌∙◌, subst}
use Rattle.vs_defs.specs.Words.{bits_of_words}
use Rattle.vs_graph.specs.declared.node.Body.{Body}
use Rattle.vs_store.specs.Drafts.{IsPrepared, ready_seen}
use Rattle.vs_store.proofs.Prepared.{prepared}
use Rattle.vs_store.proofs.store.Store.prepare.Goals as goal

pub returns : goal.returns
returns g c =
    let d = c.drafting.inside in
    let draft = c.in_ok-draft.draft in
    let bits = ap (λ (b : Body). bits_of_words (length d.add.bits) b.bits) c.in_ok-body.ensures ∙ c.words.ensures.value in
    subst (λ v. IsPrepared v (ready_seen d.add d.word draft)) c.drafting.view_is
    (prepared d.add d.word d.set c.in_ok-body.body c.level_of_word.result draft c.drafting.invariant.draftable bits c.level_of_word.ensures.level c.in_ok-draft.ensures)
