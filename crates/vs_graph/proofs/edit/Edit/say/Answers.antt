use Rattle.std.proofs.Common.{length-set, subst, sym, ◌∙◌}
use Rattle.std.specs.Prelude.{slice_set}
use Rattle.vs_graph.specs.Said.{IsLastAt, IsNowhere}
use Rattle.vs_graph.specs.Edits.{changed}
use Rattle.vs_graph.proofs.Listed.{listed_nowhere, listed_set, listed_somewhere, said_listed, says_at, below_there}
use Rattle.vs_graph.proofs.edit.Edit.say.Goals as goal

pub invariant_of-self : goal.invariant_of-self
invariant_of-self c =
    let old = c.args.self.now in
    let last = subst (λ xs. IsLastAt xs c.args.id c.in-Some.place) c.deref.ensures.value c.in-Some.ensures.some in
    record {
      beside = old.beside ∙ sym (length-set old.nodes.items c.in-Some.place c.args.node);
      ends = below_there (changed old) _ c.args.id old.end c.args.node (said_listed old.ids.items old.nodes.items (slice_set old.nodes.items c.in-Some.place c.args.node) old.ids.items old.more c.args.id c.args.node
          (listed_set old.ids.items old.nodes.items c.args.id c.in-Some.place c.args.node old.beside last)) old.ends
          (listed_somewhere old.ids.items old.nodes.items old.more c.args.id c.in-Some.place old.beside last);
    }

pub say_unlisted-requires : goal.say_unlisted-requires
say_unlisted-requires c =
    let old = c.args.self.now in
    listed_nowhere old.ids.items old.nodes.items c.args.id (subst (λ xs. IsNowhere xs c.args.id) c.deref.ensures.value c.in-None.ensures.none)

pub returns-in-Some-clause-ok : goal.returns-in-Some-clause-ok
returns-in-Some-clause-ok c =
    let old = c.args.self.now in
    let last = subst (λ xs. IsLastAt xs c.args.id c.in-Some.place) c.deref.ensures.value c.in-Some.ensures.some in
    says_at old _ c.args.id c.args.node (said_listed old.ids.items old.nodes.items (slice_set old.nodes.items c.in-Some.place c.args.node) old.ids.items old.more c.args.id c.args.node
    (listed_set old.ids.items old.nodes.items c.args.id c.in-Some.place c.args.node old.beside last))
