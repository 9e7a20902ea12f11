use Rattle.std.proofs.Common.{ap}
use Rattle.vs_defs.specs.Store.{Set, Store}
use Rattle.vs_store.proofs.Sets.{a_place_or_none, no_set}
use Rattle.vs_store.proofs.store.Store.place_of.Goals as goal

pub returns-clause-absent : goal.returns-clause-absent
returns-clause-absent c = λ none.
    no_set c.args.key.now c.self.inside.sets.entries c.get_index_of.result c.args.self.now (ap (λ (t : Store Set). t.sets) c.self.view_is) c.get_index_of.ensures.found none

pub returns-clause-present : goal.returns-clause-present
returns-clause-present c =
    a_place_or_none c.args.key.now c.self.inside.sets.entries c.get_index_of.result c.args.self.now (ap (λ (t : Store Set). t.sets) c.self.view_is)
    c.get_index_of.ensures.index c.get_index_of.ensures.value
