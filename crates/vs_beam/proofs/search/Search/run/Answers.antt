use Rattle.std.proofs.Common.{◌∙◌, arith}
use Rattle.std.proofs.lemmas.Bool.{iff_false}
use Rattle.vs_beam.specs.Beam.{IsSpent}
use Rattle.vs_beam.specs.Searching.{IsAdvanced, IsOver}
use Rattle.vs_beam.proofs.Visits.{same_trans}
use Rattle.vs_beam.proofs.Runs.{search_advanced, found_advanced, whole_expanded, beam_over, beam_spent, size_advanced, cost_expanded}
use Rattle.vs_beam.proofs.search.Search.run.Goals as goal

pub expand-requires-clause-search : goal.expand-requires-clause-search
expand-requires-clause-search g c =
    let a : IsAdvanced c.loop-self.self c.advance.new.self c.in-Some.id = rw c.in-Some.is at c.in_ok-id.ensures.some in
    search_advanced (g.N.Nodes.at c.args.nodes.now) c.args.layer c.args.query.now c.loop-self.self c.advance.new.self c.loop-self.slot c.in-Some.id c.loop-self.invariant.search a

pub expand-requires-clause-found : goal.expand-requires-clause-found
expand-requires-clause-found g c = λ passes answers.
    let i = c.loop-self.invariant in
    let room : IsSpent c.loop-self.self.effort c.loop-self.self.tried → ⊥ = iff_false c.is_spent.ensures c.loop-self-test.true in
    let a : IsAdvanced c.loop-self.self c.advance.new.self c.in-Some.id = rw c.in-Some.is at c.in_ok-id.ensures.some in
    found_advanced (g.N.Nodes.at c.args.nodes.now) c.args.layer c.args.query.now passes c.loop-self.self c.advance.new.self c.loop-self.slot c.in-Some.id
    i.search (i.found passes answers) a (i.whole room)

pub loop-self-smaller : goal.loop-self-smaller
loop-self-smaller g c =
    let a : IsAdvanced c.loop-self.self c.advance.new.self c.in-Some.id = rw c.in-Some.is at c.in_ok-id.ensures.some in
    let one = size_advanced c.loop-self.self c.advance.new.self c.loop-self.slot c.in-Some.id a in
    omega (arith, one, c.in_ok-expand-in-Some.ensures.left)

pub loop-self-preserved : goal.loop-self-preserved
loop-self-preserved g c =
    let i = c.loop-self.invariant in
    let at = g.N.Nodes.at c.args.nodes.now in
    let e = c.in_ok-expand-in-Some.ensures.expanded in
    let room : IsSpent c.loop-self.self.effort c.loop-self.self.tried → ⊥ = iff_false c.is_spent.ensures c.loop-self-test.true in
    let a : IsAdvanced c.loop-self.self c.advance.new.self c.in-Some.id = rw c.in-Some.is at c.in_ok-id.ensures.some in
    record {
      search = c.in_ok-expand-in-Some.ensures.search;
      found = c.in_ok-expand-in-Some.ensures.found;
      same = same_trans _ _ _ i.same (same_trans _ _ _ a.same e.same);
      whole = λ still. whole_expanded at c.args.layer c.loop-self.self c.advance.new.self c.expand.new.self c.in-Some.id (i.whole room) a e still;
      limit = c.expand.ensures.limit ∙ i.limit;
      told = omega (arith, i.told, c.expand.ensures.told, cost_expanded at c.args.layer c.loop-self.self c.advance.new.self c.expand.new.self c.in-Some.id a e);
    }

pub returns-in-None-clause-beam : goal.returns-in-None-clause-beam
returns-in-None-clause-beam g c = λ passes answers.
    let i = c.loop-self.invariant in
    let room : IsSpent c.loop-self.self.effort c.loop-self.self.tried → ⊥ = iff_false c.is_spent.ensures c.loop-self-test.true in
    let over : IsOver c.loop-self.self c.advance.new.self = rw c.in-None.is at c.in_ok-id.ensures.none in
    beam_over (g.N.Nodes.at c.args.nodes.now) c.args.layer c.args.query.now passes c.args.self.now c.loop-self.self c.advance.new.self c.loop-self.slot i.search (i.found passes answers) i.same over (i.whole room)

pub returns-clause-beam : goal.returns-clause-beam
returns-clause-beam g c = λ passes answers.
    let i = c.loop-self.invariant in
    let spent : IsSpent c.loop-self.self.effort c.loop-self.self.tried = c.is_spent.ensures.0 c.loop-self-test.false in
    beam_spent (g.N.Nodes.at c.args.nodes.now) c.args.layer c.args.query.now passes c.args.self.now c.loop-self.self c.loop-self.slot i.search (i.found passes answers) i.same spent
