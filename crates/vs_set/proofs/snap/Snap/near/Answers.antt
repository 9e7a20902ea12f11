use Rattle.std.proofs.Common.{◌≡◌, ◌-◌, ◌<◌, true, length, sym, ap, ◌∙◌, subst, arith}
use Rattle.std.specs.Prelude.{All}
use Rattle.vs_defs.specs.Words.{FitsDimension, bits_of_words}
use Rattle.vs_order.specs.Entries.{ids_of, is_taken}
use Rattle.vs_set.specs.Found.{FindsNear}
use Rattle.vs_set.specs.Firsts.{first_of}
use Rattle.vs_set.specs.Kept.{set_by}
use Rattle.vs_set.proofs.Standing.{nobody}
use Rattle.vs_set.proofs.Nearness.{found_taken, near_found, settled}
use Rattle.vs_set.proofs.snap.Snap.near.Goals as goal

pub unreachable-requires : goal.unreachable-requires
unreachable-requires g c =
    let s = c.self.inside in
    nobody (g.N.Nodes.at s.graph.nodes) s.graph.dim (ids_of s.order) c.self.invariant.0.ids c.in-None.ensures.none.1 (subst (λ x. 0 < length x.contents.members) (sym c.self.view_is) c.requires.some)

pub first_hits-requires : goal.first_hits-requires
first_hits-requires g c =
    let s = c.self.inside in
    let b = c.in_ok-beam.beam in
    let words = c.words-words.result.now in
    let dim : length c.args.query.now ≡ s.graph.dim = c.requires.dim ∙ ap (λ x. x.contents.dim) (sym c.self.view_is) in
    let fits : FitsDimension s.graph.dim words = subst (λ n. FitsDimension n words) dim c.words-words.ensures.fits in
    subst (λ l. All (λ key. is_taken key.id s.order ≡ true) l) (sym c.as_slice.ensures)
    (λ k d h. settled _ c.args.wanted.now.answers
    (λ known. found_taken (g.N.Nodes.at s.graph.nodes) s.graph.entry s.graph.m s.graph.dim c.nodes-nodes.ensures.good words fits s.order c.self.invariant.0 c.in-Some.descent.start c.max.result c.args.effort known.0 b.tried b.expanded b.found
    (c.in_ok-beam.ensures.beam known.0 known.1) k d h))

pub returns : goal.returns
returns g c = λ passes answers.
    let s = c.self.inside in
    let b = c.in_ok-beam.beam in
    let d = c.in-Some.descent in
    let words = c.words-words.result.now in
    let dim : length c.args.query.now ≡ s.graph.dim = c.requires.dim ∙ ap (λ x. x.contents.dim) (sym c.self.view_is) in
    let fits : FitsDimension s.graph.dim words = subst (λ n. FitsDimension n words) dim c.words-words.ensures.fits in
    let value : bits_of_words s.graph.dim words ≡ c.args.query.now = ap (λ n. bits_of_words n words) (sym dim) ∙ c.words-words.ensures.value in
    let hits = c.in_ok-hits.hits in
    let reads = c.beam.new.reads - c.args.reads.now in
    subst (λ x. FindsNear x c.args.query.now c.args.count c.args.ef c.args.effort passes hits reads) c.self.view_is
    (subst (λ v. FindsNear (set_by (g.N.Nodes.at s.graph.nodes) s.graph.entry s.graph.m s.graph.dim s.cut s.order) v c.args.count c.args.ef c.args.effort passes hits reads) value
    (near_found (g.N.Nodes.at s.graph.nodes) s.graph.entry s.graph.m s.graph.dim c.nodes-nodes.ensures.good words fits s.order c.self.invariant.0 d.start c.max.result c.args.effort passes b.tried b.expanded b.found
    (c.in_ok-beam.ensures.beam passes answers) s.cut d.top d.at c.args.count c.args.ef hits reads c.max.ensures c.in-Some.ensures.named (c.in_ok-beam.ensures.named passes answers)
    (c.in_ok-hits.ensures ∙ ap (λ l. first_of s.order c.args.count l) c.as_slice.ensures) (omega (arith, c.descend.ensures.told, c.in_ok-beam.ensures.told))))
