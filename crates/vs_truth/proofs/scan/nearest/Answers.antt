use Rattle.std.proofs.Common.{map, ap, ◌∙◌}
use Rattle.vs_defs.specs.FilterText.{passes_filter}
use Rattle.vs_truth.specs.Nears.{firsts, candidate_hit}
use Rattle.vs_truth.proofs.Answered.{answered}
use Rattle.vs_truth.proofs.Scanned.{between_all}
use Rattle.vs_truth.proofs.scan.nearest.Goals as goal

pub returns-clause-hits : goal.returns-clause-hits
returns-clause-hits g c = λ passes answers.
    let members = g.M.Members.members c.args.members.now in
    let q = c.args.query.now in
    answered passes q c.args.count members c.into_sorted.result.items c.from_vec.result
    (c.from_vec.ensures ∙ c.in_ok-hits.ensures ∙ ap (map candidate_hit) c.as_slice.ensures.value)
    (c.into_sorted.ensures ∙ c.in_ok-few.ensures.nears passes answers ∙ ap (firsts c.args.count) (between_all passes q members c.count-all.result c.count-all.ensures))

pub returns-clause-filter : goal.returns-clause-filter
returns-clause-filter g c = λ text answers.
    let members = g.M.Members.members c.args.members.now in
    let q = c.args.query.now in
    let passes = passes_filter text in
    answered passes q c.args.count members c.into_sorted.result.items c.from_vec.result
    (c.from_vec.ensures ∙ c.in_ok-hits.ensures ∙ ap (map candidate_hit) c.as_slice.ensures.value)
    (c.into_sorted.ensures ∙ c.in_ok-few.ensures.nears passes answers ∙ ap (firsts c.args.count) (between_all passes q members c.count-all.result c.count-all.ensures))
