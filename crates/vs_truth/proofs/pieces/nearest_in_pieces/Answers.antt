use Rattle.std.proofs.Common.{◌+◌, ◌/◌, ◌∙◌, length, map, sym, ap, subst}
use Rattle.std.specs.List.{AllZip, range_with_len}
use Rattle.vs_defs.specs.FilterText.{passes_filter}
use Rattle.vs_truth.specs.Nears.{firsts, nears_of_piece, candidate_hit}
use Rattle.vs_truth.proofs.Answered.{answered}
use Rattle.vs_truth.proofs.Parts.{IsFirsts, firsts_of_all}
use Rattle.vs_truth.proofs.pieces.nearest_in_pieces.Goals as goal

pub returns-clause-hits : goal.returns-clause-hits
returns-clause-hits g c = λ passes answers.
    let members = g.M.Members.members c.args.members.now in
    let q = c.args.query.now in
    let n = length members / 4096 + 1 in
    let count = c.args.count in
    let all = subst (λ l. AllZip (IsFirsts passes q members count) (range_with_len 0 n) l) (sym c.as_slice.ensures.value) (c.in_ok-pieces.ensures passes answers) in
    answered passes q count members c.first_of-few.result.items c.from_vec.result
    (c.from_vec.ensures ∙ c.in_ok-hits.ensures ∙ ap (map candidate_hit) c.as_slice-2.ensures.value)
    (c.first_of-few.ensures ∙ ap (firsts count) (c.in_ok-all.ensures (λ i. firsts count (nears_of_piece passes q members i)) n all) ∙ firsts_of_all passes q count members)

pub returns-clause-filter : goal.returns-clause-filter
returns-clause-filter g c = λ text answers.
    let passes = passes_filter text in
    let members = g.M.Members.members c.args.members.now in
    let q = c.args.query.now in
    let n = length members / 4096 + 1 in
    let count = c.args.count in
    let all = subst (λ l. AllZip (IsFirsts passes q members count) (range_with_len 0 n) l) (sym c.as_slice.ensures.value) (c.in_ok-pieces.ensures passes answers) in
    answered passes q count members c.first_of-few.result.items c.from_vec.result
    (c.from_vec.ensures ∙ c.in_ok-hits.ensures ∙ ap (map candidate_hit) c.as_slice-2.ensures.value)
    (c.first_of-few.ensures ∙ ap (firsts count) (c.in_ok-all.ensures (λ i. firsts count (nears_of_piece passes q members i)) n all) ∙ firsts_of_all passes q count members)
