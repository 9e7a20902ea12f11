use Rattle.std.proofs.Common.{◌+◌, ◌-◌, ◌*◌, ◌∙◌, min, refl, ap}
use Rattle.vs_truth.specs.Nears.{firsts, nears_between}
use Rattle.vs_truth.proofs.Parts.{piece_is}
use Rattle.vs_truth.proofs.pieces.first_of_piece.Goals as goal

pub returns : goal.returns
returns g c = λ passes answers.
    let members = g.M.Members.members c.args.members.now in
    let q = c.args.query.now in
    let a = c.args.piece * 4096 in
    c.into_sorted.ensures ∙ c.in_ok-few.ensures.nears passes answers
    ∙ ap (λ n. firsts c.args.most (nears_between passes q members a (a + n))) (c.min-size.ensures ∙ ap (λ k. min 4096 (k - a)) c.count-count.ensures)
    ∙ ap (firsts c.args.most) (piece_is passes q members c.args.piece a refl c.requires.begins)
