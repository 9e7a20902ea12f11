use Rattle.std.proofs.Common.{sym, subst}
use Rattle.std.proofs.lemmas.Result.{IfOk-weaker}
use Rattle.vs_defs.specs.FilterText.{passes_filter}
use Rattle.vs_command.specs.Requests.{search_of}
use Rattle.vs_rank.specs.Tests.{Answers}
use Rattle.vs_query.proofs.Searches.{has_nearest}
use Rattle.vs_query.proofs.wide.hits_by.Goals as goal

pub returns : goal.returns
returns g c =
    IfOk-weaker c.nearest_in_pieces.result _ _
    (λ hits are. λ text answers.
    has_nearest (search_of c.args.search.now) text c.args.snap.now c.args.query.now hits 0 c.requires.truth
    (are text (subst (λ test. Answers (g.F.Testing.gives test) (passes_filter text)) (sym c.new-wanted.ensures) answers)))
    c.nearest_in_pieces.ensures.filter
