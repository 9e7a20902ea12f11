use Rattle.std.proofs.Common.{subst, ◌∙◌}
use Rattle.std.proofs.lemmas.Result.{IfOk-weaker}
use Rattle.vs_defs.specs.Truth as truth
use Rattle.vs_truth.specs.Nearest.{AreHits, nearest_passing}
use Rattle.vs_truth.specs.RowMembers.{members_of_rows}
use Rattle.vs_truth.proofs.Listed.{all_fit}
use Rattle.vs_truth.proofs.rows.nearest_wide.Goals as goal

pub nearest_in_pieces-requires-clause-fits : goal.nearest_in_pieces-requires-clause-fits
nearest_in_pieces-requires-clause-fits g c κs within k d h = all_fit c.dim-dim.result c.args.rows.now k d h ∙ c.dim-dim.ensures.value

pub returns-clause-hits : goal.returns-clause-hits
returns-clause-hits g c =
    let q = c.args.query.now in
    let rows = c.args.rows.now in
    IfOk-weaker c.nearest_in_pieces.result _ _ (λ hits are. λ passes answers. subst (λ n. AreHits q (members_of_rows n rows) (nearest_passing passes c.args.count q (members_of_rows n rows)) hits) c.dim-dim.ensures.value (are passes answers))
    c.nearest_in_pieces.ensures.hits

pub returns-clause-filter : goal.returns-clause-filter
returns-clause-filter g c =
    let q = c.args.query.now in
    let rows = c.args.rows.now in
    IfOk-weaker c.nearest_in_pieces.result _ _ (λ hits are. λ text answers. subst (λ n. AreHits q (members_of_rows n rows) (truth.nearest c.args.count q text (members_of_rows n rows)) hits) c.dim-dim.ensures.value (are text answers))
    c.nearest_in_pieces.ensures.filter
