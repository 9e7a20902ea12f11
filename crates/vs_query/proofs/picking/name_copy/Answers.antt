use Rattle.std.proofs.Common.{◌≡◌, sym, ◌∙◌}
use Rattle.std.proofs.lemmas.Result.{IfOk-weaker}
use Rattle.vs_defs.specs.Draws.{name_at}
use Rattle.vs_defs.specs.Store.{names_of}
use Rattle.vs_query.proofs.Places.{name_there}
use Rattle.vs_query.proofs.picking.name_copy.Goals as goal

pub returns : goal.returns
returns g c =
    let members = c.args.snap.now.contents.members in
    IfOk-weaker c.from_slice.result (λ name. name ≡ c.name.result.now) (λ name. name ≡ name_at c.args.place (names_of members))
    (λ name e. e ∙ sym (name_there members c.args.place c.name.result.now c.name.ensures)) c.from_slice.ensures
