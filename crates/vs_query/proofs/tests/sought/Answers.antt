use Rattle.std.proofs.Common.{◌≡◌, true, Some, None, sym, ap, ◌∙◌, is_some, position}
use Rattle.std.proofs.lemmas.Bool.{cond-true}
use Rattle.std.proofs.lemmas.Option.{slice_get-get_or}
use Rattle.vs_defs.specs.Bytes.{Bytes}
use Rattle.vs_defs.specs.Refuse.{search_refusal}
use Rattle.vs_defs.specs.Request as request
use Rattle.vs_defs.specs.Store.{is_of_name, is_member, no_member}
use Rattle.vs_command.specs.Requests.{what_of}
use Rattle.vs_query.proofs.Places.{within, found_there}
use Rattle.vs_query.proofs.tests.sought.Goals as goal

pub returns-in_ok-place_of-in-Ele-clause-unrefused : goal.returns-in_ok-place_of-in-Ele-clause-unrefused
returns-in_ok-place_of-in-Ele-clause-unrefused c =
    let contents = c.args.set.now.contents in
    let members = contents.members in
    let name = c.in-Ele.name in
    let place = c.in_ok-place_of-in-Ele.field-0 in
    let at : position (is_of_name name) members ≡ Some place = ap (λ (n : Bytes). position (is_of_name n) members) (sym c.as_slice.ensures) ∙ sym c.in_ok-place_of-in-Ele.ensures in
    let member : is_member name members ≡ true = ap is_some (found_there name members place at ∙ slice_get-get_or members place no_member (within name members place at)) in
    ap (λ w. search_refusal (what_of w) (Some contents)) c.in-Ele.is ∙ cond-true (is_member name members) None (Some request.NoSuchElement) member
