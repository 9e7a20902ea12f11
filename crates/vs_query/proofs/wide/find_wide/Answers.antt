use Rattle.std.proofs.Common.{◌≡◌, [], Some, sym, ap, ◌∙◌, position}
use Rattle.std.proofs.lemmas.Result.{IfOk-weaker}
use Rattle.vs_defs.specs.Answers.{FindsOf}
use Rattle.vs_defs.specs.PlainAnswer.{query_of}
use Rattle.vs_defs.specs.Refuse.{search_refusal}
use Rattle.vs_defs.specs.Store.{is_of_name}
use Rattle.vs_command.specs.Answers.{answer_of}
use Rattle.vs_command.specs.Requests.{what_of, search_of}
use Rattle.vs_query.specs.Found.{place_sought, FindsVector}
use Rattle.vs_query.proofs.Places.{has_place, answer_there}
use Rattle.vs_query.proofs.Searches.{has_sought, finds_of}
use Rattle.vs_query.proofs.wide.find_wide.Goals as goal

pub unreachable-requires : goal.unreachable-requires
unreachable-requires g c =
    let contents = c.args.snap.now.contents in
    let name = c.in-Ele-None.field-0-0 in
    let member = has_sought name contents (ap (λ w. search_refusal (what_of w) (Some contents)) (sym c.in-Ele-None.is-0) ∙ c.requires.unrefused) in
    has_place name contents.members member (sym (c.requires.sought ∙ ap (λ w. place_sought (what_of w) contents.members) c.in-Ele-None.is-0) ∙ c.in-Ele-None.is-1)

pub returns-in_ok-bits-in-Ele-Some-clause-found : goal.returns-in_ok-bits-in-Ele-Some-clause-found
returns-in_ok-bits-in-Ele-Some-clause-found g c =
    let search = c.args.search.now in
    let snap = c.args.snap.now in
    let members = snap.contents.members in
    let name = c.in-Ele-Some.field-0-0 in
    let place = c.in-Ele-Some.place in
    let q = c.in_ok-bits-in-Ele-Some.bits in
    let at : position (is_of_name name) members ≡ Some place = sym (c.requires.sought ∙ ap (λ w. place_sought (what_of w) members) c.in-Ele-Some.is-0) ∙ c.in-Ele-Some.is-1 in
    let is : q ≡ query_of (what_of search.what) snap.contents
    = answer_there [] q (λ y. y.bits) name members place at c.in_ok-bits-in-Ele-Some.ensures.bits ∙ sym (ap (λ w. query_of (what_of w) snap.contents) c.in-Ele-Some.is-0) in
    IfOk-weaker c.find_vector-in-Ele-Some.result (λ answer. FindsVector (search_of search) snap q (answer_of answer) 0) (λ answer. FindsOf (search_of search) (Some snap) (answer_of answer))
    (λ answer finds. finds_of (search_of search) snap q (answer_of answer) 0 is finds) c.find_vector-in-Ele-Some.ensures.found
