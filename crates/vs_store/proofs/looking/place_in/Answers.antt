use Rattle.std.proofs.Common.{◌≡◌, None, Some, sym, ap, ◌∙◌, subst}
use Rattle.std.specs.Prelude.{position}
use Rattle.vs_defs.specs.Refuse.{search_refusal}
use Rattle.vs_defs.specs.Request as request
use Rattle.vs_defs.specs.Store.{is_of_name}
use Rattle.vs_command.specs.Requests.{what_of}
use Rattle.vs_command.specs.declared.request.What.{What}
use Rattle.vs_store.proofs.Taken.{name_found, no_name}
use Rattle.vs_store.proofs.looking.place_in.Goals as goal

pub returns-in-Some-clause-unrefused : goal.returns-in-Some-clause-unrefused
returns-in-Some-clause-unrefused c =
    let x = c.args.set.now.contents in
    subst (λ (w : What). search_refusal (what_of w) (Some x) ≡ None) (sym c.in-Ele.is)
    (name_found c.in-Ele.name x c.in-Some.place (c.in-Some.ensures ∙ ap (λ n. position (is_of_name n) x.members) c.as_slice.ensures))

pub returns-in-None-clause-refused : goal.returns-in-None-clause-refused
returns-in-None-clause-refused c =
    let x = c.args.set.now.contents in
    subst (λ (w : What). search_refusal (what_of w) (Some x) ≡ Some request.NoSuchElement) (sym c.in-Ele.is)
    (no_name c.in-Ele.name x (c.in-None.ensures ∙ ap (λ n. position (is_of_name n) x.members) c.as_slice.ensures))
