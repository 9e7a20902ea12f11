use Rattle.std.proofs.Common.{◌≡◌, ◌∙◌, List, Ok, pos, ap, subst, sym, SFits, to_z}
use Rattle.vs_defs.specs.Request as request
use Rattle.vs_defs.specs.Bytes.{Bytes}
use Rattle.vs_defs.specs.Read.{read}
use Rattle.vs_command.specs.Answers.{answer_of}
use Rattle.vs_command.specs.Requests.{request_of}
use Rattle.vs_generate.proofs.Asks.{adds_by}
use Rattle.vs_generate.proofs.building.add_member.Lts as Lts
use mir.Syntax.{w64}
use Rattle.std.proofs.Math.Facts.{to_z-of_z}
use Rattle.vs_generate.proofs.building.add_member.Goals as goal

-- an answered number is an i64: the law of the answer's type at this answer, and of that the part on the number
fits : (c : goal.Joined-request-22) → SFits w64 c.in-Ok-Int.number
fits c = record { sfits = (subst (λ r. Lts.r-11.is.Ok c.do_now.lifetimes r) (c.in-Ok-Int.is ∙ ap Ok c.in-Ok-Int.field-0-is) c.do_now.type_inv).1.1.1.1.1.0.1.1.1.1.0.1 }

pub returns-clause-added : goal.returns-clause-added
returns-clause-added c =
    let one : c.in-Ok-Int.number ≡ pos 1 = sym (to_z-of_z (fits c)) ∙ ap (to_z w64) c.if-number-ne1.false in
    adds_by c.args.store.now c.do_now.new.self c.args.words.now (request_of c.in-Ok.request) _ (answer_of c.in-Ok-Int.field-0) c.as_slice-2.result.now c.draws.result
    c.args.levels.now (subst (λ (w : List Bytes). read w ≡ Ok (request_of c.in-Ok.request)) c.as_slice.ensures c.in-Ok.ensures.request) c.in-Ok.ensures.bounds (ap request_of c.in-Vadd.is)
    (ap answer_of c.in-Ok-Int.field-0-is ∙ ap request.Int one) (c.as_slice-2.ensures.value ∙ c.in_ok-word.ensures.words) c.draws.ensures c.in-Ok-Int.ensures.does
