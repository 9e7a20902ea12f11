use Rattle.std.proofs.Common.{◌≡◌, ℕ, List, length, true≢false, sym, ap, ◌∙◌, arith}
use Rattle.vs_command.specs.Requests.{request_of}
use Rattle.vs_defs.specs.Read.{draws as draws_of}
use Rattle.vs_session_defs.specs.Words.{drawn, after_draws}
use Rattle.vs_session.proofs.Passing.{unworded, unslotted}
use Rattle.vs_session.proofs.Serving.{length_drawn}
use Rattle.vs_session.proofs.call.call_by.Goals as goal

pub returns-in_default-clause-call : goal.returns-in_default-clause-call
returns-in_default-clause-call g c =
    let old = c.args.pass.now in
    let new = c.draw.new.self in
    let r = request_of c.args.request.now in
    let some : c.draws.result ≡ 0 → ⊥ = λ none. true≢false (sym (c.in_default.ensures.none none)) in
    unworded g.N.TableName.limits old.number old new r c.starved.result c.starved.ensures.refusal (omega (arith, c.draws.ensures, some)) c.draw.ensures.rest.0 c.draw.ensures.rest.1 c.in_default.ensures.refused
    (c.starved.ensures.call r (drawn (draws_of r) old.stream))

pub returns-in_default-take_slot-clause-call : goal.returns-in_default-take_slot-clause-call
returns-in_default-take_slot-clause-call g c =
    let old = c.args.pass.now in
    let new = c.draw.new.self in
    let r = request_of c.args.request.now in
    unslotted g.N.TableName.limits old.number old new r c.starved-in_default-take_slot.result c.starved-in_default-take_slot.ensures.refusal c.draw.ensures.rest.0 c.draw.ensures.rest.1
    (c.in-Ok.ensures.moved ∙ ap (λ (n : ℕ). after_draws n old.stream) c.draws.ensures)
    (c.starved-in_default-take_slot.ensures.call r (drawn (draws_of r) old.stream))

pub call_in-outcome-requires-clause-words : goal.call_in-outcome-requires-clause-words
call_in-outcome-requires-clause-words g c =
    ap (λ (l : List ℕ). length l) (c.as_slice-2.ensures.value ∙ c.in-Ok.ensures.words) ∙ length_drawn c.draws.result c.args.pass.now.stream ∙ c.draws.ensures
