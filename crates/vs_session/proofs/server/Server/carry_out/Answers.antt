use Rattle.std.proofs.Common.{◌≡◌, ◌∙◌, ap, sym, subst, true≢false, List, ℕ, length, Err}
use Rattle.std.specs.Prelude.{IsTrue}
use Rattle.std.proofs.lemmas.Result.{err_from_is_err_and}
use Rattle.rand_pcg.specs.Lcg.{Lcg}
use Rattle.vs_defs.specs.Reply as outcome
use Rattle.vs_session_defs.specs.Words.{drawn, after_draws}
use Rattle.vs_command.specs.Outcomes.{outcome_of}
use Rattle.vs_command.specs.Requests.{request_of}
use Rattle.vs_session_defs.specs.Session.{is_ping_or_quit}
use Rattle.vs_command.specs.declared.refusal.Refusal.TheVariants.{NoMemory}
use Rattle.vs_connection.specs.Served.{IsServed}
use Rattle.vs_session.specs.After.{After}
use Rattle.vs_session.proofs.Serving.{length_drawn, carried_out, starved, with_reply}
use Rattle.vs_session.proofs.Memory.{answered, long_no_ping, draws_none}
use Rattle.vs_session.proofs.server.Server.carry_out.Goals as goal

pub do_now-requires-clause-words : goal.do_now-requires-clause-words
do_now-requires-clause-words g c =
    ap (λ (l : List ℕ). length l) (c.as_slice.ensures.value ∙ c.in_ok-words.ensures.words)
    ∙ length_drawn c.draws.result c.args.self.now.generator ∙ c.draws.ensures

pub returns-in_err-words-clause-served : goal.returns-in_err-words-clause-served
returns-in_err-words-clause-served g c author h k after =
    let knows = g.M.Machine.knows c.args.self.now.machine author in
    let other : IsTrue (is_ping_or_quit c.args.message.now) → ⊥ = λ ping.
    true≢false (sym (c.in_err-words.ensures.none (c.draws.ensures ∙ draws_none c.args.message.now (request_of c.in_ok-request.request) ping c.in_ok-request.ensures.request))) in
    let p = err_from_is_err_and c.from_residual-in_err-words.result c.from_residual-in_err-words.ensures.1 in
    let is : c.from_residual-in_err-words.result ≡ Err NoMemory = p.1 ∙ ap Err p.2 in
    subst (λ (gen : Lcg). IsServed g.M.Machine.call author (After knows gen) (λ o. o ≡ outcome_of c.from_residual-in_err-words.result) k h c.args.message.now) (sym c.in_err-words.ensures.refused)
    (with_reply (After knows c.args.self.now.generator) outcome.OutOfMemory (λ o. o ≡ outcome_of c.from_residual-in_err-words.result) k h c.args.message.now
    (starved g.M.Machine.call author knows c.args.self.now.generator c.args.message.now h k other after) (sym (ap outcome_of is)))

pub returns-clause-served : goal.returns-clause-served
returns-clause-served g c author h k after =
    carried_out g.M.Machine.call author (g.M.Machine.knows c.do_now.new.self author) c.args.self.now.generator c.draw.new.generator c.args.message.now
    (request_of c.in_ok-request.request) c.as_slice.result.now (outcome_of c.do_now.result) c.in_ok-request.ensures.request
    (c.as_slice.ensures.value ∙ c.in_ok-words.ensures.words ∙ ap (λ (n : ℕ). drawn n c.args.self.now.generator) c.draws.ensures)
    (c.in_ok-words.ensures.moved ∙ ap (λ (n : ℕ). after_draws n c.args.self.now.generator) c.draws.ensures)
    (answered c.args.message.now (request_of c.in_ok-request.request) c.do_now.result c.in_ok-request.ensures.request c.do_now.ensures.memory) h k after.words
    (c.do_now.ensures.does author h after.known)

pub returns-clause-long : goal.returns-clause-long
returns-clause-long g c long author h k after =
    carried_out g.M.Machine.call author (g.M.Machine.knows c.do_now.new.self author) c.args.self.now.generator c.draw.new.generator c.args.message.now
    (request_of c.in_ok-request.request) c.as_slice.result.now outcome.OutOfMemory c.in_ok-request.ensures.request
    (c.as_slice.ensures.value ∙ c.in_ok-words.ensures.words ∙ ap (λ (n : ℕ). drawn n c.args.self.now.generator) c.draws.ensures)
    (c.in_ok-words.ensures.moved ∙ ap (λ (n : ℕ). after_draws n c.args.self.now.generator) c.draws.ensures)
    (λ ping. absurd (long_no_ping c.args.message.now (request_of c.in_ok-request.request) c.do_now.result c.in_ok-request.ensures.request c.do_now.ensures.short ping long)) h k after.words
    (c.do_now.ensures.long long author h after.known)
