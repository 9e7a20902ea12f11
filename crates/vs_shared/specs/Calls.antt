-- What a caller of the shared store owes, and what it then knows. s and t are its pass's lists before and after, and k is its number.
--     IsDoneAtOnce request          neither a search that may be answered without the lock nor an addition with CAS
--     HasCas request                an addition with CAS
--     LookAnswers ..                a search has looked, where it isn't refused, or was refused
--     DraftAnswers ..               an addition was drafted, or done at once, or refused
--     prepared_after s ready        the preparation of a draft that was made at the end of s
--     IsReadyAfter limits s ready   what a commit needs: it was drafted at the end of s
use Rattle.std.specs.Prelude.{◌≡◌, ℕ, IsTrue, IsFalse, ⊤, [], None, Result, Ok, Err, length}
use Rattle.vs_defs.specs.Request as request
use Rattle.vs_defs.specs.Request.{Request, Add, Search}
use Rattle.vs_defs.specs.Reply as outcome
use Rattle.vs_defs.specs.Refuse.{store_refusal}
use Rattle.vs_defs.specs.Store.{Limits, plain}
use Rattle.vs_defs.specs.History.{Preparation}
use Rattle.vs_thread_defs.specs.Core as core
use Rattle.vs_thread_defs.specs.Core.{ReadyAt, names_down}
use Rattle.vs_thread_defs.specs.Machine.{GraphHistory, store_of}
use Rattle.vs_thread_defs.specs.Passes as passes
use Rattle.vs_thread_defs.specs.Passes.{NowCall, LookCall, DraftCall}
use Rattle.vs_command.specs.Answers.{answer_of}
use Rattle.vs_command.specs.Outcomes.{refused_by}
use Rattle.vs_command.specs.Refusals.{refusal_of}
use Rattle.vs_command.specs.Scores.{HasScores}
use Rattle.vs_command.specs.declared.refusal.Refusal.{Refusal}
use Rattle.vs_shared.specs.declared.begun.Begun.{Begun}
use Rattle.vs_shared.specs.declared.begun.Begun.TheVariants.{Drafted, Done}

abbrev pub IsDoneAtOnce : Request → Type 0
IsDoneAtOnce (request.Vsim search) = IsTrue search.nothread
IsDoneAtOnce (request.Vadd add) = IsFalse add.cas
IsDoneAtOnce r = ⊤

abbrev pub HasCas : Request → Type 0
HasCas (request.Vadd add) = IsTrue add.cas
HasCas r = ⊥

-- a search looks only where the store doesn't refuse it; a refused look is the call of a refused request
abbrev pub LooksUnrefused : Limits → ℕ → GraphHistory → Search → core.Looked → GraphHistory → Type 0
LooksUnrefused limits k s search looked t = LookCall limits k s search looked t × (store_refusal (plain (store_of limits t)) (request.Vsim search) ≡ None)

abbrev pub LookAnswers : Limits → ℕ → GraphHistory → Search → Result core.Looked Refusal → GraphHistory → Type 0
LookAnswers limits k s search (Ok looked) t = LooksUnrefused limits k s search looked t
LookAnswers limits k s search (Err e) t = NowCall limits k s (request.Vsim search) [] (refused_by (refusal_of e)) t

abbrev pub begun_of : Result Begun Refusal → passes.Begun
begun_of (Ok (Drafted drafting)) = passes.Drafted drafting
begun_of (Ok (Done answer)) = passes.Done (outcome.Answered (answer_of answer))
begun_of (Err e) = passes.Done (refused_by (refusal_of e))

abbrev pub DraftAnswers : Limits → ℕ → GraphHistory → Add → ℕ → Result Begun Refusal → GraphHistory → Type 0
DraftAnswers limits k s add drawn result t = DraftCall limits k s add drawn (begun_of result) t

-- of the answer, where it was done at once
abbrev pub BegunHasScores : Begun → Type 0
BegunHasScores (Drafted drafting) = ⊤
BegunHasScores (Done answer) = HasScores answer

abbrev pub prepared_after : GraphHistory → core.Ready → Preparation
prepared_after s ready = record { place = length s; chosen = names_down ready.chosen }

abbrev pub IsReadyAfter : Limits → GraphHistory → core.Ready → Type 0
IsReadyAfter limits s ready = ReadyAt limits s ready.add ready.drawn (prepared_after s ready) ready
