-- The work of each task, by its output.
--     look_work, draft_work, commit_work
--     CommitsReady ready old outcome new      a ready addition that isn't stale was committed, refused, or found no memory
use Rattle.std.specs.Prelude.{ℕ, cond, is_some, [], ◌∷◌, Some, None, Result, Ok, Err}
use Rattle.vs_defs.specs.Request as request
use Rattle.vs_defs.specs.Request.{Add, Search}
use Rattle.vs_defs.specs.Reply as outcome
use Rattle.vs_defs.specs.Reply.{Outcome}
use Rattle.vs_defs.specs.Stale.{stale_by}
use Rattle.vs_defs.specs.Store.{Store, Set, set_of}
use Rattle.vs_thread_defs.specs.Core as core
use Rattle.vs_thread_defs.specs.Core.{names_down}
use Rattle.vs_command.specs.Answers.{answer_of}
use Rattle.vs_command.specs.Outcomes.{refused_by}
use Rattle.vs_command.specs.Refusals.{refusal_of}
use Rattle.vs_command.specs.declared.refusal.Refusal.{Refusal}
use Rattle.vs_store.specs.Drafts.{WasReadyIn}
use Rattle.vs_history.specs.Work.{Work, DoesBy}
use Rattle.vs_pass.specs.Task.{at_once, watching}
use Rattle.vs_shared.specs.declared.begun.Begun.{Begun}
use Rattle.vs_shared.specs.declared.begun.Begun.TheVariants.{Drafted, Done}

abbrev pub look_work : Store Set → Search → Result core.Looked Refusal → Store Set → Work
look_work old search (Ok looked) new = watching old
look_work old search (Err e) new = at_once old (request.Vsim search) [] (refused_by (refusal_of e)) new

abbrev pub draft_work : Store Set → Add → ℕ → Result Begun Refusal → Store Set → Work
draft_work old add drawn (Ok (Drafted drafting)) new = watching old
draft_work old add drawn (Ok (Done answer)) new = at_once old (request.Vadd add) (drawn ∷ []) (outcome.Answered (answer_of answer)) new
draft_work old add drawn (Err e) new = at_once old (request.Vadd add) (drawn ∷ []) (refused_by (refusal_of e)) new

-- of a draft at the place
abbrev pub commit_work : core.Ready → ℕ → Store Set → Outcome → Store Set → Work
commit_work ready place old o new = record {
  old = old;
  request = request.Vadd ready.add;
  words = ready.drawn ∷ [];
  draft = cond (is_some (stale_by ready.cut ready.add.name (set_of ready.add.key old))) None (Some (record { place = place; chosen = names_down ready.chosen }));
  outcome = o;
  new = new;
}

-- in whatever set it was drafted
abbrev pub CommitsReady : core.Ready → Store Set → Outcome → Store Set → Type 0
CommitsReady ready old o new = (was : Set) → WasReadyIn was ready → DoesBy (Some (was, names_down ready.chosen)) old (request.Vadd ready.add) (ready.drawn ∷ []) o new
