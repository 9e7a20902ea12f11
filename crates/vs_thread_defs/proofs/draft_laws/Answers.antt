use Rattle.vs_thread_defs.proofs.Drafts.{draft_keeps_chosen}
use Rattle.vs_thread_defs.proofs.draft_laws.Goals as goal

pub returns : goal.returns
returns c = record { keeps_chosen = draft_keeps_chosen }
