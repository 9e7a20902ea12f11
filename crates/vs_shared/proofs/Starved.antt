-- Memory that runs out before the hold: nothing is done, and the pass has seen what it had.
use Rattle.std.proofs.Common.{◌≡◌, ℕ, false, true≢false, List, [], ◌∷◌, ◌++◌, length, refl, sym, ap, ◌∙◌, arith, length-append}
use Rattle.vs_defs.specs.Memory.{needs_no_memory}
use Rattle.vs_defs.specs.Request.{Request, Add}
use Rattle.vs_defs.specs.Reply as outcome
use Rattle.vs_defs.specs.Store.{Store, Set, Limits}
use Rattle.vs_defs.specs.History.{Entry, IsPrefix}
use Rattle.vs_thread_defs.specs.Machine.{GraphHistory, GraphLegal}
use Rattle.vs_thread_defs.specs.Passes.{NowCall, DraftCall}
use Rattle.vs_thread_defs.specs.Passes as begun
use Rattle.vs_history.proofs.Beginnings.{prefix_self, prefix_length}

no_longer : (s before : GraphHistory) (e : Entry (Store Set)) → s ≡ before ++ e ∷ [] → IsPrefix s before → ⊥
no_longer s before e is begins = omega (arith, prefix_length s before begins, ap length is ∙ length-append before (e ∷ []))

module _ (limits : Limits) (k : ℕ) (s : GraphHistory) (legal : GraphLegal limits s) where
  pub starved : (r : Request) (words : List ℕ) → needs_no_memory r ≡ false → NowCall limits k s r words outcome.OutOfMemory s
  starved r words needs = record {
    call = record { goes_on = prefix_self s; legal_before = legal; legal = legal; outcome_is = refl };
    no_draft = λ before e is begins author. absurd (no_longer s before e is begins);
    memory = λ none. absurd (true≢false (sym none ∙ needs));
  }

  pub draft_starved : (add : Add) (drawn : ℕ) → DraftCall limits k s add drawn (begun.Done outcome.OutOfMemory) s
  draft_starved add drawn = record {
    now = starved _ (drawn ∷ []) refl;
    only_direct = λ before e is begins author. absurd (no_longer s before e is begins);
  }
