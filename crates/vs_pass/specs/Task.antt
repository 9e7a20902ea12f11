-- What is done on a store while a pass has the lock.
--     Holding limits n s log        a pass that had seen s has the lock, where the history is log
--     Works ..                      a task did this work, and what its caller then knows
--     at_once, watching             the work of a request done at once, and of a task that only looks
--     committing                    the work of a commit, and by what draft it is done
use Rattle.std.specs.Prelude.{◌≡◌, ℕ, Bool, cond, List, [], ◌∷◌, Option, Some, None, is_some, length}
use Rattle.vs_defs.specs.Request.{Request, Add}
use Rattle.vs_defs.specs.Request as request
use Rattle.vs_defs.specs.Store.{Store, Set, Limits, set_of}
use Rattle.vs_defs.specs.Stale.{stale}
use Rattle.vs_defs.specs.Step.{Drafted}
use Rattle.vs_defs.specs.Reply.{Outcome}
use Rattle.vs_defs.specs.Reply as outcome
use Rattle.vs_defs.specs.History.{Preparation, IsPrefix, own}
use Rattle.vs_thread_defs.specs.Machine.{GraphHistory, GraphLegal, IsGoodThroughout, store_of}
use Rattle.vs_history.specs.Work.{Work, Did, Closed}

-- what the pass of the number had seen begins the history, which has no entries of its own but those; all stores of it are good
pub record Holding (limits : Limits) (number : ℕ) (s log : GraphHistory) : Type 0 where
  pub begins : IsPrefix s log
  pub legal : GraphLegal limits log
  pub good : IsGoodThroughout log
  pub own_are : own number log ≡ own number s

-- what a task may rest on, where it needs N of what its pass had seen, which were known changes
pub record MayRun (N : Limits → GraphHistory → Type 0) (store : Store Set) (known : ℕ) : Type 0 where
  pub limits : Limits
  pub number : ℕ
  pub seen : GraphHistory
  pub log : GraphHistory
  pub holding : Holding limits number seen log
  pub store_is : store ≡ store_of limits log
  pub known_is : known ≡ length seen
  pub needs : N limits seen

-- the work is what the machine does at the end of log, and whatever list its pass has seen once the hold is closed, P holds of it
pub record Works (limits : Limits) (number : ℕ) (log : GraphHistory) (old new : Store Set) (w : Work) (P : GraphHistory → Type 0) : Type 0 where
  pub old_is : w.old ≡ old
  pub new_is : w.new ≡ new
  pub did : Did limits log w
  pub closes : (t mine : GraphHistory) → Closed limits number log w t mine → P t

abbrev pub at_once : Store Set → Request → List ℕ → Outcome → Store Set → Work
at_once old r words o new = record { old = old; request = r; words = words; draft = None; outcome = o; new = new }

-- no request that changes anything is done
abbrev pub watching : Store Set → Work
watching s = at_once s request.Quit [] outcome.OutOfMemory s

-- by the draft that was prepared in the set was, unless it is stale in the store
module _ (add : Add) (p : Preparation) (was : Set) (old : Store Set) where
  abbrev pub is_stale : Bool
  is_stale = is_some (stale add p.chosen was (set_of add.key old))

  abbrev pub drafted_by : Option Drafted
  drafted_by = cond is_stale None (Some (was, p.chosen))

  abbrev pub committing : ℕ → Outcome → Store Set → Work
  committing drawn o new = record { old = old; request = request.Vadd add; words = drawn ∷ []; draft = cond is_stale None (Some p); outcome = o; new = new }
