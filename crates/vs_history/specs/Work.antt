-- What a call of the store does in a hold of the lock, and what is known once the hold ends.
--     Work                        the store before and after the call, and what was asked and answered
--     entry_of number work        the entry of a change, by the author of the number
--     Did limits log work         the store was the one after the history log, and the call did what the machine does
--     Closed ..                   what is known at the end of the hold
use Rattle.std.specs.Prelude.{◌≡◌, ℕ, ◌≤◌, ◌⊎◌, List, [], ◌∷◌, ◌++◌, Option, Some, None, IfSome, length}
use Rattle.vs_defs.specs.Bounds.{IsInBounds}
use Rattle.vs_defs.specs.Read.{draws}
use Rattle.vs_defs.specs.Request.{Request, Answer}
use Rattle.vs_defs.specs.Refuse.{store_refusal}
use Rattle.vs_defs.specs.Store.{Store, Set, Limits, plain, empty_store, usual_limits}
use Rattle.vs_defs.specs.Step.{Drafted}
use Rattle.vs_defs.specs.Answers.{Answers}
use Rattle.vs_defs.specs.Reply.{Outcome}
use Rattle.vs_defs.specs.Reply as outcome
use Rattle.vs_defs.specs.Request as request
use Rattle.vs_defs.specs.History.{Entry, Preparation, IsPrefix, own}
use Rattle.vs_thread_defs.specs.Machine.{GraphHistory, GraphLegal, GraphCall, DraftFits, IsGoodThroughout, StoreChanges, store_of}

pub record Work : Type 0 where
  pub old : Store Set
  pub request : Request
  pub words : List ℕ
  -- the draft by which a change was made, where it was made by one
  pub draft : Option Preparation
  pub outcome : Outcome
  pub new : Store Set

-- a call that no pass makes
abbrev pub no_work : Work
no_work = record { old = empty_store usual_limits; request = request.Quit; words = []; draft = None; outcome = outcome.OutOfMemory; new = empty_store usual_limits }

-- the answer of a change; a refusal and want of memory are none
abbrev pub answer_in : Outcome → Answer
answer_in (outcome.Answered a) = a
answer_in (outcome.Refused e) = request.Bye
answer_in outcome.OutOfMemory = request.Bye

abbrev pub entry_of : ℕ → Work → Entry (Store Set)
entry_of number w = record { author = number; request = w.request; words = w.words; draft = w.draft; answer = answer_in w.outcome; store = w.new }

-- as `StoreDoes` says, by beams in the store's own set or by a draft; a refusal and want of memory leave the store as it was
abbrev pub DoesBy : Option Drafted → Store Set → Request → List ℕ → Outcome → Store Set → Type 0
DoesBy drafted old r words (outcome.Answered a) new = StoreChanges old r words a new drafted ⊎ ((new ≡ old) × Answers old r words a)
DoesBy drafted old r words (outcome.Refused e) new = (new ≡ old) × (store_refusal (plain old) r ≡ Some e)
DoesBy drafted old r words outcome.OutOfMemory new = new ≡ old

module _ (limits : Limits) where
  pub record Did (log : GraphHistory) (w : Work) : Type 0 where
    pub begins : w.old ≡ store_of limits log
    pub in_bounds : IsInBounds w.request
    pub words : length w.words ≡ draws w.request
    pub drafted : Option Drafted
    pub draft : DraftFits limits log w.request w.draft drafted
    pub does : DoesBy drafted w.old w.request w.words w.outcome w.new

  -- the pass of the number did the work where the history was log; its history then is t, and its own entries are mine
  pub record Closed (number : ℕ) (log : GraphHistory) (w : Work) (t mine : GraphHistory) : Type 0 where
    pub legal : GraphLegal limits t
    pub ends : w.new ≡ store_of limits t
    pub counts : w.new.changes ≡ length t
    pub own_are : own number t ≡ mine
    pub good : IsGoodThroughout log → IsGoodThroughout t
    -- for each list that the pass had seen before, where the draft was made no sooner
    pub call : (s : GraphHistory) → IsPrefix s log → own number log ≡ own number s → IfSome w.draft (λ p. length s ≤ p.place) → GraphCall limits number s w.request w.words w.outcome t
    -- one entry more, or none
    pub grows : (t ≡ log) ⊎ (t ≡ log ++ entry_of number w ∷ [])
