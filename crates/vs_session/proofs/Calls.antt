-- What a store does with a request is one call of an author, at whatever the author knows of the history before it.
use Rattle.std.proofs.Common.{◌≡◌, ◌≢◌, ◌⊎◌, ℕ, List, [], ◌∷◌, ◌++◌, length, None, refl, sym, ap, subst, ◌∙◌, inl, inr, ⊎_elim, arith}
use Rattle.vs_defs.specs.Bounds.{IsInBounds}
use Rattle.vs_defs.specs.Read.{draws}
use Rattle.vs_defs.specs.Reply.{Outcome}
use Rattle.vs_defs.specs.Reply as outcome
use Rattle.vs_defs.specs.Request.{Request}
use Rattle.vs_defs.specs.Store.{Store, Set, usual_limits}
use Rattle.vs_defs.specs.History.{own}
use Rattle.vs_session_defs.specs.Session.{IsByOne}
use Rattle.vs_thread_defs.specs.Machine.{GraphHistory, StoreDoes}
use Rattle.vs_history.specs.Work.{Work, Closed, Did, entry_of}
use Rattle.vs_history.proofs.Beginnings.{prefix_self}
use Rattle.vs_history.proofs.Calls.{closed_quiet, closed_changed, did_at_once}
use Rattle.vs_history.proofs.Histories.{own-push-own}
use Rattle.vs_session.specs.Does.{Does}
use Rattle.vs_session.specs.Alone.{Call, Legal, Stored, store_at}

-- a call that was carried out at once
abbrev pub work : Store Set → Request → List ℕ → Outcome → Store Set → Work
work old r words o new = record { old = old; request = r; words = words; draft = None; outcome = o; new = new }

-- the history after it
pub record Made (k : ℕ) (log : GraphHistory) (w : Work) : Type 0 where
  pub history : GraphHistory
  pub mine : GraphHistory
  pub closed : Closed usual_limits k log w history mine

-- the store is as it was, or its count has moved
stays_or_moves : (old new : Store Set) (r : Request) (words : List ℕ) (o : Outcome) → StoreDoes old r words o new → (new ≡ old) ⊎ (new.changes ≢ old.changes)
stays_or_moves old new r words (outcome.Answered a) (inl c) = inr (λ same. let number = c.step.contents.number in absurd (omega (arith, number, same)))
stays_or_moves old new r words (outcome.Answered a) (inr t) = inl t.0
stays_or_moves old new r words (outcome.Refused e) t = inl t.0
stays_or_moves old new r words outcome.OutOfMemory same = inl same

module _ (k : ℕ) (old new : Store Set) (log : GraphHistory) (r : Request) (words : List ℕ) (o : Outcome) where
  abbrev done : Work
  done = work old r words o new

  pub made : Legal log → store_at log ≡ old → IsInBounds r → length words ≡ draws r → StoreDoes old r words o new → Made k log done
  made legal store_is bounds drawn does =
      let did : Did usual_limits log done = did_at_once usual_limits o old new r words log (sym store_is) bounds drawn does in ⊎_elim
      (λ same. record { history = log; mine = own k log; closed = closed_quiet usual_limits done k log (own k log) did (ap (λ (s : Store Set). s.changes) same) legal refl })
      (λ apart. record { history = log ++ entry_of k done ∷ []; mine = own k log ++ entry_of k done ∷ []; closed = closed_changed usual_limits done k log (own k log) did apart legal refl })
      (stays_or_moves old new r words o does)

  -- ---- of a store's only author

  by_one : (t : GraphHistory) → IsByOne k log → (t ≡ log) ⊎ (t ≡ log ++ entry_of k done ∷ []) → IsByOne k t
  by_one t is (inl same) = subst (IsByOne k) (sym same) is
  by_one t is (inr same) = subst (IsByOne k) (sym same) (own-push-own k log (entry_of k done) refl ∙ ap (λ (l : GraphHistory). l ++ entry_of k done ∷ []) is)

  pub does_alone : Stored old k log → IsInBounds r → length words ≡ draws r → StoreDoes old r words o new → Does Call k (Stored new k) log r words o
  does_alone s bounds drawn does =
      let m = made s.own.legal s.store_is bounds drawn does in
      record {
        history = m.history;
        called = m.closed.call log (prefix_self log) refl tt;
        known = record {
          own = record { legal = m.closed.legal; by_one = by_one m.history s.own.by_one m.closed.grows; good = m.closed.good s.own.good };
          store_is = sym m.closed.ends;
        };
      }
