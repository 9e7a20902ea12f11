-- A pass over a shared store: its calls, and a connection that it serves.
--     IsApart request                       a search or an addition that leaves the lock between its steps
--     CallsShared limits old r o new        one request of a pass, with the next words of its stream
--     point_of pass                         where a pass is: the list that it has seen, and the generator of its next words
--     Lent, lent_call, IsAt                 a pass that is lent to a connection
--     ServesPass limits end old input output new      a connection that a pass served
use Rattle.std.specs.Prelude.{◌≡◌, ◌⊎◌, ◌≤◌, ℕ, IsTrue, IsFalse, List}
use Rattle.rand_pcg.specs.Lcg.{Lcg}
use Rattle.vs_defs.specs.Bytes.{Bytes}
use Rattle.vs_defs.specs.Read.{draws}
use Rattle.vs_defs.specs.Reply.{Outcome}
use Rattle.vs_defs.specs.Reply as outcome
use Rattle.vs_defs.specs.Request.{Request}
use Rattle.vs_defs.specs.Request as request
use Rattle.vs_defs.specs.Store.{Limits}
use Rattle.vs_session_defs.specs.Words.{drawn, after_draws}
use Rattle.vs_thread_defs.specs.Machine.{GraphHistory, GraphCall}
use Rattle.vs_pass.specs.Knower.{Knower}
use Rattle.vs_connection.specs.declared.end.SessionEnd.{SessionEnd}
use Rattle.vs_connection.specs.Stage.{CallOn}
use Rattle.vs_connection.specs.Point.{Point}
use Rattle.vs_connection.specs.Connection.{IsEnd}

abbrev pub IsApart : Request → Type 0
IsApart (request.Vsim search) = IsFalse search.nothread
IsApart (request.Vadd add) = IsTrue add.cas
IsApart r = ⊥

-- there was no memory for the words: none is drawn, and nothing done
pub record WordsRefused (old : Knower) (r : Request) (o : Outcome) (new : Knower) : Type 0 where
  pub some : 1 ≤ draws r
  pub outcome_is : o ≡ outcome.OutOfMemory
  pub seen : new.seen ≡ old.seen
  pub stream : new.stream ≡ old.stream

-- the stream moves by the words that the request draws
pub record CallsShared (limits : Limits) (old : Knower) (r : Request) (o : Outcome) (new : Knower) : Type 0 where
  pub call : GraphCall limits old.number old.seen r (drawn (draws r) old.stream) o new.seen
  pub stream : (new.stream ≡ after_draws (draws r) old.stream) ⊎ WordsRefused old r o new
  pub number : new.number ≡ old.number

abbrev pub point_of : Knower → Point GraphHistory
point_of pass = record { history = pass.seen; generator = pass.stream }

-- the list that the pass has seen, and which loan of it this is
pub record Lent : Type 0 where
  pub history : GraphHistory
  pub loan : ℕ

abbrev pub lent_call : Limits → CallOn Lent
lent_call limits k h r words o t = GraphCall limits k h.history r words o t.history × (t.loan ≡ h.loan)

pub record IsAt (pass : Knower) (loan k : ℕ) (h : Lent) (g : Lcg) : Type 0 where
  pub number : pass.number ≡ k
  pub seen : pass.seen ≡ h.history
  pub stream : pass.stream ≡ g
  pub loan_is : loan ≡ h.loan

-- the connection is one of the pass's number, from where the pass was to where it is
pub record ServesPass (limits : Limits) (end : SessionEnd) (old : Knower) (input output : Bytes) (new : Knower) : Type 0 where
  pub is_end : IsEnd (GraphCall limits) old.number end (point_of old) input output (point_of new)
  pub number : new.number ≡ old.number
