-- Links of one listener that were served one after another, by the pass of one number.
--     Serves .. k s a b t      a link was served by the number k, from where its pass was to where it then was; a and b are its ends when it
--                              was accepted and when it was closed
--     start seed k             where the pass of the number begins
--     Chain P s links ends t   each link goes on from where the one before ended, and the last ends at t
--     Chained ..               the same of a listener that tells its links
use Rattle.std.specs.Prelude.{◌≡◌, ◌⊎◌, ◌↔◌, ℕ, ◌<◌, List, [], ◌∷◌, ◌++◌, Option, Some, IfSome}
use Rattle.vs_defs.specs.Bytes.{Bytes}
use Rattle.vs_defs.specs.Stream.{Message}
use Rattle.vs_defs.specs.Store.{Limits}
use Rattle.vs_session_defs.specs.Words.{generator}
use Rattle.vs_outside.specs.Known.{Adds, in_front, NothingLeft}
use Rattle.vs_thread_defs.specs.Machine.{GraphHistory, GraphCall}
use Rattle.vs_connection.specs.declared.end.SessionEnd.{SessionEnd}
use Rattle.vs_connection.specs.declared.end.SessionEnd.TheVariants.{Ended, CutShort, ReadFault, WriteFault}
use Rattle.vs_connection.specs.Point.{Point}
use Rattle.vs_connection.specs.Connection.{IsEnd}
use Rattle.vs_connection.specs.Complete.{HasWhole, IsComplete}

-- what a source has left and a sink holds, where they tell it, and their counts of faults
module _ {I O : Type 0} (left : I → Option Bytes) (in_faults : I → ℕ) (written : O → Option Bytes) (out_faults : O → ℕ) (limits : Limits) where
  pub record Serves (k : ℕ) (s : Point GraphHistory) (a b : I × O) (t : Point GraphHistory) : Type 0 where
    pub end : SessionEnd
    pub input : Bytes
    pub output : Bytes
    pub taken : left a.0 ≡ in_front input (left b.0)
    pub put : Adds (written a.1) output (written b.1)
    pub is_end : IsEnd (GraphCall limits) k end s input output t
    pub nothing : (end ≡ Ended) ⊎ (end ≡ CutShort) → NothingLeft (left b.0)
    pub read_fault : (end ≡ ReadFault) ↔ (in_faults a.0 < in_faults b.0)
    pub write_fault : (end ≡ WriteFault) ↔ (out_faults a.1 < out_faults b.1)
    pub complete : (messages : List Message) → HasWhole (left a.0) messages → in_faults b.0 ≡ in_faults a.0 → out_faults b.1 ≡ out_faults a.1
        → IsComplete (GraphCall limits) k s end messages (left b.0) (written a.1) (written b.1) t

-- nothing seen, and the first word of the number's stream to come
abbrev pub start : ℕ → ℕ → Point GraphHistory
start seed k = record { history = []; generator = generator seed k }

abbrev pub Chain : {S X : Type 0} → (S → X → X → S → Type 0) → S → List X → List X → S → Type 0
Chain P s [] [] t = s ≡ t
Chain P s [] (y ∷ ys) t = ⊥
Chain P s (x ∷ xs) [] t = ⊥
Chain {S} P s (x ∷ xs) (y ∷ ys) t = (m : S) × P s x y m × Chain P m xs ys t

-- the links that were given in a call were closed in it, in their order
pub record ChainedAll {S X : Type 0} (P : S → X → X → S → Type 0) (s t : S) (given closed : List X) (given' closed' : Option (List X)) : Type 0 where
  pub links : List X
  pub ends : List X
  pub came : given' ≡ Some (given ++ links)
  pub went : closed' ≡ Some (closed ++ ends)
  pub chain : Chain P s links ends t

-- k is the number by which they were served, before and after
pub record Chained {S X : Type 0} (P : ℕ → S → X → X → S → Type 0) (k k' : ℕ) (s t : S) (given closed given' closed' : Option (List X)) : Type 0 where
  pub same : k' ≡ k
  pub all : IfSome given (λ g. IfSome closed (λ c. ChainedAll (P k) s t g c given' closed'))
