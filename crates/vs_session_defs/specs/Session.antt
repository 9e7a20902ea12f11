-- A connection: what is written for what is read (this project's headline).
--     Serves ..     the messages are answered in order, each at a history that goes on from the one before it
--     Session ..    a whole connection: all messages up to the first answered QUIT, the end or the fault, and the fault's line
--     Begun ..      the first messages of one, without a fault's line
--     Finished ..   a whole connection, and how it ends
--     ReadPart .., MemoryPart ..               a connection whose source failed, or for whose reading there was no memory
--     LacksOfReply .., LacksOfFault ..         a connection whose sink failed
-- The history is one that fits; that it has no change by others is said by IsByOne, where the store is the connection's own.
use Rattle.std.specs.Prelude.{◌≡◌, ◌≢◌, ℕ, ◌≤◌, Bool, true, false, List, [], ◌∷◌, ◌++◌, ◌⊎◌, Result, Ok, Err, MatchBool, flat_map, length, All, IsTrue, zip, codes, ◌||◌}
use Rattle.rand_pcg.specs.Lcg.{Lcg}
use Rattle.vs_defs.specs.Bytes.{Bytes, is_word}
use Rattle.vs_session_defs.specs.Words.{drawn, after_draws}
use Rattle.vs_defs.specs.Request.{Request, Answer, Refusal}
use Rattle.vs_defs.specs.Request as request
use Rattle.vs_defs.specs.Reply.{Outcome, reply, fault_line}
use Rattle.vs_defs.specs.Reply as outcome
use Rattle.vs_defs.specs.Stream.{Message, End, Splits, with_words, place_in}
use Rattle.vs_defs.specs.Stream as stream
use Rattle.vs_defs.specs.History.{History, IsPrefix, own}

-- whether a message was answered by the answer of QUIT
abbrev pub is_bye : Outcome → Bool
is_bye (outcome.Answered request.Bye) = true
is_bye o = false

abbrev pub quits : List Outcome → Bool
quits [] = false
quits (o ∷ []) = is_bye o
quits (o ∷ p ∷ ps) = quits (p ∷ ps)

-- the fault's line, where the input has a fault
abbrev pub closing_line : Bytes → End → Bytes
closing_line input stream.Border = []
closing_line input stream.Within = []
closing_line input (stream.Broken f rest) = fault_line f (place_in input rest)

-- an input that ends so has no fault
abbrev pub IsUnbroken : End → Type 0
IsUnbroken stream.Border = Unit {0}
IsUnbroken stream.Within = Unit {0}
IsUnbroken (stream.Broken f rest) = ⊥

abbrev pub replies : List Outcome → Bytes
replies os = flat_map reply os

abbrev pub last_reply : List Outcome → Bytes
last_reply [] = []
last_reply (o ∷ []) = reply o
last_reply (o ∷ p ∷ ps) = last_reply (p ∷ ps)

-- how a connection ends where neither end of its link failed and memory was found to read with
pub data Ending : Type 0 where
  Ended : Ending
  Quit : Ending
  Protocol : stream.Fault → (at : ℕ) → Ending
  CutShort : Ending

abbrev pub ending_by : Bytes → End → Ending
ending_by input stream.Border = Ended
ending_by input stream.Within = CutShort
ending_by input (stream.Broken f rest) = Protocol f (place_in input rest)

abbrev pub ending_of : Bytes → List Outcome → End → Ending
ending_of input outcomes e = elim (quits outcomes) [ true ↦ Quit | false ↦ ending_by input e ]

-- no change but those of one author
abbrev pub IsByOne : {S : Type 0} → ℕ → History S → Type 0
IsByOne k h = own k h ≡ h

-- a message of the one word PING or QUIT, which is never answered out of memory
abbrev pub is_ping_or_quit : Message → Bool
is_ping_or_quit (w ∷ []) = is_word (codes "ping") w || is_word (codes "quit") w
is_ping_or_quit m = false

abbrev pub PingsAnswered : List Message → List Outcome → Type 0
PingsAnswered answered outcomes = All (λ p. IsTrue (is_ping_or_quit p.0) → p.1 ≢ outcome.OutOfMemory) (zip answered outcomes)

-- H is what is known of the history, Call what a call by an author does to it. lines says whether inline lines are read, read what
-- words ask for, draws how many drawn words a request takes.
module _ {H : Type 0} (Call : ℕ → H → Request → List ℕ → Outcome → H → Type 0) (lines : Bool) (read : Message → Result Request Refusal) (draws : Request → ℕ) where
  -- want of memory before anything was drawn
  abbrev pub Starved : Lcg → H → Outcome → H → Lcg → Type 0
  Starved g s o t g' = (o ≡ outcome.OutOfMemory) × (t ≡ s) × (g' ≡ g)

  -- what comes of words that were read
  abbrev pub ServesRead : ℕ → Lcg → H → Result Request Refusal → Outcome → H → Lcg → Type 0
  ServesRead k g s (Err e) o t g' = (o ≡ outcome.Refused e) × (t ≡ s) × (g' ≡ g)
  ServesRead k g s (Ok r) o t g' = Call k s r (drawn (draws r) g) o t × (g' ≡ after_draws (draws r) g)

  -- of one message, by the author k, whose next drawn words are those of g
  abbrev pub ServesOne : ℕ → Lcg → H → Message → Outcome → H → Lcg → Type 0
  ServesOne k g s m o t g' = ServesRead k g s (read m) o t g' ⊎ Starved g s o t g'

  -- nothing is answered behind QUIT
  abbrev pub Serves : ℕ → Lcg → H → List Message → List Outcome → H → Lcg → Type 0
  Serves k g s [] [] t g' = (t ≡ s) × (g' ≡ g)
  Serves k g s (m ∷ ms) (o ∷ os) t g' =
      (mid : H) × (h : Lcg) × ServesOne k g s m o mid h × MatchBool (is_bye o) (ms ≡ []) (Unit {0}) × Serves k h mid ms os t g'
  Serves k g s [] (o ∷ os) t g' = ⊥
  Serves k g s (m ∷ ms) [] t g' = ⊥

  pub record Session (k : ℕ) (g : Lcg) (s : H) (input output : Bytes) (t : H) (g' : Lcg) : Type 0 where
    pub messages : List Message
    pub ends : End
    pub splits : Splits lines input messages ends
    pub answered : List Message
    pub outcomes : List Outcome
    pub serves : Serves k g s answered outcomes t g'
    pub written : MatchBool (quits outcomes)
        (IsPrefix answered (with_words messages) × (output ≡ replies outcomes))
        ((answered ≡ with_words messages) × (output ≡ replies outcomes ++ closing_line input ends))

  pub record Begun (k : ℕ) (g : Lcg) (s : H) (input output : Bytes) (t : H) (g' : Lcg) : Type 0 where
    pub messages : List Message
    pub ends : End
    pub splits : Splits lines input messages ends
    pub answered : List Message
    pub outcomes : List Outcome
    pub serves : Serves k g s answered outcomes t g'
    pub first : IsPrefix answered (with_words messages)
    pub written : output ≡ replies outcomes

  pub record Finished (k : ℕ) (g : Lcg) (s : H) (input output : Bytes) (t : H) (g' : Lcg) (how : Ending) : Type 0 where
    pub session : Session k g s input output t g'
    pub ending : how ≡ ending_of input session.outcomes session.ends

  -- After a failed read, or past the bytes that are taken: each whole message was answered, QUIT wasn't, and the bytes have no fault. So
  -- the connection didn't end before.
  pub record ReadPart (k : ℕ) (g : Lcg) (s : H) (input output : Bytes) (t : H) (g' : Lcg) : Type 0 where
    pub begun : Begun k g s input output t g'
    pub all : begun.answered ≡ with_words begun.messages
    pub no_quit : quits begun.outcomes ≡ false
    pub unbroken : IsUnbroken begun.ends

  -- Memory was refused before the first read, or while a message was read. The front of the input is the messages before that one.
  pub record MemoryPart (k : ℕ) (g : Lcg) (s : H) (input output : Bytes) (t : H) (g' : Lcg) : Type 0 where
    pub front : Bytes
    pub rest : Bytes
    pub parts : input ≡ front ++ rest
    pub before : ReadPart k g s front output t g'
    pub whole : before.begun.ends ≡ stream.Border
    pub reading : (input ≡ []) ⊎ (1 ≤ length rest)

  -- the sink failed in a reply: one or more of its last bytes are missing, and nothing is answered behind it
  pub record LacksOfReply (k : ℕ) (g : Lcg) (s : H) (input output : Bytes) (t : H) (g' : Lcg) : Type 0 where
    pub missing : Bytes
    pub begun : Begun k g s input (output ++ missing) t g'
    pub some_missing : 1 ≤ length missing
    pub of_last_reply : length missing ≤ length (last_reply begun.outcomes)

  -- the sink failed in the fault's line
  pub record LacksOfFault (k : ℕ) (g : Lcg) (s : H) (input output : Bytes) (t : H) (g' : Lcg) : Type 0 where
    pub missing : Bytes
    pub session : Session k g s input (output ++ missing) t g'
    pub no_quit : quits session.outcomes ≡ false
    pub some_missing : 1 ≤ length missing
    pub of_closing_line : length missing ≤ length (closing_line input session.ends)
