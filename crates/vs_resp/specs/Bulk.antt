-- A whole bulk.
--     Leads s text t          the bytes of the text lead from one place in a message to another
--     IsBulk text word        the text is one bulk with this word: its length, the word, and both line ends
use Rattle.std.specs.Prelude.{◌≡◌, ◌≤◌, ◌+◌, ℕ, true, List, [], ◌∷◌, ◌++◌, length}
use Rattle.vs_defs.specs.Bytes.{Bytes}
use Rattle.vs_defs.specs.Limits.{max_message_bytes}
use Rattle.vs_stream.specs.Machine.{State, bulk, body_end, Goes, step}

abbrev pub Leads : State → Bytes → State → Type 0
Leads s [] t = s ≡ t
Leads s (c ∷ cs) t = (u : State) × (step true s c ≡ Goes u) × Leads u cs t

-- the line feed is the last byte, with which the bulk is whole
abbrev pub IsBulk : Bytes → Bytes → Type 0
IsBulk text word = (l sum : ℕ) (ws : List Bytes) → sum + length word ≤ max_message_bytes →
    (front : Bytes) × (text ≡ front ++ 10 ∷ []) × Leads (bulk l sum ws) front (body_end l (sum + length word) ws word)
