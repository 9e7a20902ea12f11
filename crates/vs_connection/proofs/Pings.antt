-- A message of the one word PING or QUIT: what it asks for, and that it is answered.
use Rattle.std.proofs.Common.{◌≡◌, Bool, true, false, cond, ◌||◌, [], ◌∷◌, drop, length, Some, None, Result, Ok, codes, refl, inl, inr, ◌⊎◌}
use Rattle.std.specs.Prelude.{IsTrue}
use Rattle.vs_defs.specs.Bytes.{Bytes, is_word}
use Rattle.vs_defs.specs.Stream.{Message}
use Rattle.vs_defs.specs.Request.{Request, Refusal}
use Rattle.vs_defs.specs.Request as request
use Rattle.vs_defs.specs.Read.{Ping, Quit, commands, named, read_known}
use Rattle.vs_session_defs.specs.Session.{is_ping_or_quit}
use Rattle.vs_connection.specs.Stage.{read}

-- what a word alone asks for, by whether it is PING, or QUIT
abbrev pub reading : Bool → Bool → Bytes → Result Request Refusal
reading p q w = read_known (cond p (Some Ping) (cond q (Some Quit) (named w (drop 2 commands)))) (w ∷ [])

asks_at : (w : Bytes) (p q : Bool) → IsTrue (p || q) → (reading p q w ≡ Ok (request.Ping None)) ⊎ (reading p q w ≡ Ok request.Quit)
asks_at w true q t = inl refl
asks_at w false true t = inr refl
asks_at w false false t = absurd (cc)

pub asks : (m : Message) → IsTrue (is_ping_or_quit m) → (read m ≡ Ok (request.Ping None)) ⊎ (read m ≡ Ok request.Quit)
asks [] t = absurd (cc)
asks (w ∷ []) t = asks_at w (is_word (codes "ping") w) (is_word (codes "quit") w) t
asks (w ∷ v ∷ ws) t = absurd (cc)

-- such a message is one word
pub one_word : (m : Message) → IsTrue (is_ping_or_quit m) → length m ≡ 1
one_word [] t = absurd (cc)
one_word (w ∷ []) t = refl
one_word (w ∷ v ∷ ws) t = absurd (cc)
