-- What each call of a connection keeps, the connection keeps.
use Rattle.std.proofs.Common.{◌≡◌, ℕ, List, [], ◌∷◌, Result, Ok, Err, true, inl, inr, ap, ◌∙◌}
use Rattle.rand_pcg.specs.Lcg.{Lcg}
use Rattle.vs_defs.specs.Bytes.{Bytes}
use Rattle.vs_defs.specs.Request.{Request, Refusal}
use Rattle.vs_defs.specs.Reply.{Outcome}
use Rattle.vs_defs.specs.Stream.{Message}
use Rattle.vs_session_defs.specs.Session as session
use Rattle.vs_connection.specs.declared.end.SessionEnd.{SessionEnd}
use Rattle.vs_connection.specs.declared.end.SessionEnd.TheVariants.{Ended, Quit, Protocol, CutShort, ReadFault, WriteFault, Spent, NoMemory}
use Rattle.vs_connection.specs.Stage.{CallOn, ServesOne, Serves, read, draws}
use Rattle.vs_connection.specs.Point.{Point}
use Rattle.vs_connection.specs.Connection.{IsEnd}

module _ {H : Type 0} (f : H → ℕ) (call : CallOn H) (k : ℕ) (keeps : (h : H) (r : Request) (words : List ℕ) (o : Outcome) (t : H) → call k h r words o t → f t ≡ f h) where
  read_keeps : (g : Lcg) (s : H) (x : Result Request Refusal) (o : Outcome) (t : H) (g' : Lcg) → session.ServesRead call true read draws k g s x o t g' → f t ≡ f s
  read_keeps g s (Err e) o t g' (is, same, stays) = ap f same
  read_keeps g s (Ok r) o t g' (called, moved) = keeps s r _ o t called

  one_keeps : (g : Lcg) (s : H) (m : Message) (o : Outcome) (t : H) (g' : Lcg) → ServesOne call k g s m o t g' → f t ≡ f s
  one_keeps g s m o t g' (inl served) = read_keeps g s (read m) o t g' served
  one_keeps g s m o t g' (inr (is, same, stays)) = ap f same

  serves_keep : (g : Lcg) (s : H) (ms : List Message) (os : List Outcome) (t : H) (g' : Lcg) → Serves call k g s ms os t g' → f t ≡ f s
  serves_keep g s [] [] t g' (same, stays) = ap f same
  serves_keep g s [] (o ∷ os) t g' p = absurd p
  serves_keep g s (m ∷ ms) [] t g' p = absurd p
  serves_keep g s (m ∷ ms) (o ∷ os) t g' (mid, h, one, bye, rest) = serves_keep h mid ms os t g' rest ∙ one_keeps g s m o mid h one

  pub end_keeps : (start now : Point H) (end : SessionEnd) (input output : Bytes) → IsEnd call k end start input output now → f now.history ≡ f start.history
  end_keeps start now Ended input output (x, pings) = serves_keep start.generator start.history x.session.answered x.session.outcomes now.history now.generator x.session.serves
  end_keeps start now Quit input output (x, pings) = serves_keep start.generator start.history x.session.answered x.session.outcomes now.history now.generator x.session.serves
  end_keeps start now (Protocol fault at) input output (x, pings) = serves_keep start.generator start.history x.session.answered x.session.outcomes now.history now.generator x.session.serves
  end_keeps start now CutShort input output (x, pings) = serves_keep start.generator start.history x.session.answered x.session.outcomes now.history now.generator x.session.serves
  end_keeps start now ReadFault input output (x, pings) = serves_keep start.generator start.history x.begun.answered x.begun.outcomes now.history now.generator x.begun.serves
  end_keeps start now Spent input output (long, (x, pings)) = serves_keep start.generator start.history x.begun.answered x.begun.outcomes now.history now.generator x.begun.serves
  end_keeps start now NoMemory input output (x, pings) = serves_keep start.generator start.history x.before.begun.answered x.before.begun.outcomes now.history now.generator x.before.begun.serves
  end_keeps start now WriteFault input output (inl (x, pings)) = serves_keep start.generator start.history x.begun.answered x.begun.outcomes now.history now.generator x.begun.serves
  end_keeps start now WriteFault input output (inr (x, pings)) = serves_keep start.generator start.history x.session.answered x.session.outcomes now.history now.generator x.session.serves
