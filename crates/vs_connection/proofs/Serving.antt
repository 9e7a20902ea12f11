-- Messages served in turn: one more at the end.
use Rattle.std.proofs.Common.{◌≡◌, ◌≢◌, ℕ, Bool, List, [], ◌∷◌, ◌++◌, refl, sym, ap, subst, ◌∙◌, append_assoc, append-nil, true, false}
use Rattle.std.specs.Prelude.{MatchBool, IsTrue, zip}
use Rattle.std.proofs.lemmas.List.Elements.{All-nil, All-head, All-tail, All-cons}
use Rattle.rand_pcg.specs.Lcg.{Lcg}
use Rattle.vs_defs.specs.Bytes.{Bytes}
use Rattle.vs_defs.specs.Stream.{Message}
use Rattle.vs_defs.specs.Reply.{Outcome, OutOfMemory, reply}
use Rattle.vs_session_defs.specs.Session.{is_bye, quits, replies, last_reply, is_ping_or_quit, PingsAnswered}
use Rattle.vs_connection.specs.Stage.{CallOn, Serves, ServesOne}

pub replies_push : (os : List Outcome) (o : Outcome) → replies (os ++ o ∷ []) ≡ replies os ++ reply o
replies_push [] o = append-nil (reply o)
replies_push (p ∷ os) o = ap (λ (l : Bytes). reply p ++ l) (replies_push os o) ∙ sym (append_assoc (reply p) (replies os) (reply o))

pub quits_push : (os : List Outcome) (o : Outcome) → quits (os ++ o ∷ []) ≡ is_bye o
quits_push [] o = refl
quits_push (p ∷ []) o = refl
quits_push (p ∷ q ∷ os) o = quits_push (q ∷ os) o

pub last_push : (os : List Outcome) (o : Outcome) → last_reply (os ++ o ∷ []) ≡ reply o
last_push [] o = refl
last_push (p ∷ []) o = refl
last_push (p ∷ q ∷ os) o = last_push (q ∷ os) o

none_behind : (b : Bool) → MatchBool b (◌≡◌ {A = List Message} [] []) (Unit {0})
none_behind true = refl
none_behind false = tt

-- ---- PING and QUIT are never out of memory

abbrev IsAnswered : Message × Outcome → Type 0
IsAnswered p = IsTrue (is_ping_or_quit p.0) → p.1 ≢ OutOfMemory

pub none_pinged : PingsAnswered [] []
none_pinged = All-nil IsAnswered

module _ {H : Type 0} (call : CallOn H) (k : ℕ) where
  -- one more message is served, where the last one was no QUIT
  pub serves_push : (g : Lcg) (s : H) (ms : List Message) (os : List Outcome) (t : H) (h : Lcg) (m : Message) (o : Outcome) (u : H) (i : Lcg) →
      Serves call k g s ms os t h → quits os ≡ false → ServesOne call k h t m o u i → Serves call k g s (ms ++ m ∷ []) (os ++ o ∷ []) u i
  serves_push g s [] [] t h m o u i (is, same) going one =
      let here : ServesOne call k g s m o u i = subst (λ (x : Lcg). ServesOne call k x s m o u i) same (subst (λ (x : H). ServesOne call k h x m o u i) is one) in
      (u, i, here, none_behind (is_bye o), (refl, refl))
  serves_push g s [] (p ∷ os) t h m o u i w going one = absurd w
  serves_push g s (n ∷ ms) [] t h m o u i w going one = absurd w
  serves_push g s (n ∷ []) (p ∷ []) t h m o u i (mid, k, first, end, rest) going one =
      (mid, k, first, subst (λ (b : Bool). MatchBool b (m ∷ [] ≡ []) (Unit {0})) (sym going) tt, serves_push k mid [] [] t h m o u i rest refl one)
  serves_push g s (n ∷ l ∷ ms) (p ∷ []) t h m o u i (mid, k, first, end, rest) going one = absurd rest
  serves_push g s (n ∷ []) (p ∷ q ∷ os) t h m o u i (mid, k, first, end, rest) going one = absurd rest
  serves_push g s (n ∷ l ∷ ms) (p ∷ q ∷ os) t h m o u i (mid, k, first, end, rest) going one =
      (mid, k, first, later (is_bye p) end, serves_push k mid (l ∷ ms) (q ∷ os) t h m o u i rest going one)
    where
      later : (b : Bool) → MatchBool b (l ∷ ms ≡ []) (Unit {0}) → MatchBool b (l ∷ (ms ++ m ∷ []) ≡ []) (Unit {0})
      later true e = absurd (cc)
      later false e = tt

  -- a PING or a QUIT among them was answered
  pub pings_push : (g : Lcg) (s : H) (ms : List Message) (os : List Outcome) (t : H) (h : Lcg) (m : Message) (o : Outcome) →
      Serves call k g s ms os t h → PingsAnswered ms os → IsAnswered (m, o) → PingsAnswered (ms ++ m ∷ []) (os ++ o ∷ [])
  pings_push g s [] [] t h m o w all one = All-cons IsAnswered (m, o) [] one (All-nil IsAnswered)
  pings_push g s [] (p ∷ os) t h m o w all one = absurd w
  pings_push g s (n ∷ ms) [] t h m o w all one = absurd w
  pings_push g s (n ∷ ms) (p ∷ os) t h m o (mid, k, first, end, rest) all one =
      All-cons IsAnswered (n, p) (zip (ms ++ m ∷ []) (os ++ o ∷ [])) (All-head IsAnswered (n, p) (zip ms os) all)
      (pings_push k mid ms os t h m o rest (All-tail IsAnswered (n, p) (zip ms os) all) one)
