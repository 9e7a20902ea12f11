use Rattle.std.proofs.Common.{◌≡◌, ◌≢◌, ℕ, inl, inr, [], ◌∷◌, ◌||◌, true, false, true≢false, None, Ok, Result, refl, sym, ap, subst, ◌∙◌, append-nil, codes}
use Rattle.std.specs.Prelude.{IsTrue}
use Rattle.rand_pcg.specs.Lcg.{Lcg}
use Rattle.vs_defs.specs.Bytes.{Bytes, is_word}
use Rattle.vs_defs.specs.Request as request
use Rattle.vs_defs.specs.Reply as outcome
use Rattle.vs_defs.specs.Reply.{Outcome}
use Rattle.vs_defs.specs.Stream.{Message}
use Rattle.vs_defs.specs.Store.{usual_limits}
use Rattle.vs_defs.specs.PlainMachine.{PlainHistory, PlainLegal, PlainCall}
use Rattle.vs_session_defs.specs.Session as session
use Rattle.vs_session_defs.specs.Session.{is_ping_or_quit}
use Rattle.vs_connection.specs.Served.{IsServed}
use Rattle.vs_connection.specs.Stage.{CallOn, ServesOne, read, draws}
use Rattle.vs_connection.proofs.Pings.{reading}
use Rattle.vs_connection.proofs.tests.AnsweringHandler.handle.Goals as goal

pinged : (m : Message) (w : Bytes) → m ≡ w ∷ [] → is_word (codes "ping") w ≡ true → read m ≡ Ok (request.Ping None)
pinged m w one is = ap read one ∙ ap (λ b. reading b (is_word (codes "quit") w) w) is

quitted : (m : Message) (w : Bytes) → m ≡ w ∷ [] → is_word (codes "ping") w ≡ false → is_word (codes "quit") w ≡ true → read m ≡ Ok request.Quit
quitted m w one other is = ap read one ∙ ap (λ b. reading b (is_word (codes "quit") w) w) other ∙ ap (λ b. reading false b w) is

neither : (m : Message) → ((w : Bytes) → m ≡ w ∷ [] → is_word (codes "ping") w ≡ false) → ((w : Bytes) → m ≡ w ∷ [] → is_word (codes "quit") w ≡ false) → IsTrue (is_ping_or_quit m) → ⊥
neither [] p q t = absurd (cc)
neither (w ∷ []) p q t = true≢false (sym t ∙ ap (λ b. b || is_word (codes "quit") w) (p w refl) ∙ q w refl)
neither (w ∷ v ∷ ws) p q t = absurd (cc)

abbrev Call : CallOn PlainHistory
Call = PlainCall usual_limits

abbrev Legal : PlainHistory → Type 0
Legal = PlainLegal usual_limits

pongs : (author : ℕ) (h : PlainHistory) → Legal h → Call author h (request.Ping None) [] (outcome.Answered request.Pong) h
pongs author h legal = record {
  goes_on = ([], append-nil h);
  legal_before = legal;
  legal = legal;
  outcome_is = inr (refl, record { unrefused = refl; changes_nothing = refl; answer = refl });
}

leaves : (author : ℕ) (h : PlainHistory) → Legal h → Call author h request.Quit [] (outcome.Answered request.Bye) h
leaves author h legal = record {
  goes_on = ([], append-nil h);
  legal_before = legal;
  legal = legal;
  outcome_is = inr (refl, record { unrefused = refl; changes_nothing = refl; answer = refl });
}

module _ (replied : Outcome → Type 0) (author : ℕ) (g : Lcg) (h : PlainHistory) (m : Message) where
  abbrev Served : Type 0
  Served = IsServed Call author (λ t k. Legal t) replied g h m

  served : (o : Outcome) → ServesOne Call author g h m o h g → Legal h → (IsTrue (is_ping_or_quit m) → o ≢ outcome.OutOfMemory) → replied o → Served
  served o one legal answered is = record {
    outcome = o;
    history = h;
    generator = g;
    serves = one;
    now_is = legal;
    answered = answered;
    is_replied = is;
  }

  answers_ping : read m ≡ Ok (request.Ping None) → Legal h → replied (outcome.Answered request.Pong) → Served
  answers_ping is legal r = served (outcome.Answered request.Pong)
      (inl (subst (λ (x : Result request.Request request.Refusal). session.ServesRead Call true read draws author g h x (outcome.Answered request.Pong) h g) (sym is) (pongs author h legal, refl))) legal (λ ping same. cc) r

  answers_quit : read m ≡ Ok request.Quit → Legal h → replied (outcome.Answered request.Bye) → Served
  answers_quit is legal r = served (outcome.Answered request.Bye)
      (inl (subst (λ (x : Result request.Request request.Refusal). session.ServesRead Call true read draws author g h x (outcome.Answered request.Bye) h g) (sym is) (leaves author h legal, refl))) legal (λ ping same. cc) r

pub returns-then-write_all-clause-served : goal.returns-then-write_all-clause-served
returns-then-write_all-clause-served g c author h k legal =
    let p = c.is_only.ensures.yes c.if-is_only.true in
    answers_ping _ author k h c.args.message.now (pinged c.args.message.now p.0 p.1 p.2) legal (refl, c.if-write_all.ensures.written)

pub returns-then-is_only-clause-served : goal.returns-then-is_only-clause-served
returns-then-is_only-clause-served g c author h k legal =
    let p = c.is_only.ensures.yes c.if-is_only.true in
    answers_ping _ author k h c.args.message.now (pinged c.args.message.now p.0 p.1 p.2) legal c.if-write_all.ensures.written

pub returns-then-write_all-2-clause-served : goal.returns-then-write_all-2-clause-served
returns-then-write_all-2-clause-served g c author h k legal =
    let q = c.is_only-2.ensures.yes c.if-is_only-2.true in
    answers_quit _ author k h c.args.message.now (quitted c.args.message.now q.0 q.1 (c.is_only.ensures.no c.if-is_only.false q.0 q.1) q.2) legal (refl, c.if-write_all-2.ensures.written)

pub returns-then-is_only-2-clause-served : goal.returns-then-is_only-2-clause-served
returns-then-is_only-2-clause-served g c author h k legal =
    let q = c.is_only-2.ensures.yes c.if-is_only-2.true in
    answers_quit _ author k h c.args.message.now (quitted c.args.message.now q.0 q.1 (c.is_only.ensures.no c.if-is_only.false q.0 q.1) q.2) legal c.if-write_all-2.ensures.written

pub returns-then-write_all-3-clause-served : goal.returns-then-write_all-3-clause-served
returns-then-write_all-3-clause-served g c author h k legal = served _ author k h c.args.message.now outcome.OutOfMemory (inr (refl, refl, refl)) legal
    (λ ping same. neither c.args.message.now (c.is_only.ensures.no c.if-is_only.false) (c.is_only-2.ensures.no c.if-is_only-2.false) ping) (refl, c.if-write_all-3.ensures.written)

pub returns-clause-served : goal.returns-clause-served
returns-clause-served g c author h k legal = served _ author k h c.args.message.now outcome.OutOfMemory (inr (refl, refl, refl)) legal
    (λ ping same. neither c.args.message.now (c.is_only.ensures.no c.if-is_only.false) (c.is_only-2.ensures.no c.if-is_only-2.false) ping) c.if-write_all-3.ensures.written
