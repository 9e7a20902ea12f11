-- A message that a pass serves, which is lent to its connection.
use Rattle.std.proofs.Common.{◌≡◌, ◌≢◌, ◌⊎◌, ℕ, List, Option, Some, None, Result, Ok, Err, true, length, refl, sym, ap, subst, ◌∙◌, inl, inr}
use Rattle.std.specs.Prelude.{IfSome, IsTrue}
use Rattle.rand_pcg.specs.Lcg.{Lcg}
use Rattle.vs_defs.specs.Memory.{needs_no_memory}
use Rattle.vs_defs.specs.Request as request
use Rattle.vs_defs.specs.Reply.{Outcome}
use Rattle.vs_defs.specs.Reply as outcome
use Rattle.vs_defs.specs.Stream.{Message}
use Rattle.vs_defs.specs.Store.{Limits}
use Rattle.vs_session_defs.specs.Session as session
use Rattle.vs_session_defs.specs.Session.{is_ping_or_quit}
use Rattle.vs_session_defs.specs.Words.{drawn, after_draws}
use Rattle.vs_thread_defs.specs.Machine.{GraphHistory, GraphCall}
use Rattle.vs_command.specs.declared.answer.Answer.{Answer}
use Rattle.vs_command.specs.declared.refusal.Refusal.{Refusal}
use Rattle.vs_command.specs.declared.refusal.Refusal.TheVariants.{NoMemory}
use Rattle.vs_command.specs.Outcomes.{outcome_of, refused_by}
use Rattle.vs_command.specs.Refusals.{refusal_of}
use Rattle.vs_reply.specs.Replies.{short_of}
use Rattle.vs_pass.specs.Knower.{Knower}
use Rattle.vs_connection.specs.Stage.{read, draws, ServesOne}
use Rattle.vs_connection.specs.declared.end.SessionEnd.{SessionEnd}
use Rattle.vs_connection.specs.Served.{IsServed}
use Rattle.vs_connection.specs.Point.{Point}
use Rattle.vs_connection.specs.Connection.{EndsAt, IsEnd}
use Rattle.vs_defs.specs.Bytes.{Bytes}
use Rattle.vs_session.specs.After.{After}
use Rattle.vs_session.specs.Shared.{CallsShared, WordsRefused, Lent, lent_call, IsAt, point_of, ServesPass}
use Rattle.vs_session.proofs.Kept.{end_keeps}
use Rattle.vs_session.proofs.Mapped.{point_by, end_over}
use Rattle.vs_session.proofs.Memory.{answered, long_no_ping}
use Rattle.vs_session.proofs.Passing.{long_call, short_call}
use Rattle.vs_session.proofs.Serving.{not_read}

module _ (limits : Limits) where
  abbrev pub Serving : Knower → ℕ → Outcome → ℕ → Lcg → Lent → Message → Type 0
  Serving pass loan o k g h message = IsServed (lent_call limits) k (IsAt pass loan k) (λ p. p ≡ o) g h message

  -- a message that was refused, or for whose reading there was no memory
  pub unread : (pass : Knower) (loan : ℕ) (message : Message) (e : Refusal) → IfSome (refusal_of e) (λ c. read message ≡ Err c) → (length message ≡ 1 → e ≡ NoMemory → ⊥)
      → (k : ℕ) (h : Lent) (g : Lcg) → IsAt pass loan k h g → Serving pass loan (refused_by (refusal_of e)) k g h message
  unread pass loan message e is found k h g at =
      let knows : Lent → Type 0 = λ x. (pass.number ≡ k) × (pass.seen ≡ x.history) × (loan ≡ x.loan) in
      let s = not_read (lent_call limits) k knows pass.stream message e is found h g (record { known = (at.number, at.seen, at.loan_is); words = at.stream }) in
      record {
        outcome = s.outcome;
        history = s.history;
        generator = s.generator;
        serves = s.serves;
        now_is = record { number = s.now_is.known.0; seen = s.now_is.known.1; stream = s.now_is.words; loan_is = s.now_is.known.2 };
        answered = s.answered;
        is_replied = s.is_replied;
      }

  -- a request that the pass called
  pub passed : (old new : Knower) (loan : ℕ) (message : Message) (r : request.Request) (o : Outcome) → read message ≡ Ok r → CallsShared limits old r o new
      → (IsTrue (is_ping_or_quit message) → o ≢ outcome.OutOfMemory) → (k : ℕ) (h : Lent) (g : Lcg) → IsAt old loan k h g → Serving new loan o k g h message
  passed old new loan message r o is c answers k h g at = record {
    outcome = o;
    history = after;
    generator = new.stream;
    serves = by_way c.stream;
    now_is = record { number = c.number ∙ at.number; seen = refl; stream = refl; loan_is = at.loan_is };
    answered = answers;
    is_replied = refl;
  }
    where
      after : Lent
      after = record { history = new.seen; loan = h.loan }

      called : GraphCall limits k h.history r (drawn (draws r) g) o new.seen
      called =
          subst (λ (n : ℕ). GraphCall limits n h.history r (drawn (draws r) g) o new.seen) at.number
          (subst (λ (s : GraphHistory). GraphCall limits old.number s r (drawn (draws r) g) o new.seen) at.seen
          (subst (λ (x : Lcg). GraphCall limits old.number old.seen r (drawn (draws r) x) o new.seen) at.stream c.call))

      by_way : (new.stream ≡ after_draws (draws r) old.stream) ⊎ WordsRefused old r o new → ServesOne (lent_call limits) k g h message o after new.stream
      by_way (inl moved) = inl (subst (λ (x : Result request.Request request.Refusal). session.ServesRead (lent_call limits) true read draws k g h x o after new.stream) (sym is)
          ((called, refl), moved ∙ ap (λ (x : Lcg). after_draws (draws r) x) at.stream))
      by_way (inr refused) = inr (refused.outcome_is, ap (λ (s : GraphHistory). record { history = s; loan = h.loan }) (refused.seen ∙ at.seen), refused.stream ∙ at.stream)

  -- the same, by the result
  pub passed_by : (old new : Knower) (loan : ℕ) (message : Message) (r : request.Request) (result : Result Answer Refusal) → read message ≡ Ok r → CallsShared limits old r (outcome_of result) new
      → (needs_no_memory r ≡ true → result ≢ Err NoMemory) → (k : ℕ) (h : Lent) (g : Lcg) → IsAt old loan k h g → Serving new loan (outcome_of result) k g h message
  passed_by old new loan message r result is c memory = passed old new loan message r (outcome_of result) is c (answered message r result is memory)

  -- an answer for whose long reply there is no memory
  pub passed_long : (old new : Knower) (loan : ℕ) (message : Message) (r : request.Request) (result : Result Answer Refusal) → read message ≡ Ok r → CallsShared limits old r (outcome_of result) new
      → short_of result ≡ None → (k : ℕ) (h : Lent) (g : Lcg) → IsAt old loan k h g → Serving new loan outcome.OutOfMemory k g h message
  passed_long old new loan message r result is c long =
      passed old new loan message r outcome.OutOfMemory is
      (record { call = long_call limits old.number old.seen new.seen r (drawn (draws r) old.stream) result c.call long; stream = by_way c.stream; number = c.number })
      (λ ping. absurd (long_no_ping message r result is (short_call limits old.number old.seen new.seen r (drawn (draws r) old.stream) result c.call) ping long))
    where
      by_way : (new.stream ≡ after_draws (draws r) old.stream) ⊎ WordsRefused old r (outcome_of result) new → (new.stream ≡ after_draws (draws r) old.stream) ⊎ WordsRefused old r outcome.OutOfMemory new
      by_way (inl moved) = inl moved
      by_way (inr refused) = inr (record { some = refused.some; outcome_is = refl; seen = refused.seen; stream = refused.stream })

-- where a pass is that is lent
abbrev pub lent_point : Knower → ℕ → Point Lent
lent_point pass loan = record { history = record { history = pass.seen; loan = loan }; generator = pass.stream }

module _ (limits : Limits) (end : SessionEnd) (old now : Knower) (loan loan_now : ℕ) (input output : Bytes) (ended : EndsAt (lent_call limits) old.number (IsAt now loan_now old.number) end (lent_point old loan) input output) where
  -- it is the loan that it was
  pub loan_stays : loan_now ≡ loan
  loan_stays = ended.there.loan_is ∙ end_keeps (λ (h : Lent). h.loan) (lent_call limits) old.number (λ h r words o t c. c.1) (lent_point old loan) ended.now end input output ended.is_end

  pub serves_pass : ServesPass limits end old input output now
  serves_pass =
      let to : point_by (λ (h : Lent). h.history) ended.now ≡ point_of now =
      ap (λ (s : GraphHistory). record { history = s; generator = ended.now.generator }) (sym ended.there.seen) ∙ ap (λ (g : Lcg). record { history = now.seen; generator = g }) (sym ended.there.stream) in record {
        is_end = subst (λ (p : Point GraphHistory). IsEnd (GraphCall limits) old.number end (point_of old) input output p) to
            (end_over (λ (h : Lent). h.history) (lent_call limits) (GraphCall limits) old.number (λ h r words o t c. c.0) (lent_point old loan) ended.now end input output ended.is_end);
        number = ended.there.number;
      }
