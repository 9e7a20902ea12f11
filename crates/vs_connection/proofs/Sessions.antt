-- A connection goes on by one message, or ends.
use Rattle.std.proofs.Common.{◌≡◌, ◌≢◌, ℕ, inl, Bool, true, false, List, [], ◌∷◌, ◌++◌, refl, sym, ap, subst, ◌∙◌, append_assoc, ◌≤◌, ◌<◌, length, length-append, All, cond, arith}
use Rattle.std.specs.Prelude.{MatchBool, IsTrue}
use Rattle.rand_pcg.specs.Lcg.{Lcg}
use Rattle.vs_defs.specs.Bytes.{Bytes}
use Rattle.vs_defs.specs.Stream.{Message, End, Splits, with_words, has_word}
use Rattle.vs_defs.specs.Reply.{Outcome, OutOfMemory, reply}
use Rattle.vs_defs.specs.History.{IsPrefix}
use Rattle.vs_session_defs.specs.Session.{is_bye, is_ping_or_quit, quits, replies, last_reply, ending_by, closing_line}
use Rattle.vs_session_defs.specs.Session as session
use Rattle.vs_stream.specs.Given.{GivenFirst}
use Rattle.vs_resp.specs.declared.Decoder.{Decoder}
use Rattle.vs_resp.specs.Stands.{Stands}
use Rattle.vs_defs.proofs.MessageLimits.{IsWithinLimits, answered_few}
use Rattle.std.proofs.lemmas.List.Elements.{All-tail, All-cons}
use Rattle.vs_connection.specs.declared.end.SessionEnd.TheVariants.{Quit, WriteFault}
use Rattle.vs_connection.specs.Stage.{CallOn, read, draws, Serves, ServesOne}
use Rattle.vs_connection.specs.Point.{Point}
use Rattle.vs_connection.specs.Connection.{EndsAt}
use Rattle.vs_connection.specs.SoFar.{SoFar}
use Rattle.vs_connection.proofs.Serving.{replies_push, quits_push, last_push, serves_push, pings_push}

more_replies : (outcomes : List Outcome) (output : Bytes) (o : Outcome) → output ≡ replies outcomes → output ++ reply o ≡ replies (outcomes ++ o ∷ [])
more_replies outcomes output o is = ap (λ (l : Bytes). l ++ reply o) is ∙ sym (replies_push outcomes o)

-- ---- a message that is given has a word, and is within the limits

all_at : {X : Type 0} (P : X → Type 0) (xs : List X) (y : X) (ys : List X) → All P (xs ++ y ∷ ys) → P y
all_at P [] y ys all = all 0 y (omega arith)
all_at P (x ∷ xs) y ys all = all_at P xs y ys (All-tail P x (xs ++ y ∷ ys) all)

in_given : (P : Message → Type 0) (input : Bytes) (given : List Message) (m : Message) → ((ms : List Message) (e : End) → Splits true input ms e → All P (with_words ms)) → GivenFirst true input (given ++ m ∷ []) → P m
in_given P input given m each f =
    all_at P given m f.3.0 (subst (All P) (f.3.1 ∙ append_assoc given (m ∷ []) f.3.0) (each f.0 f.1 f.2))

pub given_few : (input : Bytes) (given : List Message) (m : Message) → GivenFirst true input (given ++ m ∷ []) → IsWithinLimits m
given_few input given m f = in_given IsWithinLimits input given m (answered_few true input) f

has_some : (m : Message) → has_word m ≡ true → 0 < length m
has_some [] e = absurd (cc e)
has_some (w ∷ ws) e = omega arith

keep_worded : (m : Message) (rest : List Message) (b : Bool) → has_word m ≡ b → All (λ (x : Message). 0 < length x) rest → All (λ (x : Message). 0 < length x) (cond b (m ∷ rest) rest)
keep_worded m rest true e all = All-cons (λ (x : Message). 0 < length x) m rest (has_some m e) all
keep_worded m rest false e all = all

all_worded : (ms : List Message) → All (λ (m : Message). 0 < length m) (with_words ms)
all_worded [] = λ k d h. absurd (omega (arith, h))
all_worded (m ∷ ms) = keep_worded m (with_words ms) (has_word m) refl (all_worded ms)

pub given_some : (input : Bytes) (given : List Message) (m : Message) → GivenFirst true input (given ++ m ∷ []) → 0 < length m
given_some input given m f = in_given (λ (x : Message). 0 < length x) input given m (λ ms e s. all_worded ms) f

module _ {H : Type 0} (call : CallOn H) (k : ℕ) where
  -- some messages were answered
  abbrev pub AnsweredSome : Decoder → (H → Lcg → Type 0) → Point H → Bytes → Bytes → Type 0
  AnsweredSome decoder now start input output =
      (given : List Message) × (outcomes : List Outcome) × (h : H) × (g : Lcg) × SoFar call k decoder now start input given outcomes output h g

  -- ---- one more message

  -- what is known of a message that is answered next
  pub record Next (d : Decoder) (before : H → Lcg → Type 0) (start : Point H) (input : Bytes) (given : List Message) (outcomes : List Outcome) (output : Bytes) (h : H) (i : Lcg)
      (e : Decoder) (m : Message) (o : Outcome) (t : H) (g : Lcg) : Type 0 where
    pub so_far : SoFar call k d before start input given outcomes output h i
    pub stands : Stands e input (given ++ m ∷ [])
    pub first : GivenFirst true input (given ++ m ∷ [])
    pub one : ServesOne call k i h m o t g
    pub answered : IsTrue (is_ping_or_quit m) → o ≢ OutOfMemory

  -- the first messages were answered, and what was written are their replies
  abbrev begun : (start : Point H) (input : Bytes) (given : List Message) (outcomes : List Outcome) (output : Bytes) (t : H) (g : Lcg) →
      GivenFirst true input given → Serves call k start.generator start.history given outcomes t g → output ≡ replies outcomes → session.Begun call true read draws k start.generator start.history input output t g
  begun start input given outcomes output t g f serves written = record {
    messages = f.0;
    ends = f.1;
    splits = f.2;
    answered = given;
    outcomes = outcomes;
    serves = serves;
    first = (f.3.0, sym f.3.1);
    written = written;
  }

module _ {H : Type 0} {call : CallOn H} {k : ℕ} where
  pub one_more : (d : Decoder) (before now : H → Lcg → Type 0) (start : Point H) (input : Bytes) (given : List Message) (outcomes : List Outcome) (output : Bytes) (h : H) (i : Lcg)
      (e : Decoder) (m : Message) (o : Outcome) (t : H) (g : Lcg) →
      Next call k d before start input given outcomes output h i e m o t g → now t g → is_bye o ≡ false →
      SoFar call k e now start input (given ++ m ∷ []) (outcomes ++ o ∷ []) (output ++ reply o) t g
  one_more d before now start input given outcomes output h i e m o t g n now_is bye = record {
    stands = n.stands;
    serves = serves_push call k start.generator start.history given outcomes h i m o t g n.so_far.serves n.so_far.going n.one;
    pings = pings_push call k start.generator start.history given outcomes h i m o n.so_far.serves n.so_far.pings n.answered;
    going = quits_push outcomes o ∙ bye;
    written = more_replies outcomes output o n.so_far.written;
    now_is = now_is;
  }

  -- QUIT was answered
  pub to_quit : (d : Decoder) (before now : H → Lcg → Type 0) (start : Point H) (input : Bytes) (given : List Message) (outcomes : List Outcome) (output : Bytes) (h : H) (i : Lcg)
      (e : Decoder) (m : Message) (o : Outcome) (t : H) (g : Lcg) →
      Next call k d before start input given outcomes output h i e m o t g → now t g → is_bye o ≡ true →
      EndsAt call k now Quit start input (output ++ reply o)
  to_quit d before now start input given outcomes output h i e m o t g n now_is bye =
      let yes : quits (outcomes ++ o ∷ []) ≡ true = quits_push outcomes o ∙ bye in
      record {
        now = record { history = t; generator = g };
        there = now_is;
        is_end = (
          record {
            session = record {
              messages = n.first.0;
              ends = n.first.1;
              splits = n.first.2;
              answered = given ++ m ∷ [];
              outcomes = outcomes ++ o ∷ [];
              serves = serves_push call k start.generator start.history given outcomes h i m o t g n.so_far.serves n.so_far.going n.one;
              written = subst
                  (λ (b : Bool). MatchBool b (IsPrefix (given ++ m ∷ []) (with_words n.first.0) × (output ++ reply o ≡ replies (outcomes ++ o ∷ [])))
                  ((given ++ m ∷ [] ≡ with_words n.first.0) × (output ++ reply o ≡ replies (outcomes ++ o ∷ []) ++ closing_line input n.first.1)))
                  (sym yes) ((n.first.3.0, sym n.first.3.1), more_replies outcomes output o n.so_far.written);
            };
            ending = subst (λ (b : Bool). session.Quit ≡ elim b [ true ↦ session.Quit | false ↦ ending_by input n.first.1 ]) (sym yes) refl;
          },
          pings_push call k start.generator start.history given outcomes h i m o n.so_far.serves n.so_far.pings n.answered,
        );
      }

  -- the reply lacks its end
  pub loses : (d : Decoder) (before now : H → Lcg → Type 0) (start : Point H) (input : Bytes) (given : List Message) (outcomes : List Outcome) (output : Bytes) (h : H) (i : Lcg)
      (e : Decoder) (m : Message) (o : Outcome) (t : H) (g : Lcg) (done lost : Bytes) →
      Next call k d before start input given outcomes output h i e m o t g → now t g → reply o ≡ done ++ lost → 1 ≤ length lost →
      EndsAt call k now WriteFault start input (output ++ done)
  loses d before now start input given outcomes output h i e m o t g done lost n now_is parts some = record {
    now = record { history = t; generator = g };
    there = now_is;
    is_end = inl (
      record {
        missing = lost;
        begun = begun call k start input (given ++ m ∷ []) (outcomes ++ o ∷ []) ((output ++ done) ++ lost) t g n.first
            (serves_push call k start.generator start.history given outcomes h i m o t g n.so_far.serves n.so_far.going n.one)
            (append_assoc output done lost ∙ ap (λ (l : Bytes). output ++ l) (sym parts) ∙ more_replies outcomes output o n.so_far.written);
        some_missing = some;
        of_last_reply =
            let l = length-append done lost in
            let whole : length (last_reply (outcomes ++ o ∷ [])) ≡ length (done ++ lost) = ap (λ (r : Bytes). length r) (last_push outcomes o ∙ parts) in
            omega (arith, l, whole);
      },
      pings_push call k start.generator start.history given outcomes h i m o n.so_far.serves n.so_far.pings n.answered,
    );
  }

  -- a decoder in another's place, which has the same history
  pub same_so_far : (d e : Decoder) (now : H → Lcg → Type 0) (start : Point H) (input : Bytes) (given : List Message) (outcomes : List Outcome) (output : Bytes) (h : H) (g : Lcg) →
      ((fed : Bytes) (ms : List Message) → Stands d fed ms → Stands e fed ms) → SoFar call k d now start input given outcomes output h g → SoFar call k e now start input given outcomes output h g
  same_so_far d e now start input given outcomes output h g same s = record {
    stands = same input given s.stands;
    serves = s.serves;
    pings = s.pings;
    going = s.going;
    written = s.written;
    now_is = s.now_is;
  }
