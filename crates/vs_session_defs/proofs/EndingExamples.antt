-- The ends of connections at worked cases: QUIT and what follows it, a fault, a message cut short, a sink that fails, refused memory. An
-- end by the source or by memory doesn't take the place of one that came before it.
use Rattle.std.specs.Prelude.{◌≡◌, ◌≤◌, true, false, List, [], ◌∷◌, ◌++◌, length, codes, refl}
use Rattle.std.specs.Fmt.{digits}
use Rattle.std.proofs.Common.{inl, inr, lit≤, true≢false, ◌==◌, ◌&&◌, ◌∙◌, ap, sym, subst, arith, append-nil, length-append, Bool}
use Rattle.rand_pcg.specs.Lcg.{Lcg}
use Rattle.vs_defs.specs.Bytes.{Bytes}
use Rattle.vs_defs.specs.Stream.{Message, Border, Within, Broken, BadCount, BadEnd, Splits, Whole, Reading, message_at, with_words, End}
use Rattle.vs_defs.specs.Request as request
use Rattle.vs_defs.specs.Request.{Answer}
use Rattle.vs_defs.specs.Read.{read, draws}
use Rattle.vs_defs.specs.Store.{usual_limits}
use Rattle.vs_defs.specs.Reply.{Outcome, Answered, Refused, OutOfMemory, reply}
use Rattle.vs_defs.specs.PlainMachine.{PlainCall, PlainHistory}
use Rattle.vs_defs.proofs.StreamLaws.{splits_once}
use Rattle.vs_defs.proofs.StreamExtends.{Carries, message_carries}
use Rattle.vs_session_defs.specs.Session.{Serves, Finished, ReadPart, MemoryPart, LacksOfReply, LacksOfFault, Ending, Ended, Quit, Protocol, CutShort, is_bye, quits, replies, IsUnbroken}

-- connections that leave an empty store empty
abbrev Ends : Lcg → Bytes → Bytes → Ending → Type 0
Ends g input output how = Finished (PlainCall usual_limits) true read draws 0 g [] input output [] g how

abbrev ServesEmpty : Lcg → List Message → List Outcome → Type 0
ServesEmpty g ms os = Serves (PlainCall usual_limits) true read draws 0 g [] ms os [] g

one_ping : Message
one_ping = codes "PING" ∷ []

-- what PING, answered first, leaves to be served
then_ping : (g : Lcg) (ms : List Message) (os : List Outcome) → ServesEmpty g ms os → ServesEmpty g (one_ping ∷ ms) (Answered request.Pong ∷ os)
unfolding one_ping
then_ping g ms os more = (
  [],
  g,
  inl (
    record { goes_on = ([], refl); legal_before = tt; legal = tt; outcome_is = inr (refl, record { unrefused = refl; changes_nothing = refl; answer = refl }) },
    refl,
  ),
  tt,
  more,
)

quit : (g : Lcg) → ServesEmpty g ((codes "QUIT" ∷ []) ∷ []) (Answered request.Bye ∷ [])
quit g = (
  [],
  g,
  inl (
    record { goes_on = ([], refl); legal_before = tt; legal = tt; outcome_is = inr (refl, record { unrefused = refl; changes_nothing = refl; answer = refl }) },
    refl,
  ),
  refl,
  (refl, refl),
)

nothing_read : (g : Lcg) → Ends g [] [] Ended
nothing_read g = record {
  session = record { messages = []; ends = Border; splits = refl; answered = []; outcomes = []; serves = (refl, refl); written = (refl, refl) };
  ending = refl;
}

-- neither the PING behind it nor the fault behind that is answered
quit_and_more : (g : Lcg) → Ends g (codes "PING\r\nQUIT\r\nPING\r\n*x") (codes "+PONG\r\n+OK\r\n") Quit
unfolding one_ping
quit_and_more g = record {
  session = record {
    messages = one_ping ∷ (codes "QUIT" ∷ []) ∷ one_ping ∷ [];
    ends = Broken BadCount (codes "x");
    splits = (codes "QUIT\r\nPING\r\n*x", refl, (codes "PING\r\n*x", refl, (codes "*x", refl, refl)));
    answered = one_ping ∷ (codes "QUIT" ∷ []) ∷ [];
    outcomes = Answered request.Pong ∷ Answered request.Bye ∷ [];
    serves = then_ping g ((codes "QUIT" ∷ []) ∷ []) (Answered request.Bye ∷ []) (quit g);
    written = ((one_ping ∷ [], refl), refl);
  };
  ending = refl;
}

fault : (g : Lcg) → Ends g (codes "PING\r\n*x") (codes "+PONG\r\n-ERR Protocol error: bad array count at byte 7\r\n") (Protocol BadCount 7)
unfolding one_ping digits
fault g = record {
  session = record {
    messages = one_ping ∷ [];
    ends = Broken BadCount (codes "x");
    splits = (codes "*x", refl, refl);
    answered = one_ping ∷ [];
    outcomes = Answered request.Pong ∷ [];
    serves = then_ping g [] [] (refl, refl);
    written = (refl, refl);
  };
  ending = refl;
}

-- skipped messages aren't answered, and neither is the one that is cut short
cut_short : (g : Lcg) → Ends g (codes "*0\r\n\r\nPING\r\n*-1\r\n*2\r\n$5\r\nab") (codes "+PONG\r\n") CutShort
unfolding one_ping
cut_short g = record {
  session = record {
    messages = [] ∷ [] ∷ one_ping ∷ [] ∷ [];
    ends = Within;
    splits = (codes "\r\nPING\r\n*-1\r\n*2\r\n$5\r\nab", refl, (codes "PING\r\n*-1\r\n*2\r\n$5\r\nab", refl, (codes "*-1\r\n*2\r\n$5\r\nab", refl, (codes "*2\r\n$5\r\nab", refl, refl))));
    answered = one_ping ∷ [];
    outcomes = Answered request.Pong ∷ [];
    serves = then_ping g [] [] (refl, refl);
    written = (refl, refl);
  };
  ending = refl;
}

-- a connection goes on behind want of memory
starved : (g : Lcg) → Ends g (codes "VCARD s\r\nPING\r\n") (codes "-OOM not enough memory\r\n+PONG\r\n") Ended
unfolding one_ping
starved g = record {
  session = record {
    messages = (codes "VCARD" ∷ codes "s" ∷ []) ∷ one_ping ∷ [];
    ends = Border;
    splits = (codes "PING\r\n", refl, ([], refl, refl));
    answered = (codes "VCARD" ∷ codes "s" ∷ []) ∷ one_ping ∷ [];
    outcomes = OutOfMemory ∷ Answered request.Pong ∷ [];
    serves = ([], g, inr (refl, refl, refl), tt, then_ping g [] [] (refl, refl));
    written = (refl, refl);
  };
  ending = refl;
}

-- three PING, and a sink whose second call fails
lacks_a_reply : (g : Lcg) → LacksOfReply (PlainCall usual_limits) true read draws 0 g [] (codes "PING\r\nPING\r\nPING\r\n") (codes "+PONG\r\n") [] g
unfolding one_ping
lacks_a_reply g = record {
  missing = codes "+PONG\r\n";
  begun = record {
    messages = one_ping ∷ one_ping ∷ one_ping ∷ [];
    ends = Border;
    splits = (codes "PING\r\nPING\r\n", refl, (codes "PING\r\n", refl, ([], refl, refl)));
    answered = one_ping ∷ one_ping ∷ [];
    outcomes = Answered request.Pong ∷ Answered request.Pong ∷ [];
    serves = then_ping g (one_ping ∷ []) (Answered request.Pong ∷ []) (then_ping g [] [] (refl, refl));
    first = (one_ping ∷ [], refl);
    written = refl;
  };
  some_missing = lit≤ tt;
  of_last_reply = lit≤ tt;
}

lacks_a_line_end : (g : Lcg) → LacksOfFault (PlainCall usual_limits) true read draws 0 g [] (codes "*1\r\n$3\r\nabcX") (codes "-ERR Protocol error: bad bulk end at byte 11\r") [] g
unfolding digits
lacks_a_line_end g = record {
  missing = codes "\n";
  session = record {
    messages = [];
    ends = Broken BadEnd (codes "X");
    splits = refl;
    answered = [];
    outcomes = [];
    serves = (refl, refl);
    written = (refl, refl);
  };
  no_quit = refl;
  some_missing = lit≤ tt;
  of_closing_line = lit≤ tt;
}

-- ---- ends that came first

abbrev ReadsEmpty : Lcg → Bytes → Bytes → PlainHistory → Lcg → Type 0
ReadsEmpty g input output t h = ReadPart (PlainCall usual_limits) true read draws 0 g [] input output t h

abbrev LosesMemory : Lcg → Bytes → Bytes → PlainHistory → Lcg → Type 0
LosesMemory g input output t h = MemoryPart (PlainCall usual_limits) true read draws 0 g [] input output t h

-- after PING and a part of a message a read fails
read_within : (g : Lcg) → ReadsEmpty g (codes "PING\r\n*2\r\n$5\r\nab") (codes "+PONG\r\n") [] g
unfolding one_ping
read_within g = record {
  begun = record {
    messages = one_ping ∷ [];
    ends = Within;
    splits = (codes "*2\r\n$5\r\nab", refl, refl);
    answered = one_ping ∷ [];
    outcomes = Answered request.Pong ∷ [];
    serves = then_ping g [] [] (refl, refl);
    first = ([], refl);
    written = refl;
  };
  all = refl;
  no_quit = refl;
  unbroken = tt;
}

-- whether the first two bytes are `+O`
is_o : Bytes → Bool
is_o [] = false
is_o (c ∷ cs) = c == 79

begins_as_bye : Bytes → Bool
begins_as_bye [] = false
begins_as_bye (c ∷ cs) = (c == 43) && is_o cs

-- no other reply is the bytes of QUIT's
quits_by : (o : Outcome) → reply o ≡ codes "+OK\r\n" → is_bye o ≡ false → ⊥
unfolding is_o begins_as_bye
quits_by (Answered request.Bye) is other = true≢false other
quits_by (Answered (request.Int n)) is other = true≢false (sym (ap begins_as_bye is))
quits_by (Answered request.Pong) is other = true≢false (sym (ap begins_as_bye is))
quits_by (Answered (request.Bulk text)) is other = true≢false (sym (ap begins_as_bye is))
quits_by (Answered request.NullText) is other = true≢false (sym (ap begins_as_bye is))
quits_by (Answered request.NullList) is other = true≢false (sym (ap begins_as_bye is))
quits_by (Answered (request.Names names)) is other = true≢false (sym (ap begins_as_bye is))
quits_by (Answered (request.Signs signs)) is other = true≢false (sym (ap begins_as_bye is))
quits_by (Answered (request.Hits dim scores attrs hits)) is other = true≢false (sym (ap begins_as_bye is))
quits_by (Answered (request.Layers dim scores layers)) is other = true≢false (sym (ap begins_as_bye is))
quits_by (Answered (request.Informed info)) is other = true≢false (sym (ap begins_as_bye is))
quits_by (Refused cause) is other = true≢false (sym (ap begins_as_bye is))
quits_by OutOfMemory is other = true≢false (sym (ap begins_as_bye is))

one_quits : (g : Lcg) (m : Message) (os : List Outcome) (t : PlainHistory) (h : Lcg) → Serves (PlainCall usual_limits) true read draws 0 g [] (m ∷ []) os t h →
    codes "+OK\r\n" ≡ replies os → quits os ≡ false → ⊥
one_quits g m [] t h serves written other = serves
one_quits g m (o ∷ []) t h serves written other = quits_by o (sym (written ∙ append-nil (reply o))) other
one_quits g m (o ∷ p ∷ os) t h serves written other = serves.4

-- once QUIT is answered no read can fail any more
not_after_quit : (g : Lcg) (t : PlainHistory) (h : Lcg) → ReadsEmpty g (codes "QUIT\r\n") (codes "+OK\r\n") t h → ⊥
not_after_quit g t h r =
    let b = r.begun in
    let quits : Splits true (codes "QUIT\r\n") ((codes "QUIT" ∷ []) ∷ []) Border = ([], refl, refl) in
    let is = splits_once true (codes "QUIT\r\n") b.messages ((codes "QUIT" ∷ []) ∷ []) b.ends Border b.splits quits in
    let all : b.answered ≡ (codes "QUIT" ∷ []) ∷ [] = r.all ∙ ap with_words is.0 in
    one_quits g (codes "QUIT" ∷ []) b.outcomes t h
    (subst (λ (ms : List Message). Serves (PlainCall usual_limits) true read draws 0 g [] ms b.outcomes t h) all b.serves) b.written r.no_quit

-- nor behind a fault
not_after_fault : (g : Lcg) (t : PlainHistory) (h : Lcg) → ReadsEmpty g (codes "PING\r\n*x and more") (codes "+PONG\r\n") t h → ⊥
unfolding one_ping
not_after_fault g t h r =
    let b = r.begun in
    let broken : Splits true (codes "PING\r\n*x and more") (one_ping ∷ []) (Broken BadCount (codes "x and more")) = (codes "*x and more", refl, refl) in
    let is = splits_once true (codes "PING\r\n*x and more") b.messages (one_ping ∷ []) b.ends (Broken BadCount (codes "x and more")) b.splits broken in
    subst IsUnbroken is.1 r.unbroken

-- before the first read there may be no memory to read with
no_memory_at_once : (g : Lcg) → LosesMemory g [] [] [] g
no_memory_at_once g = record {
  front = [];
  rest = [];
  parts = refl;
  before = record {
    begun = record { messages = []; ends = Border; splits = refl; answered = []; outcomes = []; serves = (refl, refl); first = ([], refl); written = refl };
    all = refl;
    no_quit = refl;
    unbroken = tt;
  };
  whole = refl;
  reading = inl refl;
}

none_answered : (g : Lcg) (os : List Outcome) (t : PlainHistory) (h : Lcg) → Serves (PlainCall usual_limits) true read draws 0 g [] [] os t h → codes "+PONG\r\n" ≡ replies os → ⊥
none_answered g [] t h serves written = cc
none_answered g (o ∷ os) t h serves written = serves

carried : (lines : Bool) (more text rest : Bytes) (m : Message) → message_at lines text ≡ Whole m rest → message_at lines (text ++ more) ≡ Whole m (rest ++ more)
carried lines more text rest m is = subst (λ (r : Reading Message). Carries more r (message_at lines (text ++ more))) is (message_carries lines more text)

-- one PING is no message with bytes of a further one
one_alone : (front rest : Bytes) (ms : List Message) → codes "PING\r\n" ≡ front ++ rest → 1 ≤ length rest → Splits true front ms Border → ms ≡ []
unfolding one_ping
one_alone front rest [] parts some splits = refl
one_alone front rest (m ∷ ms) parts some (after, is, more) =
    let all : Whole one_ping [] ≡ Whole m (after ++ rest) = ap (message_at true) parts ∙ carried true rest front after m is in
    let none : [] ≡ after ++ rest = cc in
    absurd (omega (arith, ap (λ (l : Bytes). length l) none, length-append after rest))

-- where each message was answered and no byte of a further one has come, memory can't be refused any more
not_at_a_border : (g : Lcg) (t : PlainHistory) (h : Lcg) → LosesMemory g (codes "PING\r\n") (codes "+PONG\r\n") t h → ⊥
not_at_a_border g t h l =
    let b = l.before.begun in
    let splits : Splits true l.front b.messages Border = subst (λ (e : End). Splits true l.front b.messages e) l.whole b.splits in
    elim l.reading [
      | inl none ↦ cc
      | inr some ↦ let all : b.answered ≡ [] = l.before.all ∙ ap with_words (one_alone l.front l.rest b.messages l.parts some splits) in
          none_answered g b.outcomes t h (subst (λ (ms : List Message). Serves (PlainCall usual_limits) true read draws 0 g [] ms b.outcomes t h) all b.serves) b.written
    ]
