-- What more text leaves of what was read, and texts behind whole messages.
use Rattle.std.proofs.Common.{◌≡◌, ℕ, Bool, List, [], ◌∷◌, ◌++◌, refl, sym, ap, subst}
use Rattle.vs_defs.specs.Bytes.{Bytes}
use Rattle.vs_defs.specs.Stream.{Message, Fault, Reading, Whole, Short, Faulty, message_at, End, Border, Within, Broken, EndsAs, Splits}
use Rattle.vs_stream.specs.Machine.{State, start, Next, Goes, Gives, Breaks, step, reads}
use Rattle.vs_stream.proofs.Resume.{message_reads}

-- ---- more text

-- what the same text says, with more behind it
abbrev pub Extends : Reading Message → Bytes → Reading Message → Type 0
Extends (Whole m rest) more r = r ≡ Whole m (rest ++ more)
Extends Short more r = Unit {0}
Extends (Faulty f rest) more r = r ≡ Faulty f (rest ++ more)

extends_on : (lines : Bool) (x : Next) (c : ℕ) (cs more : Bytes) → ((s : State) → Extends (reads lines s cs) more (reads lines s (cs ++ more))) →
    Extends (elim x [ Goes t ↦ reads lines t cs | Gives m ↦ Whole m cs | Breaks f ↦ Faulty f (c ∷ cs) ]) more
    (elim x [ Goes t ↦ reads lines t (cs ++ more) | Gives m ↦ Whole m (cs ++ more) | Breaks f ↦ Faulty f (c ∷ (cs ++ more)) ])
extends_on lines (Goes t) c cs more ih = ih t
extends_on lines (Gives m) c cs more ih = refl
extends_on lines (Breaks f) c cs more ih = refl

pub reads_extends : (lines : Bool) (s : State) (text more : Bytes) → Extends (reads lines s text) more (reads lines s (text ++ more))
reads_extends lines s [] more = tt
reads_extends lines s (c ∷ cs) more = extends_on lines (step lines s c) c cs more (λ t. reads_extends lines t cs more)

pub message_extends : (lines : Bool) (text more : Bytes) → Extends (message_at lines text) more (message_at lines (text ++ more))
message_extends lines text more =
    subst (λ (r : Reading Message). Extends r more (message_at lines (text ++ more))) (sym (message_reads lines text))
    (subst (λ (r : Reading Message). Extends (reads lines start text) more r) (sym (message_reads lines (text ++ more))) (reads_extends lines start text more))

pub whole_extends : (lines : Bool) (text rest more : Bytes) (m : Message) → message_at lines text ≡ Whole m rest → message_at lines (text ++ more) ≡ Whole m (rest ++ more)
whole_extends lines text rest more m e = subst (λ (r : Reading Message). Extends r more (message_at lines (text ++ more))) e (message_extends lines text more)

pub faulty_extends : (lines : Bool) (text rest more : Bytes) (f : Fault) → message_at lines text ≡ Faulty f rest → message_at lines (text ++ more) ≡ Faulty f (rest ++ more)
faulty_extends lines text rest more f e = subst (λ (r : Reading Message). Extends r more (message_at lines (text ++ more))) e (message_extends lines text more)

-- ---- what is left

-- a message takes at least one byte, and a fault is at one of the text's bytes
abbrev pub Leaves : Bytes → Reading Message → Type 0
Leaves text (Whole m rest) = (b : ℕ) × (front : Bytes) × (text ≡ b ∷ (front ++ rest))
Leaves text Short = Unit {0}
Leaves text (Faulty f rest) = (front : Bytes) × (b : ℕ) × (more : Bytes) × (rest ≡ b ∷ more) × (text ≡ front ++ rest)

leaves_more : (c : ℕ) (cs : Bytes) (r : Reading Message) → Leaves cs r → Leaves (c ∷ cs) r
leaves_more c cs (Whole m rest) (b, front, e) = (c, b ∷ front, ap (λ (l : Bytes). c ∷ l) e)
leaves_more c cs Short h = tt
leaves_more c cs (Faulty f rest) (front, b, more, e, d) = (c ∷ front, b, more, e, ap (λ (l : Bytes). c ∷ l) d)

leaves_on : (lines : Bool) (x : Next) (c : ℕ) (cs : Bytes) → ((s : State) → Leaves cs (reads lines s cs)) →
    Leaves (c ∷ cs) (elim x [ Goes t ↦ reads lines t cs | Gives m ↦ Whole m cs | Breaks f ↦ Faulty f (c ∷ cs) ])
leaves_on lines (Goes t) c cs ih = leaves_more c cs (reads lines t cs) (ih t)
leaves_on lines (Gives m) c cs ih = (c, [], refl)
leaves_on lines (Breaks f) c cs ih = ([], c, cs, refl, refl)

pub reads_leaves : (lines : Bool) (s : State) (text : Bytes) → Leaves text (reads lines s text)
reads_leaves lines s [] = tt
reads_leaves lines s (c ∷ cs) = leaves_on lines (step lines s c) c cs (λ t. reads_leaves lines t cs)

pub message_leaves : (lines : Bool) (text : Bytes) → Leaves text (message_at lines text)
message_leaves lines text = subst (λ (r : Reading Message). Leaves text r) (sym (message_reads lines text)) (reads_leaves lines start text)

pub whole_leaves : (lines : Bool) (text rest : Bytes) (m : Message) → message_at lines text ≡ Whole m rest → Leaves text (Whole m rest)
whole_leaves lines text rest m e = subst (λ (r : Reading Message). Leaves text r) e (message_leaves lines text)

pub faulty_leaves : (lines : Bool) (text rest : Bytes) (f : Fault) → message_at lines text ≡ Faulty f rest → Leaves text (Faulty f rest)
faulty_leaves lines text rest f e = subst (λ (r : Reading Message). Leaves text r) e (message_leaves lines text)

-- ---- a text behind whole messages

no_border : (r : Reading Message) (c : ℕ) (cs : Bytes) → EndsAs r (c ∷ cs) Border → ⊥
no_border (Whole m rest) c cs h = h
no_border Short c cs h = let two : Border ≡ Within = h in cc
no_border (Faulty f rest) c cs h = let two : Border ≡ Broken f rest = h in cc

pub splits_behind : (lines : Bool) (front rest : Bytes) (ms ns : List Message) (e : End) → Splits lines front ms Border → Splits lines rest ns e → Splits lines (front ++ rest) (ms ++ ns) e
splits_behind lines [] rest [] ns e h k = k
splits_behind lines (c ∷ cs) rest [] ns e h k = absurd (no_border (message_at lines (c ∷ cs)) c cs h)
splits_behind lines front rest (m ∷ ms) ns e h k =
    (h.0 ++ rest, whole_extends lines front h.0 rest m h.1, splits_behind lines h.0 rest ms ns e h.2 k)
