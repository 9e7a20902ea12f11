-- One byte more, and what callers learn.
use Rattle.std.proofs.Common.{◌≡◌, ◌≤◌, ◌+◌, ◌-◌, ℕ, zero, suc, Bool, true, false, cond, nat_lt, ◌&&◌, ◌==◌, List, [], ◌∷◌, ◌++◌, length, refl, sym, ap, subst, ◌∙◌, arith, append_assoc, append-nil, length-append}
use Rattle.std.specs.Char.{is_ascii_digit}
use Rattle.vs_defs.specs.Limits.{max_count_digits, max_line_bytes}
use Rattle.vs_defs.specs.Bytes.{Bytes}
use Rattle.vs_defs.specs.Stream.{Message, Fault, BadCount, ExpectedBulk, BadLength, BadEnd, InlineTooLong, Inline, Reading, Whole, Short, Faulty, count_past, length_past, digit_onto, message_at, End, Border, Within, Broken, EndsAs, Splits, has_word, with_words, without_return}
use Rattle.vs_stream.specs.Machine.{State, start, star, minus, minus_one, count, count_end, bulk, len, len_end, body, body_end, line, Next, Goes, Gives, Breaks, count_step, len_step, line_step, begin_bulks, after_bulk, one_word, step, reads}
use Rattle.vs_stream.specs.Place.{IsStream, BeginsStream, HasFault}
use Rattle.vs_stream.specs.Reader.{Reader, reading, broken, lost, worded, taken, reader_step, PartOf, WhileReading, AfterFault, AfterLoss, Means, prefixed}
use Rattle.vs_stream.specs.Given.{GivenAll, GivenFirst, GivenBefore}
use Rattle.vs_stream.proofs.Resume.{message_reads}
use Rattle.vs_stream.proofs.Laws.{splits_behind}
use Rattle.vs_defs.proofs.StreamLaws.{splits_always, splits_once}
use Rattle.vs_stream.proofs.Place.{broken_more, rest_within, border_begins, within_begins}

-- ---- no byte leads back to the start but a message's last

abbrev pub IsInside : State → Type 0
IsInside start = ⊥
IsInside star = Unit {0}
IsInside minus = Unit {0}
IsInside minus_one = Unit {0}
IsInside (count k n) = Unit {0}
IsInside (count_end n) = Unit {0}
IsInside (bulk l sum ws) = Unit {0}
IsInside (len l sum ws k n) = Unit {0}
IsInside (len_end l sum ws n) = Unit {0}
IsInside (body l sum ws n w) = Unit {0}
IsInside (body_end l sum ws w) = Unit {0}
IsInside (line k ws w) = Unit {0}

abbrev pub InsideNext : Next → Type 0
InsideNext (Goes s) = IsInside s
InsideNext (Gives m) = Unit {0}
InsideNext (Breaks f) = Unit {0}

cond_next : (t : Bool) (x y : Next) → InsideNext x → InsideNext y → InsideNext (cond t x y)
cond_next true x y p q = p
cond_next false x y p q = q

elim_next : (t : Bool) (x y : Next) → InsideNext x → InsideNext y → InsideNext (elim t [ true ↦ x | false ↦ y ])
elim_next true x y p q = p
elim_next false x y p q = q

inside_count : (k n c : ℕ) → InsideNext (count_step k n c)
inside_count k n c =
    elim_next (is_ascii_digit c && nat_lt k max_count_digits)
    (elim (count_past (digit_onto n c)).0 [ true ↦ Breaks (count_past (digit_onto n c)).1 | false ↦ Goes (count (k + 1) (digit_onto n c)) ])
    (elim (nat_lt 0 k) [ true ↦ cond (c == 13) (Goes (count_end n)) (Breaks BadCount) | false ↦ Breaks BadCount ])
    (elim_next (count_past (digit_onto n c)).0 (Breaks (count_past (digit_onto n c)).1) (Goes (count (k + 1) (digit_onto n c))) tt tt)
    (elim_next (nat_lt 0 k) (cond (c == 13) (Goes (count_end n)) (Breaks BadCount)) (Breaks BadCount) (cond_next (c == 13) (Goes (count_end n)) (Breaks BadCount) tt tt) tt)

inside_len : (l sum : ℕ) (ws : List Bytes) (k n c : ℕ) → InsideNext (len_step l sum ws k n c)
inside_len l sum ws k n c =
    elim_next (is_ascii_digit c && nat_lt k max_count_digits)
    (elim (length_past sum (digit_onto n c)).0 [ true ↦ Breaks (length_past sum (digit_onto n c)).1 | false ↦ Goes (len l sum ws (k + 1) (digit_onto n c)) ])
    (elim (nat_lt 0 k) [ true ↦ cond (c == 13) (Goes (len_end l sum ws n)) (Breaks BadLength) | false ↦ Breaks BadLength ])
    (elim_next (length_past sum (digit_onto n c)).0 (Breaks (length_past sum (digit_onto n c)).1) (Goes (len l sum ws (k + 1) (digit_onto n c))) tt tt)
    (elim_next (nat_lt 0 k) (cond (c == 13) (Goes (len_end l sum ws n)) (Breaks BadLength)) (Breaks BadLength) (cond_next (c == 13) (Goes (len_end l sum ws n)) (Breaks BadLength) tt tt) tt)

inside_line : (k : ℕ) (ws : List Bytes) (w : Bytes) (c : ℕ) → InsideNext (line_step k ws w c)
inside_line k ws w c =
    cond_next (c == 10) (Gives (ws ++ one_word (without_return w)))
    (cond (nat_lt k max_line_bytes) (cond (c == 32) (Goes (line (k + 1) (ws ++ one_word w) [])) (Goes (line (k + 1) ws (w ++ c ∷ [])))) (Breaks InlineTooLong)) tt
    (cond_next (nat_lt k max_line_bytes) (cond (c == 32) (Goes (line (k + 1) (ws ++ one_word w) [])) (Goes (line (k + 1) ws (w ++ c ∷ [])))) (Breaks InlineTooLong)
    (cond_next (c == 32) (Goes (line (k + 1) (ws ++ one_word w) [])) (Goes (line (k + 1) ws (w ++ c ∷ []))) tt tt) tt)

inside_begin : (n : ℕ) → InsideNext (begin_bulks n)
inside_begin zero = tt
inside_begin (suc l) = tt

inside_after : (l sum : ℕ) (ws : List Bytes) → InsideNext (after_bulk l sum ws)
inside_after zero sum ws = tt
inside_after (suc l) sum ws = tt

inside_first : (lines : Bool) (c : ℕ) → InsideNext (elim lines [ true ↦ line_step 0 [] [] c | false ↦ Breaks Inline ])
inside_first true c = inside_line 0 [] [] c
inside_first false c = tt

inside_step : (lines : Bool) (s : State) (c : ℕ) → InsideNext (step lines s c)
inside_step lines start c = cond_next (c == 42) (Goes star) (elim lines [ true ↦ line_step 0 [] [] c | false ↦ Breaks Inline ]) tt (inside_first lines c)
inside_step lines star c = cond_next (c == 45) (Goes minus) (count_step 0 0 c) tt (inside_count 0 0 c)
inside_step lines minus c = cond_next (c == 49) (Goes minus_one) (Breaks BadCount) tt tt
inside_step lines minus_one c = cond_next (c == 13) (Goes (count_end 0)) (Breaks BadCount) tt tt
inside_step lines (count k n) c = inside_count k n c
inside_step lines (count_end n) c = cond_next (c == 10) (begin_bulks n) (Breaks BadCount) (inside_begin n) tt
inside_step lines (bulk l sum ws) c = cond_next (c == 36) (Goes (len l sum ws 0 0)) (Breaks ExpectedBulk) tt tt
inside_step lines (len l sum ws k n) c = inside_len l sum ws k n c
inside_step lines (len_end l sum ws n) c = cond_next (c == 10) (Goes (body l (sum + n) ws n [])) (Breaks BadLength) tt tt
inside_step lines (body l sum ws zero w) c = cond_next (c == 13) (Goes (body_end l sum ws w)) (Breaks BadEnd) tt tt
inside_step lines (body l sum ws (suc n) w) c = tt
inside_step lines (body_end l sum ws w) c = cond_next (c == 10) (after_bulk l sum (ws ++ w ∷ [])) (Breaks BadEnd) (inside_after l sum (ws ++ w ∷ [])) tt
inside_step lines (line k ws w) c = inside_line k ws w c

-- ---- words

with_words_one : (m : Message) → with_words (m ∷ []) ≡ worded m
with_words_one [] = refl
with_words_one (w ∷ ws) = refl

kept : (t : Bool) (m : Message) (ms ns : List Message) → cond t (m ∷ (ms ++ ns)) (ms ++ ns) ≡ cond t (m ∷ ms) ms ++ ns
kept true m ms ns = refl
kept false m ms ns = refl

pub with_words_append : (ms ns : List Message) → with_words (ms ++ ns) ≡ with_words ms ++ with_words ns
with_words_append [] ns = refl
with_words_append (m ∷ ms) ns =
    ap (λ (l : List Message). cond (has_word m) (m ∷ l) l) (with_words_append ms ns) ∙ kept (has_word m) m (with_words ms) (with_words ns)

-- ---- one byte more

some_byte : (p : Bytes) (c : ℕ) → (b : ℕ) × (more : Bytes) × (p ++ c ∷ [] ≡ b ∷ more)
some_byte [] c = (c, [], refl)
some_byte (b ∷ p) c = (b, p ++ c ∷ [], refl)

part_inside : (s : State) (p : Bytes) → IsInside s → (b : ℕ) × (more : Bytes) × (p ≡ b ∷ more) → PartOf s p
part_inside start p i h = absurd i
part_inside star p i h = h
part_inside minus p i h = h
part_inside minus_one p i h = h
part_inside (count k n) p i h = h
part_inside (count_end n) p i h = h
part_inside (bulk l sum ws) p i h = h
part_inside (len l sum ws k n) p i h = h
part_inside (len_end l sum ws n) p i h = h
part_inside (body l sum ws n w) p i h = h
part_inside (body_end l sum ws w) p i h = h
part_inside (line k ws w) p i h = h

module _ (lines : Bool) (n : ℕ) (ms : List Message) (s : State) (fed : Bytes) (c : ℕ) (a : WhileReading lines n ms s fed) where
  fed_more : fed ++ c ∷ [] ≡ a.front ++ (a.part ++ c ∷ [])
  fed_more = ap (λ (l : Bytes). l ++ c ∷ []) a.fed_is ∙ append_assoc a.front a.part (c ∷ [])

  count_more : n + 1 ≡ length (fed ++ c ∷ [])
  count_more = omega (arith, a.counted, length-append fed (c ∷ []))

  -- what is read at this byte
  read_here : (x : Next) → step lines s c ≡ x → (rest : Bytes) →
      ◌≡◌ {A = Reading Message} (reads lines start ((a.part ++ c ∷ []) ++ rest)) (elim x [ Goes t ↦ reads lines t rest | Gives m ↦ Whole m rest | Breaks f ↦ Faulty f (c ∷ rest) ])
  read_here x is rest =
      ap (λ (l : Bytes). reads lines start l) (append_assoc a.part (c ∷ []) rest) ∙ a.onward (c ∷ rest)
      ∙ ap (λ (x : Next). elim x [ Goes t ↦ reads lines t rest | Gives m ↦ Whole m rest | Breaks f ↦ Faulty f (c ∷ rest) ]) is

  message_here : (x : Next) → step lines s c ≡ x →
      ◌≡◌ {A = Reading Message} (message_at lines (a.part ++ c ∷ [])) (elim x [ Goes t ↦ reads lines t [] | Gives m ↦ Whole m [] | Breaks f ↦ Faulty f (c ∷ []) ])
  message_here x is = message_reads lines (a.part ++ c ∷ []) ∙ ap (λ (l : Bytes). reads lines start l) (sym (append-nil (a.part ++ c ∷ []))) ∙ read_here x is []

  reading_goes : (t : State) → step lines s c ≡ Goes t → IsInside t → WhileReading lines (n + 1) ms t (fed ++ c ∷ [])
  reading_goes t is inside = record {
    front = a.front;
    part = a.part ++ c ∷ [];
    all = a.all;
    fed_is = fed_more;
    counted = count_more;
    whole = a.whole;
    given = a.given;
    part_of = part_inside t (a.part ++ c ∷ []) inside (some_byte a.part c);
    onward = read_here (Goes t) is;
  }

  reading_gives : (m : Message) → step lines s c ≡ Gives m → WhileReading lines (n + 1) (ms ++ worded m) start (fed ++ c ∷ [])
  reading_gives m is = record {
    front = a.front ++ (a.part ++ c ∷ []);
    part = [];
    all = a.all ++ m ∷ [];
    fed_is = fed_more ∙ sym (append-nil (a.front ++ (a.part ++ c ∷ [])));
    counted = count_more;
    whole = splits_behind lines a.front (a.part ++ c ∷ []) a.all (m ∷ []) Border a.whole ([], message_here (Gives m) is, refl);
    given = with_words_append a.all (m ∷ []) ∙ ap (λ (l : List Message). l ++ with_words (m ∷ [])) a.given ∙ ap (λ (l : List Message). ms ++ l) (with_words_one m);
    part_of = refl;
    onward = λ rest. refl;
  }

  ends_here : (p : Bytes) (f : Fault) → ◌≡◌ {A = Reading Message} (message_at lines (p ++ c ∷ [])) (Faulty f (c ∷ [])) → Splits lines (p ++ c ∷ []) [] (Broken f (c ∷ []))
  ends_here [] f e = subst (λ (r : Reading Message). EndsAs r (c ∷ []) (Broken f (c ∷ []))) (sym e) refl
  ends_here (b ∷ p) f e = subst (λ (r : Reading Message). EndsAs r (b ∷ (p ++ c ∷ [])) (Broken f (c ∷ []))) (sym e) refl

  reading_breaks : (f : Fault) → step lines s c ≡ Breaks f → AfterFault lines ms f n (fed ++ c ∷ [])
  reading_breaks f is = record {
    all = a.all;
    rest = c ∷ [];
    splits = subst (λ (l : Bytes). Splits lines l a.all (Broken f (c ∷ []))) (sym fed_more)
        (subst (λ (l : List Message). Splits lines (a.front ++ (a.part ++ c ∷ [])) l (Broken f (c ∷ []))) (append-nil a.all)
        (splits_behind lines a.front (a.part ++ c ∷ []) a.all [] (Broken f (c ∷ [])) a.whole (ends_here a.part f (message_here (Breaks f) is))));
    given = a.given;
    place = omega (arith, a.counted, length-append fed (c ∷ []));
  }

  reading_on : (x : Next) → step lines s c ≡ x → InsideNext x → Means lines (n + 1) (taken n ms x) (fed ++ c ∷ [])
  reading_on (Goes t) is i = reading_goes t is i
  reading_on (Gives m) is i = reading_gives m is
  reading_on (Breaks f) is i = reading_breaks f is

-- ---- more bytes after a fault, and after want of memory

pub fault_more : (lines : Bool) (ms : List Message) (f : Fault) (at : ℕ) (fed more : Bytes) → AfterFault lines ms f at fed → AfterFault lines ms f at (fed ++ more)
fault_more lines ms f at fed more b = record {
  all = b.all;
  rest = b.rest ++ more;
  splits = broken_more lines fed more b.all f b.rest b.splits;
  given = b.given;
  place = let le = rest_within lines fed b.all f b.rest b.splits in omega (arith, b.place, length-append fed more, length-append b.rest more);
}

pub loss_more : (lines : Bool) (ms : List Message) (fed more : Bytes) → AfterLoss lines ms fed → AfterLoss lines ms (fed ++ more)
loss_more lines ms fed more g = record {
  front = g.front;
  rest = g.rest ++ more;
  all = g.all;
  fed_is = ap (λ (l : Bytes). l ++ more) g.fed_is ∙ append_assoc g.front g.rest more;
  begun = omega (arith, g.begun, length-append g.rest more);
  whole = g.whole;
  given = g.given;
}

pub loss_of : (lines : Bool) (n : ℕ) (ms : List Message) (s : State) (fed more : Bytes) → 1 ≤ length more → WhileReading lines n ms s fed → AfterLoss lines ms (fed ++ more)
loss_of lines n ms s fed more some a = record {
  front = a.front;
  rest = a.part ++ more;
  all = a.all;
  fed_is = ap (λ (l : Bytes). l ++ more) a.fed_is ∙ append_assoc a.front a.part more;
  begun = omega (arith, some, length-append a.part more);
  whole = a.whole;
  given = a.given;
}

pub means_step : (lines : Bool) (n : ℕ) (r : Reader) (c : ℕ) (fed : Bytes) → Means lines n r fed → Means lines (n + 1) (reader_step lines n r c) (fed ++ c ∷ [])
means_step lines n (reading ms s) c fed m = reading_on lines n ms s fed c m (step lines s c) refl (inside_step lines s c)
means_step lines n (broken ms f at) c fed m = fault_more lines ms f at fed (c ∷ []) m
means_step lines n (lost ms) c fed m = loss_more lines ms fed (c ∷ []) m

-- ---- the start

pub reading_new : (lines : Bool) → WhileReading lines 0 [] start []
reading_new lines = record { front = []; part = []; all = []; fed_is = refl; counted = refl; whole = refl; given = refl; part_of = refl; onward = λ rest. refl }

pub reading_step : (lines : Bool) (n : ℕ) (ms : List Message) (s t : State) (fed : Bytes) (c : ℕ) → step lines s c ≡ Goes t → IsInside t → WhileReading lines n ms s fed → WhileReading lines (n + 1) ms t (fed ++ c ∷ [])
reading_step lines n ms s t fed c is inside a = reading_goes lines n ms s fed c a t is inside

-- a bulk's bytes, all at once
pub reading_body : (lines : Bool) (n : ℕ) (ms : List Message) (l sum : ℕ) (ws : List Bytes) (want : ℕ) (w fed xs : Bytes) → length xs ≤ want →
    WhileReading lines n ms (body l sum ws want w) fed → WhileReading lines (n + length xs) ms (body l sum ws (want - length xs) (w ++ xs)) (fed ++ xs)
reading_body lines n ms l sum ws want w fed [] h a =
    let e1 : n ≡ n + 0 = omega arith in
    let e2 : want ≡ want - 0 = omega arith in
    subst (λ (i : ℕ). WhileReading lines i ms (body l sum ws (want - 0) (w ++ [])) (fed ++ [])) e1
    (subst (λ (i : ℕ). WhileReading lines n ms (body l sum ws i (w ++ [])) (fed ++ [])) e2
    (subst (λ (v : Bytes). WhileReading lines n ms (body l sum ws want v) (fed ++ [])) (sym (append-nil w))
    (subst (λ (v : Bytes). WhileReading lines n ms (body l sum ws want w) v) (sym (append-nil fed)) a)))
reading_body lines n ms l sum ws zero w fed (c ∷ xs) h a = absurd (omega arith)
reading_body lines n ms l sum ws (suc want) w fed (c ∷ xs) h a =
    let le : length xs ≤ want = omega arith in
    let e1 : (n + 1) + length xs ≡ n + suc (length xs) = omega arith in
    let e2 : want - length xs ≡ suc want - suc (length xs) = omega arith in
    let i = reading_body lines (n + 1) ms l sum ws want (w ++ c ∷ []) (fed ++ c ∷ []) xs le (reading_step lines n ms (body l sum ws (suc want) w) (body l sum ws want (w ++ c ∷ [])) fed c refl tt a) in
    subst (λ (i : ℕ). WhileReading lines i ms (body l sum ws (suc want - suc (length xs)) (w ++ c ∷ xs)) (fed ++ c ∷ xs)) e1
    (subst (λ (i : ℕ). WhileReading lines ((n + 1) + length xs) ms (body l sum ws i (w ++ c ∷ xs)) (fed ++ c ∷ xs)) e2
    (subst (λ (v : Bytes). WhileReading lines ((n + 1) + length xs) ms (body l sum ws (want - length xs) v) (fed ++ c ∷ xs)) (append_assoc w (c ∷ []) xs)
    (subst (λ (v : Bytes). WhileReading lines ((n + 1) + length xs) ms (body l sum ws (want - length xs) ((w ++ c ∷ []) ++ xs)) v) (append_assoc fed (c ∷ []) xs) i)))

-- ---- messages given before

pub prefixed_step : (lines : Bool) (n : ℕ) (given : List Message) (r : Reader) (c : ℕ) → prefixed given (reader_step lines n r c) ≡ reader_step lines n (prefixed given r) c
prefixed_step lines n given (reading ms s) c = by_next (step lines s c) where
  by_next : (x : Next) → prefixed given (taken n ms x) ≡ taken n (given ++ ms) x
  by_next (Goes t) = refl
  by_next (Gives m) = ap (λ (l : List Message). reading l start) (sym (append_assoc given ms (worded m)))
  by_next (Breaks f) = refl
prefixed_step lines n given (broken ms f at) c = refl
prefixed_step lines n given (lost ms) c = refl

-- ---- what callers learn

reading_short : (lines : Bool) (n : ℕ) (ms : List Message) (s : State) (fed : Bytes) (a : WhileReading lines n ms s fed) → message_at lines a.part ≡ Short
reading_short lines n ms s fed a = message_reads lines a.part ∙ ap (λ (l : Bytes). reads lines start l) (sym (append-nil a.part)) ∙ a.onward []

-- how what was fed ends
abbrev pub end_of : State → End
end_of start = Border
end_of star = Within
end_of minus = Within
end_of minus_one = Within
end_of (count k n) = Within
end_of (count_end n) = Within
end_of (bulk l sum ws) = Within
end_of (len l sum ws k n) = Within
end_of (len_end l sum ws n) = Within
end_of (body l sum ws n w) = Within
end_of (body_end l sum ws w) = Within
end_of (line k ws w) = Within

ends_some : (r : Reading Message) (part : Bytes) → r ≡ Short → (b : ℕ) × (more : Bytes) × (part ≡ b ∷ more) → EndsAs r part Within
ends_some r part e p = subst (λ (l : Bytes). EndsAs r l Within) (sym p.2) (subst (λ (r : Reading Message). EndsAs r (p.0 ∷ p.1) Within) (sym e) refl)

ends_by : (s : State) (r : Reading Message) (part : Bytes) → r ≡ Short → PartOf s part → EndsAs r part (end_of s)
ends_by start r part e p = subst (λ (l : Bytes). EndsAs r l Border) (sym p) refl
ends_by star r part e p = ends_some r part e p
ends_by minus r part e p = ends_some r part e p
ends_by minus_one r part e p = ends_some r part e p
ends_by (count k n) r part e p = ends_some r part e p
ends_by (count_end n) r part e p = ends_some r part e p
ends_by (bulk l sum ws) r part e p = ends_some r part e p
ends_by (len l sum ws k n) r part e p = ends_some r part e p
ends_by (len_end l sum ws n) r part e p = ends_some r part e p
ends_by (body l sum ws n w) r part e p = ends_some r part e p
ends_by (body_end l sum ws w) r part e p = ends_some r part e p
ends_by (line k ws w) r part e p = ends_some r part e p

pub reading_splits : (lines : Bool) (n : ℕ) (ms : List Message) (s : State) (fed : Bytes) (a : WhileReading lines n ms s fed) → Splits lines fed a.all (end_of s)
reading_splits lines n ms s fed a =
    subst (λ (l : Bytes). Splits lines l a.all (end_of s)) (sym a.fed_is)
    (subst (λ (l : List Message). Splits lines (a.front ++ a.part) l (end_of s)) (append-nil a.all)
    (splits_behind lines a.front a.part a.all [] (end_of s) a.whole (ends_by s (message_at lines a.part) a.part (reading_short lines n ms s fed a) a.part_of)))

begins_by : (lines : Bool) (text : Bytes) (ms : List Message) (s : State) → Splits lines text ms (end_of s) → BeginsStream lines text
begins_by lines text ms start h = border_begins lines text ms h
begins_by lines text ms star h = within_begins lines text ms h
begins_by lines text ms minus h = within_begins lines text ms h
begins_by lines text ms minus_one h = within_begins lines text ms h
begins_by lines text ms (count k n) h = within_begins lines text ms h
begins_by lines text ms (count_end n) h = within_begins lines text ms h
begins_by lines text ms (bulk l sum ws) h = within_begins lines text ms h
begins_by lines text ms (len l sum ws k n) h = within_begins lines text ms h
begins_by lines text ms (len_end l sum ws n) h = within_begins lines text ms h
begins_by lines text ms (body l sum ws n w) h = within_begins lines text ms h
begins_by lines text ms (body_end l sum ws w) h = within_begins lines text ms h
begins_by lines text ms (line k ws w) h = within_begins lines text ms h

pub reading_begins : (lines : Bool) (n : ℕ) (ms : List Message) (s : State) (fed : Bytes) → WhileReading lines n ms s fed → BeginsStream lines fed
reading_begins lines n ms s fed a = begins_by lines fed a.all s (reading_splits lines n ms s fed a)

pub reading_all : (lines : Bool) (n : ℕ) (ms : List Message) (s : State) (fed : Bytes) → WhileReading lines n ms s fed → GivenAll lines fed ms
reading_all lines n ms s fed a = (a.all, end_of s, reading_splits lines n ms s fed a, a.given)

pub fault_all : (lines : Bool) (ms : List Message) (f : Fault) (at : ℕ) (fed : Bytes) → AfterFault lines ms f at fed → GivenAll lines fed ms
fault_all lines ms f at fed b = (b.all, Broken f b.rest, b.splits, b.given)

pub fault_place : (lines : Bool) (ms : List Message) (f : Fault) (at : ℕ) (fed : Bytes) → AfterFault lines ms f at fed → HasFault lines fed f at
fault_place lines ms f at fed b = (b.all, b.rest, b.splits, b.place)

-- only messages without a word, or none, stand behind those that were given
pub all_first : (lines : Bool) (given later : List Message) (fed : Bytes) → GivenAll lines fed (given ++ later) → GivenFirst lines fed given
all_first lines given later fed g = (g.0, g.1, g.2, (later, g.3))

pub loss_first : (lines : Bool) (given later : List Message) (fed : Bytes) → AfterLoss lines (given ++ later) fed → GivenFirst lines fed given
loss_first lines given later fed g =
    let s = splits_always lines g.rest in (
      g.all ++ s.0,
      s.1,
      subst (λ (l : Bytes). Splits lines l (g.all ++ s.0) s.1) (sym g.fed_is) (splits_behind lines g.front g.rest g.all s.0 s.1 g.whole s.2),
      (later ++ with_words s.0, with_words_append g.all s.0 ∙ ap (λ (l : List Message). l ++ with_words s.0) g.given ∙ append_assoc given later (with_words s.0)),
    )

pub loss_before : (lines : Bool) (ms : List Message) (fed : Bytes) → AfterLoss lines ms fed → GivenBefore lines fed ms
loss_before lines ms fed g = (g.front, g.rest, g.all, g.fed_is, g.begun, g.whole, g.given)

-- the border
pub reading_start : (lines : Bool) (n : ℕ) (ms : List Message) (fed : Bytes) → WhileReading lines n ms start fed → IsStream lines fed
reading_start lines n ms fed a = (a.all, reading_splits lines n ms start fed a)

not_border : (s : State) → IsInside s → end_of s ≡ Border → ⊥
not_border start i e = absurd i
not_border star i e = cc
not_border minus i e = cc
not_border minus_one i e = cc
not_border (count k n) i e = cc
not_border (count_end n) i e = cc
not_border (bulk l sum ws) i e = cc
not_border (len l sum ws k n) i e = cc
not_border (len_end l sum ws n) i e = cc
not_border (body l sum ws n w) i e = cc
not_border (body_end l sum ws w) i e = cc
not_border (line k ws w) i e = cc

pub reading_inside : (lines : Bool) (n : ℕ) (ms : List Message) (s : State) (fed : Bytes) → IsInside s → WhileReading lines n ms s fed → IsStream lines fed → ⊥
reading_inside lines n ms s fed i a h = not_border s i (splits_once lines fed a.all h.0 (end_of s) Border (reading_splits lines n ms s fed a) h.1).1

pub fault_inside : (lines : Bool) (ms : List Message) (f : Fault) (at : ℕ) (fed : Bytes) → AfterFault lines ms f at fed → IsStream lines fed → ⊥
fault_inside lines ms f at fed b h = let e = (splits_once lines fed b.all h.0 (Broken f b.rest) Border b.splits h.1).1 in cc
