-- A fault's place is the first byte at which the input ceases to be a prefix of a stream, and an input without a fault is one.
use Rattle.std.proofs.Common.{◌≡◌, ◌<◌, ◌≤◌, ◌+◌, ◌⊎◌, inl, inr, ℕ, zero, suc, Bool, true, false, cond, nat_lt, ◌&&◌, ◌==◌, List, [], ◌∷◌, ◌++◌, length, take, drop, refl, sym, ap, subst, ◌∙◌, arith, append_assoc, append-nil, length-append}
use Rattle.std.proofs.lemmas.Grind.{common_steps}
use Rattle.std.proofs.lemmas.List.{take_at, take-take, take-append-drop}
use Rattle.std.proofs.lemmas.Bool.{cases_lt}
use Rattle.std.specs.Char.{is_ascii_digit}
use Rattle.vs_defs.specs.Limits.{max_count_digits, max_line_bytes, max_message_bytes, max_word_bytes}
use Rattle.vs_defs.specs.Bytes.{Bytes}
use Rattle.vs_defs.specs.Stream.{Message, Fault, BadCount, ExpectedBulk, BadLength, BadEnd, InlineTooLong, Inline, Reading, Whole, Short, Faulty, without_return, MessageTooLarge, LengthTooLarge, count_past, length_past, digit_onto, message_at, End, Border, Within, Broken, EndsAs, Splits, place_in}
use Rattle.vs_stream.specs.Machine.{State, start, star, minus, minus_one, count, count_end, bulk, len, len_end, body, body_end, line, Next, Goes, Gives, Breaks, count_step, len_step, line_step, one_word, begin_bulks, after_bulk, step, reads}
use Rattle.vs_stream.specs.Place.{BeginsStream, CeasesAt, HasFault}
use Rattle.vs_stream.proofs.Resume.{message_reads}
use Rattle.vs_stream.proofs.Laws.{Leaves, reads_leaves, whole_leaves, faulty_leaves, whole_extends}
use Rattle.vs_defs.proofs.StreamLaws.{splits_always, splits_once}

-- ---- what is read depends on the bytes up to there alone

longer : (front rest : Bytes) → front ++ rest ≡ rest → front ≡ []
longer [] rest e = refl
longer (c ∷ front) rest e = let same : length (c ∷ (front ++ rest)) ≡ length rest = ap (λ (l : Bytes). length l) e in
    absurd (omega (arith, length-append front rest))

not_whole : (r : Reading Message) (text rest : Bytes) (m : Message) → Leaves text r → r ≡ Whole m rest → length rest < length text
not_whole r text rest m h e =
    let l : Leaves text (Whole m rest) = subst (λ (r : Reading Message). Leaves text r) e h in
    let counts : length text ≡ suc (length (l.1 ++ rest)) = ap (λ (t : Bytes). length t) l.2 in
    omega (arith, length-append l.1 rest)

not_faulty : (r : Reading Message) (text rest : Bytes) (f : Fault) → Leaves text r → r ≡ Faulty f rest → length rest ≤ length text
not_faulty r text rest f h e =
    let l : Leaves text (Faulty f rest) = subst (λ (r : Reading Message). Leaves text r) e h in
    let counts : length text ≡ length (l.0 ++ rest) = ap (λ (t : Bytes). length t) l.4 in
    omega (arith, length-append l.0 rest)

whole_on : (lines : Bool) (x : Next) (c : ℕ) (front rest other : Bytes) (m : Message) →
    ((s : State) → reads lines s (front ++ rest) ≡ Whole m rest → reads lines s (front ++ other) ≡ Whole m other) →
    ◌≡◌ {A = Reading Message} (elim x [ Goes t ↦ reads lines t (front ++ rest) | Gives n ↦ Whole n (front ++ rest) | Breaks f ↦ Faulty f (c ∷ (front ++ rest)) ]) (Whole m rest) →
    ◌≡◌ {A = Reading Message} (elim x [ Goes t ↦ reads lines t (front ++ other) | Gives n ↦ Whole n (front ++ other) | Breaks f ↦ Faulty f (c ∷ (front ++ other)) ]) (Whole m other)
whole_on lines (Goes t) c front rest other m ih e = ih t e
whole_on lines (Gives n) c front rest other m ih e =
    let same : front ++ rest ≡ rest = cc in
    let none : front ≡ [] = longer front rest same in
    let is : n ≡ m = cc in
    ap (λ (l : Bytes). Whole n (l ++ other)) none ∙ ap (λ (n : Message). Whole n other) is
whole_on lines (Breaks f) c front rest other m ih e = cc

pub whole_any : (lines : Bool) (s : State) (front rest other : Bytes) (m : Message) → reads lines s (front ++ rest) ≡ Whole m rest → reads lines s (front ++ other) ≡ Whole m other
whole_any lines s [] rest other m e = let less : length rest < length rest = not_whole (reads lines s rest) rest rest m (reads_leaves lines s rest) e in absurd (omega arith)
whole_any lines s (c ∷ front) rest other m e = whole_on lines (step lines s c) c front rest other m (λ t. whole_any lines t front rest other m) e

faulty_first : (lines : Bool) (x : Next) (b : ℕ) (more less : Bytes) (f : Fault) →
    ◌≡◌ {A = Reading Message} (elim x [ Goes t ↦ reads lines t more | Gives n ↦ Whole n more | Breaks g ↦ Faulty g (b ∷ more) ]) (Faulty f (b ∷ more)) →
    ◌≡◌ {A = Reading Message} (elim x [ Goes t ↦ reads lines t less | Gives n ↦ Whole n less | Breaks g ↦ Faulty g (b ∷ less) ]) (Faulty f (b ∷ less))
faulty_first lines (Goes t) b more less f e = let le : length (b ∷ more) ≤ length more = not_faulty (reads lines t more) more (b ∷ more) f (reads_leaves lines t more) e in absurd (omega arith)
faulty_first lines (Gives n) b more less f e = cc
faulty_first lines (Breaks g) b more less f e = let is : g ≡ f = cc in ap (λ (h : Fault). Faulty h (b ∷ less)) is

faulty_on : (lines : Bool) (x : Next) (c : ℕ) (front : Bytes) (b : ℕ) (more less : Bytes) (f : Fault) →
    ((s : State) → reads lines s (front ++ b ∷ more) ≡ Faulty f (b ∷ more) → reads lines s (front ++ b ∷ less) ≡ Faulty f (b ∷ less)) →
    ◌≡◌ {A = Reading Message} (elim x [ Goes t ↦ reads lines t (front ++ b ∷ more) | Gives n ↦ Whole n (front ++ b ∷ more) | Breaks g ↦ Faulty g (c ∷ (front ++ b ∷ more)) ]) (Faulty f (b ∷ more)) →
    ◌≡◌ {A = Reading Message} (elim x [ Goes t ↦ reads lines t (front ++ b ∷ less) | Gives n ↦ Whole n (front ++ b ∷ less) | Breaks g ↦ Faulty g (c ∷ (front ++ b ∷ less)) ]) (Faulty f (b ∷ less))
faulty_on lines (Goes t) c front b more less f ih e = ih t e
faulty_on lines (Gives n) c front b more less f ih e = cc
faulty_on lines (Breaks g) c front b more less f ih e =
    let same : c ∷ (front ++ b ∷ more) ≡ b ∷ more = cc in
    let counts : suc (length (front ++ b ∷ more)) ≡ suc (length more) = ap (λ (l : Bytes). length l) same in
    absurd (omega (arith, length-append front (b ∷ more)))

pub faulty_any : (lines : Bool) (s : State) (front : Bytes) (b : ℕ) (more less : Bytes) (f : Fault) → reads lines s (front ++ b ∷ more) ≡ Faulty f (b ∷ more) → reads lines s (front ++ b ∷ less) ≡ Faulty f (b ∷ less)
faulty_any lines s [] b more less f e = faulty_first lines (step lines s b) b more less f e
faulty_any lines s (c ∷ front) b more less f e = faulty_on lines (step lines s c) c front b more less f (λ t. faulty_any lines t front b more less f) e

-- the same of a message, and of a text with a fault
message_any : (lines : Bool) (front rest other : Bytes) (m : Message) → message_at lines (front ++ rest) ≡ Whole m rest → message_at lines (front ++ other) ≡ Whole m other
message_any lines front rest other m e = message_reads lines (front ++ other) ∙ whole_any lines start front rest other m (sym (message_reads lines (front ++ rest)) ∙ e)

fault_any : (lines : Bool) (front : Bytes) (b : ℕ) (more less : Bytes) (f : Fault) → message_at lines (front ++ b ∷ more) ≡ Faulty f (b ∷ more) → message_at lines (front ++ b ∷ less) ≡ Faulty f (b ∷ less)
fault_any lines front b more less f e = message_reads lines (front ++ b ∷ less) ∙ faulty_any lines start front b more less f (sym (message_reads lines (front ++ b ∷ more)) ∙ e)

-- the text's front, the byte at fault, and what follows; the fault is there whatever follows
pub record BreaksAt (lines : Bool) (text : Bytes) (ms : List Message) (f : Fault) (rest : Bytes) : Type 0 where
  pub front : Bytes
  pub b : ℕ
  pub more : Bytes
  pub text_is : text ≡ front ++ b ∷ more
  pub rest_is : rest ≡ b ∷ more
  pub any : (less : Bytes) → Splits lines (front ++ b ∷ less) ms (Broken f (b ∷ less))

ends_broken : (r : Reading Message) (text : Bytes) (f : Fault) (rest : Bytes) → EndsAs r text (Broken f rest) → r ≡ Faulty f rest
ends_broken r [] f rest h = let two : Broken f rest ≡ Border = h in cc
ends_broken (Whole m more) (c ∷ cs) f rest h = absurd h
ends_broken Short (c ∷ cs) f rest h = let two : Broken f rest ≡ Within = h in cc
ends_broken (Faulty g more) (c ∷ cs) f rest h = let two : Broken f rest ≡ Broken g more = h in let a : f ≡ g = cc in let b : rest ≡ more = cc in cc

ends_so : (text : Bytes) (f : Fault) (b : ℕ) (less : Bytes) (r : Reading Message) (front : Bytes) → r ≡ Faulty f (b ∷ less) → EndsAs r (front ++ b ∷ less) (Broken f (b ∷ less))
ends_so text f b less r [] e = subst (λ (r : Reading Message). EndsAs r (b ∷ less) (Broken f (b ∷ less))) (sym e) refl
ends_so text f b less r (c ∷ front) e = subst (λ (r : Reading Message). EndsAs r (c ∷ (front ++ b ∷ less)) (Broken f (b ∷ less))) (sym e) refl

pub breaks_at : (lines : Bool) (text : Bytes) (ms : List Message) (f : Fault) (rest : Bytes) → Splits lines text ms (Broken f rest) → BreaksAt lines text ms f rest
breaks_at lines text [] f rest h =
    let e = ends_broken (message_at lines text) text f rest h in
    let l = faulty_leaves lines text rest f e in
    let is : text ≡ l.0 ++ l.1 ∷ l.2 = l.4 ∙ ap (λ (t : Bytes). l.0 ++ t) l.3 in
    let at_once : message_at lines (l.0 ++ l.1 ∷ l.2) ≡ Faulty f (l.1 ∷ l.2) = ap (λ (t : Bytes). message_at lines t) (sym is) ∙ e ∙ ap (λ (t : Bytes). Faulty f t) l.3 in
    record {
      front = l.0;
      b = l.1;
      more = l.2;
      text_is = is;
      rest_is = l.3;
      any = λ less. ends_so text f l.1 less (message_at lines (l.0 ++ l.1 ∷ less)) l.0 (fault_any lines l.0 l.1 l.2 less f at_once);
    }
breaks_at lines text (m ∷ ms) f rest h =
    let i = breaks_at lines h.0 ms f rest h.2 in
    let l = whole_leaves lines text h.0 m h.1 in
    let p : Bytes = l.0 ∷ l.1 in
    let here : message_at lines (p ++ h.0) ≡ Whole m h.0 = ap (λ (t : Bytes). message_at lines t) (sym l.2) ∙ h.1 in
    record {
      front = p ++ i.front;
      b = i.b;
      more = i.more;
      text_is = l.2 ∙ ap (λ (t : Bytes). p ++ t) i.text_is ∙ sym (append_assoc p i.front (i.b ∷ i.more));
      rest_is = i.rest_is;
      any = λ less. subst (λ (t : Bytes). Splits lines t (m ∷ ms) (Broken f (i.b ∷ less))) (sym (append_assoc p i.front (i.b ∷ less)))
          (i.front ++ i.b ∷ less, message_any lines p h.0 (i.front ++ i.b ∷ less) m here, i.any less);
    }

pub broken_more : (lines : Bool) (text more : Bytes) (ms : List Message) (f : Fault) (rest : Bytes) → Splits lines text ms (Broken f rest) → Splits lines (text ++ more) ms (Broken f (rest ++ more))
broken_more lines text more ms f rest h =
    let b = breaks_at lines text ms f rest h in
    let t : b.front ++ b.b ∷ (b.more ++ more) ≡ text ++ more = sym (append_assoc b.front (b.b ∷ b.more) more) ∙ ap (λ (l : Bytes). l ++ more) (sym b.text_is) in
    let r : b.b ∷ (b.more ++ more) ≡ rest ++ more = ap (λ (l : Bytes). l ++ more) (sym b.rest_is) in
    subst (λ (l : Bytes). Splits lines l ms (Broken f (rest ++ more))) t (subst (λ (l : Bytes). Splits lines (b.front ++ b.b ∷ (b.more ++ more)) ms (Broken f l)) r (b.any (b.more ++ more)))

pub rest_within : (lines : Bool) (text : Bytes) (ms : List Message) (f : Fault) (rest : Bytes) → Splits lines text ms (Broken f rest) → length rest ≤ length text
rest_within lines text ms f rest h =
    let b = breaks_at lines text ms f rest h in
    let t : length text ≡ length (b.front ++ b.b ∷ b.more) = ap (λ (l : Bytes). length l) b.text_is in
    let r : length rest ≡ length (b.b ∷ b.more) = ap (λ (l : Bytes). length l) b.rest_is in
    omega (arith, length-append b.front (b.b ∷ b.more))

-- ---- what can be finished

-- the lengths of a message's bulks stay within their sum's limit
abbrev pub Fits : State → Type 0
Fits start = Unit {0}
Fits star = Unit {0}
Fits minus = Unit {0}
Fits minus_one = Unit {0}
Fits (count k n) = nat_lt 0 k ≡ true
Fits (count_end n) = Unit {0}
Fits (bulk l sum ws) = nat_lt max_message_bytes (sum + 0) ≡ false
Fits (len l sum ws k n) = (nat_lt max_message_bytes (sum + n) ≡ false) × ((nat_lt 0 k ≡ true) ⊎ ((k ≡ 0) × (n ≡ 0)))
Fits (len_end l sum ws n) = nat_lt max_message_bytes (sum + n) ≡ false
Fits (body l sum ws n w) = nat_lt max_message_bytes (sum + 0) ≡ false
Fits (body_end l sum ws w) = nat_lt max_message_bytes (sum + 0) ≡ false
Fits (line k ws w) = Unit {0}

abbrev pub FitsNext : Next → Type 0
FitsNext (Goes s) = Fits s
FitsNext (Gives m) = Unit {0}
FitsNext (Breaks f) = Unit {0}

some : (k : ℕ) → nat_lt 0 (k + 1) ≡ true
some k = grind (arith, common_steps)

no_more : (n : ℕ) → nat_lt max_message_bytes n ≡ false → nat_lt max_message_bytes (n + 0) ≡ false
no_more n h = grind (arith, common_steps)

cond_fits : (t : Bool) (x y : Next) → FitsNext x → FitsNext y → FitsNext (cond t x y)
cond_fits true x y p q = p
cond_fits false x y p q = q

elim_fits : (t : Bool) (x y : Next) → FitsNext x → FitsNext y → FitsNext (elim t [ true ↦ x | false ↦ y ])
elim_fits true x y p q = p
elim_fits false x y p q = q

fits_count : (k n c : ℕ) → FitsNext (count_step k n c)
fits_count k n c =
    elim_fits (is_ascii_digit c && nat_lt k max_count_digits)
    (elim (count_past (digit_onto n c)).0 [ true ↦ Breaks (count_past (digit_onto n c)).1 | false ↦ Goes (count (k + 1) (digit_onto n c)) ])
    (elim (nat_lt 0 k) [ true ↦ cond (c == 13) (Goes (count_end n)) (Breaks BadCount) | false ↦ Breaks BadCount ])
    (elim_fits (count_past (digit_onto n c)).0 (Breaks (count_past (digit_onto n c)).1) (Goes (count (k + 1) (digit_onto n c))) tt (some k))
    (elim_fits (nat_lt 0 k) (cond (c == 13) (Goes (count_end n)) (Breaks BadCount)) (Breaks BadCount) (cond_fits (c == 13) (Goes (count_end n)) (Breaks BadCount) tt tt) tt)

-- a length that is not past the limits
sum_small : (large : Bool) (sum n : ℕ) → (cond {A = Bool × Fault} large (true, LengthTooLarge) (nat_lt max_message_bytes (sum + n), MessageTooLarge)).0 ≡ false → nat_lt max_message_bytes (sum + n) ≡ false
sum_small true sum n h = cc
sum_small false sum n h = h

digit_fits : (t : Bool) (f : Fault) (l sum : ℕ) (ws : List Bytes) (k m : ℕ) → (t ≡ false → nat_lt max_message_bytes (sum + m) ≡ false) →
    FitsNext (elim t [ true ↦ Breaks f | false ↦ Goes (len l sum ws (k + 1) m) ])
digit_fits true f l sum ws k m h = tt
digit_fits false f l sum ws k m h = (h refl, inl (some k))

fits_len : (l sum : ℕ) (ws : List Bytes) (k n c : ℕ) → nat_lt max_message_bytes (sum + n) ≡ false → FitsNext (len_step l sum ws k n c)
fits_len l sum ws k n c h =
    elim_fits (is_ascii_digit c && nat_lt k max_count_digits)
    (elim (length_past sum (digit_onto n c)).0 [ true ↦ Breaks (length_past sum (digit_onto n c)).1 | false ↦ Goes (len l sum ws (k + 1) (digit_onto n c)) ])
    (elim (nat_lt 0 k) [ true ↦ cond (c == 13) (Goes (len_end l sum ws n)) (Breaks BadLength) | false ↦ Breaks BadLength ])
    (digit_fits (length_past sum (digit_onto n c)).0 (length_past sum (digit_onto n c)).1 l sum ws k (digit_onto n c) (sum_small (nat_lt max_word_bytes (digit_onto n c)) sum (digit_onto n c)))
    (elim_fits (nat_lt 0 k) (cond (c == 13) (Goes (len_end l sum ws n)) (Breaks BadLength)) (Breaks BadLength) (cond_fits (c == 13) (Goes (len_end l sum ws n)) (Breaks BadLength) h tt) tt)

fits_line : (k : ℕ) (ws : List Bytes) (w : Bytes) (c : ℕ) → FitsNext (line_step k ws w c)
fits_line k ws w c =
    cond_fits (c == 10) (Gives (ws ++ one_word (without_return w)))
    (cond (nat_lt k max_line_bytes) (cond (c == 32) (Goes (line (k + 1) (ws ++ one_word w) [])) (Goes (line (k + 1) ws (w ++ c ∷ [])))) (Breaks InlineTooLong)) tt
    (cond_fits (nat_lt k max_line_bytes) (cond (c == 32) (Goes (line (k + 1) (ws ++ one_word w) [])) (Goes (line (k + 1) ws (w ++ c ∷ [])))) (Breaks InlineTooLong)
    (cond_fits (c == 32) (Goes (line (k + 1) (ws ++ one_word w) [])) (Goes (line (k + 1) ws (w ++ c ∷ []))) tt tt) tt)

fits_begin : (n : ℕ) → FitsNext (begin_bulks n)
fits_begin zero = tt
fits_begin (suc l) = refl

fits_after : (l sum : ℕ) (ws : List Bytes) → nat_lt max_message_bytes (sum + 0) ≡ false → FitsNext (after_bulk l sum ws)
fits_after zero sum ws h = tt
fits_after (suc l) sum ws h = h

fits_first : (lines : Bool) (c : ℕ) → FitsNext (elim lines [ true ↦ line_step 0 [] [] c | false ↦ Breaks Inline ])
fits_first true c = fits_line 0 [] [] c
fits_first false c = tt

fits_step : (lines : Bool) (s : State) (c : ℕ) → Fits s → FitsNext (step lines s c)
fits_step lines start c h = cond_fits (c == 42) (Goes star) (elim lines [ true ↦ line_step 0 [] [] c | false ↦ Breaks Inline ]) tt (fits_first lines c)
fits_step lines star c h = cond_fits (c == 45) (Goes minus) (count_step 0 0 c) tt (fits_count 0 0 c)
fits_step lines minus c h = cond_fits (c == 49) (Goes minus_one) (Breaks BadCount) tt tt
fits_step lines minus_one c h = cond_fits (c == 13) (Goes (count_end 0)) (Breaks BadCount) tt tt
fits_step lines (count k n) c h = fits_count k n c
fits_step lines (count_end n) c h = cond_fits (c == 10) (begin_bulks n) (Breaks BadCount) (fits_begin n) tt
fits_step lines (bulk l sum ws) c h = cond_fits (c == 36) (Goes (len l sum ws 0 0)) (Breaks ExpectedBulk) (h, inr (refl, refl)) tt
fits_step lines (len l sum ws k n) c h = fits_len l sum ws k n c h.0
fits_step lines (len_end l sum ws n) c h = cond_fits (c == 10) (Goes (body l (sum + n) ws n [])) (Breaks BadLength) (no_more (sum + n) h) tt
fits_step lines (body l sum ws zero w) c h = cond_fits (c == 13) (Goes (body_end l sum ws w)) (Breaks BadEnd) h tt
fits_step lines (body l sum ws (suc n) w) c h = h
fits_step lines (body_end l sum ws w) c h = cond_fits (c == 10) (after_bulk l sum (ws ++ w ∷ [])) (Breaks BadEnd) (fits_after l sum (ws ++ w ∷ []) h) tt
fits_step lines (line k ws w) c h = fits_line k ws w c

-- ---- finishing

-- some bytes lead to a message's end
abbrev Finishes : Bool → State → Type 0
Finishes lines s = (more : Bytes) × (m : Message) × (reads lines s more ≡ Whole m [])

abbrev onto : Bool → Next → ℕ → Bytes → Reading Message
onto lines x c more = elim x [ Goes t ↦ reads lines t more | Gives m ↦ Whole m more | Breaks f ↦ Faulty f (c ∷ more) ]

-- an empty bulk: `$0`, its line's end, the bulk's
abbrev empty_bulk : Bytes → Bytes
empty_bulk more = 36 ∷ 48 ∷ 13 ∷ 10 ∷ 13 ∷ 10 ∷ more

zero_digit : (lines : Bool) (l sum : ℕ) (ws : List Bytes) (more : Bytes) → nat_lt max_message_bytes (sum + 0) ≡ false → reads lines (len l sum ws 0 0) (48 ∷ more) ≡ reads lines (len l sum ws 1 0) more
zero_digit lines l sum ws more h =
    ap (λ (t : Bool). onto lines (elim t [ true ↦ Breaks MessageTooLarge | false ↦ Goes (len l sum ws 1 0) ]) 48 more) h

empty_is : (lines : Bool) (l sum : ℕ) (ws : List Bytes) (more : Bytes) → nat_lt max_message_bytes (sum + 0) ≡ false →
    reads lines (bulk l sum ws) (empty_bulk more) ≡ onto lines (after_bulk l (sum + 0) (ws ++ [] ∷ [])) 10 more
empty_is lines l sum ws more h = zero_digit lines l sum ws (13 ∷ 10 ∷ 13 ∷ 10 ∷ more) h

finish_after : (lines : Bool) (l sum : ℕ) (ws : List Bytes) → nat_lt max_message_bytes (sum + 0) ≡ false → (more : Bytes) × (m : Message) × (onto lines (after_bulk l sum ws) 10 more ≡ Whole m [])
finish_after lines zero sum ws h = ([], ws, refl)
finish_after lines (suc l) sum ws h =
    let f = finish_after lines l (sum + 0) (ws ++ [] ∷ []) (no_more (sum + 0) h) in
    (empty_bulk f.0, f.1, empty_is lines l sum ws f.0 h ∙ f.2)

finish_body : (lines : Bool) (l sum : ℕ) (ws : List Bytes) (n : ℕ) (w : Bytes) → nat_lt max_message_bytes (sum + 0) ≡ false → Finishes lines (body l sum ws n w)
finish_body lines l sum ws zero w h = let f = finish_after lines l sum (ws ++ w ∷ []) h in (13 ∷ 10 ∷ f.0, f.1, f.2)
finish_body lines l sum ws (suc n) w h = let f = finish_body lines l sum ws n (w ++ 0 ∷ []) h in (0 ∷ f.0, f.1, f.2)

finish_len : (lines : Bool) (l sum : ℕ) (ws : List Bytes) (k n : ℕ) → nat_lt max_message_bytes (sum + n) ≡ false → nat_lt 0 k ≡ true → Finishes lines (len l sum ws k n)
finish_len lines l sum ws k n h some =
    let f = finish_body lines l (sum + n) ws n [] (no_more (sum + n) h) in
    (13 ∷ 10 ∷ f.0, f.1, ap (λ (t : Bool). onto lines (elim t [ true ↦ Goes (len_end l sum ws n) | false ↦ Breaks BadLength ]) 13 (10 ∷ f.0)) some ∙ f.2)

finish_zero : (lines : Bool) (l sum : ℕ) (ws : List Bytes) → nat_lt max_message_bytes (sum + 0) ≡ false → Finishes lines (len l sum ws 0 0)
finish_zero lines l sum ws h = let f = finish_len lines l sum ws 1 0 h refl in (48 ∷ f.0, f.1, zero_digit lines l sum ws f.0 h ∙ f.2)

finish_begin : (lines : Bool) (n : ℕ) → (more : Bytes) × (m : Message) × (onto lines (begin_bulks n) 10 more ≡ Whole m [])
finish_begin lines zero = ([], [], refl)
finish_begin lines (suc l) =
    let f = finish_after lines l 0 ([] ∷ []) refl in
    (empty_bulk f.0, f.1, empty_is lines l 0 [] f.0 refl ∙ f.2)

finish : (lines : Bool) (s : State) → Fits s → Finishes lines s
finish lines start h = (42 ∷ 48 ∷ 13 ∷ 10 ∷ [], [], refl)
finish lines star h = (48 ∷ 13 ∷ 10 ∷ [], [], refl)
finish lines minus h = (49 ∷ 13 ∷ 10 ∷ [], [], refl)
finish lines minus_one h = (13 ∷ 10 ∷ [], [], refl)
finish lines (count k n) h =
    let f = finish_begin lines n in
    (13 ∷ 10 ∷ f.0, f.1, ap (λ (t : Bool). onto lines (elim t [ true ↦ Goes (count_end n) | false ↦ Breaks BadCount ]) 13 (10 ∷ f.0)) h ∙ f.2)
finish lines (count_end n) h = let f = finish_begin lines n in (10 ∷ f.0, f.1, f.2)
finish lines (bulk l sum ws) h =
    let f = finish_after lines l (sum + 0) (ws ++ [] ∷ []) (no_more (sum + 0) h) in
    (empty_bulk f.0, f.1, empty_is lines l sum ws f.0 h ∙ f.2)
finish lines (len l sum ws k n) (h, inl s) = finish_len lines l sum ws k n h s
finish lines (len l sum ws k n) (h, inr z) =
    subst (λ (i : ℕ). Finishes lines (len l sum ws i n)) (sym z.0) (subst (λ (i : ℕ). Finishes lines (len l sum ws 0 i)) (sym z.1)
    (finish_zero lines l sum ws (subst (λ (i : ℕ). nat_lt max_message_bytes (sum + i) ≡ false) z.1 h)))
finish lines (len_end l sum ws n) h = let f = finish_body lines l (sum + n) ws n [] (no_more (sum + n) h) in (10 ∷ f.0, f.1, f.2)
finish lines (body l sum ws n w) h = finish_body lines l sum ws n w h
finish lines (body_end l sum ws w) h = let f = finish_after lines l sum (ws ++ w ∷ []) h in (10 ∷ f.0, f.1, f.2)
finish lines (line k ws w) h = (10 ∷ [], ws ++ one_word (without_return w), refl)

-- a text that is cut short within a message can be continued to the message's end
complete_on : (lines : Bool) (x : Next) (c : ℕ) (cs : Bytes) → FitsNext x → ((s : State) → Fits s → reads lines s cs ≡ Short → (more : Bytes) × (m : Message) × (reads lines s (cs ++ more) ≡ Whole m [])) →
    onto lines x c cs ≡ Short → (more : Bytes) × (m : Message) × (onto lines x c (cs ++ more) ≡ Whole m [])
complete_on lines (Goes t) c cs h ih e = ih t h e
complete_on lines (Gives m) c cs h ih e = let no : Whole m cs ≡ Short = e in cc
complete_on lines (Breaks f) c cs h ih e = let no : Faulty f (c ∷ cs) ≡ Short = e in cc

complete : (lines : Bool) (s : State) (text : Bytes) → Fits s → reads lines s text ≡ Short → (more : Bytes) × (m : Message) × (reads lines s (text ++ more) ≡ Whole m [])
complete lines s [] h e = finish lines s h
complete lines s (c ∷ cs) h e = complete_on lines (step lines s c) c cs (fits_step lines s c h) (λ t f. complete lines t cs f) e

ends_within : (r : Reading Message) (c : ℕ) (cs : Bytes) → EndsAs r (c ∷ cs) Within → r ≡ Short
ends_within (Whole m rest) c cs h = absurd h
ends_within Short c cs h = refl
ends_within (Faulty f rest) c cs h = let no : Within ≡ Broken f rest = h in cc

-- Where no fault stands, the text can be continued to whole messages.
pub border_begins : (lines : Bool) (text : Bytes) (ms : List Message) → Splits lines text ms Border → BeginsStream lines text
border_begins lines text ms h = ([], (ms, subst (λ (l : Bytes). Splits lines l ms Border) (sym (append-nil text)) h))

pub within_begins : (lines : Bool) (text : Bytes) (ms : List Message) → Splits lines text ms Within → BeginsStream lines text
within_begins lines [] [] h = let no : Within ≡ Border = h in cc
within_begins lines (c ∷ cs) [] h =
    let e = ends_within (message_at lines (c ∷ cs)) c cs h in
    let f = complete lines start (c ∷ cs) tt (sym (message_reads lines (c ∷ cs)) ∙ e) in
    (f.0, (f.1 ∷ [], ([], message_reads lines ((c ∷ cs) ++ f.0) ∙ f.2, refl)))
within_begins lines text (m ∷ ms) h =
    let i = within_begins lines h.0 ms h.2 in
    (i.0, (m ∷ i.1.0, (h.0 ++ i.0, whole_extends lines text h.0 i.0 m h.1, i.1.1)))

-- Where a fault stands, it can't be continued so.
pub broken_no : (lines : Bool) (text : Bytes) (ms : List Message) (f : Fault) (rest : Bytes) → Splits lines text ms (Broken f rest) → BeginsStream lines text → ⊥
broken_no lines text ms f rest h begins =
    let b = breaks_at lines text ms f rest h in
    let t : b.front ++ b.b ∷ (b.more ++ begins.0) ≡ text ++ begins.0 = sym (append_assoc b.front (b.b ∷ b.more) begins.0) ∙ ap (λ (l : Bytes). l ++ begins.0) (sym b.text_is) in
    let still = subst (λ (l : Bytes). Splits lines l ms (Broken f (b.b ∷ (b.more ++ begins.0)))) t (b.any (b.more ++ begins.0)) in
    let both = splits_once lines (text ++ begins.0) ms begins.1.0 (Broken f (b.b ∷ (b.more ++ begins.0))) Border still begins.1.1 in
    let no = both.1 in
    cc

-- what begins a text that begins a stream begins one
pub begins_front : (lines : Bool) (front more : Bytes) → BeginsStream lines (front ++ more) → BeginsStream lines front
begins_front lines front more h = (more ++ h.0, (h.1.0, subst (λ (l : Bytes). Splits lines l h.1.0 Border) (append_assoc front more h.0) h.1.1))

begins_take : (lines : Bool) (m n : ℕ) (text : Bytes) → m ≤ n → BeginsStream lines (take n text) → BeginsStream lines (take m text)
begins_take lines m n text h begins =
    begins_front lines (take m text) (drop m (take n text))
    (subst (λ (l : Bytes). BeginsStream lines l) (sym (ap (λ (l : Bytes). l ++ drop m (take n text)) (sym (take-take m n text h)) ∙ take-append-drop m (take n text))) begins)

-- what stands before a fault
front_begins_by : (lines : Bool) (text front : Bytes) (b : ℕ) (more : Bytes) (ms ns : List Message) (f : Fault) (e : End) →
    Splits lines (front ++ b ∷ more) ms (Broken f (b ∷ more)) → Splits lines front ns e → BeginsStream lines front
front_begins_by lines text front b more ms ns f Border h s = border_begins lines front ns s
front_begins_by lines text front b more ms ns f Within h s = within_begins lines front ns s
front_begins_by lines text front b more ms ns f (Broken g r) h s =
    let both = splits_once lines (front ++ b ∷ more) ms ns (Broken f (b ∷ more)) (Broken g (r ++ b ∷ more)) h (broken_more lines front (b ∷ more) ns g r s) in
    let ends = both.1 in
    let same : r ++ b ∷ more ≡ b ∷ more = cc in
    let none : r ≡ [] = longer r (b ∷ more) same in
    let at = breaks_at lines front ns g r s in
    let one : r ≡ at.b ∷ at.more = at.rest_is in
    absurd cc

-- A fault's place is the byte by which the text ceases to begin a stream.
pub broken_ceases : (lines : Bool) (text : Bytes) (ms : List Message) (f : Fault) (rest : Bytes) → Splits lines text ms (Broken f rest) → CeasesAt lines text (place_in text rest)
broken_ceases lines text ms f rest h =
    let b = breaks_at lines text ms f rest h in
    let counts : length text ≡ length (b.front ++ b.b ∷ b.more) = ap (λ (l : Bytes). length l) b.text_is in
    let left : length rest ≡ length (b.b ∷ b.more) = ap (λ (l : Bytes). length l) b.rest_is in
    let place : length b.front ≡ place_in text rest = omega (arith, length-append b.front (b.b ∷ b.more)) in
    let next : length (b.front ++ b.b ∷ []) ≡ place_in text rest + 1 = omega (arith, length-append b.front (b.b ∷ []), length-append b.front (b.b ∷ b.more)) in
    let before : take (place_in text rest) text ≡ b.front = ap (λ (l : Bytes). take (place_in text rest) l) b.text_is ∙ take_at b.front (b.b ∷ b.more) (place_in text rest) place in
    let upto : take (place_in text rest + 1) text ≡ b.front ++ b.b ∷ [] =
    ap (λ (l : Bytes). take (place_in text rest + 1) l) (b.text_is ∙ sym (append_assoc b.front (b.b ∷ []) b.more)) ∙ take_at (b.front ++ b.b ∷ []) b.more (place_in text rest + 1) next in
    let s = splits_always lines b.front in
    record {
      within = omega (arith, length-append b.front (b.b ∷ b.more));
      before = subst (λ (l : Bytes). BeginsStream lines l) (sym before) (front_begins_by lines text b.front b.b b.more ms s.0 f s.1 (b.any b.more) s.2);
      ceases = λ begins. broken_no lines (b.front ++ b.b ∷ []) ms f (b.b ∷ []) (b.any []) (subst (λ (l : Bytes). BeginsStream lines l) upto begins);
    }

pub fault_ceases : (lines : Bool) (text : Bytes) (f : Fault) (at : ℕ) → HasFault lines text f at → CeasesAt lines text at
fault_ceases lines text f at h = subst (λ (i : ℕ). CeasesAt lines text i) (sym h.3) (broken_ceases lines text h.0 f h.1 h.2)

-- A text has one place at which it ceases to begin a stream.
pub one_place : (lines : Bool) (text : Bytes) (p q : ℕ) → CeasesAt lines text p → CeasesAt lines text q → p ≡ q
one_place lines text p q h k =
    elim (cases_lt p q) [
      | inl less ↦ absurd (h.ceases (begins_take lines (p + 1) q text (omega arith) k.before))
      | inr le ↦ elim (cases_lt q p) [
        | inl less ↦ absurd (k.ceases (begins_take lines (q + 1) p text (omega arith) h.before))
        | inr ge ↦ omega arith
      ]
    ]

ceases_by : (lines : Bool) (text : Bytes) (at : ℕ) (ms : List Message) (e : End) → CeasesAt lines text at → Splits lines text ms e → (f : Fault) × HasFault lines text f at
ceases_by lines text at ms Border h s =
    absurd (h.ceases (begins_front lines (take (at + 1) text) (drop (at + 1) text) (subst (λ (l : Bytes). BeginsStream lines l) (sym (take-append-drop (at + 1) text)) (border_begins lines text ms s))))
ceases_by lines text at ms Within h s =
    absurd (h.ceases (begins_front lines (take (at + 1) text) (drop (at + 1) text) (subst (λ (l : Bytes). BeginsStream lines l) (sym (take-append-drop (at + 1) text)) (within_begins lines text ms s))))
ceases_by lines text at ms (Broken f rest) h s = (f, (ms, rest, s, one_place lines text at (place_in text rest) h (broken_ceases lines text ms f rest s)))

-- Where the text ceases to begin a stream, it has a fault.
pub ceases_fault : (lines : Bool) (text : Bytes) (at : ℕ) → CeasesAt lines text at → (f : Fault) × HasFault lines text f at
ceases_fault lines text at h = let s = splits_always lines text in ceases_by lines text at s.0 s.1 h s.2

-- A text begins a stream exactly where it has no fault.
pub no_fault_begins : (lines : Bool) (text : Bytes) → ((f : Fault) (at : ℕ) → HasFault lines text f at → ⊥) → BeginsStream lines text
no_fault_begins lines text h = let s = splits_always lines text in by_end lines text s.0 s.1 s.2 h where
  by_end : (lines : Bool) (text : Bytes) (ms : List Message) (e : End) → Splits lines text ms e → ((f : Fault) (at : ℕ) → HasFault lines text f at → ⊥) → BeginsStream lines text
  by_end lines text ms Border s h = border_begins lines text ms s
  by_end lines text ms Within s h = within_begins lines text ms s
  by_end lines text ms (Broken f rest) s h = absurd (h f (place_in text rest) (ms, rest, s, refl))

pub begins_no_fault : (lines : Bool) (text : Bytes) (f : Fault) (at : ℕ) → BeginsStream lines text → HasFault lines text f at → ⊥
begins_no_fault lines text f at b h = broken_no lines text h.0 f h.1 h.2 b
