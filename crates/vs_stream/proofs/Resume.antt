-- What the machine reads of a text is what the definitions say.
use Rattle.std.proofs.Common.{◌≡◌, ◌≤◌, ◌+◌, ℕ, zero, suc, Bool, true, false, cond, ◌&&◌, ◌==◌, nat_lt, List, [], ◌∷◌, ◌++◌, length, take, drop, refl, sym, ap, ◌∙◌, arith, append_assoc, append-nil, length-take}
use Rattle.std.proofs.lemmas.Grind.{common_steps}
use Rattle.std.specs.Char.{is_ascii_digit}
use Rattle.vs_defs.specs.Limits.{max_count_digits, max_line_bytes}
use Rattle.vs_defs.specs.Bytes.{Bytes}
use Rattle.vs_defs.specs.Stream.{Message, Fault, BadCount, ExpectedBulk, BadLength, BadEnd, InlineTooLong, Inline, Reading, Whole, Short, Faulty, ◌>>=◌, byte_at, line_end_at, count_past, length_past, digit_onto, digits_at, bytes_at, bulks_at, array_at, line_at, message_at, without_return}
use Rattle.vs_stream.specs.Machine.{State, start, star, minus, minus_one, count, count_end, bulk, len, len_end, body, body_end, line, Next, Goes, Gives, Breaks, count_step, begin_bulks, after_bulk, line_step, one_word, step, reads}
use Rattle.vs_stream.proofs.Lines.{line_on, line_at_is}

-- the bulks behind a count
abbrev pub counted : ℕ → Bytes → Reading Message
counted n rest = bulks_at n 0 rest

-- the words of these bulks behind the words ws
abbrev pub behind : List Bytes → Message → Bytes → Reading Message
behind ws vs after = Whole (ws ++ vs) after

abbrev pub rest_of : ℕ → ℕ → List Bytes → Bytes → Reading Message
rest_of l sum ws text = bulks_at l sum text >>= behind ws

-- the bulks behind a word
abbrev pub with_word : ℕ → ℕ → Bytes → Bytes → Reading Message
with_word l sum w rest = bulks_at l (sum + length w) rest >>= λ vs after. Whole (w ∷ vs) after

-- what the definitions say of the text from a state on
abbrev pub resume : Bool → State → Bytes → Reading Message
resume lines start text = message_at lines text
resume lines star text = array_at text
resume lines minus text = (byte_at 49 BadCount text >>= λ _ rest. line_end_at BadCount rest >>= λ _ after. Whole 0 after) >>= counted
resume lines minus_one text = (line_end_at BadCount text >>= λ _ after. Whole 0 after) >>= counted
resume lines (count k n) text = digits_at BadCount count_past k n text >>= counted
resume lines (count_end n) text = (byte_at 10 BadCount text >>= λ _ rest. Whole n rest) >>= counted
resume lines (bulk l sum ws) text = rest_of (suc l) sum ws text
resume lines (len l sum ws k n) text = ((digits_at BadLength (length_past sum) k n text >>= bytes_at) >>= with_word l sum) >>= behind ws
resume lines (len_end l sum ws n) text = (((byte_at 10 BadLength text >>= λ _ rest. Whole n rest) >>= bytes_at) >>= with_word l sum) >>= behind ws
resume lines (body l sum ws n w) text = bytes_at n text >>= λ v rest. rest_of l sum (ws ++ (w ++ v) ∷ []) rest
resume lines (body_end l sum ws w) text = byte_at 10 BadEnd text >>= λ _ rest. rest_of l sum (ws ++ w ∷ []) rest
resume lines (line k ws w) text = line_on k ws w text

abbrev pub after : Bool → Next → ℕ → Bytes → Reading Message
after lines (Goes s) c cs = resume lines s cs
after lines (Gives m) c cs = Whole m cs
after lines (Breaks f) c cs = Faulty f (c ∷ cs)

-- ---- one byte

same_reading : (r : Reading Message) → r >>= behind [] ≡ r
same_reading (Whole m rest) = refl
same_reading Short = refl
same_reading (Faulty f rest) = refl

count_when : (lines t p z e : Bool) (f : Fault) (k n m c : ℕ) (cs : Bytes) →
    elim t [
      | true ↦ elim p [ true ↦ Faulty f (c ∷ cs) | false ↦ digits_at BadCount count_past (k + 1) m cs ]
      | false ↦ elim z [ true ↦ ((cond e (Whole (tt {0}) cs) (Faulty BadCount (c ∷ cs))) >>= λ _ rest. byte_at 10 BadCount rest) >>= λ _ rest. Whole n rest | false ↦ Faulty BadCount (c ∷ cs) ]
    ] >>= counted
    ≡ after lines (elim t [
      | true ↦ elim p [ true ↦ Breaks f | false ↦ Goes (count (k + 1) m) ]
      | false ↦ elim z [ true ↦ cond e (Goes (count_end n)) (Breaks BadCount) | false ↦ Breaks BadCount ]
    ]) c cs
count_when lines true true z e f k n m c cs = refl
count_when lines true false z e f k n m c cs = refl
count_when lines false p true true f k n m c cs = refl
count_when lines false p true false f k n m c cs = refl
count_when lines false p false e f k n m c cs = refl

count_is : (lines : Bool) (k n c : ℕ) (cs : Bytes) → digits_at BadCount count_past k n (c ∷ cs) >>= counted ≡ after lines (count_step k n c) c cs
count_is lines k n c cs =
    count_when lines (is_ascii_digit c && nat_lt k max_count_digits) (count_past (digit_onto n c)).0 (nat_lt 0 k) (c == 13) (count_past (digit_onto n c)).1 k n (digit_onto n c) c cs

len_when : (lines t p z e : Bool) (f : Fault) (l sum : ℕ) (ws : List Bytes) (k n m c : ℕ) (cs : Bytes) →
    ((elim t [
      | true ↦ elim p [ true ↦ Faulty f (c ∷ cs) | false ↦ digits_at BadLength (length_past sum) (k + 1) m cs ]
      | false ↦ elim z [ true ↦ ((cond e (Whole (tt {0}) cs) (Faulty BadLength (c ∷ cs))) >>= λ _ rest. byte_at 10 BadLength rest) >>= λ _ rest. Whole n rest | false ↦ Faulty BadLength (c ∷ cs) ]
    ] >>= bytes_at) >>= with_word l sum) >>= behind ws
    ≡ after lines (elim t [
      | true ↦ elim p [ true ↦ Breaks f | false ↦ Goes (len l sum ws (k + 1) m) ]
      | false ↦ elim z [ true ↦ cond e (Goes (len_end l sum ws n)) (Breaks BadLength) | false ↦ Breaks BadLength ]
    ]) c cs
len_when lines true true z e f l sum ws k n m c cs = refl
len_when lines true false z e f l sum ws k n m c cs = refl
len_when lines false p true true f l sum ws k n m c cs = refl
len_when lines false p true false f l sum ws k n m c cs = refl
len_when lines false p false e f l sum ws k n m c cs = refl

-- a word, and the bulks behind it
word_when : (short : Bool) (r : Reading (Unit {0})) (l sum n : ℕ) (ws : List Bytes) (w : Bytes) → (short ≡ false → length w ≡ n) →
    ((cond short Short (r >>= λ _ rest. Whole w rest)) >>= with_word l sum) >>= behind ws
    ≡ (cond short Short (r >>= λ _ rest. Whole w rest)) >>= λ v rest. rest_of l (sum + n) (ws ++ ([] ++ v) ∷ []) rest
word_when true r l sum n ws w h = refl
word_when false Short l sum n ws w h = refl
word_when false (Faulty f rest) l sum n ws w h = refl
word_when false (Whole a rest) l sum n ws w h =
    ap (λ (i : ℕ). (bulks_at l (sum + i) rest >>= λ vs more. Whole (w ∷ vs) more) >>= behind ws) (h refl)
    ∙ regrouped (bulks_at l (sum + n) rest) ws w where
      regrouped : (r : Reading Message) (ws : List Bytes) (w : Bytes) → (r >>= λ vs more. Whole (w ∷ vs) more) >>= behind ws ≡ r >>= behind (ws ++ w ∷ [])
      regrouped (Whole vs rest) ws w = ap (λ (l : Message). Whole l rest) (sym (append_assoc ws (w ∷ []) vs))
      regrouped Short ws w = refl
      regrouped (Faulty f rest) ws w = refl

body_first : (w : Bytes) (n : ℕ) (text : Bytes) → (nat_lt (length text) n ≡ false) → length (take n text) ≡ n
body_first w n text h = let enough : n ≤ length text = grind (arith, common_steps) in omega (arith, length-take n text)

lt_zero : (n : ℕ) → nat_lt n 0 ≡ false
lt_zero n = grind (arith, common_steps)

lt_suc : (m n : ℕ) → nat_lt (suc m) (suc n) ≡ nat_lt m n
lt_suc m n = grind (arith, common_steps)

ended : (r : Reading (Unit {0})) (l sum : ℕ) (ws : List Bytes) (w : Bytes) →
    (r >>= λ _ rest. Whole [] rest) >>= (λ v rest. rest_of l sum (ws ++ (w ++ v) ∷ []) rest) ≡ r >>= λ _ rest. rest_of l sum (ws ++ w ∷ []) rest
ended (Whole a rest) l sum ws w = ap (λ (v : Bytes). rest_of l sum (ws ++ v ∷ []) rest) (append-nil w)
ended Short l sum ws w = refl
ended (Faulty f rest) l sum ws w = refl

short_when : (t : Bool) (l sum : ℕ) (ws : List Bytes) (n : ℕ) (w : Bytes) →
    (cond t Short (line_end_at BadEnd [] >>= λ _ rest. Whole [] rest)) >>= (λ v rest. rest_of l sum (ws ++ (w ++ v) ∷ []) rest) ≡ Short
short_when true l sum ws n w = refl
short_when false l sum ws n w = refl

-- a word's byte
byte_when : (short : Bool) (r : Reading (Unit {0})) (l sum : ℕ) (ws : List Bytes) (w v : Bytes) (c : ℕ) →
    (cond short Short (r >>= λ _ rest. Whole (c ∷ v) rest)) >>= (λ u rest. rest_of l sum (ws ++ (w ++ u) ∷ []) rest)
    ≡ (cond short Short (r >>= λ _ rest. Whole v rest)) >>= (λ u rest. rest_of l sum (ws ++ ((w ++ c ∷ []) ++ u) ∷ []) rest)
byte_when true r l sum ws w v c = refl
byte_when false Short l sum ws w v c = refl
byte_when false (Faulty f rest) l sum ws w v c = refl
byte_when false (Whole a rest) l sum ws w v c = ap (λ (u : Bytes). rest_of l sum (ws ++ u ∷ []) rest) (sym (append_assoc w (c ∷ []) v))

rest_is : (lines : Bool) (l sum : ℕ) (ws : List Bytes) (c : ℕ) (cs : Bytes) → rest_of l sum ws cs ≡ after lines (after_bulk l sum ws) c cs
rest_is lines zero sum ws c cs = ap (λ (m : Message). Whole m cs) (append-nil ws)
rest_is lines (suc l) sum ws c cs = refl

bulks_is : (lines : Bool) (n c : ℕ) (cs : Bytes) → bulks_at n 0 cs ≡ after lines (begin_bulks n) c cs
bulks_is lines zero c cs = refl
bulks_is lines (suc l) c cs = sym (same_reading (bulks_at (suc l) 0 cs))

line_is : (lines : Bool) (k : ℕ) (ws : List Bytes) (w : Bytes) (c : ℕ) (cs : Bytes) → line_on k ws w (c ∷ cs) ≡ after lines (line_step k ws w c) c cs
line_is lines k ws w c cs =
    elim (c == 10) as (λ t. cond t (Whole (ws ++ one_word (without_return w)) cs)
    (elim (nat_lt k max_line_bytes) [
      | true ↦ elim (c == 32) [ true ↦ line_on (k + 1) (ws ++ one_word w) [] cs | false ↦ line_on (k + 1) ws (w ++ c ∷ []) cs ]
      | false ↦ Faulty InlineTooLong (c ∷ cs)
    ]) ≡ after lines (cond t (Gives (ws ++ one_word (without_return w)))
    (cond (nat_lt k max_line_bytes) (cond (c == 32) (Goes (line (k + 1) (ws ++ one_word w) [])) (Goes (line (k + 1) ws (w ++ c ∷ [])))) (Breaks InlineTooLong))) c cs) [
      | true ↦ refl
      | false ↦ elim (nat_lt k max_line_bytes) as (λ t. (elim t [
        | true ↦ elim (c == 32) [ true ↦ line_on (k + 1) (ws ++ one_word w) [] cs | false ↦ line_on (k + 1) ws (w ++ c ∷ []) cs ]
        | false ↦ Faulty InlineTooLong (c ∷ cs)
      ]) ≡ after lines (cond t (cond (c == 32) (Goes (line (k + 1) (ws ++ one_word w) [])) (Goes (line (k + 1) ws (w ++ c ∷ [])))) (Breaks InlineTooLong)) c cs) [
        | true ↦ elim (c == 32) as (λ t. elim t [ true ↦ line_on (k + 1) (ws ++ one_word w) [] cs | false ↦ line_on (k + 1) ws (w ++ c ∷ []) cs ] ≡ after lines (cond t (Goes (line (k + 1) (ws ++ one_word w) [])) (Goes (line (k + 1) ws (w ++ c ∷ [])))) c cs) [ true ↦ refl | false ↦ refl ]
        | false ↦ refl
      ]
    ]

start_is : (lines t : Bool) (c : ℕ) (cs : Bytes) → elim t [ true ↦ array_at cs | false ↦ elim lines [ true ↦ line_at (c ∷ cs) | false ↦ Faulty Inline (c ∷ cs) ] ]
    ≡ after lines (cond t (Goes star) (elim lines [ true ↦ line_step 0 [] [] c | false ↦ Breaks Inline ])) c cs
start_is lines true c cs = refl
start_is true false c cs = line_at_is (c ∷ cs) ∙ line_is true 0 [] [] c cs
start_is false false c cs = refl

-- one byte does what the definitions say
pub step_is : (lines : Bool) (s : State) (c : ℕ) (cs : Bytes) → resume lines s (c ∷ cs) ≡ after lines (step lines s c) c cs
step_is lines start c cs = start_is lines (c == 42) c cs
step_is lines star c cs =
    elim (c == 45) as (λ t. (cond t (byte_at 49 BadCount cs >>= λ _ rest. line_end_at BadCount rest >>= λ _ more. Whole 0 more) (digits_at BadCount count_past 0 0 (c ∷ cs)) >>= counted)
    ≡ after lines (cond t (Goes minus) (count_step 0 0 c)) c cs) [ true ↦ refl | false ↦ count_is lines 0 0 c cs ]
step_is lines minus c cs =
    elim (c == 49) as (λ t. ((cond t (Whole (tt {0}) cs) (Faulty BadCount (c ∷ cs)) >>= λ _ rest. line_end_at BadCount rest >>= λ _ more. Whole 0 more) >>= counted)
    ≡ after lines (cond t (Goes minus_one) (Breaks BadCount)) c cs) [ true ↦ refl | false ↦ refl ]
step_is lines minus_one c cs =
    elim (c == 13) as (λ t. (((cond t (Whole (tt {0}) cs) (Faulty BadCount (c ∷ cs)) >>= λ _ rest. byte_at 10 BadCount rest) >>= λ _ more. Whole 0 more) >>= counted)
    ≡ after lines (cond t (Goes (count_end 0)) (Breaks BadCount)) c cs) [ true ↦ refl | false ↦ refl ]
step_is lines (count k n) c cs = count_is lines k n c cs
step_is lines (count_end n) c cs =
    elim (c == 10) as (λ t. ((cond t (Whole (tt {0}) cs) (Faulty BadCount (c ∷ cs)) >>= λ _ rest. Whole n rest) >>= counted)
    ≡ after lines (cond t (begin_bulks n) (Breaks BadCount)) c cs) [ true ↦ bulks_is lines n c cs | false ↦ refl ]
step_is lines (bulk l sum ws) c cs =
    elim (c == 36) as (λ t. (((cond t (Whole (tt {0}) cs) (Faulty ExpectedBulk (c ∷ cs)) >>= λ _ rest. digits_at BadLength (length_past sum) 0 0 rest >>= λ n more. bytes_at n more) >>= with_word l sum) >>= behind ws)
    ≡ after lines (cond t (Goes (len l sum ws 0 0)) (Breaks ExpectedBulk)) c cs) [ true ↦ refl | false ↦ refl ]
step_is lines (len l sum ws k n) c cs =
    len_when lines (is_ascii_digit c && nat_lt k max_count_digits) (length_past sum (digit_onto n c)).0 (nat_lt 0 k) (c == 13) (length_past sum (digit_onto n c)).1 l sum ws k n (digit_onto n c) c cs
step_is lines (len_end l sum ws n) c cs =
    elim (c == 10) as (λ t. ((((cond t (Whole (tt {0}) cs) (Faulty BadLength (c ∷ cs)) >>= λ _ rest. Whole n rest) >>= bytes_at) >>= with_word l sum) >>= behind ws)
    ≡ after lines (cond t (Goes (body l (sum + n) ws n [])) (Breaks BadLength)) c cs) [
      | true ↦ word_when (nat_lt (length cs) n) (line_end_at BadEnd (drop n cs)) l sum n ws (take n cs) (body_first (take n cs) n cs)
      | false ↦ refl
    ]
step_is lines (body l sum ws zero w) c cs =
    ap (λ (t : Bool). (cond t Short (line_end_at BadEnd (c ∷ cs) >>= λ _ rest. Whole [] rest)) >>= (λ v rest. rest_of l sum (ws ++ (w ++ v) ∷ []) rest)) (lt_zero (suc (length cs)))
    ∙ elim (c == 13) as (λ t. (((cond t (Whole (tt {0}) cs) (Faulty BadEnd (c ∷ cs)) >>= λ _ rest. byte_at 10 BadEnd rest) >>= λ _ rest. Whole [] rest) >>= (λ v rest. rest_of l sum (ws ++ (w ++ v) ∷ []) rest))
    ≡ after lines (cond t (Goes (body_end l sum ws w)) (Breaks BadEnd)) c cs) [ true ↦ ended (byte_at 10 BadEnd cs) l sum ws w | false ↦ refl ]
step_is lines (body l sum ws (suc n) w) c cs =
    ap (λ (t : Bool). (cond t Short (line_end_at BadEnd (drop n cs) >>= λ _ rest. Whole (c ∷ take n cs) rest)) >>= (λ v rest. rest_of l sum (ws ++ (w ++ v) ∷ []) rest)) (lt_suc (length cs) n)
    ∙ byte_when (nat_lt (length cs) n) (line_end_at BadEnd (drop n cs)) l sum ws w (take n cs) c
step_is lines (body_end l sum ws w) c cs =
    elim (c == 10) as (λ t. (cond t (Whole (tt {0}) cs) (Faulty BadEnd (c ∷ cs)) >>= λ _ rest. rest_of l sum (ws ++ w ∷ []) rest)
    ≡ after lines (cond t (after_bulk l sum (ws ++ w ∷ [])) (Breaks BadEnd)) c cs) [ true ↦ rest_is lines l sum (ws ++ w ∷ []) c cs | false ↦ refl ]
step_is lines (line k ws w) c cs = line_is lines k ws w c cs

-- nothing more is a message cut short
pub none_is : (lines : Bool) (s : State) → resume lines s [] ≡ Short
none_is lines start = refl
none_is lines star = refl
none_is lines minus = refl
none_is lines minus_one = refl
none_is lines (count k n) = refl
none_is lines (count_end n) = refl
none_is lines (bulk l sum ws) = refl
none_is lines (len l sum ws k n) = refl
none_is lines (len_end l sum ws n) = refl
none_is lines (body l sum ws zero w) = refl
none_is lines (body l sum ws (suc n) w) = short_when (nat_lt 0 (suc n)) l sum ws (suc n) w
none_is lines (body_end l sum ws w) = refl
none_is lines (line k ws w) = refl

onward : (lines : Bool) (x : Next) (c : ℕ) (cs : Bytes) → ((s : State) → resume lines s cs ≡ reads lines s cs) →
    after lines x c cs ≡ elim x [ Goes t ↦ reads lines t cs | Gives m ↦ Whole m cs | Breaks f ↦ Faulty f (c ∷ cs) ]
onward lines (Goes t) c cs ih = ih t
onward lines (Gives m) c cs ih = refl
onward lines (Breaks f) c cs ih = refl

-- what the machine reads is what the definitions say
pub resume_reads : (lines : Bool) (s : State) (text : Bytes) → resume lines s text ≡ reads lines s text
resume_reads lines s [] = none_is lines s
resume_reads lines s (c ∷ cs) = step_is lines s c cs ∙ onward lines (step lines s c) c cs (λ t. resume_reads lines t cs)

pub message_reads : (lines : Bool) (text : Bytes) → message_at lines text ≡ reads lines start text
message_reads lines text = resume_reads lines start text
