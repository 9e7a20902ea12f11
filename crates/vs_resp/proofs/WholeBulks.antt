-- A whole bulk is its steps.
use Rattle.std.proofs.Common.{◌≡◌, ◌<◌, ◌≤◌, ◌+◌, ◌-◌, ℕ, suc, Bool, true, false, cond, ◌&&◌, ◌==◌, nat_lt, List, [], ◌∷◌, ◌++◌, length, take, drop, get_or, refl, sym, ap, ap₂, subst, ◌∙◌, arith, append_assoc, append-nil, take-add, length-take, length-drop}
use Rattle.std.proofs.lemmas.Grind.{common_steps}
use Rattle.std.specs.Char.{is_ascii_digit}
use Rattle.vs_defs.specs.Limits.{max_count_digits, max_message_bytes, max_word_bytes}
use Rattle.vs_defs.specs.Bytes.{Bytes}
use Rattle.vs_defs.specs.Stream.{Message, Fault, BadLength, LengthTooLarge, MessageTooLarge, digit_onto, length_past}
use Rattle.vs_stream.specs.Machine.{State, bulk, len, len_end, body, body_end, Next, Goes, Breaks, len_step, step}
use Rattle.vs_stream.specs.Reader.{reading, taken, Means, WhileReading}
use Rattle.vs_stream.proofs.Reader.{means_step}
use Rattle.vs_resp.specs.Bulk.{Leads, IsBulk}

-- ---- more bytes

leads_on : (s t u : State) (xs ys : Bytes) → Leads s xs t → Leads t ys u → Leads s (xs ++ ys) u
leads_on s t u [] ys a b = subst (λ (r : State). Leads r ys u) (sym a) b
leads_on s t u (c ∷ cs) ys a b = (a.0, a.1, leads_on a.0 t u cs ys a.2 b)

-- a reader goes where the bytes lead
pub leads_reading : (n : ℕ) (ms : List Message) (s t : State) (fed xs : Bytes) → Leads s xs t → WhileReading true n ms s fed → WhileReading true (n + length xs) ms t (fed ++ xs)
leads_reading n ms s t fed [] so a =
    let none : n ≡ n + length {A = ℕ} [] = omega arith in
    subst (λ (i : ℕ). WhileReading true i ms t (fed ++ [])) none
    (subst (λ (l : Bytes). WhileReading true n ms t l) (sym (append-nil fed))
    (subst (λ (r : State). WhileReading true n ms r fed) so a))
leads_reading n ms s t fed (c ∷ cs) so a =
    let b : WhileReading true (n + 1) ms so.0 (fed ++ c ∷ []) =
    subst (λ (next : Next). Means true (n + 1) (taken n ms next) (fed ++ c ∷ [])) so.1 (means_step true n (reading ms s) c fed a) in
    let count : n + 1 + length cs ≡ n + length (c ∷ cs) = omega arith in
    subst (λ (i : ℕ). WhileReading true i ms t (fed ++ c ∷ cs)) count
    (subst (λ (l : Bytes). WhileReading true (n + 1 + length cs) ms t l) (append_assoc fed (c ∷ []) cs) (leads_reading (n + 1) ms so.0 t (fed ++ c ∷ []) cs so.2 b))

-- ---- the length's line

first_of : (large : Bool) (x y : Bool × Fault) → large ≡ false → cond large x y ≡ y
first_of large x y is = rw is refl

not_past : (sum n : ℕ) → n ≤ max_word_bytes → sum + n ≤ max_message_bytes → (length_past sum n).0 ≡ false
not_past sum n few all =
    let large : nat_lt max_word_bytes n ≡ false = grind (arith, common_steps) in
    let long : nat_lt max_message_bytes (sum + n) ≡ false = grind (arith, common_steps) in
    ap (λ (p : Bool × Fault). p.0) (first_of (nat_lt max_word_bytes n) (true, LengthTooLarge) (nat_lt max_message_bytes (sum + n), MessageTooLarge) large) ∙ long

goes_when : (digit short past : Bool) (x y z : Next) → digit ≡ true → short ≡ true → past ≡ false →
    elim (digit && short) [ true ↦ elim past [ true ↦ x | false ↦ y ] | false ↦ z ] ≡ y
goes_when true true false x y z a b c = refl
goes_when true true true x y z a b c = cc
goes_when true false past x y z a b c = cc
goes_when false short past x y z a b c = cc

digit_goes : (l sum : ℕ) (ws : List Bytes) (k n c : ℕ) → is_ascii_digit c ≡ true → k < max_count_digits → digit_onto n c ≤ max_word_bytes → sum + digit_onto n c ≤ max_message_bytes →
    len_step l sum ws k n c ≡ Goes (len l sum ws (k + 1) (digit_onto n c))
digit_goes l sum ws k n c digit less few all =
    let short : nat_lt k max_count_digits ≡ true = grind (arith, common_steps) in
    goes_when (is_ascii_digit c) (nat_lt k max_count_digits) (length_past sum (digit_onto n c)).0 (Breaks (length_past sum (digit_onto n c)).1) (Goes (len l sum ws (k + 1) (digit_onto n c)))
    (elim (nat_lt 0 k) [ true ↦ cond (c == 13) (Goes (len_end l sum ws n)) (Breaks BadLength) | false ↦ Breaks BadLength ])
    digit short (not_past sum (digit_onto n c) few all)

pub leads_digit : (l sum : ℕ) (ws : List Bytes) (k n c : ℕ) (ds : Bytes) → is_ascii_digit c ≡ true → k < max_count_digits → digit_onto n c ≤ max_word_bytes → sum + digit_onto n c ≤ max_message_bytes →
    Leads (len l sum ws 0 0) ds (len l sum ws k n) → Leads (len l sum ws 0 0) (ds ++ c ∷ []) (len l sum ws (k + 1) (digit_onto n c))
leads_digit l sum ws k n c ds digit less few all so =
    leads_on (len l sum ws 0 0) (len l sum ws k n) (len l sum ws (k + 1) (digit_onto n c)) ds (c ∷ []) so
    (len l sum ws (k + 1) (digit_onto n c), digit_goes l sum ws k n c digit less few all, refl)

ends_when : (some : Bool) (x y : Next) → some ≡ true → elim some [ true ↦ x | false ↦ y ] ≡ x
ends_when true x y a = refl
ends_when false x y a = cc

ends_length : (l sum : ℕ) (ws : List Bytes) (k n : ℕ) → 0 < k → step true (len l sum ws k n) 13 ≡ Goes (len_end l sum ws n)
ends_length l sum ws k n some =
    let any : nat_lt 0 k ≡ true = grind (arith, common_steps) in
    ends_when (nat_lt 0 k) (Goes (len_end l sum ws n)) (Breaks BadLength) any

leads_line : (l sum : ℕ) (ws : List Bytes) (k n : ℕ) (ds : Bytes) → 0 < k → Leads (len l sum ws 0 0) ds (len l sum ws k n) →
    Leads (bulk l sum ws) (36 ∷ (ds ++ 13 ∷ 10 ∷ [])) (body l (sum + n) ws n [])
leads_line l sum ws k n ds some digits = (
  len l sum ws 0 0,
  refl,
  leads_on (len l sum ws 0 0) (len l sum ws k n) (body l (sum + n) ws n []) ds (13 ∷ 10 ∷ []) digits
      (len_end l sum ws n, ends_length l sum ws k n some, (body l (sum + n) ws n [], refl, refl)),
)

pub is_digit : (d : ℕ) → 48 ≤ d → d ≤ 57 → is_ascii_digit d ≡ true
is_digit d low high = grind (arith, common_steps)

-- a line of one digit
pub lone_leads : (text : Bytes) (d l sum : ℕ) (ws : List Bytes) → take 4 text ≡ 36 ∷ d ∷ 13 ∷ 10 ∷ [] → is_ascii_digit d ≡ true → d ≤ 57 → sum + (d - 48) ≤ max_message_bytes →
    Leads (bulk l sum ws) (take 4 text) (body l (sum + (d - 48)) ws (d - 48) [])
lone_leads text d l sum ws is digit high few =
    let value : digit_onto 0 d ≡ d - 48 = omega arith in
    let less : digit_onto 0 d ≤ max_word_bytes = omega (arith, high) in
    let all : sum + digit_onto 0 d ≤ max_message_bytes = omega (arith, few) in
    subst (λ (n : ℕ). Leads (bulk l sum ws) (take 4 text) (body l (sum + n) ws n [])) value
    (subst (λ (xs : Bytes). Leads (bulk l sum ws) xs (body l (sum + digit_onto 0 d) ws (digit_onto 0 d) [])) (sym is)
    (leads_line l sum ws 1 (digit_onto 0 d) (d ∷ []) (omega arith) (leads_digit l sum ws 0 0 d [] digit (omega arith) less all refl)))

line_text : (text : Bytes) (k : ℕ) → 0 < length text → get_or text 0 0 ≡ 36 → take 2 (drop k (drop 1 text)) ≡ 13 ∷ 10 ∷ [] → take (k + 3) text ≡ 36 ∷ (take k (drop 1 text) ++ 13 ∷ 10 ∷ [])
line_text [] k some dollar ended = absurd (omega arith)
line_text (c ∷ cs) k some dollar ended =
    let more : k + 3 ≡ suc (k + 2) = omega arith in
    ap (λ (i : ℕ). take i (c ∷ cs)) more ∙ ap₂ (λ (b : ℕ) (l : Bytes). b ∷ l) dollar (take-add k 2 cs ∙ ap (λ (l : Bytes). take k cs ++ l) ended)

-- the line of k digits after the `$`
pub line_leads : (text rest : Bytes) (k n l sum : ℕ) (ws : List Bytes) → 0 < length text → get_or text 0 0 ≡ 36 → rest ≡ drop 1 text → take 2 (drop k rest) ≡ 13 ∷ 10 ∷ [] → 0 < k →
    Leads (len l sum ws 0 0) (take k rest) (len l sum ws k n) → Leads (bulk l sum ws) (take (k + 3) text) (body l (sum + n) ws n [])
line_leads text rest k n l sum ws some dollar is ended any digits =
    let there : take 2 (drop k (drop 1 text)) ≡ 13 ∷ 10 ∷ [] = ap (λ (r : Bytes). take 2 (drop k r)) (sym is) ∙ ended in
    let so : Leads (len l sum ws 0 0) (take k (drop 1 text)) (len l sum ws k n) = subst (λ (r : Bytes). Leads (len l sum ws 0 0) (take k r) (len l sum ws k n)) is digits in
    subst (λ (xs : Bytes). Leads (bulk l sum ws) xs (body l (sum + n) ws n [])) (sym (line_text text k some dollar there)) (leads_line l sum ws k n (take k (drop 1 text)) any so)

-- ---- the word

leads_word : (l sum : ℕ) (ws : List Bytes) (w xs : Bytes) → Leads (body l sum ws (length xs) w) xs (body l sum ws 0 (w ++ xs))
leads_word l sum ws w [] = ap (λ (v : Bytes). body l sum ws 0 v) (sym (append-nil w))
leads_word l sum ws w (c ∷ cs) = (
  body l sum ws (length cs) (w ++ c ∷ []),
  refl,
  subst (λ (v : Bytes). Leads (body l sum ws (length cs) (w ++ c ∷ [])) cs (body l sum ws 0 v)) (append_assoc w (c ∷ []) cs) (leads_word l sum ws (w ++ c ∷ []) cs),
)

-- line is that of the length
is_bulk : (text line word : Bytes) → text ≡ (line ++ word) ++ 13 ∷ 10 ∷ [] →
    ((l sum : ℕ) (ws : List Bytes) → sum + length word ≤ max_message_bytes → Leads (bulk l sum ws) line (body l (sum + length word) ws (length word) [])) → IsBulk text word
is_bulk text line word is so l sum ws few = (
  (line ++ word) ++ 13 ∷ [],
  is ∙ sym (append_assoc (line ++ word) (13 ∷ []) (10 ∷ [])),
  leads_on (bulk l sum ws) (body l (sum + length word) ws 0 word) (body_end l (sum + length word) ws word) (line ++ word) (13 ∷ [])
      (leads_on (bulk l sum ws) (body l (sum + length word) ws (length word) []) (body l (sum + length word) ws 0 word) line word (so l sum ws few) (leads_word l (sum + length word) ws [] word))
      (body_end l (sum + length word) ws word, refl, refl),
)

-- a line of s bytes, and v bytes of the word
pub bulk_at_front : (p rest : Bytes) (s v : ℕ) → rest ≡ drop s p → s + v ≤ length p → take 2 (drop (s + v) p) ≡ 13 ∷ 10 ∷ [] →
    ((l sum : ℕ) (ws : List Bytes) → sum + v ≤ max_message_bytes → Leads (bulk l sum ws) (take s p) (body l (sum + v) ws v [])) → IsBulk (take (s + v + 2) p) (take v rest)
bulk_at_front p rest s v is within ended so =
    let count : length (take v (drop s p)) ≡ v = omega (arith, length-take v (drop s p), length-drop s p) in
    let text : take (s + v + 2) p ≡ (take s p ++ take v (drop s p)) ++ 13 ∷ 10 ∷ [] =
    take-add (s + v) 2 p ∙ ap₂ (λ (a b : Bytes). a ++ b) (take-add s v p) ended in
    subst (λ (r : Bytes). IsBulk (take (s + v + 2) p) (take v r)) (sym is)
    (is_bulk (take (s + v + 2) p) (take s p) (take v (drop s p)) text
    (subst (λ (i : ℕ). (l sum : ℕ) (ws : List Bytes) → sum + i ≤ max_message_bytes → Leads (bulk l sum ws) (take s p) (body l (sum + i) ws i [])) (sym count) so))
