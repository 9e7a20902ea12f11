-- Texts cut at their first mark: what the definitions of words, pieces and lines go on with.
use Rattle.std.proofs.Common.{◌≡◌, ◌∙◌, ◌==◌, ◌&&◌, ℕ, zero, suc, ◌+◌, ◌<◌, ◌≤◌, Bool, true, false, not, cond, nat_le, List, [], ◌∷◌, ◌++◌, Option, Some, None, IfSome, All, length, take, drop, get_or, option_map, option_and_then, true≢false, refl, ap, sym, arith, append_assoc, append-nil, length-append}
use Rattle.std.specs.List.{position, position_from, list_all}
use Rattle.std.proofs.lemmas.List.Quantifiers.{position-Some}
use Rattle.std.proofs.lemmas.Iterator.Adapters.{position_from-zero}
use Rattle.std.proofs.lemmas.Option.{none-some}
use Rattle.vs_defs.specs.Bytes.{Bytes}
use Rattle.vs_thread_defs.specs.Schedule.{words_from, pieces_from, lines_from, whole_lines_from, line_words, is_line_word, numbers_of, u32_of}
use Rattle.vs_defs.specs.Limits.{max_schedule_line_bytes}
use Rattle.std.proofs.lemmas.List.Elements.{All-nil, All-cons}
use Rattle.std.proofs.lemmas.List.Folds.{list_all-append}
use Rattle.vs_schedule_words.specs.Cut.{before_mark, behind_mark}

-- ---- by the place of the mark

module _ (mark : ℕ) where
  pub cut_there : (xs : Bytes) (i d : ℕ) → i < length xs → (get_or xs i d == mark) ≡ true → ((k : ℕ) → k < i → (get_or xs k d == mark) ≡ false)
      → (take i xs ≡ before_mark mark xs) × (Some (drop (suc i) xs) ≡ behind_mark mark xs)
  cut_there [] i d h passes before = absurd (omega arith)
  cut_there (x ∷ xs) zero d h passes before = (rw (passes, before_mark) refl, rw (passes, behind_mark) refl)
  cut_there (x ∷ xs) (suc i) d h passes before =
      let more = cut_there xs i d (omega arith) passes (λ k l. before (suc k) (omega arith)) in
      let no_ : (x == mark) ≡ false = before zero (omega arith) in
      (rw (no_, before_mark) (ap (λ cs. x ∷ cs) more.0), rw (no_, behind_mark) more.1)

  nowhere_by : (x : ℕ) (xs : Bytes) (i : ℕ) (b : Bool) → (x == mark) ≡ b
      → (position_from (λ c. c == mark) (i + 1) xs ≡ None → (xs ≡ before_mark mark xs) × (None ≡ behind_mark mark xs))
      → position_from (λ c. c == mark) i (x ∷ xs) ≡ None → (x ∷ xs ≡ before_mark mark (x ∷ xs)) × (None ≡ behind_mark mark (x ∷ xs))
  nowhere_by x xs i true is more e = absurd (none-some i (sym (rw is at e)))
  nowhere_by x xs i false is more e =
      let rest = more (rw is at e) in
      (rw (is, before_mark) (ap (λ cs. x ∷ cs) rest.0), rw (is, behind_mark) rest.1)

  nowhere : (xs : Bytes) (i : ℕ) → position_from (λ c. c == mark) i xs ≡ None → (xs ≡ before_mark mark xs) × (None ≡ behind_mark mark xs)
  nowhere [] i e = (refl, refl)
  nowhere (x ∷ xs) i e = nowhere_by x xs i (x == mark) refl (nowhere xs (i + 1)) e

  pub cut_nowhere : (xs : Bytes) → position (λ c. c == mark) xs ≡ None → (xs ≡ before_mark mark xs) × (None ≡ behind_mark mark xs)
  cut_nowhere xs e = nowhere xs 0 (sym (position_from-zero (λ c. c == mark) xs) ∙ e)

  pub cut_at : (xs : Bytes) (i d : ℕ) → position (λ c. c == mark) xs ≡ Some i
      → (take i xs ≡ before_mark mark xs) × (Some (drop (suc i) xs) ≡ behind_mark mark xs)
  cut_at xs i d e =
      let at = position-Some (λ c. c == mark) xs i d e in
      cut_there xs i d at.0 at.1 at.2

-- ---- words

abbrev pub words_left : Option Bytes → List Bytes
words_left None = []
words_left (Some t) = words_from [] t

words_by : (w : Bytes) (c : ℕ) (cs : Bytes) → words_from (w ++ c ∷ []) cs ≡ ((w ++ c ∷ []) ++ before_mark 32 cs) ∷ words_left (behind_mark 32 cs)
    → (b : Bool) → (c == 32) ≡ b → words_from w (c ∷ cs) ≡ (w ++ before_mark 32 (c ∷ cs)) ∷ words_left (behind_mark 32 (c ∷ cs))
words_by w c cs more true is = rw (is, words_from, before_mark, behind_mark) (ap (λ x. x ∷ words_from [] cs) (sym (append-nil w)))
words_by w c cs more false is = rw (is, words_from, before_mark, behind_mark) (more ∙ ap (λ x. x ∷ words_left (behind_mark 32 cs)) (append_assoc w (c ∷ []) (before_mark 32 cs)))

pub words_cut : (w t : Bytes) → words_from w t ≡ (w ++ before_mark 32 t) ∷ words_left (behind_mark 32 t)
words_cut w [] = ap (λ x. x ∷ []) (sym (append-nil w))
words_cut w (c ∷ cs) = words_by w c cs (words_cut (w ++ c ∷ []) cs) (c == 32) refl

-- ---- pieces between commas

abbrev pub pieces_left : Option Bytes → List Bytes
pieces_left None = []
pieces_left (Some t) = pieces_from [] t

pieces_by : (w : Bytes) (c : ℕ) (cs : Bytes) → pieces_from (w ++ c ∷ []) cs ≡ ((w ++ c ∷ []) ++ before_mark 44 cs) ∷ pieces_left (behind_mark 44 cs)
    → (b : Bool) → (c == 44) ≡ b → pieces_from w (c ∷ cs) ≡ (w ++ before_mark 44 (c ∷ cs)) ∷ pieces_left (behind_mark 44 (c ∷ cs))
pieces_by w c cs more true is = rw (is, pieces_from, before_mark, behind_mark) (ap (λ x. x ∷ pieces_from [] cs) (sym (append-nil w)))
pieces_by w c cs more false is = rw (is, pieces_from, before_mark, behind_mark) (more ∙ ap (λ x. x ∷ pieces_left (behind_mark 44 cs)) (append_assoc w (c ∷ []) (before_mark 44 cs)))

pub pieces_cut : (w t : Bytes) → pieces_from w t ≡ (w ++ before_mark 44 t) ∷ pieces_left (behind_mark 44 t)
pieces_cut w [] = ap (λ x. x ∷ []) (sym (append-nil w))
pieces_cut w (c ∷ cs) = pieces_by w c cs (pieces_cut (w ++ c ∷ []) cs) (c == 44) refl

-- the numbers so far, and those behind them
abbrev pub numbers_behind : List ℕ → Option (List ℕ) → Option (List ℕ)
numbers_behind ns more = option_map (λ ms. ns ++ ms) more

-- what bounds how often a text can still be cut
abbrev pub bytes_left : Option Bytes → ℕ
bytes_left None = 0
bytes_left (Some t) = length t + 1

-- ---- lines

-- the lines of a text of which this line was cut, and this stands behind its line feed
abbrev pub lines_at : Bytes → Option Bytes → Bytes → List Bytes
lines_at line None more = lines_from line more
lines_at line (Some rest) more = line ∷ lines_from [] (rest ++ more)

abbrev pub whole_lines_at : Bytes → Option Bytes → Bytes → List Bytes
whole_lines_at line None more = whole_lines_from line more
whole_lines_at line (Some rest) more = line ∷ whole_lines_from [] (rest ++ more)

feed : (line : Bytes) (c : ℕ) (cs : Bytes) → (c == 10) ≡ true → lines_from line (c ∷ cs) ≡ line ∷ lines_from [] cs
feed [] c cs is = rw (is, lines_from) refl
feed (b ∷ bs) c cs is = rw (is, lines_from) refl

no_feed : (line : Bytes) (c : ℕ) (cs : Bytes) → (c == 10) ≡ false → lines_from line (c ∷ cs) ≡ lines_from (line ++ c ∷ []) cs
no_feed [] c cs is = rw (is, lines_from) refl
no_feed (b ∷ bs) c cs is = rw (is, lines_from) refl

lines_by : (line : Bytes) (c : ℕ) (cs more : Bytes) → lines_from (line ++ c ∷ []) (cs ++ more) ≡ lines_at ((line ++ c ∷ []) ++ before_mark 10 cs) (behind_mark 10 cs) more
    → (b : Bool) → (c == 10) ≡ b → lines_from line (c ∷ cs ++ more) ≡ lines_at (line ++ before_mark 10 (c ∷ cs)) (behind_mark 10 (c ∷ cs)) more
lines_by line c cs more rest true is = feed line c (cs ++ more) is ∙ rw (is, before_mark, behind_mark) (ap (λ x. x ∷ lines_from [] (cs ++ more)) (sym (append-nil line)))
lines_by line c cs more rest false is =
    no_feed line c (cs ++ more) is ∙ rw (is, before_mark, behind_mark) (rest ∙ ap (λ x. lines_at x (behind_mark 10 cs) more) (append_assoc line (c ∷ []) (before_mark 10 cs)))

pub lines_cut : (line t more : Bytes) → lines_from line (t ++ more) ≡ lines_at (line ++ before_mark 10 t) (behind_mark 10 t) more
lines_cut line [] more = ap (λ x. lines_from x more) (sym (append-nil line))
lines_cut line (c ∷ cs) more = lines_by line c cs more (lines_cut (line ++ c ∷ []) cs more) (c == 10) refl

whole_by : (line : Bytes) (c : ℕ) (cs more : Bytes)
    → whole_lines_from (line ++ c ∷ []) (cs ++ more) ≡ whole_lines_at ((line ++ c ∷ []) ++ before_mark 10 cs) (behind_mark 10 cs) more
    → (b : Bool) → (c == 10) ≡ b → whole_lines_from line (c ∷ cs ++ more) ≡ whole_lines_at (line ++ before_mark 10 (c ∷ cs)) (behind_mark 10 (c ∷ cs)) more
whole_by line c cs more rest true is = rw (is, whole_lines_from, before_mark, behind_mark) (ap (λ x. x ∷ whole_lines_from [] (cs ++ more)) (sym (append-nil line)))
whole_by line c cs more rest false is = rw (is, whole_lines_from, before_mark, behind_mark) (rest ∙ ap (λ x. whole_lines_at x (behind_mark 10 cs) more) (append_assoc line (c ∷ []) (before_mark 10 cs)))

pub whole_lines_cut : (line t more : Bytes) → whole_lines_from line (t ++ more) ≡ whole_lines_at (line ++ before_mark 10 t) (behind_mark 10 t) more
whole_lines_cut line [] more = ap (λ x. whole_lines_from x more) (sym (append-nil line))
whole_lines_cut line (c ∷ cs) more = whole_by line c cs more (whole_lines_cut (line ++ c ∷ []) cs more) (c == 10) refl

-- ---- how many words there are, and how long they are

pub words_some : (w t : Bytes) → 1 ≤ length (words_from w t)
words_some w t = rw (words_cut w t) (omega arith)

pub line_word_by : (w : Bytes) → 0 < length w → list_all (λ b. not (b == 13)) w ≡ is_line_word w
line_word_by [] h = absurd (omega arith)
line_word_by (c ∷ cs) h = refl

-- no word is longer than the line
short_by : (n : ℕ) (w : Bytes) (c : ℕ) (cs : Bytes) → length w ≤ n → All (λ x. length x ≤ n) (words_from (w ++ c ∷ []) cs) → All (λ x. length x ≤ n) (words_from [] cs)
    → (b : Bool) → (c == 32) ≡ b → All (λ x. length x ≤ n) (words_from w (c ∷ cs))
short_by n w c cs h more other true is = rw (is, words_from) (All-cons (λ x. length x ≤ n) w (words_from [] cs) h other)
short_by n w c cs h more other false is = rw (is, words_from) more

pub words_short : (n : ℕ) (w t : Bytes) → length w + length t ≤ n → All (λ x. length x ≤ n) (words_from w t)
words_short n w [] h = All-cons (λ x. length x ≤ n) w [] (omega (arith, h)) (All-nil (λ x. length x ≤ n))
words_short n w (c ∷ cs) h =
    short_by n w c cs (omega (arith, h)) (words_short n (w ++ c ∷ []) cs (omega (arith, h, length-append w (c ∷ [])))) (words_short n [] cs (omega (arith, h))) (c == 32) refl

few_by : (w : Bytes) (c : ℕ) (cs : Bytes) → length (words_from (w ++ c ∷ []) cs) ≤ length cs + 1 → length (words_from [] cs) ≤ length cs + 1
    → (b : Bool) → (c == 32) ≡ b → length (words_from w (c ∷ cs)) ≤ length (c ∷ cs) + 1
few_by w c cs more other true is = rw (is, words_from) (omega (arith, other))
few_by w c cs more other false is = rw (is, words_from) (omega (arith, more))

pub words_few : (w t : Bytes) → length (words_from w t) ≤ length t + 1
words_few w [] = omega arith
words_few w (c ∷ cs) = few_by w c cs (words_few (w ++ c ∷ []) cs) (words_few [] cs) (c == 32) refl

left_by : (mark c : ℕ) (cs : Bytes) → bytes_left (behind_mark mark cs) ≤ length cs → (b : Bool) → (c == mark) ≡ b
    → bytes_left (behind_mark mark (c ∷ cs)) ≤ length (c ∷ cs)
left_by mark c cs more true is = rw (is, behind_mark) (omega arith)
left_by mark c cs more false is = rw (is, behind_mark) (omega (arith, more))

pub behind_left : (mark : ℕ) (t : Bytes) → bytes_left (behind_mark mark t) ≤ length t
behind_left mark [] = omega arith
behind_left mark (c ∷ cs) = left_by mark c cs (behind_left mark cs) (c == mark) refl

-- ---- one turn of a loop over words

pub words_step : (line : Bytes) (ws : List Bytes) (left : Option Bytes) (t word : Bytes) (behind : Option Bytes)
    → left ≡ Some t → word ≡ before_mark 32 t → behind ≡ behind_mark 32 t → words_from [] line ≡ ws ++ words_left left
    → words_from [] line ≡ (ws ++ word ∷ []) ++ words_left behind
words_step line ws left t word behind is word_is behind_is e =
    e ∙ ap (λ o. ws ++ words_left o) is ∙ ap (λ x. ws ++ x) (words_cut [] t)
    ∙ sym (append_assoc ws (before_mark 32 t ∷ []) (words_left (behind_mark 32 t)))
    ∙ ap (λ w. (ws ++ w ∷ []) ++ words_left (behind_mark 32 t)) (sym word_is)
    ∙ ap (λ o. (ws ++ word ∷ []) ++ words_left o) (sym behind_is)

pub good_step : (ws : List Bytes) (word : Bytes) → list_all is_line_word ws ≡ true → is_line_word word ≡ true → list_all is_line_word (ws ++ word ∷ []) ≡ true
good_step ws word all one = list_all-append is_line_word ws (word ∷ []) ∙ rw (all, one, list_all) refl

pub all_words : (line : Bytes) (ws : List Bytes) (left : Option Bytes) → left ≡ None → words_from [] line ≡ ws ++ words_left left → ws ≡ words_from [] line
all_words line ws left none e = sym (e ∙ ap (λ o. ws ++ words_left o) none ∙ append-nil ws)

none_of : (ws : List Bytes) (a b : Bool) → b ≡ false → None ≡ cond (a && b) (Some ws) None
none_of ws true false e = refl
none_of ws false false e = refl
none_of ws a true e = absurd (true≢false e)

bad_and : (a b : Bool) → ((a && false) && b) ≡ false
bad_and true b = refl
bad_and false b = refl

bad_all : (ws : List Bytes) (word : Bytes) (more : List Bytes) → is_line_word word ≡ false → list_all is_line_word ((ws ++ word ∷ []) ++ more) ≡ false
bad_all ws word more bad =
    list_all-append is_line_word (ws ++ word ∷ []) more ∙ ap (λ b. b && list_all is_line_word more) (list_all-append is_line_word ws (word ∷ []))
    ∙ rw (bad, list_all) (bad_and (list_all is_line_word ws) (list_all is_line_word more))

pub bad_words : (line : Bytes) (ws : List Bytes) (word : Bytes) (more : List Bytes) → words_from [] line ≡ (ws ++ word ∷ []) ++ more
    → is_line_word word ≡ false → None ≡ line_words line
bad_words line ws word more e bad =
    none_of (words_from [] line) (nat_le (length line) max_schedule_line_bytes) (list_all is_line_word (words_from [] line)) (ap (list_all is_line_word) e ∙ bad_all ws word more bad)

-- ---- one turn of a loop over numbers

behind_push : (ns : List ℕ) (n : ℕ) (more : Option (List ℕ)) → numbers_behind ns (option_map (λ ms. n ∷ ms) more) ≡ numbers_behind (ns ++ n ∷ []) more
behind_push ns n None = refl
behind_push ns n (Some ms) = ap Some (sym (append_assoc ns (n ∷ []) ms))

numbers_cut : (t : Bytes) → numbers_of (pieces_from [] t) ≡ option_and_then (λ n. option_map (λ ns. n ∷ ns) (numbers_of (pieces_left (behind_mark 44 t)))) (u32_of (before_mark 44 t))
numbers_cut t = ap numbers_of (pieces_cut [] t)

pub numbers_step : (whole : Option (List ℕ)) (ns : List ℕ) (left : Option Bytes) (t piece : Bytes) (n : ℕ) (behind : Option Bytes)
    → left ≡ Some t → piece ≡ before_mark 44 t → behind ≡ behind_mark 44 t → u32_of piece ≡ Some n → whole ≡ numbers_behind ns (numbers_of (pieces_left left))
    → whole ≡ numbers_behind (ns ++ n ∷ []) (numbers_of (pieces_left behind))
numbers_step whole ns left t piece n behind is piece_is behind_is number e =
    let read : u32_of (before_mark 44 t) ≡ Some n = ap u32_of (sym piece_is) ∙ number in
    let all = numbers_of (pieces_left (behind_mark 44 t)) in
    e ∙ ap (λ o. numbers_behind ns (numbers_of (pieces_left o))) is
    ∙ ap (numbers_behind ns) (numbers_cut t ∙ ap (option_and_then (λ m. option_map (λ ms. m ∷ ms) all)) read)
    ∙ behind_push ns n all ∙ ap (λ o. numbers_behind (ns ++ n ∷ []) (numbers_of (pieces_left o))) (sym behind_is)

pub numbers_stop : (whole : Option (List ℕ)) (ns : List ℕ) (left : Option Bytes) (t piece : Bytes)
    → left ≡ Some t → piece ≡ before_mark 44 t → u32_of piece ≡ None → whole ≡ numbers_behind ns (numbers_of (pieces_left left)) → whole ≡ None
numbers_stop whole ns left t piece is piece_is number e =
    let read : u32_of (before_mark 44 t) ≡ None = ap u32_of (sym piece_is) ∙ number in
    e ∙ ap (λ o. numbers_behind ns (numbers_of (pieces_left o))) is
    ∙ ap (numbers_behind ns) (numbers_cut t ∙ ap (option_and_then (λ m. option_map (λ ms. m ∷ ms) (numbers_of (pieces_left (behind_mark 44 t))))) read)
