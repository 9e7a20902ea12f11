-- An inline line is read the same byte by byte.
use Rattle.std.proofs.Common.{◌≡◌, ◌<◌, ◌≤◌, ◌+◌, ◌-◌, ℕ, suc, Bool, true, false, cond, not, ◌==◌, nat_lt, List, [], ◌∷◌, ◌++◌, length, take, drop, filter, refl, sym, ap, ◌∙◌, arith, append_assoc, append-nil}
use Rattle.std.proofs.lemmas.Grind.{common_steps}
use Rattle.std.specs.List.{prefix_len}
use Rattle.vs_defs.specs.Limits.{max_line_bytes}
use Rattle.vs_defs.specs.Bytes.{Bytes}
use Rattle.vs_defs.specs.Numeral.{is_empty}
use Rattle.vs_defs.specs.Stream.{Message, InlineTooLong, Reading, Whole, Short, Faulty, runs_from, words_of_line, without_return, line_of, line_at}
use Rattle.vs_stream.specs.Machine.{one_word}

-- the line from its k-th byte on, behind the words ws and the run w
abbrev pub line_on : ℕ → List Bytes → Bytes → Bytes → Reading Message
line_on k ws w [] = Short
line_on k ws w (c ∷ cs) =
    cond (c == 10) (Whole (ws ++ one_word (without_return w)) cs)
    (elim (nat_lt k max_line_bytes) [
      | true ↦ elim (c == 32) [ true ↦ line_on (k + 1) (ws ++ one_word w) [] cs | false ↦ line_on (k + 1) ws (w ++ c ∷ []) cs ]
      | false ↦ Faulty InlineTooLong (c ∷ cs)
    ])

-- the words, where these bytes are the rest of the line
abbrev pub words_on : List Bytes → Bytes → Bytes → List Bytes
words_on ws w [] = ws ++ one_word (without_return w)
words_on ws w (c ∷ cs) = elim (c == 32) [ true ↦ words_on (ws ++ one_word w) [] cs | false ↦ words_on ws (w ++ c ∷ []) cs ]

not_zero : (n : ℕ) → (suc n == 0) ≡ false
not_zero n = grind (arith, common_steps)

pub filter_more : (w : Bytes) (rs : List Bytes) → filter (λ v. not (is_empty v)) (w ∷ rs) ≡ one_word w ++ filter (λ v. not (is_empty v)) rs
filter_more [] rs = refl
filter_more (b ∷ w) rs =
    ap (λ (t : Bool). cond (not t) ((b ∷ w) ∷ filter (λ (v : Bytes). not (is_empty v)) rs) (filter (λ (v : Bytes). not (is_empty v)) rs)) (not_zero (length w))

pub one_word_is : (w : Bytes) → filter (λ v. not (is_empty v)) (w ∷ []) ≡ one_word w
one_word_is w = filter_more w [] ∙ append-nil (one_word w)

without_return_push : (w : Bytes) (c : ℕ) → without_return (w ++ c ∷ []) ≡ cond (c == 13) w (w ++ c ∷ [])
without_return_push [] c = refl
without_return_push (a ∷ []) c = elim (c == 13) as (λ t. a ∷ cond t [] (c ∷ []) ≡ cond t (a ∷ []) (a ∷ c ∷ [])) [ true ↦ refl | false ↦ refl ]
without_return_push (a ∷ b ∷ w) c =
    ap (λ (l : Bytes). a ∷ l) (without_return_push (b ∷ w) c)
    ∙ elim (c == 13) as (λ t. a ∷ cond t (b ∷ w) ((b ∷ w) ++ c ∷ []) ≡ cond t (a ∷ b ∷ w) ((a ∷ b ∷ w) ++ c ∷ [])) [ true ↦ refl | false ↦ refl ]

-- a byte is not both
not_both : (c : ℕ) → (c == 32) ≡ true → (c == 13) ≡ false
not_both c h = grind (arith, common_steps)

-- the words of the line's last byte
last_when : (ws : List Bytes) (w : Bytes) (c : ℕ) (s r : Bool) → (c == 32) ≡ s → (c == 13) ≡ r →
    elim s [ true ↦ (ws ++ one_word w) ++ [] | false ↦ ws ++ one_word (cond r w (w ++ c ∷ [])) ]
    ≡ ws ++ filter (λ v. not (is_empty v)) (cond r (w ∷ []) (elim s [ true ↦ w ∷ [] ∷ [] | false ↦ (w ++ c ∷ []) ∷ [] ]))
last_when ws w c true true a b = absurd (let no = sym b ∙ not_both c a in cc)
last_when ws w c true false a b =
    append-nil (ws ++ one_word w) ∙ ap (λ (l : List Bytes). ws ++ l) (sym (filter_more w ([] ∷ []) ∙ append-nil (one_word w)))
last_when ws w c false true a b = ap (λ (l : List Bytes). ws ++ l) (sym (one_word_is w))
last_when ws w c false false a b = ap (λ (l : List Bytes). ws ++ l) (sym (one_word_is (w ++ c ∷ [])))

runs_last : (w : Bytes) (c : ℕ) (r : Bool) → runs_from w (cond r [] (c ∷ [])) ≡ cond r (w ∷ []) (elim (c == 32) [ true ↦ w ∷ [] ∷ [] | false ↦ (w ++ c ∷ []) ∷ [] ])
runs_last w c true = refl
runs_last w c false = refl

last_is : (ws : List Bytes) (w : Bytes) (c : ℕ) → words_on ws w (c ∷ []) ≡ ws ++ filter (λ v. not (is_empty v)) (runs_from w (without_return (c ∷ [])))
last_is ws w c =
    ap (λ (v : Bytes). elim (c == 32) [ true ↦ (ws ++ one_word w) ++ [] | false ↦ ws ++ one_word v ]) (without_return_push w c)
    ∙ last_when ws w c (c == 32) (c == 13) refl refl
    ∙ ap (λ (l : List Bytes). ws ++ filter (λ (v : Bytes). not (is_empty v)) l) (sym (runs_last w c (c == 13)))

words_on_is : (ws : List Bytes) (w : Bytes) (c : ℕ) (cs : Bytes) → words_on ws w (c ∷ cs) ≡ ws ++ filter (λ v. not (is_empty v)) (runs_from w (without_return (c ∷ cs)))
words_on_is ws w c [] = last_is ws w c
words_on_is ws w c (d ∷ ds) =
    elim (c == 32) as (λ t.
    elim t [ true ↦ words_on (ws ++ one_word w) [] (d ∷ ds) | false ↦ words_on ws (w ++ c ∷ []) (d ∷ ds) ]
    ≡ ws ++ filter (λ (v : Bytes). not (is_empty v)) (elim t [ true ↦ w ∷ runs_from [] (without_return (d ∷ ds)) | false ↦ runs_from (w ++ c ∷ []) (without_return (d ∷ ds)) ])) [
      | true ↦
          words_on_is (ws ++ one_word w) [] d ds
          ∙ append_assoc ws (one_word w) (filter (λ (v : Bytes). not (is_empty v)) (runs_from [] (without_return (d ∷ ds))))
          ∙ ap (λ (l : List Bytes). ws ++ l) (sym (filter_more w (runs_from [] (without_return (d ∷ ds)))))
      | false ↦ words_on_is ws (w ++ c ∷ []) d ds
    ]

-- a whole line
pub line_words : (line : Bytes) → words_on [] [] line ≡ words_of_line (without_return line)
line_words [] = refl
line_words (c ∷ cs) = words_on_is [] [] c cs

-- ---- the line's end

-- what the definition says, where n bytes stand before the line feed and k came before
abbrev pub line_by : ℕ → List Bytes → Bytes → ℕ → Bytes → Reading Message
line_by k ws w n text =
    cond (nat_lt max_line_bytes (k + n)) (Faulty InlineTooLong (drop (max_line_bytes - k) text))
    (cond (nat_lt n (length text)) (Whole (words_on ws w (take n text)) (drop (n + 1) text)) Short)

few : (k : ℕ) → k ≤ max_line_bytes → nat_lt max_line_bytes (k + 0) ≡ false
few k h = grind (arith, common_steps)

some_more : (n : ℕ) → nat_lt 0 (suc n) ≡ true
some_more n = grind (arith, common_steps)

too_many : (k m : ℕ) → nat_lt k max_line_bytes ≡ false → nat_lt max_line_bytes (k + (1 + m)) ≡ true
too_many k m h = let past : max_line_bytes ≤ k = grind (arith, common_steps) in grind (arith, common_steps)

none_left : (k : ℕ) → nat_lt k max_line_bytes ≡ false → max_line_bytes - k ≡ 0
none_left k h = let past : max_line_bytes ≤ k = grind (arith, common_steps) in omega arith

below : (k : ℕ) → nat_lt k max_line_bytes ≡ true → k < max_line_bytes
below k h = grind (arith, common_steps)

lt_suc : (m n : ℕ) → nat_lt (suc m) (suc n) ≡ nat_lt m n
lt_suc m n = grind (arith, common_steps)

line_shift : (k : ℕ) (ws : List Bytes) (w : Bytes) (ws1 : List Bytes) (w1 : Bytes) (m c : ℕ) (cs : Bytes) → k < max_line_bytes → ((x : Bytes) → words_on ws1 w1 x ≡ words_on ws w (c ∷ x)) →
    line_by (k + 1) ws1 w1 m cs ≡ line_by k ws w (1 + m) (c ∷ cs)
line_shift k ws w ws1 w1 m c cs h same =
    let e1 : (k + 1) + m ≡ k + (1 + m) = omega arith in
    let e2 : suc m ≡ 1 + m = omega arith in
    let e3 : suc (max_line_bytes - (k + 1)) ≡ max_line_bytes - k = omega arith in
    let e5 : suc (m + 1) ≡ (1 + m) + 1 = omega arith in
    ap (λ (i : ℕ). cond (nat_lt max_line_bytes i) (Faulty InlineTooLong (drop (max_line_bytes - (k + 1)) cs)) (cond (nat_lt m (length cs)) (Whole (words_on ws1 w1 (take m cs)) (drop (m + 1) cs)) Short)) e1
    ∙ ap (λ (i : ℕ). cond (nat_lt max_line_bytes (k + (1 + m))) (Faulty InlineTooLong (drop i (c ∷ cs))) (cond (nat_lt m (length cs)) (Whole (words_on ws1 w1 (take m cs)) (drop (m + 1) cs)) Short)) e3
    ∙ ap (λ (t : Bool). cond (nat_lt max_line_bytes (k + (1 + m))) (Faulty InlineTooLong (drop (max_line_bytes - k) (c ∷ cs))) (cond t (Whole (words_on ws1 w1 (take m cs)) (drop (m + 1) cs)) Short)) (sym (lt_suc m (length cs)))
    ∙ ap (λ (v : List Bytes). cond (nat_lt max_line_bytes (k + (1 + m))) (Faulty InlineTooLong (drop (max_line_bytes - k) (c ∷ cs))) (cond (nat_lt (suc m) (suc (length cs))) (Whole v (drop (m + 1) cs)) Short)) (same (take m cs))
    ∙ ap (λ (i : ℕ). cond (nat_lt max_line_bytes (k + (1 + m))) (Faulty InlineTooLong (drop (max_line_bytes - k) (c ∷ cs))) (cond (nat_lt i (length (c ∷ cs))) (Whole (words_on ws w (take i (c ∷ cs))) (drop (suc (m + 1)) (c ∷ cs))) Short)) e2
    ∙ ap (λ (i : ℕ). cond (nat_lt max_line_bytes (k + (1 + m))) (Faulty InlineTooLong (drop (max_line_bytes - k) (c ∷ cs))) (cond (nat_lt (1 + m) (length (c ∷ cs))) (Whole (words_on ws w (take (1 + m) (c ∷ cs))) (drop i (c ∷ cs))) Short)) e5

abbrev line_length : Bytes → ℕ
line_length text = prefix_len (λ c. not (c == 10)) text

line_when : (k : ℕ) (ws : List Bytes) (w : Bytes) (c : ℕ) (cs : Bytes) → k ≤ max_line_bytes → (e t s : Bool) → (c == 10) ≡ e → nat_lt k max_line_bytes ≡ t → (c == 32) ≡ s →
    ((us : List Bytes) (v : Bytes) → k + 1 ≤ max_line_bytes → line_on (k + 1) us v cs ≡ line_by (k + 1) us v (line_length cs) cs) →
    cond e (Whole (ws ++ one_word (without_return w)) cs) (elim t [
      | true ↦ elim s [ true ↦ line_on (k + 1) (ws ++ one_word w) [] cs | false ↦ line_on (k + 1) ws (w ++ c ∷ []) cs ]
      | false ↦ Faulty InlineTooLong (c ∷ cs)
    ]) ≡ line_by k ws w (cond (not e) (1 + line_length cs) 0) (c ∷ cs)
line_when k ws w c cs h true t s a b d ih =
    ap (λ (u : Bool). cond u (Whole (ws ++ one_word (without_return w)) cs) Short) (sym (some_more (length cs)))
    ∙ ap (λ (u : Bool). cond u (Faulty InlineTooLong (drop (max_line_bytes - k) (c ∷ cs))) (cond (nat_lt 0 (suc (length cs))) (Whole (ws ++ one_word (without_return w)) cs) Short)) (sym (few k h))
line_when k ws w c cs h false false s a b d ih =
    ap (λ (i : ℕ). Faulty InlineTooLong (drop i (c ∷ cs))) (sym (none_left k b))
    ∙ ap (λ (u : Bool). cond u (Faulty InlineTooLong (drop (max_line_bytes - k) (c ∷ cs))) (cond (nat_lt (1 + line_length cs) (length (c ∷ cs))) (Whole (words_on ws w (take (1 + line_length cs) (c ∷ cs))) (drop ((1 + line_length cs) + 1) (c ∷ cs))) Short)) (sym (too_many k (line_length cs) b))
line_when k ws w c cs h false true true a b d ih =
    let lt : k < max_line_bytes = below k b in
    let le : k + 1 ≤ max_line_bytes = omega arith in
    ih (ws ++ one_word w) [] le ∙ line_shift k ws w (ws ++ one_word w) [] (line_length cs) c cs lt
    (λ x. ap (λ (u : Bool). elim u [ true ↦ words_on (ws ++ one_word w) [] x | false ↦ words_on ws (w ++ c ∷ []) x ]) (sym d))
line_when k ws w c cs h false true false a b d ih =
    let lt : k < max_line_bytes = below k b in
    let le : k + 1 ≤ max_line_bytes = omega arith in
    ih ws (w ++ c ∷ []) le ∙ line_shift k ws w ws (w ++ c ∷ []) (line_length cs) c cs lt
    (λ x. ap (λ (u : Bool). elim u [ true ↦ words_on (ws ++ one_word w) [] x | false ↦ words_on ws (w ++ c ∷ []) x ]) (sym d))

line_on_is : (k : ℕ) (ws : List Bytes) (w text : Bytes) → k ≤ max_line_bytes → line_on k ws w text ≡ line_by k ws w (line_length text) text
line_on_is k ws w [] h = ap (λ (t : Bool). cond t (Faulty InlineTooLong (drop (max_line_bytes - k) [])) Short) (sym (few k h))
line_on_is k ws w (c ∷ cs) h = line_when k ws w c cs h (c == 10) (nat_lt k max_line_bytes) (c == 32) refl refl refl (λ us v le. line_on_is (k + 1) us v cs le)

line_of_is : (n : ℕ) (text : Bytes) → line_of n text ≡ line_by 0 [] [] n text
line_of_is n text =
    let none : n ≡ 0 + n = omega arith in
    ap (λ (ws : Message). cond (nat_lt max_line_bytes n) (Faulty InlineTooLong (drop max_line_bytes text)) (cond (nat_lt n (length text)) (Whole ws (drop (n + 1) text)) Short)) (sym (line_words (take n text)))
    ∙ ap (λ (i : ℕ). cond (nat_lt max_line_bytes i) (Faulty InlineTooLong (drop max_line_bytes text)) (cond (nat_lt n (length text)) (Whole (words_on [] [] (take n text)) (drop (n + 1) text)) Short)) none

pub line_at_is : (text : Bytes) → line_at text ≡ line_on 0 [] [] text
line_at_is text = line_of_is (line_length text) text ∙ sym (line_on_is 0 [] [] text (omega arith))
