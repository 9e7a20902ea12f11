-- What the grammar derives is read by the definition's reader, with as many turns as it takes.
use Rattle.std.proofs.Common.{◌≡◌, ◌==◌, ◌+◌, ◌*◌, ◌≤◌, ◌<◌, ℕ, zero, suc, true, false, cond, List, [], ◌∷◌, length, Some, None, Ok, refl, ap, sym, ◌∙◌, subst, arith}
use Rattle.std.proofs.lemmas.Bool.{eq-eqb, false≢true}
use Rattle.std.proofs.lemmas.Bool.Decides.{nat_tests}
use Rattle.vs_defs.specs.Bytes.{Bytes}
use Rattle.vs_defs.specs.AttributeField.{Single}
use Rattle.vs_defs.specs.Filter as filter
use Rattle.vs_defs.specs.Filter.{Operator, Expr}
use Rattle.vs_defs.specs.FilterText as text
use Rattle.vs_defs.specs.FilterText.{Tokens, Rule, or_rule, and_rule, not_rule, comparison_rule, sum_rule, term_rule, factor_rule, tighter, rule_number, operator_at, then_parse, closing, next, rest_of, literal_at, literals_within, is_comma, is_close_list, is_close, expr_within, more_within, whole, whole_by, filter_of, tokens_of}
use Rattle.vs_filter.specs.Grammar as grammar
use Rattle.vs_filter.specs.Grammar.{Between, Literal, Literals, Spells, Joined, joins, Derived}
use Rattle.vs_filter.proofs.ReadIsDerived.{after_literal, list_of, further, compared}

-- ---- what is derived takes a token at least

between_takes : {rule : Rule} {op : Operator} {s r : Tokens} → Between rule op s r → length s ≡ suc (length r)
between_takes (grammar.operator rule at op e) = refl
between_takes (grammar.minus at) = refl

literal_takes : {a : Single} {s r : Tokens} → Literal a s r → length r < length s
literal_takes (grammar.numeral_literal at n) = omega arith
literal_takes (grammar.negative_literal at at' n) = omega arith
literal_takes (grammar.text_literal at n) = omega arith
literal_takes (grammar.truth_literal at b) = omega arith

literals_take : {items : List Single} {s r : Tokens} → Literals items s r → length r < length s
literals_take (grammar.last l) = literal_takes l
literals_take (grammar.more {t = t} at l h) =
    let first = literal_takes l in
    let others = literals_take h in
    omega (arith, first, others)

mutual
  takes : {rule : Rule} {d : ℕ} {e : Expr} {s r : Tokens} → Spells rule d e s r → length r < length s
  takes (grammar.chain q j) = joined_takes j
  takes (grammar.negation at h) = let a = takes h in omega (arith, a)
  takes (grammar.plain h) = takes h
  takes (grammar.alone h) = takes h
  takes (grammar.compared h o g) =
      let a = takes h in
      let b = between_takes o in
      let c = takes g in
      omega (arith, a, b, c)
  takes (grammar.numeral at n) = omega arith
  takes (grammar.quoted at n) = omega arith
  takes (grammar.truth at b) = omega arith
  takes (grammar.selector at n) = omega arith
  takes (grammar.no_items at at') = omega arith
  takes (grammar.items at at' l) = let a = literals_take l in omega (arith, a)
  takes (grammar.group at at' h) = let a = takes h in omega (arith, a)
  takes (grammar.negative at h) = let a = takes h in omega (arith, a)

  joined_takes : {rule : Rule} {d : ℕ} {e : Expr} {s r : Tokens} → Joined rule d e s r → length r < length s
  joined_takes (grammar.single h) = takes h
  joined_takes (grammar.joined j o h) =
      let a = joined_takes j in
      let b = between_takes o in
      let c = takes h in
      omega (arith, a, b, c)

-- ---- what follows an expression: no operator of its rule, nor of a tighter one

abbrev Free : ℕ → Tokens → Type 0
Free n s = (rule : Rule) → n ≤ rule_number rule → operator_at rule s ≡ None

tighter_free : {n m : ℕ} (s : Tokens) → n ≤ m → Free n s → Free m s
tighter_free s h f = λ rule le. f rule (omega (arith, h, le))

other_test : (m n : ℕ) → suc m ≤ n → (m == n) ≡ false
other_test m n h = grind (arith, nat_tests)

-- an operator in front is one of its rule alone
between_is : {rule : Rule} {op : Operator} {s r : Tokens} → Between rule op s r → (operator_at rule s ≡ Some op) × (rest_of s ≡ r)
between_is (grammar.operator rule at op e) = (ap (λ v. cond v (Some op) None) (ap (λ q. rule_number q == rule_number rule) e ∙ eq-eqb (rule_number rule) (rule_number rule) refl), refl)
between_is (grammar.minus at) = (refl, refl)

between_free : {rule : Rule} {op : Operator} {s r : Tokens} → Between rule op s r → Free (suc (rule_number rule)) s
between_free (grammar.operator rule at op e) = λ q le. ap (λ v. cond v (Some op) None) (ap (λ p. rule_number p == rule_number q) e ∙ other_test (rule_number rule) (rule_number q) le)
between_free (grammar.minus at) = λ q le. ap (λ v. cond v (Some filter.Subtract) None) (other_test 4 (rule_number q) le)

few_rules : (rule : Rule) → rule_number rule ≤ 6
few_rules or_rule = omega arith
few_rules and_rule = omega arith
few_rules not_rule = omega arith
few_rules comparison_rule = omega arith
few_rules sum_rule = omega arith
few_rules term_rule = omega arith
few_rules factor_rule = omega arith

next_number : (rule : Rule) → joins rule ≡ true → rule_number (tighter rule) ≡ suc (rule_number rule)
next_number or_rule e = refl
next_number and_rule e = refl
next_number sum_rule e = refl
next_number term_rule e = refl
next_number rule e = absurd (false≢true e)

-- ---- lists

literal_read : {a : Single} {s r : Tokens} → Literal a s r → literal_at s ≡ Ok (a, r)
literal_read (grammar.numeral_literal at n) = refl
literal_read (grammar.negative_literal at at' n) = refl
literal_read (grammar.text_literal at n) = refl
literal_read (grammar.truth_literal at b) = refl

literals_read : {all : List Single} {s r : Tokens} → Literals all s r → (at : ℕ) (u : Tokens) → r ≡ (at, text.CloseList) ∷ u → (k : ℕ) → length s ≤ length u + suc k → literals_within k s ≡ Ok (all, u)
literals_read (grammar.last {a} {s} {r} l) at u e zero h =
    let b = literal_takes l in
    let c : length r ≡ suc (length u) = ap length e in
    absurd (omega (arith, b, c, h))
literals_read (grammar.last {a} {s} {r} l) at u e (suc k) h = ap (λ p. then_parse p λ b t. after_literal k b t (is_comma (next t))) (literal_read l) ∙ ap (λ t. after_literal k a t (is_comma (next t))) e
literals_read (grammar.more {a = a} {items = all} {r = r} at' l g) at u e zero h =
    let b = literal_takes l in
    let c = literals_take g in
    let i : length r ≡ suc (length u) = ap length e in
    absurd (omega (arith, b, c, i, h))
literals_read (grammar.more {a = a} {items = all} {r = r} at' l g) at u e (suc k) h =
    let b = literal_takes l in
    ap (λ p. then_parse p λ b t. after_literal k b t (is_comma (next t))) (literal_read l)
    ∙ ap (λ p. then_parse p λ items after. Ok (a ∷ items, after)) (literals_read g at u e k (omega (arith, b, h)))

literal_open : {a : Single} {s r : Tokens} → Literal a s r → is_close_list (next s) ≡ false
literal_open (grammar.numeral_literal at n) = refl
literal_open (grammar.negative_literal at at' n) = refl
literal_open (grammar.text_literal at n) = refl
literal_open (grammar.truth_literal at b) = refl

literals_open : {all : List Single} {s r : Tokens} → Literals all s r → is_close_list (next s) ≡ false
literals_open (grammar.last l) = literal_open l
literals_open (grammar.more at l h) = literal_open l

-- ---- one step of the reader

more_end : (j : ℕ) (rule : Rule) (d : ℕ) (e : Expr) (r : Tokens) → operator_at rule r ≡ None → 1 ≤ j → more_within j rule d e r ≡ Ok (e, r)
more_end zero rule d e r o h = absurd (omega (arith, h))
more_end (suc j) rule d e r o h = ap (further j d rule e r) o

more_step : (j : ℕ) (rule : Rule) (d : ℕ) (a b : Expr) (t u r : Tokens) (op : Operator) → (operator_at rule t ≡ Some op) × (rest_of t ≡ u) → expr_within j (tighter rule) d u ≡ Ok (b, r)
    → more_within (suc j) rule d a t ≡ more_within j rule d (filter.Binary op a b) r
more_step j rule d a b t u r op o q =
    ap (further j d rule a t) o.0
    ∙ ap (λ v. then_parse (expr_within j (tighter rule) d v) λ e after. more_within j rule d (filter.Binary op a e) after) o.1
    ∙ ap (λ p. then_parse p λ e after. more_within j rule d (filter.Binary op a e) after) q

chain_start : (rule : Rule) → joins rule ≡ true → (k d : ℕ) (s : Tokens) → expr_within (suc k) rule d s ≡ then_parse (expr_within k (tighter rule) d s) (λ a more. more_within k rule d a more)
chain_start or_rule e k d s = refl
chain_start and_rule e k d s = refl
chain_start sum_rule e k d s = refl
chain_start term_rule e k d s = refl
chain_start rule e k d s = absurd (false≢true e)

plain_start : (k d : ℕ) (s : Tokens) → (next s ≡ text.Not → ⊥) → expr_within (suc k) not_rule d s ≡ expr_within k comparison_rule d s
plain_start k d [] n = refl
plain_start k d ((at, text.Not) ∷ s) n = absurd (n refl)
plain_start k d ((at, t) ∷ s) n = refl

mutual
  no_not : {rule : Rule} {d : ℕ} {e : Expr} {s r : Tokens} → Spells rule d e s r → 3 ≤ rule_number rule → next s ≡ text.Not → ⊥
  no_not (grammar.chain q j) n e = no_not_joined j q n e
  no_not (grammar.negation at h) n e = omega (arith, n)
  no_not (grammar.plain h) n e = omega (arith, n)
  no_not (grammar.alone h) n e = no_not h (omega arith) e
  no_not (grammar.compared h o g) n e = no_not h (omega arith) e
  no_not (grammar.numeral at m) n e = cc
  no_not (grammar.quoted at m) n e = cc
  no_not (grammar.truth at b) n e = cc
  no_not (grammar.selector at m) n e = cc
  no_not (grammar.no_items at at') n e = cc
  no_not (grammar.items at at' l) n e = cc
  no_not (grammar.group at at' h) n e = cc
  no_not (grammar.negative at h) n e = cc

  no_not_joined : {rule : Rule} {d : ℕ} {e : Expr} {s r : Tokens} → Joined rule d e s r → joins rule ≡ true → 3 ≤ rule_number rule → next s ≡ text.Not → ⊥
  no_not_joined (grammar.single {rule} h) q n e =
      let m = next_number rule q in
      no_not h (omega (arith, m, n)) e
  no_not_joined (grammar.joined j o h) q n e = no_not_joined j q n e

-- ---- turns enough for an expression between two places

abbrev Enough : ℕ → Rule → Tokens → Tokens → Type 0
Enough k rule s r = 8 * length s + 8 ≤ 8 * length r + k + rule_number rule

-- what is read up to the last operand, and the turns that are left
abbrev IsLeft : ℕ → Rule → ℕ → Expr → Tokens → Tokens → Type 0
IsLeft k rule d e s r = (j : ℕ) × (k + length r ≤ j + length s) × (expr_within (suc k) rule d s ≡ more_within j rule d e r)

joined_left : (k : ℕ) (rule : Rule) (d : ℕ) (op : Operator) (e f : Expr) (s t u r : Tokens) → length t < length s → length t ≡ suc (length u) → length r < length u → Enough (suc k) rule s r
    → (operator_at rule t ≡ Some op) × (rest_of t ≡ u) → ((i : ℕ) → 8 * length u + 8 ≤ 8 * length r + i + suc (rule_number rule) → expr_within i (tighter rule) d u ≡ Ok (f, r))
    → IsLeft k rule d e s t → IsLeft k rule d (filter.Binary op e f) s r
joined_left k rule d op e f s t u r a b c h o g (zero, le, is) =
    let m = few_rules rule in
    absurd (omega (arith, a, b, c, h, le, m))
joined_left k rule d op e f s t u r a b c h o g (suc i, le, is) = (i, omega (arith, a, b, c, le), is ∙ more_step i rule d e f t u r op o (g i (omega (arith, a, b, c, h, le))))

mutual
  spelled_read : (k : ℕ) {rule : Rule} {d : ℕ} {e : Expr} {s r : Tokens} → Spells rule d e s r → Free (rule_number rule) r → Enough k rule s r → expr_within k rule d s ≡ Ok (e, r)
  spelled_read zero {rule} h f b =
      let a = takes h in
      let m = few_rules rule in
      absurd (omega (arith, a, b, m))
  spelled_read (suc k) (grammar.chain {rule} {d} {e} {s} {r} q j) f b =
      let c = chain_read k j q (tighter_free r (omega arith) f) b in
      let a = joined_takes j in
      let m = few_rules rule in
      c.2 ∙ more_end c.0 rule d e r (f rule (omega arith)) (omega (arith, a, b, m, c.1))
  spelled_read (suc k) (grammar.negation at h) f b = ap (λ p. then_parse p λ a after. Ok (filter.Not a, after)) (spelled_read k h f (omega (arith, b)))
  spelled_read (suc k) (grammar.plain {d} {e} {s} {r} h) f b = plain_start k d s (no_not h (omega arith)) ∙ spelled_read k h (tighter_free r (omega arith) f) (omega (arith, b))
  spelled_read (suc k) (grammar.alone {d} {e} {s} {r} h) f b =
      ap (λ p. then_parse p λ a more. compared k d a more (operator_at comparison_rule more)) (spelled_read k h (tighter_free r (omega arith) f) (omega (arith, b)))
      ∙ ap (compared k d e r) (f comparison_rule (omega arith))
  spelled_read (suc k) (grammar.compared {d} {op} {e} {f = e'} {s} {t} {u} {r} h o g) f b =
      let first = takes h in
      let sign = between_takes o in
      let second = takes g in
      let is = between_is o in
      ap (λ p. then_parse p λ a more. compared k d a more (operator_at comparison_rule more)) (spelled_read k h (between_free o) (omega (arith, b, first, sign, second)))
      ∙ ap (compared k d e t) is.0
      ∙ ap (λ v. then_parse (expr_within k sum_rule d v) λ c after. Ok (filter.Binary op e c, after)) is.1
      ∙ ap (λ p. then_parse p λ c after. Ok (filter.Binary op e c, after)) (spelled_read k g (tighter_free r (omega arith) f) (omega (arith, b, first, sign, second)))
  spelled_read (suc k) (grammar.numeral at n) f b = refl
  spelled_read (suc k) (grammar.quoted at n) f b = refl
  spelled_read (suc k) (grammar.truth at t) f b = refl
  spelled_read (suc k) (grammar.selector at n) f b = refl
  spelled_read (suc k) (grammar.no_items at at') f b = refl
  spelled_read (suc k) (grammar.items {d} {all} {s} {r} at at' l) f b =
      let a = literals_take l in
      ap (list_of k s) (literals_open l) ∙ ap (λ p. then_parse p λ items after. Ok (filter.Items items, after)) (literals_read l at' r refl k (omega (arith, a, b)))
  spelled_read (suc k) (grammar.group at at' h) f b = ap (λ p. then_parse p λ a after. closing (is_close (next after)) a after) (spelled_read k h (λ rule le. refl) (omega (arith, b)))
  spelled_read (suc k) (grammar.negative at h) f b = ap (λ p. then_parse p λ a after. Ok (filter.Negative a, after)) (spelled_read k h f (omega (arith, b)))

  chain_read : (k : ℕ) {rule : Rule} {d : ℕ} {e : Expr} {s r : Tokens} → Joined rule d e s r → joins rule ≡ true → Free (suc (rule_number rule)) r → Enough (suc k) rule s r → IsLeft k rule d e s r
  chain_read k (grammar.single {rule} {d} {e} {s} {r} h) q f b =
      let a = takes h in
      let m = next_number rule q in
      (k, omega (arith, a), chain_start rule q k d s ∙ ap (λ p. then_parse p (λ x more. more_within k rule d x more)) (spelled_read k h (subst (λ n. Free n r) (sym m) f) (omega (arith, b, m))))
  chain_read k (grammar.joined {rule} {d} {op} {e} {f = e'} {s} {t} {u} {r} j o h) q f b =
      let first = joined_takes j in
      let sign = between_takes o in
      let second = takes h in
      let m = next_number rule q in
      joined_left k rule d op e e' s t u r first sign second b (between_is o) (λ i enough. spelled_read i h (subst (λ n. Free n r) (sym m) f) (omega (arith, enough, m)))
      (chain_read k j q (between_free o) (omega (arith, b, sign, second)))

-- ---- whole filters

end_free : (s : Tokens) → next s ≡ text.End → Free 0 s
end_free [] e = λ rule le. refl
end_free ((at, t) ∷ s) e = λ rule le. ap (λ n. operator_at rule ((at, n) ∷ s)) e

pub derived_is_read : (written : Bytes) (e : Expr) → Derived (tokens_of written) e → filter_of written ≡ Ok e
derived_is_read written e d =
    let ts = tokens_of written in
    ap whole (spelled_read (8 * length ts + 8) d.spelled (end_free d.rest d.ended) (omega arith)) ∙ ap (λ t. whole_by t e d.rest) d.ended
