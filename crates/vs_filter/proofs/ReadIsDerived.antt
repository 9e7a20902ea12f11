-- What the definition's reader reads is derived by the grammar.
use Rattle.std.proofs.Common.{◌≡◌, ◌==◌, ◌+◌, ◌*◌, length, ℕ, zero, suc, Bool, true, false, cond, List, [], ◌∷◌, Option, Some, None, Ok, Err, refl, ap, sym, subst}
use Rattle.std.proofs.lemmas.Bool.{false≢true}
use Rattle.vs_defs.specs.Bytes.{Bytes}
use Rattle.vs_defs.specs.AttributeField.{Single}
use Rattle.vs_defs.specs.Filter as filter
use Rattle.vs_defs.specs.Filter.{Operator, Expr}
use Rattle.vs_defs.specs.FilterText as text
use Rattle.vs_defs.specs.FilterText.{Token, Tokens, Parse, Rule, or_rule, and_rule, not_rule, comparison_rule, sum_rule, term_rule, factor_rule, tighter, rule_of, rule_number, operator_at, of_rule, then_parse, closing, deeper, next, rest_of, after_minus, literal_at, literals_within, list_at, is_comma, is_close_list, is_close, expr_within, more_within, whole, whole_by, filter_of, tokens_of}
use Rattle.vs_filter.specs.Grammar as grammar
use Rattle.vs_filter.specs.Grammar.{Between, Literal, Literals, Spells, Joined, joins, Derived}

-- ---- what a reading went through

pub ok_is : {A : Type 0} (r : Parse A) (p q : A × Tokens) → r ≡ Ok p → r ≡ Ok q → p ≡ q
ok_is r p q e f = cc

then_ok : {A B : Type 0} (p : Parse A) (f : A → Tokens → Parse B) (x : B × Tokens) → then_parse p f ≡ Ok x → (a : A) × (t : Tokens) × (p ≡ Ok (a, t)) × (f a t ≡ Ok x)
then_ok (Ok p) f x h = (p.0, p.1, refl, h)
then_ok (Err e) f x h = absurd (cc)

deeper_ok : {A : Type 0} (d : ℕ) (ts : Tokens) (f : ℕ → Parse A) (x : A × Tokens) → deeper d ts f ≡ Ok x → (i : ℕ) × (d ≡ suc i) × (f i ≡ Ok x)
deeper_ok zero ts f x h = absurd (cc)
deeper_ok (suc d) ts f x h = (d, refl, h)

closing_ok : {A : Type 0} (fits : Bool) (a : A) (ts : Tokens) (x : A × Tokens) → closing fits a ts ≡ Ok x → (fits ≡ true) × ((a, rest_of ts) ≡ x)
closing_ok true a ts x h = (refl, ok_is _ _ _ refl h)
closing_ok false a ts x h = absurd (cc)

-- ---- what the reader does behind a test

abbrev pub after_literal : ℕ → Single → Tokens → Bool → Parse (List Single)
after_literal k a t v = elim v [ true ↦ then_parse (literals_within k (rest_of t)) λ items after. Ok (a ∷ items, after) | false ↦ closing (is_close_list (next t)) (a ∷ []) t ]

abbrev pub list_of : ℕ → Tokens → Bool → Parse Expr
list_of k s v = elim v [ true ↦ Ok (filter.Items [], rest_of s) | false ↦ then_parse (literals_within k s) λ items after. Ok (filter.Items items, after) ]

abbrev pub further : ℕ → ℕ → Rule → Expr → Tokens → Option Operator → Parse Expr
further k d rule a t o = elim o [
  | Some op ↦ then_parse (expr_within k (tighter rule) d (rest_of t)) λ b after. more_within k rule d (filter.Binary op a b) after
  | None ↦ Ok (a, t)
]

abbrev pub compared : ℕ → ℕ → Expr → Tokens → Option Operator → Parse Expr
compared k d a t o = elim o [
  | Some op ↦ then_parse (expr_within k sum_rule d (rest_of t)) λ b after. Ok (filter.Binary op a b, after)
  | None ↦ Ok (a, t)
]

-- ---- single tokens

pub same_rule : (q r : Rule) → (rule_number q == rule_number r) ≡ true → q ≡ r
same_rule or_rule or_rule e = refl
same_rule and_rule and_rule e = refl
same_rule not_rule not_rule e = refl
same_rule comparison_rule comparison_rule e = refl
same_rule sum_rule sum_rule e = refl
same_rule term_rule term_rule e = refl
same_rule factor_rule factor_rule e = refl
same_rule q r e = absurd (false≢true e)

by_number : (rule : Rule) (o op : Operator) (v : Bool) → (rule_number (rule_of o) == rule_number rule) ≡ v → cond v (Some o) None ≡ Some op → (o ≡ op) × (rule_of o ≡ rule)
by_number rule o op true e h = (cc, same_rule (rule_of o) rule e)
by_number rule o op false e h = absurd (cc)

between : (rule : Rule) (op : Operator) (s : Tokens) → operator_at rule s ≡ Some op → Between rule op s (rest_of s)
between rule op [] h = absurd (cc)
between rule op ((at, text.Between o) ∷ s) h =
    let p : (o ≡ op) × (rule_of o ≡ rule) = by_number rule o op (rule_number (rule_of o) == rule_number rule) refl h in
    subst (λ q. Between rule q ((at, text.Between o) ∷ s) s) p.0 (grammar.operator rule at o p.1)
between rule op ((at, text.Minus) ∷ s) h =
    let p : (filter.Subtract ≡ op) × (sum_rule ≡ rule) = by_number rule filter.Subtract op (rule_number sum_rule == rule_number rule) refl h in
    subst (λ q. Between rule q ((at, text.Minus) ∷ s) s) p.0 (subst (λ q. Between q filter.Subtract ((at, text.Minus) ∷ s) s) p.1 (grammar.minus at))
between rule op ((at, t) ∷ s) h = absurd (cc)

comma_is : (s : Tokens) → is_comma (next s) ≡ true → (at : ℕ) × (s ≡ (at, text.Comma) ∷ rest_of s)
comma_is [] e = absurd (false≢true e)
comma_is ((at, text.Comma) ∷ s) e = (at, refl)
comma_is ((at, t) ∷ s) e = absurd (false≢true e)

close_list_is : (s : Tokens) → is_close_list (next s) ≡ true → (at : ℕ) × (s ≡ (at, text.CloseList) ∷ rest_of s)
close_list_is [] e = absurd (false≢true e)
close_list_is ((at, text.CloseList) ∷ s) e = (at, refl)
close_list_is ((at, t) ∷ s) e = absurd (false≢true e)

close_is : (s : Tokens) → is_close (next s) ≡ true → (at : ℕ) × (s ≡ (at, text.Close) ∷ rest_of s)
close_is [] e = absurd (false≢true e)
close_is ((at, text.Close) ∷ s) e = (at, refl)
close_is ((at, t) ∷ s) e = absurd (false≢true e)

-- ---- lists

after_minus_ok : (at : ℕ) (s : Tokens) (x : Single × Tokens) → after_minus (next s) s ≡ Ok x → Literal x.0 ((at, text.Minus) ∷ s) x.1
after_minus_ok at [] x h = absurd (cc)
after_minus_ok at ((at', text.Numeral n) ∷ s) x h = subst (λ q. Literal q.0 ((at, text.Minus) ∷ (at', text.Numeral n) ∷ s) q.1) (ok_is _ _ _ refl h) (grammar.negative_literal at at' n)
after_minus_ok at ((at', t) ∷ s) x h = absurd (cc)

literal_ok : (s : Tokens) (x : Single × Tokens) → literal_at s ≡ Ok x → Literal x.0 s x.1
literal_ok [] x h = absurd (cc)
literal_ok ((at, text.Numeral n) ∷ s) x h = subst (λ q. Literal q.0 ((at, text.Numeral n) ∷ s) q.1) (ok_is _ _ _ refl h) (grammar.numeral_literal at n)
literal_ok ((at, text.Quoted n) ∷ s) x h = subst (λ q. Literal q.0 ((at, text.Quoted n) ∷ s) q.1) (ok_is _ _ _ refl h) (grammar.text_literal at n)
literal_ok ((at, text.Truth b) ∷ s) x h = subst (λ q. Literal q.0 ((at, text.Truth b) ∷ s) q.1) (ok_is _ _ _ refl h) (grammar.truth_literal at b)
literal_ok ((at, text.Minus) ∷ s) x h = after_minus_ok at s x h
literal_ok ((at, t) ∷ s) x h = absurd (cc)

abbrev Listed : Tokens → List Single × Tokens → Type 0
Listed s x = (at : ℕ) × Literals x.0 s ((at, text.CloseList) ∷ x.1)

literals_by : (k : ℕ) (a : Single) (s t : Tokens) (x : List Single × Tokens) → ((u : Tokens) (y : List Single × Tokens) → literals_within k u ≡ Ok y → Listed u y) → (v : Bool) → is_comma (next t) ≡ v → Literal a s t
    → after_literal k a t v ≡ Ok x → Listed s x
literals_by k a s t x f true e l h =
    let p = then_ok (literals_within k (rest_of t)) (λ items after. Ok (a ∷ items, after)) x h in
    let rest : Listed (rest_of t) (p.0, p.1) = f (rest_of t) (p.0, p.1) p.2 in
    let c = comma_is t e in
    subst (Listed s) (ok_is _ _ _ refl p.3) (rest.0, grammar.more c.0 (subst (Literal a s) c.1 l) rest.1)
literals_by k a s t x f false e l h =
    let p = closing_ok (is_close_list (next t)) (a ∷ []) t x h in
    let c = close_list_is t p.0 in
    subst (Listed s) p.1 (c.0, grammar.last (subst (Literal a s) c.1 l))

literals_ok : (k : ℕ) (s : Tokens) (x : List Single × Tokens) → literals_within k s ≡ Ok x → Listed s x
literals_ok zero s x h = absurd (cc)
literals_ok (suc k) s x h =
    let p = then_ok (literal_at s) (λ a more. after_literal k a more (is_comma (next more))) x h in
    literals_by k p.0 s p.1 x (literals_ok k) (is_comma (next p.1)) refl (literal_ok s (p.0, p.1) p.2) p.3

list_by : (k d at : ℕ) (s : Tokens) (x : Expr × Tokens) (v : Bool) → is_close_list (next s) ≡ v
    → list_of k s v ≡ Ok x → Spells factor_rule d x.0 ((at, text.OpenList) ∷ s) x.1
list_by k d at s x true e h =
    let c = close_list_is s e in
    subst (λ q. Spells factor_rule d q.0 ((at, text.OpenList) ∷ s) q.1) (ok_is _ _ _ refl h)
    (subst (λ q. Spells factor_rule d (filter.Items []) ((at, text.OpenList) ∷ q) (rest_of s)) (sym c.1) (grammar.no_items at c.0))
list_by k d at s x false e h =
    let p = then_ok (literals_within k s) (λ items after. Ok (filter.Items items, after)) x h in
    let l : Listed s (p.0, p.1) = literals_ok k s (p.0, p.1) p.2 in
    subst (λ q. Spells factor_rule d q.0 ((at, text.OpenList) ∷ s) q.1) (ok_is _ _ _ refl p.3) (grammar.items at l.0 l.1)

-- ---- expressions: what is read with fewer turns is derived

abbrev ExprDerived : ℕ → Type 0
ExprDerived k = (rule : Rule) (d : ℕ) (s : Tokens) (x : Expr × Tokens) → expr_within k rule d s ≡ Ok x → Spells rule d x.0 s x.1

abbrev MoreDerived : ℕ → Type 0
MoreDerived k = (rule : Rule) (d : ℕ) (a : Expr) (s t : Tokens) (x : Expr × Tokens) → Joined rule d a s t → more_within k rule d a t ≡ Ok x → Joined rule d x.0 s x.1

more_by : (k : ℕ) → ExprDerived k → MoreDerived k → (rule : Rule) (d : ℕ) (a : Expr) (s t : Tokens) (x : Expr × Tokens) (o : Option Operator) → operator_at rule t ≡ o → Joined rule d a s t
    → further k d rule a t o ≡ Ok x → Joined rule d x.0 s x.1
more_by k f g rule d a s t x None e j h = subst (λ q. Joined rule d q.0 s q.1) (ok_is _ _ _ refl h) j
more_by k f g rule d a s t x (Some op) e j h =
    let p = then_ok (expr_within k (tighter rule) d (rest_of t)) (λ b after. more_within k rule d (filter.Binary op a b) after) x h in
    g rule d (filter.Binary op a p.0) s p.1 x (grammar.joined j (between rule op t e) (f (tighter rule) d (rest_of t) (p.0, p.1) p.2)) p.3

chain_ok : (k : ℕ) → ExprDerived k → MoreDerived k → (rule : Rule) → joins rule ≡ true → (d : ℕ) (s : Tokens) (x : Expr × Tokens)
    → then_parse (expr_within k (tighter rule) d s) (λ a more. more_within k rule d a more) ≡ Ok x → Spells rule d x.0 s x.1
chain_ok k f g rule q d s x h =
    let p = then_ok (expr_within k (tighter rule) d s) (λ a more. more_within k rule d a more) x h in
    grammar.chain q (g rule d p.0 s p.1 x (grammar.single (f (tighter rule) d s (p.0, p.1) p.2)) p.3)

compared_by : (k : ℕ) → ExprDerived k → (d : ℕ) (a : Expr) (s t : Tokens) (x : Expr × Tokens) (o : Option Operator) → operator_at comparison_rule t ≡ o → Spells sum_rule d a s t
    → compared k d a t o ≡ Ok x → Spells comparison_rule d x.0 s x.1
compared_by k f d a s t x None e l h = subst (λ q. Spells comparison_rule d q.0 s q.1) (ok_is _ _ _ refl h) (grammar.alone l)
compared_by k f d a s t x (Some op) e l h =
    let p = then_ok (expr_within k sum_rule d (rest_of t)) (λ b after. Ok (filter.Binary op a b, after)) x h in
    subst (λ q. Spells comparison_rule d q.0 s q.1) (ok_is _ _ _ refl p.3) (grammar.compared l (between comparison_rule op t e) (f sum_rule d (rest_of t) (p.0, p.1) p.2))

comparison_ok : (k : ℕ) → ExprDerived k → (d : ℕ) (s : Tokens) (x : Expr × Tokens) → expr_within (suc k) comparison_rule d s ≡ Ok x → Spells comparison_rule d x.0 s x.1
comparison_ok k f d s x h =
    let p = then_ok (expr_within k sum_rule d s) (λ a more. compared k d a more (operator_at comparison_rule more)) x h in
    compared_by k f d p.0 s p.1 x (operator_at comparison_rule p.1) refl (f sum_rule d s (p.0, p.1) p.2) p.3

not_ok : (k : ℕ) → ExprDerived k → (d : ℕ) (s : Tokens) (x : Expr × Tokens) → expr_within (suc k) not_rule d s ≡ Ok x → Spells not_rule d x.0 s x.1
not_ok k f d [] x h = grammar.plain (f comparison_rule d [] x h)
not_ok k f d ((at, text.Not) ∷ s) x h =
    let q = deeper_ok d ((at, text.Not) ∷ s) (λ e. then_parse (expr_within k not_rule e s) λ a after. Ok (filter.Not a, after)) x h in
    let p = then_ok (expr_within k not_rule q.0 s) (λ a after. Ok (filter.Not a, after)) x q.2 in
    subst (λ i. Spells not_rule i x.0 ((at, text.Not) ∷ s) x.1) (sym q.1)
    (subst (λ y. Spells not_rule (suc q.0) y.0 ((at, text.Not) ∷ s) y.1) (ok_is _ _ _ refl p.3) (grammar.negation at (f not_rule q.0 s (p.0, p.1) p.2)))
not_ok k f d ((at, t) ∷ s) x h = grammar.plain (f comparison_rule d ((at, t) ∷ s) x h)

group_ok : (k : ℕ) → ExprDerived k → (d at : ℕ) (s : Tokens) (x : Expr × Tokens)
    → deeper d ((at, text.Open) ∷ s) (λ e. then_parse (expr_within k or_rule e s) λ a after. closing (is_close (next after)) a after) ≡ Ok x → Spells factor_rule d x.0 ((at, text.Open) ∷ s) x.1
group_ok k f d at s x h =
    let q = deeper_ok d ((at, text.Open) ∷ s) (λ e. then_parse (expr_within k or_rule e s) λ a after. closing (is_close (next after)) a after) x h in
    let p = then_ok (expr_within k or_rule q.0 s) (λ a after. closing (is_close (next after)) a after) x q.2 in
    let c = closing_ok (is_close (next p.1)) p.0 p.1 x p.3 in
    let e = close_is p.1 c.0 in
    let inner : Spells or_rule q.0 p.0 s ((e.0, text.Close) ∷ rest_of p.1) = subst (Spells or_rule q.0 p.0 s) e.1 (f or_rule q.0 s (p.0, p.1) p.2) in
    subst (λ i. Spells factor_rule i x.0 ((at, text.Open) ∷ s) x.1) (sym q.1)
    (subst (λ y. Spells factor_rule (suc q.0) y.0 ((at, text.Open) ∷ s) y.1) c.1 (grammar.group at e.0 inner))

negative_ok : (k : ℕ) → ExprDerived k → (d at : ℕ) (s : Tokens) (x : Expr × Tokens)
    → deeper d ((at, text.Minus) ∷ s) (λ e. then_parse (expr_within k factor_rule e s) λ a after. Ok (filter.Negative a, after)) ≡ Ok x → Spells factor_rule d x.0 ((at, text.Minus) ∷ s) x.1
negative_ok k f d at s x h =
    let q = deeper_ok d ((at, text.Minus) ∷ s) (λ e. then_parse (expr_within k factor_rule e s) λ a after. Ok (filter.Negative a, after)) x h in
    let p = then_ok (expr_within k factor_rule q.0 s) (λ a after. Ok (filter.Negative a, after)) x q.2 in
    subst (λ i. Spells factor_rule i x.0 ((at, text.Minus) ∷ s) x.1) (sym q.1)
    (subst (λ y. Spells factor_rule (suc q.0) y.0 ((at, text.Minus) ∷ s) y.1) (ok_is _ _ _ refl p.3) (grammar.negative at (f factor_rule q.0 s (p.0, p.1) p.2)))

factor_ok : (k : ℕ) → ExprDerived k → (d : ℕ) (s : Tokens) (x : Expr × Tokens) → expr_within (suc k) factor_rule d s ≡ Ok x → Spells factor_rule d x.0 s x.1
factor_ok k f d [] x h = absurd (cc)
factor_ok k f d ((at, text.Numeral n) ∷ s) x h = subst (λ q. Spells factor_rule d q.0 ((at, text.Numeral n) ∷ s) q.1) (ok_is _ _ _ refl h) (grammar.numeral at n)
factor_ok k f d ((at, text.Quoted n) ∷ s) x h = subst (λ q. Spells factor_rule d q.0 ((at, text.Quoted n) ∷ s) q.1) (ok_is _ _ _ refl h) (grammar.quoted at n)
factor_ok k f d ((at, text.Truth b) ∷ s) x h = subst (λ q. Spells factor_rule d q.0 ((at, text.Truth b) ∷ s) q.1) (ok_is _ _ _ refl h) (grammar.truth at b)
factor_ok k f d ((at, text.Selector n) ∷ s) x h = subst (λ q. Spells factor_rule d q.0 ((at, text.Selector n) ∷ s) q.1) (ok_is _ _ _ refl h) (grammar.selector at n)
factor_ok k f d ((at, text.OpenList) ∷ s) x h = list_by k d at s x (is_close_list (next s)) refl h
factor_ok k f d ((at, text.Open) ∷ s) x h = group_ok k f d at s x h
factor_ok k f d ((at, text.Minus) ∷ s) x h = negative_ok k f d at s x h
factor_ok k f d ((at, t) ∷ s) x h = absurd (cc)

expr_ok : (k : ℕ) → ExprDerived k → MoreDerived k → ExprDerived (suc k)
expr_ok k f g or_rule d s x h = chain_ok k f g or_rule refl d s x h
expr_ok k f g and_rule d s x h = chain_ok k f g and_rule refl d s x h
expr_ok k f g sum_rule d s x h = chain_ok k f g sum_rule refl d s x h
expr_ok k f g term_rule d s x h = chain_ok k f g term_rule refl d s x h
expr_ok k f g not_rule d s x h = not_ok k f d s x h
expr_ok k f g comparison_rule d s x h = comparison_ok k f d s x h
expr_ok k f g factor_rule d s x h = factor_ok k f d s x h

derived : (k : ℕ) → ExprDerived k × MoreDerived k
derived zero = (λ rule d s x h. absurd (cc), λ rule d a s t x j h. absurd (cc))
derived (suc k) = (
  expr_ok k (derived k).0 (derived k).1,
  λ rule d a s t x j h. more_by k (derived k).0 (derived k).1 rule d a s t x (operator_at rule t) refl j h,
)

-- ---- whole filters

whole_ok_by : (t : Token) (a e : Expr) (ts : Tokens) → whole_by t a ts ≡ Ok e → (t ≡ text.End) × (a ≡ e)
whole_ok_by text.End a e ts h = (refl, cc)
whole_ok_by t a e ts h = absurd (cc)

whole_ok : (p : Parse Expr) (e : Expr) → whole p ≡ Ok e → (rest : Tokens) × (p ≡ Ok (e, rest)) × (next rest ≡ text.End)
whole_ok (Ok p) e h =
    let w = whole_ok_by (next p.1) p.0 e p.1 h in
    (p.1, ap (λ a. Ok (a, p.1)) w.1, w.0)
whole_ok (Err f) e h = absurd (cc)

pub read_is_derived : (written : Bytes) (e : Expr) → filter_of written ≡ Ok e → Derived (tokens_of written) e
read_is_derived written e h =
    let ts = tokens_of written in
    let w = whole_ok (expr_within (8 * length ts + 8) or_rule 64 ts) e h in
    record { rest = w.0; spelled = (derived (8 * length ts + 8)).0 or_rule 64 ts (e, w.0) w.1; ended = w.2 }
