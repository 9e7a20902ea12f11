-- Histories over any kind of store, and their beginnings: what is legal, whose entries they have, and the longer of two.
use Rattle.std.proofs.Common.{◌≡◌, ◌≢◌, ◌⊎◌, ℕ, ◌+◌, ◌<◌, Bool, true, false, ◌==◌, List, [], ◌∷◌, ◌++◌, length, refl, ap, sym, ◌∙◌, subst, inl, inr, ⊎_elim, arith, max, append_assoc, append-nil, length-append}
use Rattle.std.specs.Prelude.{cond}
use Rattle.std.proofs.lemmas.List.Elements.{filter-append}
use Rattle.std.proofs.lemmas.Bool.Decides.{nat_tests}
use mathlib.Core.List.{IsPrefix}
use Rattle.vs_defs.specs.History.{History, Entry, LegalAfter, Legal, own, store_after}
use Rattle.vs_thread_defs.specs.Rule.{longer, AllBegin, AuthorsBelow}
use Rattle.vs_history.proofs.Beginnings.{prefix_self, prefix_trans}
use Rattle.std.proofs.lemmas.List.{nil_from_length}

module _ {S : Type 0} where
  -- after one more entry the store is the one that it leaves
  pub store_push : (start : S) (h : History S) (e : Entry S) → store_after start (h ++ e ∷ []) ≡ e.store
  store_push start [] e = refl
  store_push start (d ∷ h) e = store_push d.store h e

  module _ (Follows : History S → Entry S → Type 0) where
    begin_after : (before xs ys : History S) → LegalAfter Follows before (xs ++ ys) → LegalAfter Follows before xs
    begin_after before [] ys l = tt
    begin_after before (x ∷ xs) ys l = (l.0, begin_after (before ++ x ∷ []) xs ys l.1)

    -- a beginning of a legal history is legal
    pub legal_begin : (xs log : History S) → IsPrefix xs log → Legal Follows log → Legal Follows xs
    legal_begin xs log p l = begin_after [] xs p.0 (subst (Legal Follows) (sym p.1) l)

    push_after : (before h : History S) (e : Entry S) → LegalAfter Follows before h → Follows (before ++ h) e → LegalAfter Follows before (h ++ e ∷ [])
    push_after before [] e l f = (subst (λ (x : History S). Follows x e) (append-nil before) f, tt)
    push_after before (d ∷ h) e l f = (l.0, push_after (before ++ d ∷ []) h e l.1 (subst (λ (x : History S). Follows x e) (sym (append_assoc before (d ∷ []) h)) f))

    -- one more change keeps a history legal
    pub legal_push : (h : History S) (e : Entry S) → Legal Follows h → Follows h e → Legal Follows (h ++ e ∷ [])
    legal_push h e l f = push_after [] h e l f

  own-append : (n : ℕ) (xs ys : History S) → own n (xs ++ ys) ≡ own n xs ++ own n ys
  own-append n xs ys = filter-append (λ e. e.author == n) xs ys

  -- between a beginning and a whole with the same entries by n, there are no others by n
  pub own_between : (n : ℕ) (xs ys log mine : History S) → IsPrefix xs ys → IsPrefix ys log → own n xs ≡ mine → own n log ≡ mine → own n ys ≡ mine
  own_between n xs ys log mine p q low high =
      let ys_are : own n ys ≡ mine ++ own n p.0 = ap (own n) (sym p.1) ∙ own-append n xs p.0 ∙ ap (λ l. l ++ own n p.0) low in
      let log_is : mine ≡ own n ys ++ own n q.0 = sym high ∙ ap (own n) (sym q.1) ∙ own-append n ys q.0 in
      let a = ap length ys_are ∙ length-append mine (own n p.0) in
      let b = ap length log_is ∙ length-append (own n ys) (own n q.0) in
      let none : own n p.0 ≡ [] = nil_from_length (own n p.0) (omega arith) in
      ys_are ∙ ap (λ l. mine ++ l) none ∙ append-nil mine

  one_own : (n : ℕ) (e : Entry S) → e.author ≡ n → own n (e ∷ []) ≡ e ∷ []
  one_own n e is = let same : (e.author == n) ≡ true = grind (arith, nat_tests) in ap (λ (b : Bool). cond b (e ∷ []) []) same

  one_other : (n : ℕ) (e : Entry S) → e.author ≢ n → own n (e ∷ []) ≡ []
  one_other n e apart = let other : (e.author == n) ≡ false = grind (arith, nat_tests) in ap (λ (b : Bool). cond b (e ∷ []) []) other

  pub own-push-own : (n : ℕ) (log : History S) (e : Entry S) → e.author ≡ n → own n (log ++ e ∷ []) ≡ own n log ++ e ∷ []
  own-push-own n log e is = own-append n log (e ∷ []) ∙ ap (λ l. own n log ++ l) (one_own n e is)

  pub own-push-other : (n : ℕ) (log : History S) (e : Entry S) → e.author ≢ n → own n (log ++ e ∷ []) ≡ own n log
  own-push-other n log e apart = own-append n log (e ∷ []) ∙ ap (λ l. own n log ++ l) (one_other n e apart) ∙ append-nil (own n log)

  pub below_none : (made : ℕ) (log : History S) → AuthorsBelow made log → own made log ≡ []
  below_none made [] b = refl
  below_none made (e ∷ es) b =
      let h = b.0 in
      own-append made (e ∷ []) es ∙ ap (λ l. l ++ own made es) (one_other made e (λ same. absurd (omega (arith, same)))) ∙ below_none made es b.1

  pub below_more : (made : ℕ) (log : History S) → AuthorsBelow made log → AuthorsBelow (made + 1) log
  below_more made [] b = tt
  below_more made (e ∷ es) b = let h = b.0 in (omega arith, below_more made es b.1)

  pub below_push : (made : ℕ) (log : History S) (e : Entry S) → AuthorsBelow made log → e.author < made → AuthorsBelow made (log ++ e ∷ [])
  below_push made [] e b h = (h, tt)
  below_push made (x ∷ xs) e b h = (b.0, below_push made xs e b.1 h)

  -- the longer of two beginnings of one list
  pub longer_begins : (xs ys log : History S) → IsPrefix xs log → IsPrefix ys log → IsPrefix xs (longer xs ys) × IsPrefix ys (longer xs ys) × IsPrefix (longer xs ys) log
  longer_begins [] ys log p q = ((ys, refl), prefix_self ys, q)
  longer_begins (x ∷ xs) [] log p q = (prefix_self (x ∷ xs), (x ∷ xs, refl), p)
  longer_begins (x ∷ xs) (y ∷ ys) [] p q = absurd (cc (p.1))
  longer_begins (x ∷ xs) (y ∷ ys) (z ∷ log) p q =
      let heads : x ≡ y = cc (p.1, q.1) in
      let r = longer_begins xs ys log (p.0, cc (p.1)) (q.0, cc (q.1)) in
      ((r.0.0, ap (λ l. x ∷ l) r.0.1), (r.1.0, cc (heads, r.1.1)), (r.2.0, cc (p.1, r.2.1)))

  pub all_begin-more : (olds : List (History S)) (xs ys : History S) → IsPrefix xs ys → AllBegin olds xs → AllBegin olds ys
  all_begin-more [] xs ys p a = tt
  all_begin-more (o ∷ os) xs ys p a = (prefix_trans o xs ys a.0 p, all_begin-more os xs ys p a.1)

  pub longer_of_prefix : (xs ys : History S) → IsPrefix xs ys → longer xs ys ≡ ys
  longer_of_prefix [] ys p = refl
  longer_of_prefix (x ∷ xs) [] p = absurd (cc (p.1))
  longer_of_prefix (x ∷ xs) (y ∷ ys) p =
      let heads : x ≡ y = cc (p.1) in
      let rest = longer_of_prefix xs ys (p.0, cc (p.1)) in cc (heads, rest)

  pub longer_is_one : (xs ys zs : History S) → IsPrefix xs zs → IsPrefix ys zs → (longer xs ys ≡ ys) ⊎ (longer xs ys ≡ xs)
  longer_is_one [] ys zs p q = inl refl
  longer_is_one (x ∷ xs) [] zs p q = inr refl
  longer_is_one (x ∷ xs) (y ∷ ys) [] p q = absurd (cc (p.1))
  longer_is_one (x ∷ xs) (y ∷ ys) (z ∷ zs) p q =
      let heads : x ≡ y = cc (p.1, q.1) in
      ⊎_elim (λ (t : longer xs ys ≡ ys). inl (cc (heads, t))) (λ (t : longer xs ys ≡ xs). inr (ap (λ l. x ∷ l) t)) (longer_is_one xs ys zs (p.0, cc (p.1)) (q.0, cc (q.1)))

  pub length-longer : (xs ys : History S) → length (longer xs ys) ≡ max (length xs) (length ys)
  length-longer [] ys = omega arith
  length-longer (x ∷ xs) [] = omega arith
  length-longer (x ∷ xs) (y ∷ ys) = let r = length-longer xs ys in omega arith
