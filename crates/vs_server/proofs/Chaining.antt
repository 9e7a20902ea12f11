-- Links that were served, one after another, from state to state.
use Rattle.std.proofs.Common.{◌≡◌, ℕ, ◌<◌, List, [], ◌∷◌, ◌++◌, length, Option, None, Some, IfSome, refl, sym, ap, ◌∙◌, subst, arith, append_assoc, append-nil, length-append}
use Rattle.std.specs.Prelude.{option_map}
use Rattle.vs_server.specs.Chains.{Chain, ChainedAll, Chained}
use Rattle.vs_outside.specs.Links.{IsOrdered, HasOpen, with_link}

chain_append : {S X : Type 0} (P : S → X → X → S → Type 0) (s m t : S) (xs ys zs ws : List X) → Chain P s xs ys m → Chain P m zs ws t → Chain P s (xs ++ zs) (ys ++ ws) t
chain_append P s m t [] [] zs ws p q = subst (λ x. Chain P x zs ws t) (sym p) q
chain_append P s m t [] (y ∷ ys) zs ws p q = absurd p
chain_append P s m t (x ∷ xs) [] zs ws p q = absurd p
chain_append P s m t (x ∷ xs) (y ∷ ys) zs ws p q = (p.0, p.1, chain_append P p.0 m t xs ys zs ws p.2 q)

pub chained_none : {S X : Type 0} (P : ℕ → S → X → X → S → Type 0) (k : ℕ) (s : S) (g c : Option (List X)) → Chained P k k s s g c g c
chained_none P k s None c = record { same = refl; all = tt }
chained_none P k s (Some g) None = record { same = refl; all = tt }
chained_none P k s (Some g) (Some c) = record { same = refl; all = record { links = []; ends = []; came = ap Some (sym (append-nil g)); went = ap Some (sym (append-nil c)); chain = refl } }

pub chained_one : {S X : Type 0} (P : ℕ → S → X → X → S → Type 0) (k k' : ℕ) (s t : S) (g c : Option (List X)) (a b : X) → k' ≡ k → P k s a b t → Chained P k k' s t g c (option_map (λ xs. xs ++ a ∷ []) g) (option_map (λ xs. xs ++ b ∷ []) c)
chained_one P k k' s t None c a b e p = record { same = e; all = tt }
chained_one P k k' s t (Some g) None a b e p = record { same = e; all = tt }
chained_one P k k' s t (Some g) (Some c) a b e p = record { same = e; all = record { links = a ∷ []; ends = b ∷ []; came = refl; went = refl; chain = (t, p, refl) } }

pub chained_more : {S X : Type 0} (P : ℕ → S → X → X → S → Type 0) (k k' k'' : ℕ) (s m t : S) (g c g' c' g'' c'' : Option (List X)) → Chained P k k' s m g c g' c' → Chained P k' k'' m t g' c' g'' c'' → Chained P k k'' s t g c g'' c''
chained_more P k k' k'' s m t None c g' c' g'' c'' u v = record { same = v.same ∙ u.same; all = tt }
chained_more P k k' k'' s m t (Some g) None g' c' g'' c'' u v = record { same = v.same ∙ u.same; all = tt }
chained_more {S} {X} P k k' k'' s m t (Some g) (Some c) g' c' g'' c'' u v =
    let first : ChainedAll (P k) s m g c g' c' = u.all in
    let told : IfSome g' (λ h. IfSome c' (λ l. ChainedAll (P k) m t h l g'' c'')) = subst (λ (n : ℕ). IfSome g' (λ h. IfSome c' (λ l. ChainedAll (P n) m t h l g'' c''))) u.same v.all in
    let next : ChainedAll (P k) m t (g ++ first.links) (c ++ first.ends) g'' c'' = subst (λ (x : Option (List X)). IfSome x (λ h. IfSome (Some (c ++ first.ends)) (λ l. ChainedAll (P k) m t h l g'' c''))) first.came (subst (λ (x : Option (List X)). IfSome g' (λ h. IfSome x (λ l. ChainedAll (P k) m t h l g'' c''))) first.went told) in
    record {
      same = v.same ∙ u.same;
      all = record {
        links = first.links ++ next.links;
        ends = first.ends ++ next.ends;
        came = next.came ∙ ap Some (append_assoc g first.links next.links);
        went = next.went ∙ ap Some (append_assoc c first.ends next.ends);
        chain = chain_append (P k) s m t first.links first.ends next.links next.ends first.chain next.chain;
      };
    }

-- one more was given, and it may be closed
pub may_close : {I O : Type 0} (g c : Option (List (I × O))) (i : I) (o : O) → IsOrdered g c → HasOpen (with_link i o g) c
may_close None c i o h = tt
may_close (Some g) None i o h = tt
may_close (Some g) (Some c) i o h = let few = h.no_more in omega (arith, length-append g ((i, o) ∷ []))

-- one more was given and closed, or none
pub chained_by : {S I O : Type 0} (P : ℕ → S → I × O → I × O → S → Type 0) (k k' : ℕ) (s t : S) (g c g' c' : Option (List (I × O))) (i : I) (o : O) (i' : I) (o' : O) → k' ≡ k → g' ≡ with_link i o g → c' ≡ with_link i' o' c
    → P k s (i, o) (i', o') t → Chained P k k' s t g c g' c'
chained_by {S} {I} {O} P k k' s t g c g' c' i o i' o' e given closed p =
    subst (λ (x : Option (List (I × O))). Chained P k k' s t g c x c') (sym given)
    (subst (λ (y : Option (List (I × O))). Chained P k k' s t g c (with_link i o g) y) (sym closed) (chained_one P k k' s t g c (i, o) (i', o') e p))

pub chained_still : {S X : Type 0} (P : ℕ → S → X → X → S → Type 0) (k : ℕ) (s : S) (g c g' c' : Option (List X)) → g' ≡ g → c' ≡ c → Chained P k k s s g c g' c'
chained_still {S} {X} P k s g c g' c' given closed =
    subst (λ (x : Option (List X)). Chained P k k s s g c x c') (sym given) (subst (λ (y : Option (List X)). Chained P k k s s g c g y) (sym closed) (chained_none P k s g c))
