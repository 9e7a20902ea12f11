-- The listed changes of an edit, the last first.
use Rattle.std.proofs.Common.{◌≡◌, ℕ, Bool, true, false, cond, eqb, List, [], ◌∷◌, ◌++◌, length, refl, sym, ap, ◌∙◌}
use Rattle.std.specs.Prelude.{Some, None}
use Rattle.std.specs.Option.{option_or}
use Rattle.std.specs.declared.option.Option.{Option}
use Rattle.vs_graph.specs.declared.node.Node.{Node}
use Rattle.vs_graph.specs.Said.{listed}
use Rattle.vs_graph.proofs.Listed.{listed_push}
use Rattle.vs_page.specs.declared.page_map.Change.{Change}
use Rattle.vs_page.specs.Changes.{says}
use Rattle.vs_page.proofs.Trees.{says_append}

or_assoc : {X : Type 0} (o p r : Option X) → option_or (option_or o p) r ≡ option_or o (option_or p r)
or_assoc None p r = refl
or_assoc (Some x) p r = refl

one_first : {X : Type 0} (b : Bool) (x : X) (r : Option X) → option_or (cond b (Some x) None) r ≡ cond b (Some x) r
one_first true x r = refl
one_first false x r = refl

pub one_listed : (list more : List (Change Node)) (ids ids' : List ℕ) (nodes nodes' : List (Option Node)) (id : ℕ) (node : Option Node) (all : ℕ → Option (Option Node))
    → ids ≡ ids' ++ id ∷ [] → nodes ≡ nodes' ++ node ∷ [] → length ids' ≡ length nodes' → more ≡ list ++ (record { id = id; item = node }) ∷ []
    → ((q : ℕ) → option_or (says list q) (listed ids nodes q) ≡ all q) → (q : ℕ) → option_or (says more q) (listed ids' nodes' q) ≡ all q
one_listed list more ids ids' nodes nodes' id node all front front' beside made before q =
    let c : Change Node = record { id = id; item = node } in
    let rest = listed ids' nodes' q in
    ap (λ l. option_or (says l q) rest) made
    ∙ ap (λ o. option_or o rest) (says_append list (c ∷ []) q)
    ∙ or_assoc (says list q) (says (c ∷ []) q) rest
    ∙ ap (option_or (says list q)) (one_first (eqb id q) node rest ∙ sym (listed_push ids' nodes' id node beside q) ∙ (λ t. listed (sym front t) (sym front' t) q))
    ∙ before q
