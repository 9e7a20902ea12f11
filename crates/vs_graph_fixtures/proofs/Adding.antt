-- A good graph with one more member at layer 0 is good.
use Rattle.std.proofs.Common.{◌≡◌, ◌≢◌, ℕ, ◌<◌, ◌≤◌, length, get_or, refl, sym, ap, ◌∙◌, subst, arith, inl, inr}
use Rattle.std.specs.Prelude.{Some, None, IsSomeAnd, IfSome, unwrap_or, option_map}
use Rattle.std.specs.declared.option.Option.{Option}
use Rattle.std.proofs.lemmas.Bool.{cases_eq}
use Rattle.std.proofs.lemmas.List.Elements.{Contains-get_or}
use Rattle.vs_graph.specs.declared.node.Node.{Node}
use Rattle.vs_graph.specs.declared.edit.Edit.{Edit}
use Rattle.vs_graph.specs.Edits.{changed, overwritten}
use Rattle.vs_defs.specs.Words.{FitsDimension}
use Rattle.vs_graph.specs.Good.{IsLinked, StandsAt, AreLinksGood, AllLinked, IsEntry, IsGood, links_at}
use Rattle.vs_graph.specs.GoodTable.{KeepsLinked}
use Rattle.vs_graph.specs.Newcomer.{ChangesAt, IsNewcomer}
use Rattle.vs_graph.specs.Relinks.{Relinks, cleared}
use Rattle.vs_graph.specs.Table.{Table}
use Rattle.vs_graph.proofs.Goods.{links_elsewhere}
use Rattle.vs_graph.proofs.Newcomers.{same_links}
use Rattle.vs_graph.proofs.Renaming.{no_change}

-- ---- levels

level_of : Option Node → Option ℕ
level_of o = option_map (λ (node : Node). node.level) o

level_cleared : (layer : ℕ) (o : Option Node) → option_map (λ (node : Node). node.level) (cleared layer o) ≡ option_map (λ (node : Node). node.level) o
level_cleared layer None = refl
level_cleared layer (Some node) = refl

to_level : (o : Option Node) (layer : ℕ) → IsSomeAnd o (λ node. layer ≤ node.level) → IsSomeAnd (option_map (λ (node : Node). node.level) o) (λ v. layer ≤ v)
to_level None layer h = h
to_level (Some node) layer h = h

from_level : (o : Option Node) (layer : ℕ) → IsSomeAnd (option_map (λ (node : Node). node.level) o) (λ v. layer ≤ v) → IsSomeAnd o (λ node. layer ≤ node.level)
from_level None layer h = h
from_level (Some node) layer h = h

zero_only : (o : Option ℕ) (layer : ℕ) → o ≡ Some 0 → IsSomeAnd o (λ v. layer ≤ v) → layer ≡ 0
zero_only None layer e h = absurd h
zero_only (Some v) layer e h = let same : v ≡ 0 = ap (λ o. unwrap_or o 0) e in omega (arith, same, h)

-- no level is above the one at the entry
abbrev IsTop : (ℕ → Option ℕ) → ℕ → Type 0
IsTop levels e = IsSomeAnd (levels e) (λ v. (q : ℕ) → IfSome (levels q) (λ u. u ≤ v))

if_level : (o : Option Node) (v : ℕ) → IfSome o (λ other. other.level ≤ v) → IfSome (option_map (λ (node : Node). node.level) o) (λ u. u ≤ v)
if_level None v h = h
if_level (Some node) v h = h

if_node : (o : Option Node) (v : ℕ) → IfSome (option_map (λ (node : Node). node.level) o) (λ u. u ≤ v) → IfSome o (λ other. other.level ≤ v)
if_node None v h = h
if_node (Some node) v h = h

top_levels : (at : ℕ → Option Node) (o : Option Node) → IsSomeAnd o (λ node. (q : ℕ) → IfSome (at q) (λ other. other.level ≤ node.level))
    → IsSomeAnd (option_map (λ (node : Node). node.level) o) (λ v. (q : ℕ) → IfSome (option_map (λ (node : Node). node.level) (at q)) (λ u. u ≤ v))
top_levels at None h = h
top_levels at (Some node) h = λ q. if_level (at q) node.level (h q)

top_nodes : (at : ℕ → Option Node) (o : Option Node) → IsSomeAnd (option_map (λ (node : Node). node.level) o) (λ v. (q : ℕ) → IfSome (option_map (λ (node : Node). node.level) (at q)) (λ u. u ≤ v))
    → IsSomeAnd o (λ node. (q : ℕ) → IfSome (at q) (λ other. other.level ≤ node.level))
top_nodes at None h = h
top_nodes at (Some node) h = λ q. if_node (at q) node.level (h q)

-- one more level, of 0, at an id that had none
top_kept : (old new : ℕ → Option ℕ) (id e : ℕ) → old id ≡ None → new id ≡ Some 0 → ((q : ℕ) → q ≢ id → new q ≡ old q) → IsTop old e → IsTop new e
top_kept old new id e free here others top =
    elim (cases_eq e id) [
      | inl is ↦ absurd (subst (λ o. IsSomeAnd o (λ v. (q : ℕ) → IfSome (old q) (λ u. u ≤ v))) (ap old is ∙ free) top)
      | inr ne ↦ subst (λ o. IsSomeAnd o (λ v. (q : ℕ) → IfSome (new q) (λ u. u ≤ v))) (sym (others e ne)) (by_level (old e) top)
    ] where
      each : (v q : ℕ) → IfSome (old q) (λ u. u ≤ v) → IfSome (new q) (λ u. u ≤ v)
      each v q h = elim (cases_eq q id) [ inl is ↦ subst (λ o. IfSome o (λ u. u ≤ v)) (sym (ap new is ∙ here)) (omega arith) | inr ne ↦ subst (λ o. IfSome o (λ u. u ≤ v)) (sym (others q ne)) h ]

      by_level : (o : Option ℕ) → IsSomeAnd o (λ v. (q : ℕ) → IfSome (old q) (λ u. u ≤ v)) → IsSomeAnd o (λ v. (q : ℕ) → IfSome (new q) (λ u. u ≤ v))
      by_level None h = h
      by_level (Some v) h = λ q. each v q (h q)

top_first : (new : ℕ → Option ℕ) (id : ℕ) → new id ≡ Some 0 → ((q : ℕ) → q ≢ id → new q ≡ None) → IsTop new id
top_first new id here others = subst (λ o. IsSomeAnd o (λ v. (q : ℕ) → IfSome (new q) (λ u. u ≤ v))) (sym here) (λ q. each q) where
  each : (q : ℕ) → IfSome (new q) (λ u. u ≤ 0)
  each q = elim (cases_eq q id) [ inl is ↦ subst (λ o. IfSome o (λ u. u ≤ 0)) (sym (ap new is ∙ here)) (omega arith) | inr ne ↦ subst (λ o. IfSome o (λ u. u ≤ 0)) (sym (others q ne)) tt ]

-- ---- the graph

module _ (at mid new : ℕ → Option Node) (m dim id : ℕ) (node : Node) (t : Table) (newcomer : IsNewcomer at id node) (flat : node.level ≡ 0) (change : ChangesAt at mid id (Some node))
    (links : AreLinksGood new m dim) (relinks : Relinks mid new 0 t) where
  same_level : (q : ℕ) → option_map (λ (n : Node). n.level) (new q) ≡ option_map (λ (n : Node). n.level) (mid q)
  same_level q = sym (level_cleared 0 (new q)) ∙ ap (option_map (λ (n : Node). n.level)) (relinks.rest q) ∙ level_cleared 0 (mid q)

  level_here : option_map (λ (n : Node). n.level) (new id) ≡ Some 0
  level_here = same_level id ∙ ap (option_map (λ (n : Node). n.level)) change.there ∙ ap (λ v. Some v) flat

  level_there : (q : ℕ) → q ≢ id → option_map (λ (n : Node). n.level) (new q) ≡ option_map (λ (n : Node). n.level) (at q)
  level_there q ne = same_level q ∙ ap (option_map (λ (n : Node). n.level)) (change.others q ne)

  stood : (layer q : ℕ) → q ≢ id → StandsAt new layer q → StandsAt at layer q
  stood layer q ne h = from_level (at q) layer (subst (λ o. IsSomeAnd o (λ v. layer ≤ v)) (level_there q ne) (to_level (new q) layer h))

  stands_mid : (layer q : ℕ) → StandsAt new layer q → StandsAt mid layer q
  stands_mid layer q h = from_level (mid q) layer (subst (λ o. IsSomeAnd o (λ v. layer ≤ v)) (same_level q) (to_level (new q) layer h))

  only_ground : (layer : ℕ) → StandsAt new layer id → layer ≡ 0
  only_ground layer h = zero_only _ layer level_here (to_level (new id) layer h)

  module _ (linked : AllLinked at) (kept : KeepsLinked (links_at mid 0) (links_at new 0)) (own : (y : ℕ) → y ≢ id → StandsAt mid 0 y → 0 < length (links_at new 0 id)) where
    old_links : (layer a : ℕ) → 0 < length (links_at at layer a) → 0 < length (links_at mid layer a)
    old_links layer a h = subst (λ l. 0 < length l) (sym (same_links at mid id node newcomer change layer a)) h

    above : (layer a b : ℕ) → layer ≢ 0 → a ≢ b → StandsAt new layer a → StandsAt new layer b → 0 < length (links_at new layer a)
    above layer a b up ne sa sb =
        let na : a ≢ id = λ e. up (only_ground layer (subst (λ n. StandsAt new layer n) e sa)) in
        let nb : b ≢ id = λ e. up (only_ground layer (subst (λ n. StandsAt new layer n) e sb)) in
        subst (λ l. 0 < length l) (sym (links_elsewhere mid new 0 layer t relinks up a)) (old_links layer a (linked layer a b ne (stood layer a na sa) (stood layer b nb sb)))

    -- a member that was there, by the link of the newcomer
    beside : (a : ℕ) → a ≢ id → StandsAt new 0 a → 0 < length (links_at new 0 a)
    beside a ne sa =
        let some = own a ne (stands_mid 0 a sa) in
        let w = get_or (links_at new 0 id) 0 0 in
        let link : IsLinked new 0 id w = Contains-get_or (links_at new 0 id) 0 0 some in
        elim (cases_eq w a) [
          | inl is ↦ (let back : IsLinked new 0 a id = links.back 0 id a (subst (λ n. IsLinked new 0 id n) is link) in omega (arith, back.1))
          | inr other ↦
              let not_id : w ≢ id = λ e. links.apart 0 id (subst (λ n. IsLinked new 0 id n) e link) in
              kept a (old_links 0 a (linked 0 a w (λ e. other (sym e)) (stood 0 a ne sa) (stood 0 w not_id (links.stand 0 id w link))))
        ]

    ground : (a b : ℕ) → a ≢ b → StandsAt new 0 a → StandsAt new 0 b → 0 < length (links_at new 0 a)
    ground a b ne sa sb =
        elim (cases_eq a id) [
          | inl is ↦ subst (λ n. 0 < length (links_at new 0 n)) (sym is) (own b (λ e. ne (is ∙ sym e)) (stands_mid 0 b sb))
          | inr other ↦ beside a other sa
        ]

    all_linked : AllLinked new
    all_linked layer a b ne sa sb =
        elim (cases_eq layer 0) [
          | inl is ↦ subst (λ l. 0 < length (links_at new l a)) (sym is) (ground a b ne (subst (λ l. StandsAt new l a) is sa) (subst (λ l. StandsAt new l b) is sb))
          | inr up ↦ above layer a b up ne sa sb
        ]

  entry_is : (entry : Option ℕ) → IsEntry at entry → IsEntry new (Some (unwrap_or entry id))
  entry_is None none =
      top_nodes new (new id) (top_first (λ q. option_map (λ (n : Node). n.level) (new q)) id level_here (λ q ne. level_there q ne ∙ ap (option_map (λ (n : Node). n.level)) (none q)))
  entry_is (Some e) top =
      top_nodes new (new e) (top_kept (λ q. option_map (λ (n : Node). n.level) (at q)) (λ q. option_map (λ (n : Node). n.level) (new q)) id e
      (ap (option_map (λ (n : Node). n.level)) newcomer.free) level_here level_there (top_levels at (at e) top))

pub good_with : (at mid new : ℕ → Option Node) (entry : Option ℕ) (m dim id : ℕ) (node : Node) (t : Table) → IsGood at entry m dim → IsNewcomer at id node → node.level ≡ 0 → ChangesAt at mid id (Some node)
    → AreLinksGood new m dim → Relinks mid new 0 t → KeepsLinked (links_at mid 0) (links_at new 0) → ((y : ℕ) → y ≢ id → StandsAt mid 0 y → 0 < length (links_at new 0 id))
    → IsGood new (Some (unwrap_or entry id)) m dim
good_with at mid new entry m dim id node t good newcomer flat change links relinks kept own = record {
  links = links;
  linked = all_linked at mid new m dim id node t newcomer flat change links relinks good.linked kept own;
  top = entry_is at mid new m dim id node t newcomer flat change links relinks entry good.top;
  m_low = good.m_low;
  m_high = good.m_high;
  dim_low = good.dim_low;
  dim_high = good.dim_high;
}

-- the links stay good where a newcomer is put into an edit that said nothing
pub mid_good : (edit new : Edit) (base at : ℕ → Option Node) (m k dim : ℕ) (node : Node) → base ≡ at → k ≡ m → ((id : ℕ) → changed edit id ≡ None) → AreLinksGood at m dim → FitsDimension dim node.body.bits
    → ((m dim : ℕ) → FitsDimension dim node.body.bits → AreLinksGood (overwritten edit base) m dim → AreLinksGood (overwritten new base) m dim) → AreLinksGood (overwritten new base) k dim
mid_good edit new base at m k dim node e f none good fits keeps =
    keeps k dim fits (subst (λ g. AreLinksGood g k dim) (sym (no_change edit base none ∙ e)) (subst (λ n. AreLinksGood at n dim) (sym f) good))

pub changes_base : (edit : Edit) (base mid : ℕ → Option Node) (id : ℕ) (node : Node) → ((id : ℕ) → changed edit id ≡ None) → ChangesAt (overwritten edit base) mid id (Some node) → ChangesAt base mid id (Some node)
changes_base edit base mid id node none change = subst (λ g. ChangesAt g mid id (Some node)) (no_change edit base none) change
