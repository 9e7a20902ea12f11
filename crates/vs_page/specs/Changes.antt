-- Changes of the items at some ids, of which the first says what is at an id, and the items of a map.
use Rattle.std.specs.Prelude.{◌==◌, ℕ, List, [], ◌∷◌, None, Some, cond, unwrap_or}
use Rattle.std.specs.declared.option.Option.{Option}
use Rattle.vs_page.specs.declared.page_map.Change.{Change}
use Rattle.vs_page.specs.declared.page_map.PageMap.{PageMap}
use Rattle.vs_page.specs.Tree.{at_root}

-- what the changes say of an id: nothing, or the item there, which may be none
abbrev pub says : {X : Type 0} → List (Change X) → ℕ → Option (Option X)
says [] q = None
says (c ∷ cs) q = cond (c.id == q) (Some c.item) (says cs q)

-- the changes over a root
abbrev pub shown : {X : Type 0} → List (Change X) → List (List (List (Option X))) → ℕ → Option X
shown late root q = unwrap_or (says late q) (at_root root q)

-- the item at each id of a map
abbrev pub items_of : {X : Type 0} → PageMap X → ℕ → Option X
items_of map q = shown map.late.items map.root q
