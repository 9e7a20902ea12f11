-- A member that gets another attribute.
use Rattle.std.specs.Prelude.{◌≡◌, ◌≢◌, ℕ, option_map}
use Rattle.std.specs.declared.option.Option.{Option}
use Rattle.vs_graph.specs.declared.node.Attr.{Attr}
use Rattle.vs_graph.specs.declared.node.Node.{Node}

abbrev pub with_attribute : Option Attr → Node → Node
with_attribute attr node = record node { attr = attr }

-- one id has another attribute, and all else is as it was
pub record ChangesAttr (at new : ℕ → Option Node) (id : ℕ) (attr : Option Attr) : Type 0 where
  pub there : new id ≡ option_map (with_attribute attr) (at id)
  pub others : (q : ℕ) → q ≢ id → new q ≡ at q
