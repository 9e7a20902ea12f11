-- The words of nodes, as rows by ids tell them.
--     TellsAt rows nodes id       what is told of a live id are its node's words
--     IsToldAs rows id item       what is told of the id are the words of the item, if it is a node
use Rattle.std.specs.Prelude.{◌≡◌, ℕ, List, Some, IfSome}
use Rattle.std.specs.declared.option.Option.{Option}
use Rattle.vs_graph.specs.declared.node.Node.{Node}
use Rattle.vs_page.specs.declared.rows.Rows.{Rows}
use Rattle.vs_page.specs.Told.{row_at}

abbrev pub TellsAt : Rows → (ℕ → Option Node) → ℕ → Type 0
TellsAt rows nodes id = (node : Node) (words : List ℕ) → nodes id ≡ Some node → row_at rows id ≡ Some words → words ≡ node.body.bits

abbrev pub IsToldAs : Rows → ℕ → Option Node → Type 0
IsToldAs rows id item = IfSome item (λ node. row_at rows id ≡ Some node.body.bits)
