-- Nodes in pages as a map from ids.
use Rattle.std.specs.Prelude.{ℕ}
use Rattle.std.specs.declared.option.Option.{Option}
use Rattle.vs_graph.specs.declared.node.Node.{Node}
use Rattle.vs_page.specs.declared.page_nodes.PageNodes.{PageNodes}
use Rattle.vs_page.specs.Changes.{items_of}

-- the node at each id
abbrev pub nodes_of : PageNodes → ℕ → Option Node
nodes_of nodes id = items_of nodes.map id
