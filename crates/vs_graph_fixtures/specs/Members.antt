-- What is asked of a member that is added, and of those it is linked to.
use Rattle.std.specs.Prelude.{◌≡◌, ◌≢◌, ◌<◌, ◌==◌, ◌&&◌, ℕ, Bool, false, List, length, nat_eq, nat_lt, slice_index, IsSome}
use Rattle.std.specs.Option.{option_map_or}
use Rattle.std.specs.List.{list_any}
use Rattle.std.specs.declared.option.Option.{Option}
use Rattle.vs_graph.specs.declared.node.Node.{Node}
use Rattle.vs_graph.specs.Newcomer.{AreEmptyLists}
use Rattle.vs_rank.specs.Tests.{Attribute}

-- a live member, other than x, that is not among the chosen, where there is room
pub record MayBeChosen (at : ℕ → Option Node) (chosen : List ℕ) (id x most : ℕ) : Type 0 where
  pub live : IsSome (at id)
  pub other : id ≢ x
  pub room : length chosen < most
  pub absent : list_any (nat_eq id) chosen ≡ false

-- a node of level 0 without links
pub record IsPlain (words : List ℕ) (node : Node) : Type 0 where
  pub bits : node.body.bits ≡ words
  pub level : node.level ≡ 0
  pub lists : AreEmptyLists 1 node.links

-- an attribute {"k":2}, told by its sixth byte
abbrev pub is_second : Attribute → Bool
is_second attr = option_map_or (λ text. nat_lt 5 (length text) && (slice_index text 5 == 50)) attr false
