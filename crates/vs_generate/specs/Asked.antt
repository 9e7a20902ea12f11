-- What the set of the key answers.
--     FactsOf s info              VINFO of the key
--     FoundFirst truth s hits     the search for member 0
--     links_of_name x name        how many links the member of the name has at layer 0
--     links_below n x             and the first n members together
use Rattle.std.specs.Prelude.{◌≡◌, ℕ, Bool, List, [], Some, length, map, codes, sum_by}
use Rattle.std.specs.List.{range_with_len}
use Rattle.vs_defs.specs.Bytes.{Bytes}
use Rattle.vs_defs.specs.Answers as defs
use Rattle.vs_defs.specs.Answers.{Answers}
use Rattle.vs_defs.specs.Links.{links_of, neighbours}
use Rattle.vs_defs.specs.Request as request
use Rattle.vs_defs.specs.Request.{Request, Hit, Info}
use Rattle.vs_defs.specs.Store.{Store, Set, set_of}
use Rattle.vs_thread_defs.specs.Generator.{member_name, search_of_first}

pub record FactsOf (s : Store Set) (info : Info) : Type 0 where
  pub set : Set
  pub is_there : set_of (codes "g") s ≡ Some set
  pub info_is : info ≡ defs.info_of set

pub record FoundFirst (truth : Bool) (s : Store Set) (hits : List Hit) : Type 0 where
  pub dim : ℕ
  pub scores : Bool
  pub attrs : Bool
  pub answers : Answers s (search_of_first truth) [] (request.Hits dim scores attrs hits)

abbrev pub links_of_name : Set → Bytes → ℕ
links_of_name x name = length (neighbours x.contents.members (links_of x.wiring) 0 name)

-- of the first n members together
abbrev pub links_below : ℕ → Set → ℕ
links_below n x = sum_by (links_of_name x) (map member_name (range_with_len 0 n))
