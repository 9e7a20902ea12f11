-- The definitions go over all former neighbours of a removed member, and the code over the orphans among them alone.
--     Walking      what is left of the definitions' walk where the code has come to some orphan
use Rattle.std.specs.Prelude.{◌≡◌, ◌<◌, ℕ, Bool, nat_lt, List, filter, length}
use Rattle.std.specs.declared.option.Option.{Option}
use Rattle.vs_defs.specs.Bytes.{Bytes}
use Rattle.vs_defs.specs.Store.{Set}
use Rattle.vs_defs.specs.Links.{Links, neighbours}
use Rattle.vs_defs.specs.Linking.{is_alone}
use Rattle.vs_defs.specs.Removal as rules
use Rattle.vs_defs.specs.Removal.{all_but}

module _ (old : Set) (x : Bytes) (entry : Option Bytes) (left : Links) where
  abbrev pub degree : Links → ℕ × Bytes → ℕ
  degree links c = length (neighbours (all_but x old.contents.members) links c.0 c.1)

  -- whether one has no link left
  abbrev pub is_orphan : ℕ × Bytes → Bool
  is_orphan c = nat_lt (degree left c) 1

  abbrev pub Keeps : Links → Type 0
  Keeps links = (c : ℕ × Bytes) → 0 < degree left c → 0 < degree links c

  abbrev pub alone_at : Links → ℕ × Bytes → Bool
  alone_at links c = is_alone old.contents.m (all_but x old.contents.members) links c.0 c.1

-- what is left: the former neighbours from some one on, of whom these are the orphans
pub record Walking (old : Set) (x : Bytes) (entry : Option Bytes) (left : Links) (former : List (ℕ × Bytes)) (links : Links) (orphans : List (ℕ × Bytes)) : Type 0 where
  pub rest : List (ℕ × Bytes)
  pub are : filter (is_orphan old x entry left) rest ≡ orphans
  pub keeps : Keeps old x entry left links
  pub on : (new : Links) → rules.Relinks old x entry links rest new → rules.Relinks old x entry left former new
