-- Members with their names, and ids in the order of names.
use Rattle.std.specs.Prelude.{◌≡◌, ℕ, List}
use Rattle.std.specs.List.Sorted.{IsPermutation, IsSorted}
use Rattle.std.specs.Ordering.{nat_cmp}
use Rattle.std.specs.Cmp.Lexicographic.{slice_cmp}
use Rattle.vs_graph.specs.Bodies.{Bodies, name_at}
use Rattle.vs_unlink.specs.declared.named.Named.{Named}

abbrev pub id_of : Named → ℕ
id_of one = one.id

abbrev pub IsNamedSo : Bodies → Named → Type 0
IsNamedSo bodies one = one.name.now ≡ name_at bodies one.id

-- the same ids, by name
pub record AreByName (bodies : Bodies) (ids ranked : List ℕ) : Type 0 where
  pub same : IsPermutation ids ranked
  pub sorted : IsSorted (λ a b. slice_cmp nat_cmp (name_at bodies a) (name_at bodies b)) ranked
