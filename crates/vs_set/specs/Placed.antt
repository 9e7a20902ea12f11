-- The place of a new member: its name, its id, and the order with it.
--     IsPlaced entries next name place      what is ready before the graph changes
use Rattle.std.specs.Prelude.{◌≡◌, ◌<◌, ◌^◌, ℕ, false, [], ◌∷◌, ◌++◌}
use Rattle.vs_defs.specs.Bytes.{Bytes}
use Rattle.vs_order.specs.Entries.{Entries, is_taken}
use Rattle.vs_set.specs.declared.placing.Place.{Place}

pub record IsPlaced (entries : Entries) (next : ℕ) (name : Bytes) (place : Place) : Type 0 where
  pub name_is : place.name ≡ name
  pub id_is : place.id ≡ next
  pub free : is_taken place.id entries ≡ false
  pub small : place.id < 2 ^ 20
  pub order_is : place.order ≡ entries ++ (name, place.id) ∷ []
