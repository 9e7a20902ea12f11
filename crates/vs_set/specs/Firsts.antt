-- The first of what a search found, at their places in the members' order.
--     near_in entries key          a found id by its distance, its name and its place
--     first_of entries count found      the first few by distance, then name
--     keys_around at layer id      the ids that one is linked to at a layer, with their distances to it
use Rattle.std.specs.Prelude.{ℕ, List, map, take}
use Rattle.vs_defs.specs.Bytes.{sort_by}
use Rattle.vs_order.specs.Entries.{Entries, name_at, place_of_id}
use Rattle.vs_beam.specs.Beam.{key_at}
use Rattle.vs_graph.specs.declared.node.Node.{Node}
use Rattle.vs_graph.specs.Good.{body_at, links_at}
use Rattle.vs_graph.specs.Bodies.{words_at}
use Rattle.vs_rank.specs.declared.Key.{Key}
use Rattle.std.specs.declared.option.Option.{Option}
use Rattle.vs_truth.specs.declared.candidate.Hit.{Hit}
use Rattle.vs_truth.specs.Nears.{Near, near_cmp, near_hit}

abbrev pub near_in : Entries → Key → Near
near_in entries key = record { dist = key.dist; name = name_at entries (place_of_id key.id entries); place = place_of_id key.id entries }

abbrev pub first_of : Entries → ℕ → List Key → List Hit
first_of entries count found = map near_hit (take count (sort_by near_cmp (map (near_in entries) found)))

abbrev pub keys_around : (ℕ → Option Node) → ℕ → ℕ → List Key
keys_around at layer id = map (key_at at (words_at (body_at at) id)) (links_at at layer id)
