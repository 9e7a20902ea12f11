-- Chosen members with the ids that their names have now.
--     with_id entries c          one of them
--     retaken entries list       all of a layer
--     retaken_draft entries draft      the draft with all of them
use Rattle.std.specs.Prelude.{List, map, unwrap_or}
use Rattle.vs_insert.specs.declared.draft.Chosen.{Chosen}
use Rattle.vs_insert.specs.declared.draft.Draft.{Draft}
use Rattle.vs_order.specs.Entries.{Entries, id_of}

abbrev pub with_id : Entries → Chosen → Chosen
with_id entries c = record { id = unwrap_or (id_of c.body.name entries) c.id; body = c.body }

abbrev pub retaken : Entries → List Chosen → List Chosen
retaken entries list = map (with_id entries) list

abbrev pub retaken_draft : Entries → Draft → Draft
retaken_draft entries draft = record draft { chosen = map (retaken entries) draft.chosen }
