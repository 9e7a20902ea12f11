use Rattle.std.proofs.Common.{◌∷◌, [], ◌++◌, ap, ◌∙◌}
use Rattle.vs_set.proofs.placing.place_for.Goals as goal

pub returns-clause-placed : goal.returns-clause-placed
returns-clause-placed c = record {
  name_is = c.in_ok-name.ensures;
  id_is = c.next_id-id.ensures.value;
  free = c.next_id-id.ensures.free;
  small = c.next_id-id.ensures.small;
  order_is = c.in_ok-order.ensures ∙ ap (λ es. es ++ (c.in_ok-name.name, c.next_id-id.result) ∷ []) c.requires.same ∙ ap (λ n. c.args.names.now.entries ++ (n, c.next_id-id.result) ∷ []) c.in_ok-name.ensures;
}
