use Rattle.std.proofs.Common.{◌<◌, subst, sym, ap, ◌∙◌, length, arith}
use Rattle.std.proofs.lemmas.List.{length-map}
use Rattle.vs_defs.specs.Limits.{max_members}
use Rattle.vs_order.specs.Entries.{ids_of, is_taken}
use Rattle.vs_order.specs.Ids.{next_id}
use Rattle.vs_order.proofs.FreeIds.{is_free, is_small}
use Rattle.vs_order.proofs.names.Names.next_id.Goals as goal

pub returns : goal.returns
returns c =
    let s = c.self.inside in
    let is = c.next_of.ensures ∙ ap (λ f. next_id f s.next) c.deref.ensures.value in
    let room : length (ids_of s.map.entries) < max_members = omega (arith, c.requires, ap (λ x. length x.entries) c.self.view_is, length-map s.map.entries (λ e. e.1)) in
    record {
      value = is ∙ ap (λ x. x.next) c.self.view_is;
      free = ap (λ k. is_taken k c.args.self.now.entries) is ∙ ap (λ x. is_taken (next_id s.free.items s.next) x.entries) (sym c.self.view_is) ∙ is_free (ids_of s.map.entries) s.free.items s.next c.self.invariant.0;
      small = subst (λ k. k < max_members) (sym is) (is_small (ids_of s.map.entries) s.free.items s.next c.self.invariant.0 room);
    }
