use Rattle.std.proofs.Common.{◌≡◌, ap, sym, ◌∙◌, subst}
use Rattle.std.specs.Prelude.{slice_get, IsSomeAnd}
use Rattle.std.proofs.lemmas.Option.{none-some, same_Some}
use Rattle.vs_page.specs.Changes.{items_of}
use Rattle.vs_order.specs.Entries.{Entries, ids_of, is_taken, place_of_id}
use Rattle.vs_order.specs.Listed.{entries_of}
use Rattle.vs_order.proofs.Places.{place_there, entry_at}
use Rattle.vs_order.proofs.order.Order.place_of.Goals as goal

pub unreachable-requires : goal.unreachable-requires
unreachable-requires c =
    let s = c.self.inside in
    let es = entries_of s.members in
    let there = place_there (ids_of es) (items_of s.places) c.args.id c.self.invariant.0 (ap (is_taken c.args.id) c.self.view_is ∙ c.requires) in
    none-some (place_of_id c.args.id es) (c.in-None.ensures ∙ there.2)

pub returns : goal.returns
returns c =
    let s = c.self.inside in
    let es = entries_of s.members in
    let there = place_there (ids_of es) (items_of s.places) c.args.id c.self.invariant.0 (ap (is_taken c.args.id) c.self.view_is ∙ c.requires) in
    let is : place_of_id c.args.id es ≡ c.in-Some.place.now = same_Some (place_of_id c.args.id es) c.in-Some.place.now (sym there.2 ∙ sym c.in-Some.ensures) in
    record {
      value = sym is ∙ ap (place_of_id c.args.id) c.self.view_is;
      there = subst (λ (l : Entries). IsSomeAnd (slice_get l c.in-Some.place.now) (λ e. c.args.id ≡ e.1)) c.self.view_is
          (subst (λ k. IsSomeAnd (slice_get es k) (λ e. c.args.id ≡ e.1)) is (entry_at es (place_of_id c.args.id es) c.args.id there.0 there.1));
    }
