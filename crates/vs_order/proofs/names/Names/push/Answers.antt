use Rattle.std.proofs.Common.{◌≡◌, ◌<◌, ◌-◌, ◌++◌, ◌∷◌, [], length, None, min, subst, sym, ap, ◌∙◌, arith, ℕ, take}
use Rattle.std.specs.Prelude.{nat_eq}
use Rattle.std.specs.Vec.{vec_capacity}
use Rattle.std.specs.Cmp.Lexicographic.{pointwise}
use Rattle.std.proofs.lemmas.List.{map_push, length-map}
use Rattle.indexmap.specs.IndexMap.{spare}
use Rattle.indexmap.proofs.CallerLemmas.{insert_entry-new}
use Rattle.vs_defs.specs.Bytes.{Bytes}
use Rattle.vs_defs.specs.Limits.{max_members}
use Rattle.vs_order.specs.Entries.{ids_of, id_of}
use Rattle.vs_order.specs.Ids.{AreSplit, next_id}
use Rattle.vs_order.proofs.FreeIds.{pushed, after_least}
use Rattle.vs_order.proofs.names.Names.push.Goals as goal

pub invariant_of-self : goal.invariant_of-self
invariant_of-self c =
    let s = c.self.inside in
    let t = c.take_id-id in
    let es = s.map.entries in
    let none : id_of c.args.name es ≡ None = ap (λ x. id_of c.args.name x.entries) c.self.view_is ∙ c.requires.new in
    let grown : c.insert.new.self.entries ≡ es ++ (c.args.name, t.result) ∷ [] = c.in-Ok.ensures.entries ∙ insert_entry-new (pointwise nat_eq) s.map c.args.name t.result none in
    let few : length (ids_of es) < max_members = omega (arith, c.requires.few, ap (λ x. length x.entries) c.self.view_is, length-map es (λ (e : Bytes × ℕ). e.1)) in
    let room : 0 < min (spare s.map) (vec_capacity s.free - s.next) = subst (λ n. 0 < n) (ap (λ x. x.room) (sym c.self.view_is)) c.requires.room in (
      subst (λ l. AreSplit (ids_of l) t.new.free.items t.new.next) (sym grown)
          (subst (λ l. AreSplit l t.new.free.items t.new.next) (sym (map_push (λ (e : Bytes × ℕ). e.1) es (c.args.name, t.result)))
          (subst (λ k. AreSplit (ids_of es ++ k ∷ []) t.new.free.items t.new.next) (sym t.ensures.id)
          (subst (λ f. AreSplit (ids_of es ++ next_id s.free.items s.next ∷ []) f t.new.next) (sym t.ensures.free)
          (subst (λ n. AreSplit (ids_of es ++ next_id s.free.items s.next ∷ []) (take (length s.free.items - 1) s.free.items) n) (sym t.ensures.next) (pushed (ids_of es) s.free.items s.next c.self.invariant.0 few))))),
      omega (arith, t.ensures.next, t.ensures.capacity, after_least s.free.items s.next, room),
    )

pub returns : goal.returns
returns c =
    let s = c.self.inside in
    let t = c.take_id-id in
    let es = s.map.entries in
    let none : id_of c.args.name es ≡ None = ap (λ x. id_of c.args.name x.entries) c.self.view_is ∙ c.requires.new in
    c.in-Ok.ensures.entries ∙ insert_entry-new (pointwise nat_eq) s.map c.args.name t.result none ∙ ap (λ k. es ++ (c.args.name, k) ∷ []) t.ensures.id
    ∙ ap (λ x. x.entries ++ (c.args.name, x.next) ∷ []) c.self.view_is
