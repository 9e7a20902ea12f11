use Rattle.std.proofs.Common.{◌≡◌, ◌++◌, ◌∷◌, [], length, None, sym, ap, ◌∙◌, subst, arith, is_some}
use Rattle.std.proofs.lemmas.List.Sums.{count_by-le-length}
use Rattle.vs_defs.specs.Store.{Member, is_member}
use Rattle.vs_graph.specs.Standing.{members_of}
use Rattle.vs_bits.specs.Requests.{add_of}
use Rattle.vs_order.specs.Entries.{ids_of, id_of}
use Rattle.vs_set.specs.Kept.{set_by, IsKept, KeepRows}
use Rattle.vs_set.specs.Changed.{AddsMember}
use Rattle.vs_laws.proofs.Options.{none_is}
use Rattle.vs_set.proofs.Members.{counted, has_is, fresh_name}
use Rattle.vs_set.proofs.Added.{added}
use Rattle.vs_set.proofs.Keeping.{kept_grown, rows_grown}
use Rattle.vs_set.proofs.Sames.{kept_same, rows_same_graph, set_same, on_err}
use Rattle.vs_set.proofs.set.Set.add_new.Goals as goal

pub place_for-requires-clause-same : goal.place_for-requires-clause-same
place_for-requires-clause-same g c = c.self.invariant.0.same

pub place_for-requires-clause-new : goal.place_for-requires-clause-new
place_for-requires-clause-new g c =
    let s = c.self.inside in
    ap (λ n. id_of n s.names.entries) c.as_slice.ensures
    ∙ none_is (id_of c.args.add.now.name s.names.entries)
    (has_is (g.N.Nodes.at s.graph.nodes) s.graph.m s.graph.dim c.args.add.now.name s.names.entries c.self.invariant.0.named.names
    ∙ ap (λ x. is_member c.args.add.now.name x.contents.members) c.self.view_is ∙ c.requires.new)

pub place_for-requires-clause-few : goal.place_for-requires-clause-few
place_for-requires-clause-few g c =
    let s = c.self.inside in
    omega (arith, c.requires.room, ap (λ x. length x.contents.members) c.self.view_is, counted (g.N.Nodes.at s.graph.nodes) s.graph.m s.graph.dim s.names.entries)

pub invariant_of-self : goal.invariant_of-self
invariant_of-self g c =
    let s = c.self.inside in
    subst (λ es. IsKept (g.N.Nodes.at s.graph.nodes) s.graph.dim es s.order s.attributes × KeepRows (g.N.Nodes.at s.graph.nodes) s.graph.dim es s.rows)
    (sym c.place_for.ensures.entries) c.self.invariant

pub returns-in_err-name-clause-err : goal.returns-in_err-name-clause-err
returns-in_err-name-clause-err g c =
    let s = c.self.inside in
    on_err c.from_residual.result (ap (λ es. set_by (g.N.Nodes.at s.graph.nodes) s.graph.entry s.graph.m s.graph.dim s.cut es) c.place_for.ensures.entries ∙ c.self.view_is)

pub grow-requires-clause-dim : goal.grow-requires-clause-dim
grow-requires-clause-dim g c = c.requires.dim ∙ ap (λ x. x.contents.dim) (sym c.self.view_is)

pub grow-requires-clause-free : goal.grow-requires-clause-free
grow-requires-clause-free g c =
    none_is (g.N.Nodes.at c.self.inside.graph.nodes c.in_ok-name.field-0.id) (sym (c.self.invariant.0.named.ids.live c.in_ok-name.field-0.id) ∙ c.in_ok-name.ensures.placed.free)

pub grow-requires-clause-small : goal.grow-requires-clause-small
grow-requires-clause-small g c = c.in_ok-name.ensures.placed.small

pub grow-requires-clause-name : goal.grow-requires-clause-name
grow-requires-clause-name g c =
    let s = c.self.inside in
    fresh_name (g.N.Nodes.at s.graph.nodes) s.graph.m s.graph.dim c.args.add.now.name (ids_of s.names.entries) c.self.invariant.0.named.ids
    (ap (λ x. is_member c.args.add.now.name x.contents.members) c.self.view_is ∙ c.requires.new)

pub invariant_of-self-in_err-has : goal.invariant_of-self-in_err-has
invariant_of-self-in_err-has g c =
    let s = c.self.inside in (
      kept_same g.N.Nodes.at c.grow.new.graph s.graph c.in_err-has.ensures.err c.place_for.new.names.entries s.names.entries c.place_for.ensures.entries s.order s.attributes c.self.invariant.0,
      rows_same_graph g.N.Nodes.at c.grow.new.graph s.graph c.in_err-has.ensures.err c.place_for.new.names.entries s.names.entries c.place_for.ensures.entries s.rows c.self.invariant.1,
    )

pub returns-in_err-has-clause-err : goal.returns-in_err-has-clause-err
returns-in_err-has-clause-err g c =
    let s = c.self.inside in
    on_err c.from_residual-in_err-has.result
    (set_same g.N.Nodes.at c.grow.new.graph s.graph c.in_err-has.ensures.err c.place_for.new.names.entries s.names.entries c.place_for.ensures.entries s.cut ∙ c.self.view_is)

pub push-requires-clause-room : goal.push-requires-clause-room
push-requires-clause-room g c = c.in_ok-name.ensures.room

pub push-requires-clause-new : goal.push-requires-clause-new
push-requires-clause-new g c =
    let s = c.self.inside in
    ap (λ n. id_of n c.place_for.new.names.entries) (c.in_ok-name.ensures.placed.name_is ∙ c.as_slice.ensures)
    ∙ ap (id_of c.args.add.now.name) c.place_for.ensures.entries
    ∙ none_is (id_of c.args.add.now.name s.names.entries)
    (has_is (g.N.Nodes.at s.graph.nodes) s.graph.m s.graph.dim c.args.add.now.name s.names.entries c.self.invariant.0.named.names
    ∙ ap (λ x. is_member c.args.add.now.name x.contents.members) c.self.view_is ∙ c.requires.new)

pub push-requires-clause-few : goal.push-requires-clause-few
push-requires-clause-few g c =
    let s = c.self.inside in
    omega (arith, ap length c.place_for.ensures.entries, c.requires.room, ap (λ x. length x.contents.members) c.self.view_is, counted (g.N.Nodes.at s.graph.nodes) s.graph.m s.graph.dim s.names.entries)

pub count_after-self-inside-requires-clause-few : goal.count_after-self-inside-requires-clause-few
count_after-self-inside-requires-clause-few g c =
    let s = c.self.inside in
    omega (
      arith,
      c.self.invariant.0.counted,
      count_by-le-length (λ (y : Member). is_some y.attr) (members_of (g.N.Nodes.at s.graph.nodes) s.graph.dim (ids_of s.names.entries)),
      c.requires.room,
      ap (λ x. length x.contents.members) c.self.view_is,
    )

pub invariant_of-self-2 : goal.invariant_of-self-2
invariant_of-self-2 g c =
    let s = c.self.inside in
    let at = g.N.Nodes.at in
    let id = c.in_ok-name.field-0.id in
    let name = c.args.add.now.name in
    let placed = c.in_ok-name.ensures.placed in
    let free = none_is (at s.graph.nodes id) (sym (c.self.invariant.0.named.ids.live id) ∙ placed.free) in
    let after : c.push.new.self.entries ≡ s.names.entries ++ (name, id) ∷ []
    = c.push.ensures ∙ ap (λ es. es ++ (c.in_ok-name.field-0.name, c.place_for.new.names.next) ∷ []) c.place_for.ensures.entries
    ∙ ap (λ n. s.names.entries ++ (c.in_ok-name.field-0.name, n) ∷ []) (c.place_for.ensures.next ∙ sym placed.id_is)
    ∙ ap (λ n. s.names.entries ++ (n, id) ∷ []) (placed.name_is ∙ c.as_slice.ensures) in (
      kept_grown at s.graph c.grow.new.graph id (add_of c.args.add.now) None c.args.level c.in_ok-has.has c.in_ok-has.ensures.grown s.names.entries s.order s.attributes c.self.invariant.0 free
          c.push.new.self.entries c.in_ok-name.field-0.order c.count_after-self-inside.result after (placed.order_is ∙ ap (λ n. s.names.entries ++ (n, id) ∷ []) c.as_slice.ensures)
          (omega (arith, c.count_after-self-inside.ensures)),
      rows_grown at s.graph c.grow.new.graph id (add_of c.args.add.now) None c.args.level c.in_ok-has.has c.in_ok-has.ensures.grown s.names.entries s.order s.attributes c.self.invariant.0 free
          s.rows c.put.new.self c.len-count.result c.words.result.now c.self.invariant.1 (c.len-count.ensures.value ∙ ap length c.place_for.ensures.entries) c.put.ensures
          (record { fits = c.words.ensures.fits; same = c.words.ensures.value }) c.push.new.self.entries after,
    )

pub returns-clause-added : goal.returns-clause-added
returns-clause-added g c =
    let s = c.self.inside in
    let at = g.N.Nodes.at in
    let t = c.grow.new.graph in
    let id = c.in_ok-name.field-0.id in
    let name = c.args.add.now.name in
    let placed = c.in_ok-name.ensures.placed in
    let grown = c.in_ok-has.ensures.grown in
    let add = add_of c.args.add.now in
    let absent : id_of name s.names.entries ≡ None
    = none_is (id_of name s.names.entries)
    (has_is (at s.graph.nodes) s.graph.m s.graph.dim name s.names.entries c.self.invariant.0.named.names ∙ ap (λ x. is_member name x.contents.members) c.self.view_is ∙ c.requires.new) in
    let after : c.push.new.self.entries ≡ s.names.entries ++ (name, id) ∷ []
    = c.push.ensures ∙ ap (λ es. es ++ (c.in_ok-name.field-0.name, c.place_for.new.names.next) ∷ []) c.place_for.ensures.entries
    ∙ ap (λ n. s.names.entries ++ (c.in_ok-name.field-0.name, n) ∷ []) (c.place_for.ensures.next ∙ sym placed.id_is)
    ∙ ap (λ n. s.names.entries ++ (n, id) ∷ []) (placed.name_is ∙ c.as_slice.ensures) in
    subst (λ x. AddsMember add c.args.level c.args.cut x (set_by (at t.nodes) t.entry t.m t.dim c.cut_after-cut.result c.push.new.self.entries)) c.self.view_is
    (subst (λ y. AddsMember add c.args.level c.args.cut (set_by (at s.graph.nodes) s.graph.entry s.graph.m s.graph.dim s.cut s.names.entries) y)
    (λ i. set_by (at t.nodes) t.entry (sym grown.inserted.m i) (sym grown.inserted.dim i) (sym c.cut_after-cut.ensures i) (sym after i))
    (added at s.graph t id add c.args.level c.in_ok-has.has grown s.cut c.args.cut name s.names.entries c.self.invariant.0.named absent))
