use Rattle.std.proofs.Common.{◌≡◌, None, Some, sym, ap, ◌∙◌, subst, arith, is_some}
use Rattle.std.proofs.lemmas.Bool.{both_ways}
use Rattle.std.proofs.lemmas.List.Sums.{count_by-le-length}
use Rattle.vs_defs.specs.Store.{Member, is_member}
use Rattle.vs_graph.specs.Standing.{members_of}
use Rattle.vs_bits.specs.Requests.{add_of}
use Rattle.vs_order.specs.Entries.{ids_of, id_of, place_of}
use Rattle.vs_set.specs.Kept.{set_by}
use Rattle.vs_set.specs.Changed.{AddsMember}
use Rattle.vs_set.proofs.Members.{counted, has_is, place_is, live_at, named_at}
use Rattle.vs_set.proofs.Places.{has_place}
use Rattle.vs_set.proofs.Replacement.{replaced, kept_replaced, rows_again, counts}
use Rattle.vs_set.proofs.set.Set.add_again.Goals as goal

pub unreachable-requires : goal.unreachable-requires
unreachable-requires g c =
    let s = c.self.inside in
    let name = c.args.add.now.name in
    let absent : id_of name s.names.entries ≡ None = ap (λ n. id_of n s.names.entries) (sym c.as_slice.ensures) ∙ sym c.id_of.ensures ∙ c.in_default.is in
    both_ways (is_some (id_of name s.names.entries)) (ap is_some absent)
    (has_is (g.N.Nodes.at s.graph.nodes) s.graph.m s.graph.dim name s.names.entries c.self.invariant.0.named.names ∙ ap (λ x. is_member name x.contents.members) c.self.view_is ∙ c.requires.member)

pub unreachable-requires-in_default-place_of : goal.unreachable-requires-in_default-place_of
unreachable-requires-in_default-place_of g c =
    let s = c.self.inside in
    let at = g.N.Nodes.at s.graph.nodes in
    let name = c.args.add.now.name in
    let absent : place_of name s.names.entries ≡ None = ap (λ n. place_of n s.names.entries) (sym c.as_slice-2.ensures) ∙ sym c.place_of.ensures ∙ c.in_default-place_of.is in
    both_ways (is_some (place_of name s.names.entries)) (ap is_some absent)
    (ap is_some (place_is at s.graph.m s.graph.dim name s.names.entries c.self.invariant.0.named.names) ∙ has_place name (members_of at s.graph.dim (ids_of s.names.entries))
    ∙ ap (λ x. is_member name x.contents.members) c.self.view_is ∙ c.requires.member)

pub replace_member-requires-clause-live : goal.replace_member-requires-clause-live
replace_member-requires-clause-live g c =
    let s = c.self.inside in
    live_at (g.N.Nodes.at s.graph.nodes) c.args.add.now.name s.names.entries c.in-Some.id c.self.invariant.0.named.ids
    (ap (λ n. id_of n s.names.entries) (sym c.as_slice.ensures) ∙ sym c.id_of.ensures ∙ c.in-Some.is)

pub replace_member-requires-clause-name : goal.replace_member-requires-clause-name
replace_member-requires-clause-name g c =
    let s = c.self.inside in
    named_at (g.N.Nodes.at s.graph.nodes) c.args.add.now.name s.names.entries c.in-Some.id c.self.invariant.0.named.names
    (ap (λ n. id_of n s.names.entries) (sym c.as_slice.ensures) ∙ sym c.id_of.ensures ∙ c.in-Some.is)

pub replace_member-requires-clause-dim : goal.replace_member-requires-clause-dim
replace_member-requires-clause-dim g c = c.requires.dim ∙ ap (λ x. x.contents.dim) (sym c.self.view_is)

pub count_after-self-inside-requires-clause-counted : goal.count_after-self-inside-requires-clause-counted
count_after-self-inside-requires-clause-counted g c =
    let s = c.self.inside in
    let at = g.N.Nodes.at in
    let r = c.in_ok-graph.field-0 in
    let found : id_of c.args.add.now.name s.names.entries ≡ Some c.in-Some.id = ap (λ n. id_of n s.names.entries) (sym c.as_slice.ensures) ∙ sym c.id_of.ensures ∙ c.in-Some.is in
    let named = named_at (at s.graph.nodes) c.args.add.now.name s.names.entries c.in-Some.id c.self.invariant.0.named.names found in
    omega (
      arith,
      c.self.invariant.0.counted,
      counts at s.graph r.graph c.in-Some.id (add_of c.args.add.now) c.args.level r.had r.has c.in_ok-graph.ensures s.names.entries c.self.invariant.0.named found named,
    )

pub count_after-self-inside-requires-clause-few : goal.count_after-self-inside-requires-clause-few
count_after-self-inside-requires-clause-few g c =
    let s = c.self.inside in
    omega (
      arith,
      c.self.invariant.0.counted,
      count_by-le-length (λ (y : Member). is_some y.attr) (members_of (g.N.Nodes.at s.graph.nodes) s.graph.dim (ids_of s.names.entries)),
      counted (g.N.Nodes.at s.graph.nodes) s.graph.m s.graph.dim s.names.entries,
      c.len-members.ensures.few,
      c.len-members.ensures.value,
    )

pub invariant_of-self : goal.invariant_of-self
invariant_of-self g c =
    let s = c.self.inside in
    let at = g.N.Nodes.at in
    let r = c.in_ok-graph.field-0 in
    let found : id_of c.args.add.now.name s.names.entries ≡ Some c.in-Some.id = ap (λ n. id_of n s.names.entries) (sym c.as_slice.ensures) ∙ sym c.id_of.ensures ∙ c.in-Some.is in
    let named = named_at (at s.graph.nodes) c.args.add.now.name s.names.entries c.in-Some.id c.self.invariant.0.named.names found in
    let place : place_of c.args.add.now.name s.names.entries ≡ Some c.in-Some-place_of.place
    = ap (λ n. place_of n s.names.entries) (sym c.as_slice-2.ensures) ∙ sym c.place_of.ensures ∙ c.in-Some-place_of.is in (
      kept_replaced at s.graph r.graph c.in-Some.id (add_of c.args.add.now) c.args.level r.had r.has c.in_ok-graph.ensures named s.names.entries s.order s.attributes c.self.invariant.0 found
          c.count_after-self-inside.result c.count_after-self-inside.ensures,
      rows_again at s.graph r.graph c.in-Some.id (add_of c.args.add.now) c.args.level r.had r.has c.in_ok-graph.ensures named s.names.entries s.order s.attributes c.self.invariant.0 found
          s.rows c.put.new.self c.in-Some-place_of.place c.words.result.now c.self.invariant.1 place c.put.ensures (record { fits = c.words.ensures.fits; same = c.words.ensures.value }),
    )

pub returns-clause-added : goal.returns-clause-added
returns-clause-added g c =
    let s = c.self.inside in
    let at = g.N.Nodes.at in
    let r = c.in_ok-graph.field-0 in
    let t = r.graph in
    let add = add_of c.args.add.now in
    let found : id_of c.args.add.now.name s.names.entries ≡ Some c.in-Some.id = ap (λ n. id_of n s.names.entries) (sym c.as_slice.ensures) ∙ sym c.id_of.ensures ∙ c.in-Some.is in
    let named = named_at (at s.graph.nodes) c.args.add.now.name s.names.entries c.in-Some.id c.self.invariant.0.named.names found in
    let changed = c.in_ok-graph.ensures in
    subst (λ x. AddsMember add c.args.level c.args.cut x (set_by (at t.nodes) t.entry t.m t.dim c.args.cut s.names.entries)) c.self.view_is
    (subst (λ y. AddsMember add c.args.level c.args.cut (set_by (at s.graph.nodes) s.graph.entry s.graph.m s.graph.dim s.cut s.names.entries) y)
    (λ i. set_by (at t.nodes) t.entry (sym (changed.grown.inserted.m ∙ changed.out.m) i) (sym (changed.grown.inserted.dim ∙ changed.out.dim) i) c.args.cut s.names.entries)
    (replaced at s.graph t c.in-Some.id add c.args.level r.had r.has changed named s.cut c.args.cut s.names.entries c.self.invariant.0.named found))
