use Rattle.std.proofs.Common.{◌≡◌, ◌-◌, sym, ap, ◌∙◌, subst, arith, is_some}
use Rattle.std.specs.Prelude.{IsSomeAnd, slice_get}
use Rattle.std.proofs.lemmas.List.Sums.{count_by-le-length}
use Rattle.vs_defs.specs.Store.{Member, is_member}
use Rattle.vs_graph.specs.Standing.{members_of}
use Rattle.vs_order.specs.Entries.{ids_of, without_place}
use Rattle.vs_set.specs.Kept.{set_by}
use Rattle.vs_set.specs.Changed.{RemovesMember}
use Rattle.vs_set.proofs.Members.{counted, place_is}
use Rattle.vs_set.proofs.Places.{has_place}
use Rattle.vs_set.proofs.Removal.{low, live_there, counts, kept_out, rows_out, removes}
use Rattle.vs_set.proofs.set.Set.remove.Goals as goal

pub returns-in_default-clause-there : goal.returns-in_default-clause-there
returns-in_default-clause-there g c =
    let s = c.self.inside in
    let at = g.N.Nodes.at s.graph.nodes in
    ap is_some (sym c.in_default.is ∙ c.place_of.ensures ∙ place_is at s.graph.m s.graph.dim c.args.name.now s.names.entries c.self.invariant.0.named.names)
    ∙ has_place c.args.name.now (members_of at s.graph.dim (ids_of s.names.entries)) ∙ ap (λ x. is_member c.args.name.now x.contents.members) c.self.view_is

pub take_out-requires-clause-live : goal.take_out-requires-clause-live
take_out-requires-clause-live g c =
    let s = c.self.inside in
    live_there c.args.name.now s.names.entries c.in-Some.place (sym c.place_of.ensures ∙ c.in-Some.is) c.id_at-id.result
    (subst (λ es. IsSomeAnd (slice_get es c.in-Some.place) (λ e. c.id_at-id.result ≡ e.1)) c.self.invariant.0.same c.id_at-id.ensures) (g.N.Nodes.at s.graph.nodes) c.self.invariant.0.named

pub count_after-self-inside-requires-clause-counted : goal.count_after-self-inside-requires-clause-counted
count_after-self-inside-requires-clause-counted g c =
    let s = c.self.inside in
    omega (
      arith,
      c.self.invariant.0.counted,
      counts g.N.Nodes.at s.graph c.take_out.new.graph c.id_at-id.result c.in_ok-had.ensures.out c.args.name.now c.in-Some.place s.names.entries (sym c.place_of.ensures ∙ c.in-Some.is)
          (subst (λ es. IsSomeAnd (slice_get es c.in-Some.place) (λ e. c.id_at-id.result ≡ e.1)) c.self.invariant.0.same c.id_at-id.ensures) c.self.invariant.0.named c.in_ok-had.had c.in_ok-had.ensures.had,
    )

pub count_after-self-inside-requires-clause-few : goal.count_after-self-inside-requires-clause-few
count_after-self-inside-requires-clause-few g c =
    let s = c.self.inside in
    omega (
      arith,
      c.self.invariant.0.counted,
      count_by-le-length (λ (y : Member). is_some y.attr) (members_of (g.N.Nodes.at s.graph.nodes) s.graph.dim (ids_of s.names.entries)),
      counted (g.N.Nodes.at s.graph.nodes) s.graph.m s.graph.dim s.names.entries,
      c.len-count.ensures.few,
      c.len-count.ensures.value,
    )

pub invariant_of-self-2 : goal.invariant_of-self-2
invariant_of-self-2 g c =
    let s = c.self.inside in
    let place = sym c.place_of.ensures ∙ c.in-Some.is in
    let id = subst (λ es. IsSomeAnd (slice_get es c.in-Some.place) (λ e. c.id_at-id.result ≡ e.1)) c.self.invariant.0.same c.id_at-id.ensures in (
      kept_out g.N.Nodes.at s.graph c.take_out.new.graph c.id_at-id.result c.in_ok-had.ensures.out c.args.name.now c.in-Some.place s.names.entries place id c.self.invariant.0.named
          c.in_ok-had.had c.in_ok-had.ensures.had s.order s.attributes c.self.invariant.0 c.swap_remove.new.self.entries c.in_ok-order.order c.count_after-self-inside.result c.swap_remove.ensures
          (c.in_ok-order.ensures ∙ ap (without_place c.in-Some.place) c.self.invariant.0.same) (omega (arith, c.count_after-self-inside.ensures)),
      rows_out g.N.Nodes.at s.graph c.take_out.new.graph c.id_at-id.result c.in_ok-had.ensures.out c.args.name.now c.in-Some.place s.names.entries place id c.self.invariant.0.named
          s.rows c.take_to.new.self (c.len-count.result - 1) c.self.invariant.1 (omega (arith, c.len-count.ensures.value, low c.args.name.now s.names.entries c.in-Some.place place)) c.take_to.ensures
          c.swap_remove.new.self.entries c.swap_remove.ensures,
    )

pub returns-clause-there : goal.returns-clause-there
returns-clause-there g c =
    let s = c.self.inside in
    let at = g.N.Nodes.at s.graph.nodes in
    ap is_some (sym c.in-Some.is ∙ c.place_of.ensures ∙ place_is at s.graph.m s.graph.dim c.args.name.now s.names.entries c.self.invariant.0.named.names)
    ∙ has_place c.args.name.now (members_of at s.graph.dim (ids_of s.names.entries)) ∙ ap (λ x. is_member c.args.name.now x.contents.members) c.self.view_is

pub returns-clause-removed : goal.returns-clause-removed
returns-clause-removed g c _ =
    let s = c.self.inside in
    let at = g.N.Nodes.at in
    let t = c.take_out.new.graph in
    let out = c.in_ok-had.ensures.out in
    subst (λ x. RemovesMember c.args.name.now c.args.cut x (set_by (at t.nodes) t.entry t.m t.dim c.args.cut c.swap_remove.new.self.entries)) c.self.view_is
    (subst (λ y. RemovesMember c.args.name.now c.args.cut (set_by (at s.graph.nodes) s.graph.entry s.graph.m s.graph.dim s.cut s.names.entries) y)
    (λ i. set_by (at t.nodes) t.entry (sym out.m i) (sym out.dim i) c.args.cut (sym c.swap_remove.ensures i))
    (removes at s.graph t c.id_at-id.result out c.args.name.now c.in-Some.place s.names.entries (sym c.place_of.ensures ∙ c.in-Some.is)
    (subst (λ es. IsSomeAnd (slice_get es c.in-Some.place) (λ e. c.id_at-id.result ≡ e.1)) c.self.invariant.0.same c.id_at-id.ensures) c.self.invariant.0.named s.cut c.args.cut))
