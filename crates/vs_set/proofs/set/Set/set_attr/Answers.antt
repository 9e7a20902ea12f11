use Rattle.std.proofs.Common.{◌≡◌, false, None, sym, ap, ◌∙◌, arith, is_some}
use Rattle.std.proofs.lemmas.List.Sums.{count_by-le-length}
use Rattle.vs_defs.specs.PlainStep.{attr_after}
use Rattle.vs_defs.specs.Store.{Member, is_member}
use Rattle.vs_graph.specs.Standing.{members_of}
use Rattle.vs_order.specs.Entries.{ids_of}
use Rattle.vs_set.specs.Changed.{attributed}
use Rattle.vs_set.proofs.Given.{with_none, counts, set_given, kept_given, rows_kept}
use Rattle.vs_set.proofs.Members.{counted, has_is, live_at, named_at}
use Rattle.vs_set.proofs.set.Set.set_attr.Goals as goal

pub returns-in_default-clause-there : goal.returns-in_default-clause-there
returns-in_default-clause-there g c =
    let s = c.self.inside in
    ap is_some (sym c.in_default.is ∙ c.id_of.ensures) ∙ has_is (g.N.Nodes.at s.graph.nodes) s.graph.m s.graph.dim c.args.name.now s.names.entries c.self.invariant.0.named.names
    ∙ ap (λ x. is_member c.args.name.now x.contents.members) c.self.view_is

pub returns-in_default-clause-attributed : goal.returns-in_default-clause-attributed
returns-in_default-clause-attributed g c =
    let s = c.self.inside in
    let x = c.args.self.now in
    let absent : is_member c.args.name.now x.contents.members ≡ false
    = sym (ap is_some (sym c.in_default.is ∙ c.id_of.ensures) ∙ has_is (g.N.Nodes.at s.graph.nodes) s.graph.m s.graph.dim c.args.name.now s.names.entries c.self.invariant.0.named.names
    ∙ ap (λ x. is_member c.args.name.now x.contents.members) c.self.view_is) in
    ap (λ ms. record x { contents = record x.contents { members = ms } }) (sym (with_none c.args.name.now (attr_after c.args.text None) x.contents.members absent))

pub give_attr-requires-clause-live : goal.give_attr-requires-clause-live
give_attr-requires-clause-live g c =
    let s = c.self.inside in
    live_at (g.N.Nodes.at s.graph.nodes) c.args.name.now s.names.entries c.in-Some.id c.self.invariant.0.named.ids (sym c.id_of.ensures ∙ c.in-Some.is)

pub count_after-self-inside-requires-clause-counted : goal.count_after-self-inside-requires-clause-counted
count_after-self-inside-requires-clause-counted g c =
    let s = c.self.inside in
    omega (
      arith,
      c.self.invariant.0.counted,
      counts g.N.Nodes.at s.graph c.give_attr.new.graph c.in-Some.id c.args.text c.in_ok-had.had c.in_ok-had.has c.in_ok-had.ensures.given s.names.entries c.self.invariant.0.named c.args.name.now (sym c.id_of.ensures ∙ c.in-Some.is),
    )

pub count_after-self-inside-requires-clause-few : goal.count_after-self-inside-requires-clause-few
count_after-self-inside-requires-clause-few g c =
    let s = c.self.inside in
    omega (
      arith,
      c.self.invariant.0.counted,
      count_by-le-length (λ (y : Member). is_some y.attr) (members_of (g.N.Nodes.at s.graph.nodes) s.graph.dim (ids_of s.names.entries)),
      counted (g.N.Nodes.at s.graph.nodes) s.graph.m s.graph.dim s.names.entries,
      c.len-few.ensures.few,
      c.len-few.ensures.value,
    )

pub invariant_of-self-2 : goal.invariant_of-self-2
invariant_of-self-2 g c =
    let s = c.self.inside in (
      kept_given g.N.Nodes.at s.graph c.give_attr.new.graph c.in-Some.id c.args.text c.in_ok-had.had c.in_ok-had.has c.in_ok-had.ensures.given s.names.entries c.self.invariant.0.named
          s.order s.attributes c.count_after-self-inside.result c.self.invariant.0 c.count_after-self-inside.ensures,
      rows_kept g.N.Nodes.at s.graph c.give_attr.new.graph c.in-Some.id c.args.text c.in_ok-had.had c.in_ok-had.has c.in_ok-had.ensures.given s.names.entries c.self.invariant.0.named
          s.rows c.self.invariant.1,
    )

pub returns-clause-there : goal.returns-clause-there
returns-clause-there g c =
    let s = c.self.inside in
    ap is_some (sym c.in-Some.is ∙ c.id_of.ensures) ∙ has_is (g.N.Nodes.at s.graph.nodes) s.graph.m s.graph.dim c.args.name.now s.names.entries c.self.invariant.0.named.names
    ∙ ap (λ x. is_member c.args.name.now x.contents.members) c.self.view_is

pub returns-clause-attributed : goal.returns-clause-attributed
returns-clause-attributed g c =
    let s = c.self.inside in
    set_given g.N.Nodes.at s.graph c.give_attr.new.graph c.in-Some.id c.args.text c.in_ok-had.had c.in_ok-had.has c.in_ok-had.ensures.given s.names.entries c.self.invariant.0.named s.cut c.args.name.now
    (named_at (g.N.Nodes.at s.graph.nodes) c.args.name.now s.names.entries c.in-Some.id c.self.invariant.0.named.names (sym c.id_of.ensures ∙ c.in-Some.is))
    ∙ ap (attributed c.args.name.now c.args.text) c.self.view_is
