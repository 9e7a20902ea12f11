use Rattle.std.proofs.Common.{ap, ◌∙◌, arith}
use Rattle.vs_graph.specs.Standing.{members_of, name_of}
use Rattle.vs_defs.specs.PlainStep.{with_attr}
use Rattle.vs_set.specs.Kept.{one_if}
use Rattle.vs_set.proofs.Given.{names_given, counted_given}
use Rattle.vs_set.proofs.attributes.give_attr.Goals as goal

pub returns-clause-given : goal.returns-clause-given
returns-clause-given g c =
    let at = g.N.Nodes.at in
    let s = c.args.graph.now in
    let t = c.set_attr.new.graph in
    let done = c.in_ok-set_attr.ensures in record {
      names = names_given (at s.nodes) (at t.nodes) c.args.id c.in_ok-attr.attr done.attr;
      ids = done.ids;
      members = λ all are. done.members all are ∙ ap (λ a. with_attr (name_of (at s.nodes) c.args.id) a (members_of (at s.nodes) s.dim all)) c.in_ok-attr.ensures;
      had_is = c.has_attr-had.ensures s.dim;
      counted = λ all are. omega (
        arith,
        counted_given (at s.nodes) (at t.nodes) c.args.id c.in_ok-attr.attr done.attr s.dim all are c.requires.live,
        ap one_if (c.has_attr-had.ensures s.dim),
        ap one_if c.is_some-has.ensures,
      );
      wiring = done.wiring;
      m = done.m;
      dim = done.dim;
    }
