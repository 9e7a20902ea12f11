-- What a graph stands for by names does not depend on the order of the members.
use Rattle.std.proofs.Common.{◌≡◌, ℕ, List, sym, ◌∙◌}
use Rattle.std.specs.declared.option.Option.{Option}
use Rattle.std.proofs.Math.Path.{fun_ext}
use Rattle.vs_graph.specs.declared.node.Node.{Node}
use Rattle.vs_graph.specs.Bodies.{Bodies}
use Rattle.vs_graph.specs.Good.{body_at, links_at, AreLinksGood}
use Rattle.vs_defs.specs.Links.{Links}
use Rattle.vs_graph.specs.Named.{is_live, IsNamed}
use Rattle.vs_graph.specs.Standing.{AreIds, named_links}
use Rattle.vs_graph.specs.Table.{Table}
use Rattle.vs_graph.proofs.Naming.{names_fixed}
use Rattle.vs_graph.proofs.Standing.{are_named}

renamed : (bodies : Bodies) (ids others : List ℕ) (tables : ℕ → Table) (links : Links) → ((q : ℕ) → is_live ids q ≡ is_live others q) → IsNamed bodies others tables links → IsNamed bodies ids tables links
renamed bodies ids others tables links live h = record {
  same = λ l a b la lb. h.same l a b (sym (live a) ∙ la) (sym (live b) ∙ lb);
  within = λ l a b e. let w = h.within l a b e in ((w.0.0, live w.0.0 ∙ w.0.1, w.0.2), (w.1.0, live w.1.0 ∙ w.1.1, w.1.2));
}

pub links_reordered : (at : ℕ → Option Node) (m dim : ℕ) (ids others : List ℕ) → AreLinksGood at m dim → AreIds at ids → AreIds at others → named_links at ids ≡ named_links at others
links_reordered at m dim ids others good one other =
    fun_ext (λ layer. fun_ext (λ a. fun_ext (λ b.
    names_fixed (body_at at) ids (λ l. links_at at l) (named_links at ids) (named_links at others) (are_named at m dim ids good one)
    (renamed (body_at at) ids others (λ l. links_at at l) (named_links at others) (λ q. one.live q ∙ sym (other.live q)) (are_named at m dim others good other)) layer a b)))
