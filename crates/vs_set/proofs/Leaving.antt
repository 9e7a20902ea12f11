-- A snapshot from which a member is taken out.
--     is_out            what the removal's change leaves
--     name_free         nobody that is left has its name
use Rattle.std.proofs.Common.{◌≡◌, ◌≢◌, ℕ, true, false, [], refl, sym, ap, ◌∙◌, subst, is_some}
use Rattle.std.specs.Prelude.{Some, None, IfSome, option_map}
use Rattle.std.specs.Option.{option_map_or}
use Rattle.std.specs.declared.option.Option.{Option}
use Rattle.std.proofs.lemmas.Bool.{both_ways}
use Rattle.vs_defs.specs.Bytes.{Bytes}
use Rattle.vs_graph.specs.declared.node.Node.{Node}
use Rattle.vs_graph.specs.declared.node.Body.{Body}
use Rattle.vs_graph.specs.declared.edit.Edit.{Edit}
use Rattle.vs_graph.specs.Edits.{overwritten}
use Rattle.vs_graph.specs.Good.{IsGood, AreLinksGood}
use Rattle.vs_graph.specs.Replaced.{IsSameGraph, IsReplaced}
use Rattle.vs_graph.specs.Seen.{Seen}
use Rattle.vs_graph.specs.Standing.{name_of}
use Rattle.vs_insert.specs.Removed.{RemovesByNames}
use Rattle.vs_unlink.specs.Unlinked.{IsWithout}
use Rattle.vs_unlink.proofs.Bare.{live_bare}
use Rattle.vs_set.specs.Again.{IsOut}
use Rattle.vs_set.proofs.Growth.{name_kept}

pub is_out : {N : Type 0} (at : N → ℕ → Option Node) (old copy left : Seen N) (edit : Edit) (entry : Option ℕ) (x : ℕ) → IsSameGraph at copy old → IsReplaced at copy left edit entry → IsGood (at old.nodes) old.entry old.m old.dim
    → IsWithout (at copy.nodes) (overwritten edit (at copy.nodes)) x → RemovesByNames (at copy.nodes) (overwritten edit (at copy.nodes)) copy.entry entry copy.m copy.dim x → IsOut at old left x
is_out at old copy left edit entry x same put good gone removes = record {
  gone = subst (λ f. IsWithout f (at left.nodes) x) same.nodes (subst (λ f. IsWithout (at copy.nodes) f x) (sym put.nodes) gone);
  removes =
      subst (λ f. RemovesByNames f (at left.nodes) old.entry left.entry old.m old.dim x) same.nodes
      (subst (λ e. RemovesByNames (at copy.nodes) (at left.nodes) e left.entry old.m old.dim x) same.entry
      (subst (λ k. RemovesByNames (at copy.nodes) (at left.nodes) copy.entry left.entry k old.dim x) same.m
      (subst (λ d. RemovesByNames (at copy.nodes) (at left.nodes) copy.entry left.entry copy.m d x) same.dim
      (subst (λ e. RemovesByNames (at copy.nodes) (at left.nodes) copy.entry e copy.m copy.dim x) (sym put.taken)
      (subst (λ f. RemovesByNames (at copy.nodes) f copy.entry entry copy.m copy.dim x) (sym put.nodes) removes)))));
  before = good;
  m = put.m ∙ same.m;
  dim = put.dim ∙ same.dim;
}

abbrev name_in : Option Node → Bytes
name_in o = option_map_or (λ (body : Body). body.name) (option_map (λ (node : Node). node.body) o) []

one_of_name : (a b : ℕ) (o p : Option Node) → IfSome o (λ x. IfSome p (λ y. x.body.name ≡ y.body.name → a ≡ b)) → is_some o ≡ true → is_some p ≡ true → name_in o ≡ name_in p → a ≡ b
one_of_name a b None p h so sp e = absurd (both_ways false refl so)
one_of_name a b (Some x) None h so sp e = absurd (both_ways false refl sp)
one_of_name a b (Some x) (Some y) h so sp e = h e

pub name_free : (at left : ℕ → Option Node) (m dim x : ℕ) (name : Bytes) → AreLinksGood at m dim → IsWithout at left x → name_of at x ≡ name → (q : ℕ) → IfSome (left q) (λ other. other.body.name ≢ name)
name_free at left m dim x name good gone named q = by (left q) refl where
  by : (o : Option Node) → left q ≡ o → IfSome o (λ other. other.body.name ≢ name)
  by None e = tt
  by (Some node) e = λ same.
      let ne : q ≢ x = λ is. both_ways (is_some (left x)) (ap is_some gone.gone) (ap (λ k. is_some (left k)) (sym is) ∙ ap is_some e) in
      let live : is_some (at q) ≡ true = sym (live_bare (at q)) ∙ ap is_some (sym (gone.others q ne)) ∙ live_bare (left q) ∙ ap is_some e in
      ne (one_of_name q x (at q) (at x) (good.names q x) live gone.was (sym (name_kept left at q (gone.others q ne)) ∙ ap name_in e ∙ same ∙ sym named))
