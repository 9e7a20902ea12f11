-- Rows of members, in their order.
--     one_row       the row of a node
--     one_more, all_rows      the rows of the members before a place, and of all
use Rattle.std.proofs.Common.{◌≡◌, ℕ, ◌<◌, ◌≤◌, ◌+◌, List, [], ◌∷◌, ◌++◌, length, map, take, get_or, sym, ap, ◌∙◌, subst, take_all}
use Rattle.std.specs.Prelude.{All, IsSomeAnd, slice_get, Option}
use Rattle.std.proofs.lemmas.List.{map_push, take_more}
use Rattle.std.proofs.lemmas.List.Elements.{All-push}
use Rattle.std.proofs.lemmas.Option.{slice_get-get_or}
use Rattle.vs_defs.specs.Words.{FitsDimension}
use Rattle.vs_defs.specs.Store.{Member, no_member}
use Rattle.vs_graph.specs.declared.node.Node.{Node}
use Rattle.vs_graph.specs.declared.node.Body.{Body}
use Rattle.vs_graph.specs.declared.node.Attr.{Attr}
use Rattle.vs_graph.specs.Standing.{member_of_node}
use Rattle.vs_truth.specs.declared.rows.Row.{Row}
use Rattle.vs_truth.specs.RowMembers.{member_of_row, members_of_rows}
use Rattle.vs_set.specs.Listed.{IsRowOf, on_no_layer}

pub one_row : (dim : ℕ) (node : Node) (body : Body) (attr : Option Attr) → body ≡ node.body → attr ≡ node.attr → FitsDimension dim node.body.bits → IsRowOf dim (record { body = body; attr = attr }) (member_of_node dim node)
one_row dim node body attr e f fits = record {
  fits = subst (λ (b : Body). FitsDimension dim b.bits) (sym e) fits;
  same = λ i. member_of_row dim (record { body = e i; attr = f i });
}

pub record AreFirst (dim : ℕ) (rows : List Row) (ms : List Member) (n : ℕ) : Type 0 where
  pub same : members_of_rows dim rows ≡ map on_no_layer (take n ms)
  pub fit : All (λ (row : Row). FitsDimension dim row.body.bits) rows

module _ (dim : ℕ) (rows : List Row) (ms : List Member) (n : ℕ) (are : AreFirst dim rows ms n) where
  pub one_more : (row : Row) → n < length ms → IsSomeAnd (slice_get ms n) (IsRowOf dim row) → AreFirst dim (rows ++ row ∷ []) ms (n + 1)
  one_more row low is =
      let y : Member = get_or ms n no_member in
      let its : IsRowOf dim row y = subst (λ o. IsSomeAnd o (IsRowOf dim row)) (slice_get-get_or ms n no_member low) is in
      record {
        same =
            map_push (member_of_row dim) rows row ∙ ap (λ (l : List Member). l ++ member_of_row dim row ∷ []) are.same ∙ ap (λ (x : Member). map on_no_layer (take n ms) ++ x ∷ []) its.same
            ∙ sym (map_push on_no_layer (take n ms) y) ∙ ap (map on_no_layer) (sym (take_more ms n no_member low));
        fit = All-push (λ (r : Row). FitsDimension dim r.body.bits) rows row are.fit its.fits;
      }

  pub all_rows : length ms ≤ n → members_of_rows dim rows ≡ map on_no_layer ms
  all_rows h = are.same ∙ ap (map on_no_layer) (take_all n ms h)
