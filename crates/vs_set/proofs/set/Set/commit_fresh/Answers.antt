use Rattle.std.proofs.Common.{◌≡◌, ◌≢◌, ◌++◌, ◌∷◌, [], Some, length, sym, ap, ◌∙◌, subst, arith}
use Rattle.std.specs.Prelude.{IfSome}
use Rattle.vs_defs.specs.Store.{is_member}
use Rattle.vs_graph.specs.Standing.{members_of}
use Rattle.vs_insert.specs.Added.{IsAdded, AreDrafted, entry_after}
use Rattle.vs_insert.specs.Chosen.{AreChosenNames}
use Rattle.vs_insert.specs.Drafts.{names_down}
use Rattle.vs_defs.specs.Words.{FitsDimension}
use Rattle.vs_order.specs.Entries.{ids_of, id_of}
use Rattle.vs_page.specs.Rows.{IsPut}
use Rattle.vs_page.specs.Told.{row_at}
use Rattle.vs_set.specs.Kept.{set_by, one_if}
use Rattle.vs_set.specs.Drafted.{Commits}
use Rattle.vs_set.specs.Retaken.{retaken_draft}
use Rattle.vs_laws.proofs.Options.{none_is}
use Rattle.vs_set.proofs.Members.{counted, has_is, fresh_name}
use Rattle.vs_set.proofs.Sames.{kept_same, rows_same_graph}
use Rattle.vs_set.proofs.Telling.{rows_behind}
use Rattle.vs_set.proofs.Retaking.{are_drafted}
use Rattle.vs_set.proofs.Drafts.{kept_committed, rows_committed, commits}
use Rattle.vs_set.proofs.set.Set.commit_fresh.Goals as goal

pub place_for-requires-clause-new : goal.place_for-requires-clause-new
place_for-requires-clause-new g c =
    let s = c.self.inside in
    let name = c.args.draft.body.name in
    ap (λ n. id_of n s.names.entries) c.name.ensures
    ∙ none_is (id_of name s.names.entries)
    (has_is (g.N.Nodes.at s.graph.nodes) s.graph.m s.graph.dim name s.names.entries c.self.invariant.0.named.names ∙ ap (λ x. is_member name x.contents.members) c.self.view_is ∙ c.requires.new)

pub commit-requires-clause-name : goal.commit-requires-clause-name
commit-requires-clause-name g c =
    let s = c.self.inside in
    let at = g.N.Nodes.at s.graph.nodes in
    let name = c.args.draft.body.name in
    let same : c.retake-draft.result.body.name ≡ name = ap (λ d. d.body.name) c.retake-draft.ensures in
    λ q. subst (λ n. IfSome (at q) (λ other. other.body.name ≢ n)) (sym same)
    (fresh_name at s.graph.m s.graph.dim name (ids_of s.names.entries) c.self.invariant.0.named.ids (ap (λ x. is_member name x.contents.members) c.self.view_is ∙ c.requires.new) q)

pub commit-requires-clause-chosen : goal.commit-requires-clause-chosen
commit-requires-clause-chosen g c =
    let s = c.self.inside in
    let at = g.N.Nodes.at s.graph.nodes in
    let draft = c.args.draft in
    subst (λ d. AreDrafted at s.graph.m d.level d.chosen) (sym (c.retake-draft.ensures ∙ ap (λ es. retaken_draft es draft) c.place_for.ensures.entries))
    (are_drafted at s.graph.m s.graph.dim s.names.entries c.self.invariant.0.named s.graph.entry s.cut draft.level draft.chosen c.nodes-nodes.ensures.good.links
    (subst (λ x. AreChosenNames x draft.level (names_down draft.chosen)) (sym c.self.view_is) c.requires.may.chosen))

pub invariant_of-self-in_err-commit : goal.invariant_of-self-in_err-commit
invariant_of-self-in_err-commit g c =
    let s = c.self.inside in
    let at = g.N.Nodes.at in
    let t = c.commit.new.graph in
    let entries = c.place_for.ensures.entries in
    let last = c.len.ensures.value ∙ ap length entries ∙ sym (counted (at s.graph.nodes) s.graph.m s.graph.dim s.names.entries) in (
      kept_same at t s.graph c.in_err-commit.ensures.err c.place_for.new.names.entries s.names.entries entries s.order s.attributes c.self.invariant.0,
      rows_same_graph at t s.graph c.in_err-commit.ensures.err c.place_for.new.names.entries s.names.entries entries c.put.new.self
          (rows_behind (row_at s.rows) (row_at c.put.new.self) (members_of (at s.graph.nodes) s.graph.dim (ids_of s.names.entries)) c.self.invariant.1 c.len.result (Some c.bits.result.now) last c.put.ensures),
    )

pub push-requires-clause-new : goal.push-requires-clause-new
push-requires-clause-new g c =
    let s = c.self.inside in
    let name = c.args.draft.body.name in
    ap (λ n. id_of n c.place_for.new.names.entries) (c.in_ok-name.ensures.placed.name_is ∙ c.name.ensures)
    ∙ ap (id_of name) c.place_for.ensures.entries
    ∙ none_is (id_of name s.names.entries)
    (has_is (g.N.Nodes.at s.graph.nodes) s.graph.m s.graph.dim name s.names.entries c.self.invariant.0.named.names ∙ ap (λ x. is_member name x.contents.members) c.self.view_is ∙ c.requires.new)

pub invariant_of-self-2 : goal.invariant_of-self-2
invariant_of-self-2 g c =
    let s = c.self.inside in
    let at = g.N.Nodes.at in
    let t = c.commit.new.graph in
    let id = c.in_ok-name.field-0.id in
    let placed = c.in_ok-name.ensures.placed in
    let same = c.retake-draft.ensures ∙ ap (λ es. retaken_draft es c.args.draft) c.place_for.ensures.entries in
    let added = subst (λ d. IsAdded (at s.graph.nodes) (at t.nodes) s.graph.entry s.graph.m s.graph.dim id c.in_ok-attr.attr d) same c.in_ok-commit.ensures.added in
    let after : c.push.new.self.entries ≡ s.names.entries ++ (c.args.draft.body.name, id) ∷ []
    = c.push.ensures ∙ ap (λ es. es ++ (c.in_ok-name.field-0.name, c.place_for.new.names.next) ∷ []) c.place_for.ensures.entries
    ∙ ap (λ n. s.names.entries ++ (c.in_ok-name.field-0.name, n) ∷ []) (c.place_for.ensures.next ∙ sym placed.id_is)
    ∙ ap (λ n. s.names.entries ++ (n, id) ∷ []) (placed.name_is ∙ c.name.ensures) in (
      kept_committed at s.graph t id c.in_ok-attr.attr c.args.draft s.names.entries added c.self.invariant.0.named
          (none_is (at s.graph.nodes id) (sym (c.self.invariant.0.named.ids.live id) ∙ placed.free)) c.in_ok-commit.ensures.dim s.order s.attributes c.self.invariant.0
          c.push.new.self.entries c.in_ok-name.field-0.order c.count_after-self-inside.result after (placed.order_is ∙ ap (λ n. s.names.entries ++ (n, id) ∷ []) c.name.ensures)
          (omega (arith, c.count_after-self-inside.ensures, ap one_if c.is_some-has.ensures)),
      rows_committed at s.graph t id c.in_ok-attr.attr c.args.draft s.names.entries added c.self.invariant.0.named s.rows c.put.new.self c.len.result c.self.invariant.1
          (c.len.ensures.value ∙ ap length c.place_for.ensures.entries) (subst (λ w. IsPut (row_at s.rows) (row_at c.put.new.self) c.len.result (Some w)) c.bits.ensures c.put.ensures)
          (subst (λ d. FitsDimension d c.args.draft.body.bits) (ap (λ x. x.contents.dim) (sym c.self.view_is)) c.requires.may.fits) c.in_ok-commit.ensures.dim c.push.new.self.entries after,
    )

pub returns-clause-committed : goal.returns-clause-committed
returns-clause-committed g c =
    let s = c.self.inside in
    let at = g.N.Nodes.at in
    let t = c.commit.new.graph in
    let id = c.in_ok-name.field-0.id in
    let draft = c.args.draft in
    let placed = c.in_ok-name.ensures.placed in
    let same = c.retake-draft.ensures ∙ ap (λ es. retaken_draft es draft) c.place_for.ensures.entries in
    let after : c.push.new.self.entries ≡ s.names.entries ++ (draft.body.name, id) ∷ []
    = c.push.ensures ∙ ap (λ es. es ++ (c.in_ok-name.field-0.name, c.place_for.new.names.next) ∷ []) c.place_for.ensures.entries
    ∙ ap (λ n. s.names.entries ++ (c.in_ok-name.field-0.name, n) ∷ []) (c.place_for.ensures.next ∙ sym placed.id_is)
    ∙ ap (λ n. s.names.entries ++ (n, id) ∷ []) (placed.name_is ∙ c.name.ensures) in
    subst (λ x. Commits draft c.args.text x (set_by (at t.nodes) t.entry t.m t.dim s.cut c.push.new.self.entries)) c.self.view_is
    (subst (λ y. Commits draft c.args.text (set_by (at s.graph.nodes) s.graph.entry s.graph.m s.graph.dim s.cut s.names.entries) y)
    (λ i. set_by (at t.nodes) t.entry (sym c.in_ok-commit.ensures.m i) (sym c.in_ok-commit.ensures.dim i) s.cut (sym after i))
    (commits at s.graph t id c.in_ok-attr.attr draft s.names.entries
    (subst (λ d. IsAdded (at s.graph.nodes) (at t.nodes) s.graph.entry s.graph.m s.graph.dim id c.in_ok-attr.attr d) same c.in_ok-commit.ensures.added) c.self.invariant.0.named
    c.args.text c.in_ok-attr.ensures (c.in_ok-commit.ensures.entry ∙ ap (λ d. entry_after (at s.graph.nodes) s.graph.entry id d.level) same) s.cut))
