-- A whole removal by names, from its steps by ids.
--     keeps_named        who keeps a link by ids keeps one by names
--     one_more, over, begun, done        the walk over the orphans: one that is joined, one that isn't, its beginning and its end
--     removes            the whole
use Rattle.std.proofs.Common.{◌≡◌, ◌≢◌, ℕ, ◌<◌, Bool, true, false, cond, List, [], ◌∷◌, length, refl, sym, ap, ◌∙◌, subst, arith, is_some}
use Rattle.std.specs.Prelude.{Some, None, IfSome, filter, option_map}
use Rattle.std.specs.declared.option.Option.{Option}
use Rattle.std.proofs.lemmas.Bool.{both_ways}
use Rattle.vs_defs.specs.Bytes.{Bytes}
use Rattle.vs_defs.specs.Store.{Set, names_of}
use Rattle.vs_defs.specs.Links.{Links, neighbours}
use Rattle.vs_defs.specs.Removal as rules
use Rattle.vs_graph.specs.declared.node.Node.{Node}
use Rattle.vs_graph.specs.Good.{links_at, AreLinksGood}
use Rattle.vs_graph.specs.GoodTable.{KeepsLinked}
use Rattle.vs_graph.specs.Named.{is_live}
use Rattle.vs_graph.specs.Table.{without}
use Rattle.vs_graph.specs.Standing.{AreIds, name_of, named_links, set_of, wiring_of}
use Rattle.vs_graph.proofs.Reordering.{links_reordered}
use Rattle.vs_graph.proofs.Standing.{are_named, degree as degree_at}
use Rattle.vs_unlink.specs.Unlinked.{IsWithout, UnlinksByNames}
use Rattle.vs_insert.proofs.Leavings.{ids_left, name_left, members_left}
use Rattle.vs_insert.specs.Walking.{is_orphan, Keeps, alone_at, Walking}
use Rattle.vs_insert.proofs.Walks.{next_orphan, no_orphan, pass_over, join_one}

-- ---- the whole

module _ (at left new : ℕ → Option Node) (entry after : Option ℕ) (m dim x : ℕ) (good : AreLinksGood at m dim) (good_new : AreLinksGood new m dim)
    (out : UnlinksByNames at left x) (gone : IsWithout at new x) where
  same_entry : (ids : List ℕ) → AreIds at ids → (o : Option ℕ) → IfSome o (λ e. e ≢ x) → option_map (name_of new) o ≡ option_map (name_of at) o
  same_entry ids are None h = refl
  same_entry ids are (Some e) h = ap Some (name_left at new x m dim ids good are gone e h)

  pub removes : IfSome after (λ e. e ≢ x)
      → ((cut : ℕ) (ids : List ℕ) → AreIds at ids → option_map (name_of at) after ≡ rules.entry_without (name_of at x) (set_of at entry m dim cut ids))
      → ((cut : ℕ) (ids : List ℕ) → AreIds at ids → rules.Relinks (set_of at entry m dim cut ids) (name_of at x) (option_map (name_of at) after) (named_links left (without x ids))
      (rules.former_neighbours (set_of at entry m dim cut ids) (name_of at x)) (named_links new (without x ids)))
      → (cut : ℕ) (ids all : List ℕ) → AreIds at ids → AreIds new all → rules.Removes (set_of at entry m dim cut ids) (name_of at x) (wiring_of new after all)
  removes other named walked cut ids all are will =
      let old = set_of at entry m dim cut ids in
      let same = same_entry ids are after other in
      record {
        left = named_links left (without x ids);
        unlinks = out entry m dim cut ids good are;
        entry = same ∙ named cut ids are;
        relinked =
            subst (λ e. rules.Relinks old (name_of at x) e (named_links left (without x ids)) (rules.former_neighbours old (name_of at x)) (named_links new all)) (sym same)
            (subst (λ ls. rules.Relinks old (name_of at x) (option_map (name_of at) after) (named_links left (without x ids)) (rules.former_neighbours old (name_of at x)) ls)
            (links_reordered new m dim (without x ids) all good_new (ids_left at new x m dim ids good are gone) will) (walked cut ids are));
      }

-- ---- the walk

none_linked : (links : Links) (l : ℕ) (a : Bytes) (names : List Bytes) → 0 < length (filter (links l a) names) → (b : Bytes) × (links l a b ≡ true)
none_linked links l a [] h = absurd (omega (arith, h))
none_linked links l a (b ∷ bs) h = by (links l a b) refl (none_linked links l a bs) h where
  by : (c : Bool) → links l a b ≡ c → (0 < length (filter (links l a) bs) → (b : Bytes) × (links l a b ≡ true)) → 0 < length (cond c (b ∷ filter (links l a) bs) (filter (links l a) bs)) → (b : Bytes) × (links l a b ≡ true)
  by true e rec k = (b, e)
  by false e rec k = rec k

module _ (at left now : ℕ → Option Node) (entry : Option ℕ) (m dim x cut : ℕ) (ids : List ℕ) (good : AreLinksGood at m dim) (good_left : AreLinksGood left m dim) (good_now : AreLinksGood now m dim)
    (are : AreIds at ids) (out : IsWithout at left x) (gone : IsWithout at now x) where
  abbrev pub old : Set
  old = set_of at entry m dim cut ids

  pub degree_by : (f : ℕ → Option Node) → AreLinksGood f m dim → IsWithout at f x → (l q : ℕ) → is_live (without x ids) q ≡ true
      → length (neighbours (rules.all_but (name_of at x) old.contents.members) (named_links f (without x ids)) l (name_of f q)) ≡ length (links_at f l q)
  degree_by f gf wf l q lq =
      ap (λ ms. length (neighbours ms (named_links f (without x ids)) l (name_of f q))) (sym (members_left at f x m dim ids good are wf))
      ∙ degree_at f m dim (without x ids) gf (ids_left at f x m dim ids good are wf) l q lq

  pub keeps_named : ((l : ℕ) → KeepsLinked (links_at left l) (links_at now l)) → (e : Option Bytes) → Keeps old (name_of at x) e (named_links left (without x ids)) (named_links now (without x ids))
  keeps_named kept e c h =
      let some = none_linked (named_links left (without x ids)) c.0 c.1 (names_of (rules.all_but (name_of at x) old.contents.members)) h in
      let live = ((are_named left m dim (without x ids) good_left (ids_left at left x m dim ids good are out)).within c.0 c.1 some.0 some.1).0 in
      let q = live.0 in
      let ne : q ≢ x = λ is. both_ways (is_live (without x ids) q) (gone_x q is) live.1 in
      let name : name_of now q ≡ c.1 = name_left at now x m dim ids good are gone q ne ∙ sym (name_left at left x m dim ids good are out q ne) ∙ live.2 in
      let was : 0 < length (links_at left c.0 q)
      = subst (λ n. 0 < n) (degree_by left good_left out c.0 q live.1)
      (subst (λ n. 0 < length (neighbours (rules.all_but (name_of at x) old.contents.members) (named_links left (without x ids)) c.0 n)) (sym live.2) h) in
      subst (λ n. 0 < length (neighbours (rules.all_but (name_of at x) old.contents.members) (named_links now (without x ids)) c.0 n)) name
      (subst (λ n. 0 < n) (sym (degree_by now good_now gone c.0 q live.1)) (kept c.0 q was)) where
        gone_x : (q : ℕ) → q ≡ x → is_live (without x ids) q ≡ false
        gone_x q e = ap (is_live (without x ids)) e ∙ (ids_left at left x m dim ids good are out).live x ∙ ap is_some out.gone

module _ (old : Set) (x : Bytes) (entry : Option Bytes) (left : Links) (former : List (ℕ × Bytes)) where
  pub begun : Walking old x entry left former left (filter (is_orphan old x entry left) former)
  begun = record { rest = former; are = refl; keeps = λ c h. h; on = λ new r. r }

  -- an orphan that isn't alone at its turn
  pub over : (links : Links) (o : ℕ × Bytes) (os : List (ℕ × Bytes)) → alone_at old x entry left links o ≡ false → Walking old x entry left former links (o ∷ os) → Walking old x entry left former links os
  over links o os e w =
      let b = next_orphan old x entry left links w.keeps w.rest o os w.are in
      record { rest = b.0; are = b.1; keeps = w.keeps; on = λ new r. w.on new (b.2 new (pass_over old x entry left links o b.0 new e r)) }

  -- one that is joined
  pub one_more : (links mid : Links) (o : ℕ × Bytes) (os : List (ℕ × Bytes)) → alone_at old x entry left links o ≡ true → rules.Rejoins old x entry links o.0 o.1 mid → Keeps old x entry left mid
      → Walking old x entry left former links (o ∷ os) → Walking old x entry left former mid os
  one_more links mid o os e j k w =
      let b = next_orphan old x entry left links w.keeps w.rest o os w.are in
      record { rest = b.0; are = b.1; keeps = k; on = λ new r. w.on new (b.2 new (join_one old x entry left links mid o b.0 new e j r)) }

  pub done : (links : Links) → Walking old x entry left former links [] → rules.Relinks old x entry left former links
  done links w = w.on links (no_orphan old x entry left links links w.keeps (λ l a b. refl) w.rest w.are)
