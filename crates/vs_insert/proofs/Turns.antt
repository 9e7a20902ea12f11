-- One orphan's turn: by ids, and one step of the definitions' walk.
--     turn_kept, turn_rest, turn_good      who had a link has one, all else stays, and the links are good
--     turn_settled                         the orphan has a link where another stands
--     turn_walks                           the walk by names goes on after it
use Rattle.std.proofs.Common.{◌≡◌, ◌≢◌, ℕ, ◌<◌, ◌≤◌, Bool, true, false, ◌&&◌, List, [], ◌∷◌, length, refl, sym, ap, ◌∙◌, subst, arith, inl, inr}
use Rattle.std.specs.Prelude.{Some, nat_lt, ◌⊎◌}
use Rattle.std.specs.declared.option.Option.{Option}
use Rattle.std.proofs.lemmas.Bool.{ltb-true}
use Rattle.std.proofs.Math.Bool.{and-false}
use Rattle.vs_defs.specs.Bytes.{Bytes}
use Rattle.vs_defs.specs.Store.{Set}
use Rattle.vs_defs.specs.Links.{Links, another_stands}
use Rattle.vs_defs.specs.Removal as rules
use Rattle.vs_graph.specs.declared.node.Node.{Node}
use Rattle.vs_graph.specs.Good.{body_at, layers_at, links_at, links_of, StandsAt, AreLinksGood}
use Rattle.vs_graph.specs.GoodTable.{KeepsLinked}
use Rattle.vs_graph.specs.Named.{is_live}
use Rattle.vs_graph.specs.Table.{without}
use Rattle.vs_graph.specs.Standing.{AreIds, members_of, name_of, named_links, set_of}
use Rattle.vs_graph.proofs.Goods.{layers_from}
use Rattle.vs_graph.proofs.Naming.{another_named}
use Rattle.vs_graph.proofs.Standing.{are_members}
use Rattle.vs_graph.proofs.NodeLaws.{some_node}
use Rattle.vs_graph.proofs.Relinking.{links_there}
use Rattle.vs_unlink.specs.Unlinked.{bare, IsWithout}
use Rattle.vs_insert.specs.Rejoined.{HasAnother}
use Rattle.vs_insert.proofs.Leavings.{ids_left, name_left, members_left}
use Rattle.vs_unlink.proofs.Remaining.{not_x}
use Rattle.vs_insert.proofs.Stepping.{nobody_else}
use Rattle.vs_insert.specs.Turns.{NobodyElse, IsTurn}
use Rattle.vs_insert.specs.Walking.{degree, alone_at, Walking}
use Rattle.vs_insert.proofs.Removed.{over, one_more, keeps_named, degree_by}

pub turn_kept : (at now new : ℕ → Option Node) (top : Option ℕ) (m dim entry layer y : ℕ) → IsTurn at now new top m dim entry layer y → (l : ℕ) → KeepsLinked (links_at now l) (links_at new l)
turn_kept at now new top m dim entry layer y (inl p) l a h = subst (λ f. 0 < length (links_at f l a)) (sym p.same) h
turn_kept at now new top m dim entry layer y (inr j) l a h = j.kept l a h

pub turn_rest : (at now new : ℕ → Option Node) (top : Option ℕ) (m dim entry layer y : ℕ) → IsTurn at now new top m dim entry layer y → (id : ℕ) → bare (new id) ≡ bare (now id)
turn_rest at now new top m dim entry layer y (inl p) id = ap (λ f. bare (f id)) p.same
turn_rest at now new top m dim entry layer y (inr j) id = j.rest id

pub turn_good : (at now new : ℕ → Option Node) (top : Option ℕ) (m dim entry layer y : ℕ) → IsTurn at now new top m dim entry layer y → AreLinksGood now m dim → AreLinksGood new m dim
turn_good at now new top m dim entry layer y (inl p) good = subst (λ f. AreLinksGood f m dim) (sym p.same) good
turn_good at now new top m dim entry layer y (inr j) good = j.good

pub turn_settled : (at now new : ℕ → Option Node) (top : Option ℕ) (m dim entry layer y : ℕ) → IsTurn at now new top m dim entry layer y
    → (z : ℕ) → z ≢ y → StandsAt now layer z → 0 < length (links_at new layer y)
turn_settled at now new top m dim entry layer y (inl p) z ne h = elim p.why [
  | inl some ↦ subst (λ f. 0 < length (links_at f layer y)) (sym p.same) some
  | inr nobody ↦ absurd (nobody z ne h)
]
turn_settled at now new top m dim entry layer y (inr j) z ne h = j.own

linked_by : (n : ℕ) (other b : Bool) → nat_lt n 1 ≡ b → 0 < n → (b && other) ≡ false
linked_by n other true e h = absurd (omega (arith, h, ltb-true n 1 e))
linked_by n other false e h = refl

module _ (at left now new : ℕ → Option Node) (top : Option ℕ) (m dim x entry layer y cut : ℕ) (ids : List ℕ) (good : AreLinksGood at m dim) (good_left : AreLinksGood left m dim)
    (good_now : AreLinksGood now m dim) (good_new : AreLinksGood new m dim) (are : AreIds at ids) (out : IsWithout at left x) (gone : IsWithout at now x) (gone_new : IsWithout at new x)
    (stands : StandsAt now layer y) where
  abbrev pub old : Set
  old = set_of at top m dim cut ids

  abbrev pub entry_is : Option Bytes
  entry_is = Some (name_of at entry)

  abbrev pub links_in : (ℕ → Option Node) → Links
  links_in f = named_links f (without x ids)

  name : name_of now y ≡ name_of at y
  name = name_left at now x m dim ids good are gone y (not_x at now x gone layer y stands)

  members : rules.all_but (name_of at x) old.contents.members ≡ members_of now dim (without x ids)
  members = sym (members_left at now x m dim ids good are gone)

  live : is_live (without x ids) y ≡ true
  live = (ids_left at now x m dim ids good are gone).live y ∙ some_node layer (now y) stands

  degree_now : degree old (name_of at x) entry_is (links_in left) (links_in now) (layer, name_of at y) ≡ length (links_at now layer y)
  degree_now =
      ap (λ n. degree old (name_of at x) entry_is (links_in left) (links_in now) (layer, n)) (sym name)
      ∙ degree_by at left now top m dim x cut ids good good_left good_now are out gone now good_now gone layer y live

  alone_is : alone_at old (name_of at x) entry_is (links_in left) (links_in now) (layer, name_of at y)
      ≡ (nat_lt (length (links_at now layer y)) 1 && another_stands (members_of now dim (without x ids)) layer (name_of now y))
  alone_is = λ i. nat_lt (degree_now i) 1 && another_stands (members i) layer (sym name i)

  not_alone : (0 < length (links_at now layer y)) ⊎ NobodyElse now layer y → alone_at old (name_of at x) entry_is (links_in left) (links_in now) (layer, name_of at y) ≡ false
  not_alone (inl some) = alone_is ∙ linked_by (length (links_at now layer y)) (another_stands (members_of now dim (without x ids)) layer (name_of now y)) (nat_lt (length (links_at now layer y)) 1) refl some
  not_alone (inr nobody) =
      alone_is ∙ ap (λ b. nat_lt (length (links_at now layer y)) 1 && b) (nobody_else now dim y layer (without x ids) (ids_left at now x m dim ids good are gone) nobody)
      ∙ and-false (nat_lt (length (links_at now layer y)) 1)

  alone : links_at now layer y ≡ [] → HasAnother now layer y → alone_at old (name_of at x) entry_is (links_in left) (links_in now) (layer, name_of at y) ≡ true
  alone free another =
      alone_is ∙ ap (λ (xs : List ℕ). nat_lt (length xs) 1 && another_stands (members_of now dim (without x ids)) layer (name_of now y)) free
      ∙ another_named (body_at now) (layers_at now) (without x ids) (members_of now dim (without x ids)) (are_members now m dim (without x ids) good_now (ids_left at now x m dim ids good are gone)) layer y
      another.0 live (layers_from m dim layer (now another.0) (good_now.nodes another.0) another.2) another.1

  pub turn_walks : (os : List (ℕ × Bytes)) (former : List (ℕ × Bytes)) → IsTurn at now new top m dim entry layer y → ((l : ℕ) → KeepsLinked (links_at left l) (links_at new l))
      → Walking old (name_of at x) entry_is (links_in left) former (links_in now) ((layer, name_of at y) ∷ os) → Walking old (name_of at x) entry_is (links_in left) former (links_in new) os
  turn_walks os former (inl p) kept w =
      subst (λ f. Walking old (name_of at x) entry_is (links_in left) former (links_in f) os) (sym p.same)
      (over old (name_of at x) entry_is (links_in left) former (links_in now) (layer, name_of at y) os (not_alone p.why) w)
  turn_walks os former (inr j) kept w =
      one_more old (name_of at x) entry_is (links_in left) former (links_in now) (links_in new) (layer, name_of at y) os (alone j.free j.another) (j.named x cut ids are gone)
      (keeps_named at left new top m dim x cut ids good good_left good_new are out gone_new kept entry_is) w

-- ---- the steps of the code

none_long : (xs : List ℕ) → length xs ≤ 0 → xs ≡ []
none_long [] h = refl
none_long (x ∷ xs) h = absurd (omega (arith, h))

pub free_at : (now : ℕ → Option Node) (layer y : ℕ) (n : Node) → now y ≡ Some n → length (links_of n layer) ≤ 0 → links_at now layer y ≡ []
free_at now layer y n is none = links_there now layer y n is ∙ none_long (links_of n layer) none
