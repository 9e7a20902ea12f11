-- What a preparation gives over a snapshot's graph is a draft of the snapshot.
use Rattle.std.proofs.Common.{◌≡◌, ℕ, ◌≤◌, true, false, List, [], refl, sym, ap, ◌∙◌, subst, is_some}
use Rattle.std.specs.Prelude.{Option, Some, None, option_map}
use Rattle.std.specs.Option.{option_map_or}
use Rattle.std.proofs.lemmas.Bool.{both_ways}
use Rattle.vs_defs.specs.Words.{FitsDimension, bits_of_words}
use Rattle.vs_defs.specs.Store.{Member, member_of, no_member}
use Rattle.vs_defs.specs.Insertion.{IsChosen}
use Rattle.vs_graph.specs.declared.node.Node.{Node}
use Rattle.vs_graph.specs.declared.node.Body.{Body}
use Rattle.vs_graph.specs.Good.{body_at, AreLinksGood}
use Rattle.vs_graph.specs.Standing.{AreIds, member_of_node, member_at, members_of, name_of, set_of}
use Rattle.vs_graph.proofs.Standing.{member_there}
use Rattle.vs_insert.specs.declared.draft.Chosen.{Chosen}
use Rattle.vs_insert.specs.declared.draft.Draft.{Draft}
use Rattle.vs_insert.specs.Chosen.{AreChosenNames}
use Rattle.vs_insert.specs.Drafts.{HaveBodies, chosen_at, names_down}
use Rattle.vs_insert.proofs.Lists.{chosen_names}
use Rattle.vs_set.specs.Drafted.{HasBits, IsDraft}

some_body : (o : Option Node) (b : Body) → option_map (λ (node : Node). node.body) o ≡ Some b → is_some o ≡ true
some_body None b h = absurd (both_ways false refl (ap is_some h))
some_body (Some node) b h = refl

bits_by : (dim : ℕ) (o : Option Node) (b : Body) → option_map (λ (node : Node). node.body) o ≡ Some b → (option_map_or (member_of_node dim) o no_member).bits ≡ bits_of_words dim b.bits
bits_by dim None b h = absurd (both_ways false refl (ap is_some h))
bits_by dim (Some node) b h = ap (λ (o : Option Body). bits_of_words dim (option_map_or (λ (body : Body). body.bits) o [])) h

module _ (at : ℕ → Option Node) (entry : Option ℕ) (m dim cut : ℕ) (ids : List ℕ) (good : AreLinksGood at m dim) (are : AreIds at ids) where
  has_bits : (c : Chosen) → body_at at c.id ≡ Some c.body → HasBits (set_of at entry m dim cut ids) c
  has_bits c h =
      let ms = members_of at dim ids in
      let named : name_of at c.id ≡ c.body.name = ap (λ (o : Option Body). option_map_or (λ (body : Body). body.name) o []) h in
      let there : member_of c.body.name ms ≡ Some (member_at at dim c.id)
      = ap (λ n. member_of n ms) (sym named) ∙ member_there at m dim ids good are c.id (are.live c.id ∙ some_body (at c.id) c.body h) in
      ap (option_map (λ (y : Member). y.bits)) there ∙ ap (λ v. Some v) (bits_by dim (at c.id) c.body h)

  pub prepared : (body : Body) (level ef : ℕ) (draft : Draft) → draft.cut ≡ cut → draft.level ≡ level → draft.body ≡ body → FitsDimension dim body.bits → level ≤ 15
      → ((layer : ℕ) → HaveBodies at (chosen_at draft.chosen layer)) → IsChosen (set_of at entry m dim cut ids) (bits_of_words dim body.bits) level ef (names_down draft.chosen)
      → IsDraft (set_of at entry m dim cut ids) body level ef draft
  prepared body level ef draft is_cut is_level is_body fits low bodies chosen = record {
    cut_is = is_cut;
    level_is = is_level;
    body_is = is_body;
    chosen = chosen;
    bits = λ layer k d h. has_bits _ (bodies layer k d h);
    may = record {
      fits = subst (λ (b : Body). FitsDimension dim b.bits) (sym is_body) fits;
      low = subst (λ n. n ≤ 15) (sym is_level) low;
      chosen = subst (λ n. AreChosenNames (set_of at entry m dim cut ids) n (names_down draft.chosen)) (sym is_level)
          (chosen_names (set_of at entry m dim cut ids) (bits_of_words dim body.bits) level ef (names_down draft.chosen) chosen);
    };
  }
