-- The graph with a member more.
--     text_of attr                       an attribute as contracts see it
--     IsInserted at old new id body attr level ef      a draft of the body is made in the graph, and committed to it at the id
--     IsGrown at old new id add had level has          the member is a VADD's; had is the attribute that it keeps where none is given
use Rattle.std.specs.Prelude.{◌≡◌, ℕ, Bool, List, [], ◌∷◌, option_map, is_some}
use Rattle.std.specs.declared.option.Option.{Option}
use Rattle.vs_defs.specs.Bytes.{Bytes}
use Rattle.vs_defs.specs.Request.{Add}
use Rattle.vs_defs.specs.Words.{bits_of_words}
use Rattle.vs_defs.specs.PlainStep.{attr_after}
use Rattle.vs_defs.specs.Insertion.{IsChosen}
use Rattle.vs_graph.specs.declared.node.Node.{Node}
use Rattle.vs_graph.specs.declared.node.Attr.{Attr}
use Rattle.vs_graph.specs.declared.node.Body.{Body}
use Rattle.vs_graph.specs.Good.{IsGood}
use Rattle.vs_graph.specs.Seen.{Seen}
use Rattle.vs_graph.specs.Standing.{AreIds, set_of}
use Rattle.vs_insert.specs.declared.draft.Draft.{Draft}
use Rattle.vs_insert.specs.Added.{IsAdded, entry_after}
use Rattle.vs_insert.specs.Drafts.{names_down}
use Rattle.vs_order.specs.Entries.{Entries}

abbrev pub text_of : Option Attr → Option Bytes
text_of attr = option_map (λ (a : Attr). a.text) attr

pub record IsInserted {N : Type 0} (at : N → ℕ → Option Node) (old new : Seen N) (id : ℕ) (body : Body) (attr : Option Attr) (level ef : ℕ) : Type 0 where
  pub draft : Draft
  pub body_is : draft.body ≡ body
  pub level_is : draft.level ≡ level
  pub chosen : (cut : ℕ) (ids : List ℕ) → AreIds (at old.nodes) ids
      → IsChosen (set_of (at old.nodes) old.entry old.m old.dim cut ids) (bits_of_words old.dim body.bits) level ef (names_down draft.chosen)
  pub added : IsAdded (at old.nodes) (at new.nodes) old.entry old.m old.dim id attr draft
  pub entry : new.entry ≡ entry_after (at old.nodes) old.entry id draft.level
  pub before : IsGood (at old.nodes) old.entry old.m old.dim
  pub good : IsGood (at new.nodes) new.entry new.m new.dim
  pub m : new.m ≡ old.m
  pub dim : new.dim ≡ old.dim

pub record IsGrown {N : Type 0} (at : N → ℕ → Option Node) (old new : Seen N) (id : ℕ) (add : Add) (had : Option Bytes) (level : ℕ) (has : Bool) : Type 0 where
  pub body : Body
  pub name : body.name ≡ add.name
  pub bits : bits_of_words old.dim body.bits ≡ add.bits
  pub attr : Option Attr
  pub text : text_of attr ≡ attr_after add.attr had
  pub has_is : has ≡ is_some attr
  pub inserted : IsInserted at old new id body attr level add.ef

-- the cut after a new member: the first one brings its own
abbrev pub cut_by : (before cut : ℕ) → Entries → ℕ
cut_by before cut [] = cut
cut_by before cut (e ∷ es) = before
