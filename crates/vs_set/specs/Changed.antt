-- What the changes of a set make of it. The set may be empty, before its first member and after its last.
--     empty_set dim m                        a set without members
--     AddsMember add level cut old new       a VADD: of the first member, of a new name, of a member
--     RemovesMember name cut old new         a VREM of a member
--     attributed name text old               a VSETATTR of a member
use Rattle.std.specs.Prelude.{◌≡◌, ℕ, List, [], ◌∷◌, None}
use Rattle.std.specs.declared.option.Option.{Option}
use Rattle.vs_defs.specs.Bytes.{Bytes}
use Rattle.vs_defs.specs.Request.{Add}
use Rattle.vs_defs.specs.Store.{Member, Contents, Set, member_of, without_member}
use Rattle.vs_defs.specs.PlainStep.{added_member, added_to, attr_after, with_attr}
use Rattle.vs_defs.specs.Step.{AddsTo, IsFirstWiring}
use Rattle.vs_defs.specs.Removal.{Removes}

abbrev pub empty_set : ℕ → ℕ → Set
empty_set dim m = record { contents = record { dim = dim; m = m; cut = 0; members = [] }; wiring = record { links = []; entry = None } }

-- the cut is taken over by the first member and by a replacement
abbrev pub contents_by : Add → (level cut : ℕ) → Contents → List Member → Contents
contents_by add level cut x [] = record x { cut = cut; members = added_member add level None ∷ [] }
contents_by add level cut x (y ∷ ys) = (added_to add level cut x (member_of add.name (y ∷ ys))).0

abbrev pub contents_after : Add → (level cut : ℕ) → Contents → Contents
contents_after add level cut x = contents_by add level cut x x.members

abbrev pub WiresBy : Add → ℕ → Set → Set → List Member → Type 0
WiresBy add level old new [] = IsFirstWiring add.name new.wiring
WiresBy add level old new (y ∷ ys) = AddsTo add level old (member_of add.name (y ∷ ys)) None new

pub record AddsMember (add : Add) (level cut : ℕ) (old new : Set) : Type 0 where
  pub contents : new.contents ≡ contents_after add level cut old.contents
  pub wiring : WiresBy add level old new old.contents.members

pub record RemovesMember (name : Bytes) (cut : ℕ) (old new : Set) : Type 0 where
  pub contents : new.contents ≡ record old.contents { cut = cut; members = without_member name old.contents.members }
  pub wiring : Removes old name new.wiring

-- the links stay as a list too; the empty text takes the attribute away
abbrev pub attributed : Bytes → Option Bytes → Set → Set
attributed name text old = record old { contents = record old.contents { members = with_attr name (attr_after text None) old.contents.members } }
