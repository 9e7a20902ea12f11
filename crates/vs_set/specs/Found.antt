-- What a snapshot tells of its members.
--     linked_to x name layer             the members that one is linked to at a layer, by distance to it, then name
--     IsNear x q count ef effort passes hits       what a search by a beam finds
--     FindsNear .. reads                           the same, with how many nodes are read
use Rattle.std.specs.Prelude.{◌≡◌, ◌≤◌, ◌+◌, ℕ, max, Bool, false, List, take, Some, None}
use Rattle.std.specs.declared.option.Option.{Option}
use Rattle.vs_defs.specs.Bytes.{Bytes}
use Rattle.vs_defs.specs.Vector.{Vector}
use Rattle.vs_defs.specs.Store.{Member, Set, member_of}
use Rattle.vs_defs.specs.Links.{links_of, bits_at, neighbours}
use Rattle.vs_defs.specs.Truth.{by_nearness}
use Rattle.vs_defs.specs.Answers.{members_named}
use Rattle.vs_defs.specs.Beam.{IsBeam, IsDescent, descent_start}
use Rattle.vs_defs.specs.Counts.{IsExpansion, beam_reads, descend_reads}
use Rattle.vs_rank.specs.Tests.{Attribute}
use Rattle.vs_truth.specs.declared.candidate.Hit.{Hit}
use Rattle.vs_truth.specs.Nearest.{AreHits}

abbrev pub linked_to : Set → Bytes → ℕ → List Member
linked_to x name layer =
    by_nearness (bits_at x.contents.members name) (members_named x.contents.members (neighbours x.contents.members (links_of x.wiring) layer name))

-- whether the member of a name passes a test of its attribute
abbrev pub passes_of : (Attribute → Bool) → Option Member → Bool
passes_of passes None = false
passes_of passes (Some y) = passes y.attr

abbrev pub pass_by : Set → (Attribute → Bool) → Bytes → Bool
pass_by x passes name = passes_of passes (member_of name x.contents.members)

pub record IsNear (x : Set) (q : Vector) (count ef effort : ℕ) (passes : Attribute → Bool) (hits : List Hit) : Type 0 where
  pub stops : List Bytes
  pub descends : IsDescent x q 1 stops
  pub start : Bytes
  pub starts : descent_start x stops ≡ Some start
  pub tried : List Bytes
  pub found : List Bytes
  pub beam : IsBeam x q 0 start (max ef count) effort (pass_by x passes) tried found
  pub hits_are : AreHits q x.contents.members (take count (by_nearness q (members_named x.contents.members found))) hits

-- no node is read but by the descent and the beam
pub record FindsNear (x : Set) (q : Vector) (count ef effort : ℕ) (passes : Attribute → Bool) (hits : List Hit) (reads : ℕ) : Type 0 where
  pub near : IsNear x q count ef effort passes hits
  pub expanded : List Bytes
  pub expansion : IsExpansion x q 0 near.start (max ef count) (pass_by x passes) near.tried expanded
  pub told : reads ≤ descend_reads x.contents.dim x.contents.m + beam_reads x 0 expanded
