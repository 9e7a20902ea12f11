-- What a search looks for and finds, with names.
--     place_sought what members   the place of the member whose vector is looked for; none for a vector of the search's own
--     named_hit attrs x dist      a member and its distance as a hit, with its attribute where attributes are asked for
--     hit_at attrs members hit    the same of a member by its place, which is one of theirs
--     HasHits search text x q hits reads      the hits of a search for q by the filter of a text, and, without TRUTH, by so many reads
--     FindsVector search x q answer reads     what a search for q answers; without TRUTH there is one read to spare
use Rattle.std.specs.Prelude.{◌≡◌, ℕ, ◌+◌, Bool, MatchBool, cond, List, [], Option, None, Some, map, slice_get, position}
use Rattle.vs_defs.specs.Bytes.{Bytes}
use Rattle.vs_defs.specs.Vector.{Vector}
use Rattle.vs_defs.specs.Request as request
use Rattle.vs_defs.specs.Request.{Answer, Hit, Search, What}
use Rattle.vs_defs.specs.Store.{Member, Set, is_of_name}
use Rattle.vs_defs.specs.FilterText.{passes_filter}
use Rattle.vs_defs.specs.Truth.{nearest, hit_of}
use Rattle.vs_defs.specs.Counts.{FindsWithin}
use Rattle.vs_truth.specs.declared.candidate.Hit as found
use Rattle.vs_truth.specs.Nearest.{AreHits}
use Rattle.vs_set.specs.Found.{FindsNear}

abbrev pub place_sought : What → List Member → Option ℕ
place_sought (request.Ele name) members = position (is_of_name name) members
place_sought (request.Values bits) members = None

abbrev pub named_hit : Bool → Option Member → ℕ → Hit
named_hit attrs None dist = record { name = []; dist = dist; attr = None }
named_hit attrs (Some x) dist = record { name = x.name; dist = dist; attr = cond attrs x.attr None }

abbrev pub hit_at : Bool → List Member → found.Hit → Hit
hit_at attrs members hit = named_hit attrs (slice_get members hit.place) hit.dist

abbrev pub HasHits : Search → Option Bytes → Set → Vector → List found.Hit → ℕ → Type 0
HasHits search text x q hits reads =
    MatchBool search.truth (AreHits q x.contents.members (nearest search.count q text x.contents.members) hits)
    (FindsNear x q search.count search.ef search.effort (passes_filter text) hits reads)

-- the answer of a search for q with TRUTH
abbrev pub truth_answer : Search → Set → Vector → Answer
truth_answer search x q =
    request.Hits x.contents.dim search.scores search.attrs (map (hit_of q search.attrs) (nearest search.count q search.filter x.contents.members))

abbrev pub FindsVector : Search → Set → Vector → Answer → ℕ → Type 0
FindsVector search x q answer reads = MatchBool search.truth (answer ≡ truth_answer search x q) (FindsWithin search x q answer (reads + 1))
