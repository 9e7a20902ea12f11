-- Members as the code keeps them, and the hits of an exact search.
--     KeepsBits bits words        the words keep the bits
--     row_of_run run k            the words of a row
--     AreRunOf members place run  the rows of a run are those of the members from a place on
--     nearest_passing             the first few of the members that pass, by distance and name; at a filter's test it is the definitions'
--                                 `nearest`
--     AreHits q members found hits    the hits are the found members, by their places, with their distances
use Rattle.std.specs.Prelude.{◌≡◌, ◌<◌, ◌≤◌, ◌+◌, ◌*◌, ℕ, Bool, List, Some, IsSomeAnd, length, map, take, drop, filter, slice_get}
use Rattle.vs_defs.specs.Vector.{Vector, ham}
use Rattle.vs_defs.specs.Words.{FitsDimension, bits_of_words}
use Rattle.vs_defs.specs.Store.{Member}
use Rattle.vs_defs.specs.Truth.{by_nearness}
use Rattle.vs_rank.specs.Tests.{Attribute}
use Rattle.vs_truth.specs.declared.candidate.Hit.{Hit}
use Rattle.vs_truth.specs.declared.run.Run.{Run}

pub record KeepsBits (bits : Vector) (words : List ℕ) : Type 0 where
  pub fits : FitsDimension (length bits) words
  pub same : bits_of_words (length bits) words ≡ bits

abbrev pub row_of_run : Run → ℕ → List ℕ
row_of_run run k = take run.width (drop (k * run.width) run.words.now)

pub record AreRunOf (members : List Member) (place : ℕ) (run : Run) : Type 0 where
  pub within : place + run.rows ≤ length members
  pub long : run.rows * run.width ≤ length run.words.now
  pub each : (k : ℕ) → k < run.rows → IsSomeAnd (slice_get members (place + k)) (λ member. KeepsBits member.bits (row_of_run run k))

abbrev pub nearest_passing : (Attribute → Bool) → ℕ → Vector → List Member → List Member
nearest_passing passes count q members = take count (by_nearness q (filter (λ x. passes x.attr) members))

pub record AreHits (q : Vector) (members found : List Member) (hits : List Hit) : Type 0 where
  pub places : map (λ hit. slice_get members hit.place) hits ≡ map (λ x. Some x) found
  pub dists : map (λ hit. hit.dist) hits ≡ map (λ x. ham q x.bits) found
