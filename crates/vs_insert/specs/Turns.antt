-- What becomes of one orphan at its turn.
use Rattle.std.specs.Prelude.{◌≡◌, ◌≢◌, ◌<◌, ◌≤◌, ◌⊎◌, ℕ, [], length, MatchOption, IsSomeAnd, IfSome, None}
use Rattle.std.specs.declared.option.Option.{Option}
use Rattle.vs_graph.specs.declared.node.Node.{Node}
use Rattle.vs_graph.specs.Good.{links_at, StandsAt, AreLinksGood}
use Rattle.vs_graph.specs.GoodTable.{KeepsLinked}
use Rattle.vs_unlink.specs.Unlinked.{bare}
use Rattle.vs_insert.specs.Rejoined.{HasAnother, RejoinsByNames}

abbrev pub NobodyElse : (ℕ → Option Node) → ℕ → ℕ → Type 0
NobodyElse now layer y = (z : ℕ) → z ≢ y → StandsAt now layer z → ⊥

-- nothing changes, since it has a link by now, or nobody else stands at its layer
pub record IsPassed (now new : ℕ → Option Node) (layer y : ℕ) : Type 0 where
  pub same : new ≡ now
  pub why : (0 < length (links_at now layer y)) ⊎ NobodyElse now layer y

-- it had no link where another stands, and is joined
pub record IsJoinedAgain (at now new : ℕ → Option Node) (top : Option ℕ) (m dim entry layer y : ℕ) : Type 0 where
  pub free : links_at now layer y ≡ []
  pub another : HasAnother now layer y
  pub rest : (id : ℕ) → bare (new id) ≡ bare (now id)
  pub good : AreLinksGood new m dim
  pub kept : (l : ℕ) → KeepsLinked (links_at now l) (links_at new l)
  pub own : 0 < length (links_at new layer y)
  pub named : RejoinsByNames at now new top m dim entry layer y

abbrev pub IsTurn : (at now new : ℕ → Option Node) → Option ℕ → (m dim entry layer y : ℕ) → Type 0
IsTurn at now new top m dim entry layer y = IsPassed now new layer y ⊎ IsJoinedAgain at now new top m dim entry layer y

-- of greatest level among the others, none where there is none
abbrev pub IsTopBeside : (ℕ → Option Node) → ℕ → Option ℕ → Type 0
IsTopBeside now y best =
    MatchOption best ((q : ℕ) → q ≢ y → now q ≡ None) (λ z. (z ≢ y) × IsSomeAnd (now z) (λ n. (q : ℕ) → q ≢ y → IfSome (now q) (λ k. k.level ≤ n.level)))
