-- Which answers have scores that can be printed.
use Rattle.std.specs.Prelude.{◌≤◌, ℕ, All}
use Rattle.vs_command.specs.declared.answer.Answer.{Answer}
use Rattle.vs_command.specs.declared.answer.Answer.TheVariants.{Int, Pong, Bye, Bulk, NullText, NullList, Names, Signs, Hits, Layers, Info as Informed}

-- a dimension by which a score can be printed
abbrev pub Within : ℕ → Type 0
Within dim = (1 ≤ dim) × (dim ≤ 32768)

-- the hits have scores: none differs in more bits than there are
abbrev pub HasScores : Answer → Type 0
HasScores (Int n) = Unit {0}
HasScores Pong = Unit {0}
HasScores Bye = Unit {0}
HasScores (Bulk text) = Unit {0}
HasScores NullText = Unit {0}
HasScores NullList = Unit {0}
HasScores (Names names) = Unit {0}
HasScores (Signs signs) = Unit {0}
HasScores (Hits dim scores attrs hits) = Within dim × All (λ h. h.dist ≤ dim) hits
HasScores (Layers dim scores layers) = Within dim × All (λ hits. All (λ h. h.dist ≤ dim) hits) layers
HasScores (Informed info) = Unit {0}
