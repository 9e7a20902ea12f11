-- A text cut at a byte.
--     before_mark mark text      what stands before the first of these bytes: the whole text where there is none
--     behind_mark mark text      what stands behind it
--     behind_end text            what stands behind CR LF, 13 and 10, at its front
use Rattle.std.specs.Prelude.{ℕ, ◌==◌, ◌&&◌, cond, true, false, [], ◌∷◌, Option, Some, None}
use Rattle.vs_defs.specs.Bytes.{Bytes}

abbrev pub before_mark : ℕ → Bytes → Bytes
before_mark mark [] = []
before_mark mark (c ∷ cs) = elim (c == mark) [ true ↦ [] | false ↦ c ∷ before_mark mark cs ]

abbrev pub behind_mark : ℕ → Bytes → Option Bytes
behind_mark mark [] = None
behind_mark mark (c ∷ cs) = elim (c == mark) [ true ↦ Some cs | false ↦ behind_mark mark cs ]

abbrev pub behind_end : Bytes → Option Bytes
behind_end [] = None
behind_end (c ∷ []) = None
behind_end (c ∷ d ∷ ds) = cond ((c == 13) && (d == 10)) (Some ds) None
