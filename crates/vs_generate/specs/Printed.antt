-- The seven lines by a set's facts and the names that two searches found.
use Rattle.std.specs.Prelude.{ℕ, List, [], ◌∷◌, flat_map, codes, decimal, count_by}
use Rattle.vs_command.specs.declared.answer.Info.{Info}
use Rattle.vs_defs.specs.Bytes.{Bytes, listed}
use Rattle.vs_thread_defs.specs.Generator.{summary_line}

abbrev pub printed : Info → ℕ → List Bytes → List Bytes → Bytes
printed facts pairs truth beam =
    flat_map summary_line (
    (codes "members" ∷ decimal facts.size ∷ []) ∷ (codes "dim" ∷ decimal facts.dim ∷ []) ∷ (codes "max-level" ∷ decimal facts.max_level ∷ [])
    ∷ (codes "links" ∷ decimal pairs ∷ []) ∷ (codes "truth" ∷ truth) ∷ (codes "beam" ∷ beam)
    ∷ (codes "agree" ∷ decimal (count_by (λ name. listed name truth) beam) ∷ []) ∷ [])
