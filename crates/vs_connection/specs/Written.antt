-- A piece that was written, whole or in part.
use Rattle.std.specs.Prelude.{◌≡◌, ◌<◌, List, ◌++◌, ℕ, length, Option, Bool, true, false}
use Rattle.vs_outside.specs.Known.{Adds}

-- where it was not written whole, one or more of its last bytes are missing
abbrev pub WrittenOf : Option (List ℕ) → List ℕ → Bool → Option (List ℕ) → Type 0
WrittenOf before piece true after = Adds before piece after
WrittenOf before piece false after = (done : List ℕ) × (lost : List ℕ) × (piece ≡ done ++ lost) × (0 < length lost) × Adds before done after
