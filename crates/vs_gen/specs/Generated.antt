-- A generator of members, and what it hands out.
--     Generating                    what contracts see of one
--     at seed members dim i         one that hands out member i next
--     IsNext seed old result new    what it hands out, and what it is behind that
use Rattle.std.specs.Prelude.{◌≡◌, ℕ, ◌+◌, ◌*◌, ◌<◌, List, [], ◌∷◌, ◌++◌, Option, Some, None, codes, decimal, map}
use Rattle.std.specs.List.{range_with_len}
use Rattle.rand_pcg.specs.Lcg.{Lcg}
use Rattle.vs_defs.specs.Bytes.{Bytes}
use Rattle.vs_session_defs.specs.Words.{generator, after_draws}
use Rattle.vs_thread_defs.specs.Generator.{component, generated_words, member_name, words_per_member}

pub record Generating : Type 0 where
  pub stream : Lcg
  pub members : ℕ
  pub dim : ℕ
  pub next : ℕ

-- its stream is behind the words of the members before
abbrev pub at : ℕ → ℕ → ℕ → ℕ → Generating
at seed members dim i = record { stream = after_draws (i * words_per_member dim) (generator seed 1); members = members; dim = dim; next = i }

abbrev pub components : List ℕ → ℕ → List Bytes
components words dim = map (component words) (range_with_len 0 dim)

-- the words of a VADD by those of its vector
abbrev pub words_of : List ℕ → ℕ → ℕ → List Bytes
words_of words dim i =
    codes "VADD" ∷ codes "g" ∷ codes "VALUES" ∷ decimal dim ∷ (components words dim ++ (member_name i ∷ codes "EF" ∷ codes "64" ∷ []))

-- nothing behind the last member
abbrev pub IsNext : ℕ → ℕ → Generating → Option (List Bytes) → Generating → Type 0
IsNext seed i old None new = (i ≡ old.members) × (new ≡ old)
IsNext seed i old (Some words) new = (i < old.members) × (words ≡ generated_words seed old.dim i) × (new ≡ at seed old.members old.dim (i + 1))
