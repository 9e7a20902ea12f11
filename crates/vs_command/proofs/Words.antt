-- Words at their places.
use Rattle.std.proofs.Common.{◌≡◌, ℕ, zero, suc, ◌+◌, ◌<◌, List, [], ◌∷◌, length, get_or, drop, refl, ◌∙◌, add-one, arith}
use Rattle.std.proofs.Math.Seq.{drop-cons}
use Rattle.vs_defs.specs.Bytes.{Bytes}
use Rattle.vs_defs.specs.Read.{word}

pub get_or-word : (words : List Bytes) (at : ℕ) (d : Bytes) → at < length words → get_or words at d ≡ word words at
get_or-word [] at d h = absurd (omega arith)
get_or-word (w ∷ ws) zero d h = refl
get_or-word (w ∷ ws) (suc at) d h = get_or-word ws at d (omega arith)

pub word_at : (words : List Bytes) (at : ℕ) (w : Bytes) → at < length words → w ≡ get_or words at w → w ≡ word words at
word_at words at w h e = e ∙ get_or-word words at w h

-- the word at a place, and those behind it
pub drop-word : (words : List Bytes) (at : ℕ) → at < length words → drop at words ≡ word words at ∷ drop (at + 1) words
drop-word words at h = rw (add-one, ← get_or-word words at [] h) (drop-cons words at [] h)
