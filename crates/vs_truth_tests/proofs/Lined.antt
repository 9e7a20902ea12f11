-- Members whose words lie one after another, for the tests.
use Rattle.std.proofs.Common.{◌≡◌, ℕ, ◌+◌, ◌*◌, ◌<◌, List, [], ◌∷◌, length, get_or, take, drop, sym, ap, ◌∙◌, subst, arith}
use Rattle.std.specs.Prelude.{Some, slice_get, IsSomeAnd}
use Rattle.std.specs.List.{slice_index, range_with_len}
use Rattle.std.proofs.lemmas.Option.{slice_get-get_or}
use Rattle.std.proofs.lemmas.List.{take_more, get_or-drop, drop-drop, length-drop}
use Rattle.std.proofs.lemmas.List.FromFn.{length-map-range_with_len, get_or-map-range_with_len}
use Rattle.vs_defs.specs.Bytes.{Bytes}
use Rattle.vs_defs.specs.Store.{Member}
use Rattle.vs_defs.specs.Words.{FitsDimension, word_bit, bits_of_words}
use Rattle.vs_graph.proofs.Firsts.{whole_words}
use Rattle.vs_truth.specs.Nearest.{KeepsBits}
use Rattle.vs_truth_tests.specs.LinedMembers.{lined_member, lined_members}

pub lined_long : (names : List Bytes) (words : List ℕ) → length (lined_members names words) ≡ 7
lined_long names words = length-map-range_with_len (lined_member names words) 0 7

-- what is said of the member at a place
pub lined_at : (names : List Bytes) (words : List ℕ) (k : ℕ) (P : Member → Type 0) → k < 7 → P (lined_member names words k) → IsSomeAnd (slice_get (lined_members names words) k) P
lined_at names words k P h said =
    let member = lined_member names words in
    let at : slice_get (lined_members names words) k ≡ Some (member k)
    = slice_get-get_or (lined_members names words) k (member k) (omega (arith, h, lined_long names words)) ∙ ap (λ x. Some x) (get_or-map-range_with_len member 0 7 k k (member k) h (omega arith)) in
    subst (λ o. IsSomeAnd o P) (sym at) said

bits_long : (dim : ℕ) (words : List ℕ) → length (bits_of_words dim words) ≡ dim
bits_long dim words = length-map-range_with_len (word_bit words) 0 dim

pub keeps_word : (w : ℕ) → KeepsBits (bits_of_words 64 (w ∷ [])) (w ∷ [])
keeps_word w =
    let long = bits_long 64 (w ∷ []) in
    record {
      fits = subst (λ n. FitsDimension n (w ∷ [])) (sym long) (whole_words (w ∷ []));
      same = ap (λ n. bits_of_words n (w ∷ [])) long;
    }

pub one_word : (words : List ℕ) (k : ℕ) → k < length words → take 1 (drop k words) ≡ slice_index words k ∷ []
one_word words k h =
    let at : k + 0 ≡ k = omega arith in
    take_more (drop k words) 0 0 (omega (arith, h, length-drop k words)) ∙ ap (λ w. w ∷ []) (get_or-drop k words 0 0 ∙ ap (slice_index words) at)

pub keeps_lined : (words : List ℕ) (k : ℕ) (own : List ℕ) → k < length words → own ≡ take 1 (drop k words) → KeepsBits (bits_of_words 64 (slice_index words k ∷ [])) own
keeps_lined words k own h is = subst (KeepsBits (bits_of_words 64 (slice_index words k ∷ []))) (sym (is ∙ one_word words k h)) (keeps_word (slice_index words k))

pub row_behind : (words : List ℕ) (place k : ℕ) (rest : List ℕ) → rest ≡ drop place words → take 1 (drop (k * 1) rest) ≡ take 1 (drop (place + k) words)
row_behind words place k rest is =
    let same : k * 1 ≡ k = omega arith in
    ap (take 1) (ap (λ n. drop n rest) same ∙ ap (drop k) is ∙ drop-drop k place words)
