-- The generated members (this project's), and the seven lines that are printed of them.
--     generated_words seed dim i      the words of the VADD of member i, counted from 0
--     summary s truth beam            the lines of the set, with the names that two searches found
--     Generates seed members dim out  what is printed, over a store that is reached by the generated requests
use Rattle.std.specs.Prelude.{◌≡◌, ℕ, ◌+◌, ◌*◌, ◌/◌, ◌%◌, ◌^◌, Bool, true, false, cond, ◌==◌, List, [], ◌∷◌, ◌++◌, Option, Some, None, Ok, length, map, flat_map, codes, decimal, sum_by, count_by}
use Rattle.std.specs.List.{range_with_len, join_with_byte, slice_index}
use Rattle.vs_defs.specs.Bytes.{Bytes, listed}
use Rattle.vs_session_defs.specs.Words.{generator, drawn, after_draws}
use Rattle.vs_defs.specs.Request.{Request, Refusal, Answer, Search, Hit}
use Rattle.vs_defs.specs.Request as request
use Rattle.vs_defs.specs.Read.{read}
use Rattle.vs_defs.specs.Store.{Set, names_of, set_of, usual_limits}
use Rattle.vs_thread_defs.specs.Machine.{GraphHistory, GraphLegal, store_of}
use Rattle.vs_defs.specs.Answers.{Answers}
use Rattle.vs_defs.specs.Links.{links_of, neighbours}
use Rattle.vs_defs.specs.Beam.{level_at}

-- how many words a vector takes
abbrev pub words_per_member : ℕ → ℕ
words_per_member dim = (dim + 31) / 32

-- component k is 1 where bit k % 32 from the lowest of word k / 32 is 1, else -1
abbrev pub component : List ℕ → ℕ → Bytes
component words k = cond (slice_index words (k / 32) / 2 ^ (k % 32) % 2 == 1) (codes "1") (codes "-1")

-- the vector words of member i: those of stream 1 behind the words of the members before it
abbrev pub vector_words : ℕ → ℕ → ℕ → List ℕ
vector_words seed dim i = drawn (words_per_member dim) (after_draws (i * words_per_member dim) (generator seed 1))

abbrev pub member_name : ℕ → Bytes
member_name i = codes "m" ++ decimal i

abbrev pub generated_words : ℕ → ℕ → ℕ → List Bytes
generated_words seed dim i =
    codes "VADD" ∷ codes "g" ∷ codes "VALUES" ∷ decimal dim ∷ (map (component (vector_words seed dim i)) (range_with_len 0 dim) ++ (member_name i ∷ codes "EF" ∷ codes "64" ∷ []))

-- ---- the summary

abbrev pub summary_line : List Bytes → Bytes
summary_line words = join_with_byte 32 words ++ codes "\n"

-- linked pairs at layer 0: half of the links
abbrev pub linked_pairs : Set → ℕ
linked_pairs s = sum_by (λ name. length (neighbours s.contents.members (links_of s.wiring) 0 name)) (names_of s.contents.members) / 2

abbrev pub top_level : Option Bytes → Set → ℕ
top_level None s = 0
top_level (Some e) s = level_at s e

-- truth and beam are the names that the two searches found
abbrev pub summary : Set → List Bytes → List Bytes → Bytes
summary s truth beam =
    flat_map summary_line (
    (codes "members" ∷ decimal (length s.contents.members) ∷ []) ∷ (codes "dim" ∷ decimal s.contents.dim ∷ []) ∷ (codes "max-level" ∷ decimal (top_level s.wiring.entry s) ∷ [])
    ∷ (codes "links" ∷ decimal (linked_pairs s) ∷ []) ∷ (codes "truth" ∷ truth) ∷ (codes "beam" ∷ beam)
    ∷ (codes "agree" ∷ decimal (count_by (λ name. listed name truth) beam) ∷ []) ∷ [])

-- ---- the store, and what is printed of it

-- each change is the next member's VADD, with the next word of stream 0
pub record IsGenerated (seed members dim : ℕ) (h : GraphHistory) : Type 0 where
  pub legal : GraphLegal usual_limits h
  pub requests : map (λ i. read (generated_words seed dim i)) (range_with_len 0 members) ≡ map (λ e. Ok e.request) h
  pub words : map (λ w. w ∷ []) (drawn members (generator seed 0)) ≡ map (λ e. e.words) h

-- `VSIM g ELE m0 COUNT 10`, with TRUTH or without
abbrev pub search_of_first : Bool → Request
search_of_first truth = request.Vsim (record {
  key = codes "g";
  what = request.Ele (member_name 0);
  scores = false;
  attrs = false;
  count = 10;
  ef = 100;
  filter = None;
  effort = 0;
  truth = truth;
  nothread = false;
})

abbrev pub hit_names : List Hit → List Bytes
hit_names hits = map (λ x. x.name) hits

pub record Generates (seed members dim : ℕ) (out : Bytes) : Type 0 where
  pub history : GraphHistory
  pub generated : IsGenerated seed members dim history
  pub set : Set
  pub is_there : set_of (codes "g") (store_of usual_limits history) ≡ Some set
  pub truth : List Hit
  pub truth_is : Answers (store_of usual_limits history) (search_of_first true) [] (request.Hits dim false false truth)
  pub beam : List Hit
  pub beam_is : Answers (store_of usual_limits history) (search_of_first false) [] (request.Hits dim false false beam)
  pub printed : out ≡ summary set (hit_names truth) (hit_names beam)
