-- Lines of words, and the names that are in two lists.
--     names_line      a word and the names of hits, in one line
--     ended           a line with its line feed
--     lines_in_turn   lines that are appended one after another
--     agreed_hits     how many names of the second list are in the first
use Rattle.std.proofs.Common.{◌≡◌, ℕ, Bool, List, [], ◌∷◌, ◌++◌, ◌||◌, ◌+◌, cond, flat_map, codes, refl, sym, ap, ap₂, ◌∙◌, append-nil, append_assoc}
use Rattle.std.specs.Prelude.{OnOk, Result, Ok, Err, count_by}
use Rattle.std.specs.List.{join_with_byte, list_any, fold}
use Rattle.std.proofs.lemmas.List.Sums.{sum_by-cons}
use Rattle.vs_command.specs.Answers.{hits_of}
use Rattle.vs_command.specs.declared.answer.NamedHit.{NamedHit}
use Rattle.vs_defs.specs.Bytes.{Bytes, listed, same_name}
use Rattle.vs_thread_defs.specs.Generator.{hit_names, summary_line}

abbrev pub spaced : NamedHit → Bytes
spaced hit = 32 ∷ hit.name

words_line : (word : Bytes) (hits : List NamedHit) → word ++ flat_map spaced hits ≡ join_with_byte 32 (word ∷ hit_names (hits_of hits))
words_line word [] = append-nil word
words_line word (h ∷ hs) = ap (λ (l : Bytes). word ++ (32 ∷ l)) (words_line h.name hs)

pub names_line : (text word : Bytes) (hits : List NamedHit)
    → ((text ++ word) ++ flat_map spaced hits) ++ codes "\n" ≡ text ++ summary_line (word ∷ hit_names (hits_of hits))
names_line text word hits =
    ap (λ (l : Bytes). l ++ codes "\n") (append_assoc text word (flat_map spaced hits) ∙ ap (λ (l : Bytes). text ++ l) (words_line word hits))
    ∙ append_assoc text (join_with_byte 32 (word ∷ hit_names (hits_of hits))) (codes "\n")

pub lines_in_turn : (before : Bytes) (lines : List (List Bytes)) → fold (λ t l. t ++ summary_line l) before lines ≡ before ++ flat_map summary_line lines
lines_in_turn before [] = sym (append-nil before)
lines_in_turn before (l ∷ ls) = lines_in_turn (before ++ summary_line l) ls ∙ append_assoc before (summary_line l) (flat_map summary_line ls)

listed_hits : (name : Bytes) (hits : List NamedHit) → list_any (λ (h : NamedHit). same_name name h.name) hits ≡ listed name (hit_names (hits_of hits))
listed_hits name [] = refl
listed_hits name (h ∷ hs) = ap (λ (b : Bool). same_name name h.name || b) (listed_hits name hs)

pub agreed_hits : (truth beam : List NamedHit) → count_by (λ (h : NamedHit). list_any (λ (o : NamedHit). same_name h.name o.name) truth) beam
    ≡ count_by (λ name. listed name (hit_names (hits_of truth))) (hit_names (hits_of beam))
agreed_hits truth [] = refl
agreed_hits truth (h ∷ hs) =
    sum_by-cons (λ (x : NamedHit). cond (list_any (λ (o : NamedHit). same_name x.name o.name) truth) 1 0) h hs
    ∙ ap₂ (λ (b : Bool) (n : ℕ). cond b 1 0 + n) (listed_hits h.name truth) (agreed_hits truth hs)
    ∙ sym (sum_by-cons (λ (w : Bytes). cond (listed w (hit_names (hits_of truth))) 1 0) h.name (hit_names (hits_of hs)))

pub ended : {A E : Type 0} (result : Result A E) (before after whole : Bytes) → OnOk result (after ≡ before ++ codes "\n") → before ++ codes "\n" ≡ whole
    → OnOk result (after ≡ whole)
ended (Ok x) before after whole adds is = adds ∙ is
ended (Err e) before after whole adds is = tt

-- seven lines, each appended to what was there
pub seven_lines : (t0 t1 t2 t3 t4 t5 t6 t7 : Bytes) (a b c d e f g : List Bytes) → t0 ≡ [] → t1 ≡ t0 ++ summary_line a → t2 ≡ t1 ++ summary_line b → t3 ≡ t2 ++ summary_line c
    → t4 ≡ t3 ++ summary_line d → t5 ≡ t4 ++ summary_line e → t6 ≡ t5 ++ summary_line f → t7 ≡ t6 ++ summary_line g
    → t7 ≡ flat_map summary_line (a ∷ b ∷ c ∷ d ∷ e ∷ f ∷ g ∷ [])
seven_lines t0 t1 t2 t3 t4 t5 t6 t7 a b c d e f g e0 e1 e2 e3 e4 e5 e6 e7 =
    let on = λ (l : List Bytes) (t : Bytes). t ++ summary_line l in
    e7 ∙ ap (on g) (e6 ∙ ap (on f) (e5 ∙ ap (on e) (e4 ∙ ap (on d) (e3 ∙ ap (on c) (e2 ∙ ap (on b) (e1 ∙ ap (on a) e0))))))
    ∙ lines_in_turn [] (a ∷ b ∷ c ∷ d ∷ e ∷ f ∷ g ∷ [])

-- the names of two lists in common, where the lists are given by slices
pub agreed_by : (count : ℕ) (truth beam one other : List NamedHit) → count ≡ count_by (λ (h : NamedHit). list_any (λ (o : NamedHit). same_name h.name o.name) one) other → one ≡ truth → other ≡ beam
    → count ≡ count_by (λ name. listed name (hit_names (hits_of truth))) (hit_names (hits_of beam))
agreed_by count truth beam one other is is_one is_other =
    is ∙ ap₂ (λ (t b : List NamedHit). count_by (λ (h : NamedHit). list_any (λ (o : NamedHit). same_name h.name o.name) t) b) is_one is_other ∙ agreed_hits truth beam
