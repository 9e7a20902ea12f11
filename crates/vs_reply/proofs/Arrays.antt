-- Arrays that are appended part by part.
use Rattle.std.proofs.Common.{◌≡◌, ◌<◌, ◌≤◌, ◌+◌, ◌*◌, ◌++◌, ◌∷◌, [], ℕ, suc, Bool, List, length, take, map, flat_map, get_or, decimal, refl, sym, ap, ap₂, ◌∙◌, arith, append-nil, length-append, append_assoc}
use Rattle.std.proofs.lemmas.List.{take_more, take_all, flat_map_more, length-map}
use Rattle.std.proofs.lemmas.List.Folds.{flat_map-map}
use Rattle.std.proofs.lemmas.Grind.{flat_map-append, common_steps}
use Rattle.vs_defs.specs.Bytes.{Bytes}
use Rattle.vs_defs.specs.Request.{Hit}
use Rattle.vs_defs.specs.Reply.{line, array_of, hit_parts, hits_reply}

-- the line that says how many parts an array has
abbrev pub head : ℕ → Bytes
head n = line (42 ∷ decimal n)

pub array_map : {A : Type 0} (f : A → Bytes) (xs : List A) → head (length xs) ++ flat_map f xs ≡ array_of (map f xs)
array_map f xs = sym (ap₂ (λ (n : ℕ) (parts : Bytes). head n ++ parts) (length-map xs f) (flat_map-map (λ p. p) f xs))

-- one part more
one_more : {A : Type 0} (f : A → Bytes) (before : Bytes) (xs : List A) (i : ℕ) (d : A) → i < length xs →
    (before ++ flat_map f (take i xs)) ++ f (get_or xs i d) ≡ before ++ flat_map f (take (i + 1) xs)
one_more f before xs i d h = flat_map_more f before (take i xs) (get_or xs i d) ∙ ap (λ (ys : List _). before ++ flat_map f ys) (sym (take_more xs i d h))

pub part_more : {A : Type 0} (f : A → Bytes) (before out out' : Bytes) (xs : List A) (i : ℕ) (x : A) → i < length xs → x ≡ get_or xs i x →
    out ≡ before ++ flat_map f (take i xs) → out' ≡ out ++ f x → out' ≡ before ++ flat_map f (take (i + 1) xs)
part_more f before out out' xs i x lt is e e' =
    e' ∙ ap (λ (l : Bytes). l ++ f x) e ∙ ap (λ (y : _). (before ++ flat_map f (take i xs)) ++ f y) is ∙ one_more f before xs i x lt

-- the parts are all appended
pub all_parts : {A : Type 0} (f : A → Bytes) (before out whole : Bytes) (n i : ℕ) (xs : List A) → length xs ≤ i → head n ++ flat_map f xs ≡ whole →
    out ≡ (before ++ head n) ++ flat_map f (take i xs) → out ≡ before ++ whole
all_parts f before out whole n i xs le is e =
    e ∙ ap (λ (ys : List _). (before ++ head n) ++ flat_map f ys) (take_all i xs le) ∙ append_assoc before (head n) (flat_map f xs) ∙ ap (λ (l : Bytes). before ++ l) is

-- parts appended in turn
abbrev pub appended : Bytes → List Bytes → Bytes
appended before [] = before
appended before (p ∷ ps) = appended (before ++ p) ps

pub in_turn : (before : Bytes) (ps : List Bytes) → appended before ps ≡ before ++ flat_map (λ p. p) ps
in_turn before [] = sym (append-nil before)
in_turn before (p ∷ ps) = in_turn (before ++ p) ps ∙ append_assoc before p (flat_map (λ q. q) ps)

-- ---- hits

pub hits_count : (dim : ℕ) (scores attrs : Bool) (w : ℕ) (hits : List Hit) → ((h : Hit) → w ≡ length (hit_parts dim scores attrs h)) →
    length (flat_map (hit_parts dim scores attrs) hits) ≡ length hits * w
hits_count dim scores attrs w [] is = omega arith
hits_count dim scores attrs w (h ∷ hs) is =
    length-append (hit_parts dim scores attrs h) (flat_map (hit_parts dim scores attrs) hs)
    ∙ ap₂ (λ (a b : ℕ). a + b) (sym (is h)) (hits_count dim scores attrs w hs is)
    ∙ more (length hs) w where
      more : (n w : ℕ) → w + n * w ≡ suc n * w
      more n w = grind (arith, common_steps)

joined : (f : Hit → List Bytes) (hits : List Hit) → flat_map (λ p. p) (flat_map f hits) ≡ flat_map (λ h. flat_map (λ p. p) (f h)) hits
joined f [] = refl
joined f (h ∷ hs) = flat_map-append (λ p. p) (f h) (flat_map f hs) ∙ ap (λ (l : Bytes). flat_map (λ p. p) (f h) ++ l) (joined f hs)

pub hits_map : {A : Type 0} (v : A → Hit) (dim : ℕ) (scores attrs : Bool) (w : ℕ) (xs : List A) → ((h : Hit) → w ≡ length (hit_parts dim scores attrs h)) →
    head (length xs * w) ++ flat_map (λ x. flat_map (λ p. p) (hit_parts dim scores attrs (v x))) xs ≡ hits_reply dim scores attrs (map v xs)
hits_map v dim scores attrs w xs is =
    ap₂ (λ (n : ℕ) (parts : Bytes). head n ++ parts)
    (ap (λ (n : ℕ). n * w) (sym (length-map xs v)) ∙ sym (hits_count dim scores attrs w (map v xs) is))
    (sym (joined (hit_parts dim scores attrs) (map v xs) ∙ flat_map-map (λ h. flat_map (λ p. p) (hit_parts dim scores attrs h)) v xs))

-- ---- one part, or two, behind what stands

pub grown : {o o' x : Bytes} (p : Bytes) → o' ≡ o ++ p → o ≡ x → o' ≡ x ++ p
grown p e d = e ∙ ap (λ (l : Bytes). l ++ p) d

pub grown_twice : {o o' x : Bytes} (p q : Bytes) → o' ≡ (o ++ p) ++ q → o ≡ x → o' ≡ (x ++ p) ++ q
grown_twice p q e d = e ∙ ap (λ (l : Bytes). (l ++ p) ++ q) d
