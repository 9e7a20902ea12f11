-- Options are read one at a time: what a loop over them keeps true.
use Rattle.std.proofs.Common.{◌≡◌, ℕ, ◌+◌, ◌<◌, ◌≤◌, List, [], ◌∷◌, length, drop, Option, Some, None, true, false, ltb, Ok, Err, refl, ap, ◌∙◌, arith, ⊎_elim}
use Rattle.std.proofs.lemmas.List.{drop_all}
use Rattle.std.proofs.lemmas.Bool.{cases_lt}
use borrow.Author.Tests.{tests}
use Rattle.vs_defs.specs.Bytes.{Bytes}
use Rattle.vs_defs.specs.Read.{Reads, ◌>>=◌, Takes, Alone, WithValue, read_options, word}
use Rattle.vs_defs.specs.Request as model
use Rattle.vs_command.specs.Options.{taken, value}
use Rattle.vs_command.proofs.Words.{drop-word}

-- a word that is no option, or what the option that it is makes of the options
abbrev pub option_at : {A : Type 0} → Option (Takes A) → ℕ → List Bytes → Reads (A × ℕ)
option_at None at words = Err (model.UnknownOption at)
option_at (Some t) at words = taken t at words

-- what is read of an option that is the last word, and of one before two words or more
abbrev last_word : {A : Type 0} → Option (Takes A) → ℕ → Reads A
last_word None at = Err (model.UnknownOption at)
last_word (Some (Alone r)) at = r
last_word (Some (WithValue f)) at = Err (model.MissingValue at)

abbrev next_word : {A : Type 0} → (A → ℕ → List Bytes → Reads A) → Option (Takes A) → ℕ → Bytes → List Bytes → Reads A
next_word go None at v rest = Err (model.UnknownOption at)
next_word go (Some (Alone r)) at v rest = r >>= λ p. go p (at + 1) (v ∷ rest)
next_word go (Some (WithValue f)) at v rest = f (at + 1) v >>= λ p. go p (at + 2) rest

is_last : {A : Type 0} (find : A → ℕ → Bytes → Option (Takes A)) (o : A) (at : ℕ) (w : Bytes) (t : Option (Takes A)) → find o at w ≡ t → read_options find o at (w ∷ []) ≡ last_word t at
is_last {A} find o at w None e = rw (e, read_options) refl
is_last {A} find o at w (Some (Alone r)) e = rw (e, read_options) refl
is_last {A} find o at w (Some (WithValue f)) e = rw (e, read_options) refl

is_next : {A : Type 0} (find : A → ℕ → Bytes → Option (Takes A)) (o : A) (at : ℕ) (w v : Bytes) (rest : List Bytes) (t : Option (Takes A)) → find o at w ≡ t → read_options find o at (w ∷ v ∷ rest) ≡ next_word (read_options find) t at v rest
is_next {A} find o at w v rest None e = rw (e, read_options) refl
is_next {A} find o at w v rest (Some (Alone r)) e = rw (e, read_options) refl
is_next {A} find o at w v rest (Some (WithValue f)) e = rw (e, read_options) refl

after_last : {A : Type 0} (go : A → ℕ → List Bytes → Reads A) (t : Option (Takes A)) (at : ℕ) (words : List Bytes) → ((p : A) (n : ℕ) → go p n [] ≡ Ok p) → drop (at + 1) words ≡ [] → value words at ≡ Err (model.MissingValue at) →
    last_word t at ≡ (option_at t at words >>= λ s. go s.0 s.1 (drop s.1 words))
after_last go None at words done none missing = refl
after_last go (Some (Alone (Ok p))) at words done none missing = rw (none, done p (at + 1)) refl
after_last go (Some (Alone (Err k))) at words done none missing = refl
after_last go (Some (WithValue f)) at words done none missing = rw missing refl

abbrev at_place : {A : Type 0} → ℕ → Reads A → Reads (A × ℕ)
at_place n r = r >>= λ o. Ok (o, n)

with_value : {A : Type 0} (go : A → ℕ → List Bytes → Reads A) (n : ℕ) (words rest : List Bytes) (r : Reads A) → drop n words ≡ rest → (r >>= λ p. go p n rest) ≡ (at_place n r >>= λ s. go s.0 s.1 (drop s.1 words))
with_value go n words rest (Ok p) behind = rw behind refl
with_value go n words rest (Err k) behind = refl

after_next : {A : Type 0} (go : A → ℕ → List Bytes → Reads A) (t : Option (Takes A)) (at : ℕ) (v : Bytes) (words rest : List Bytes) → drop (at + 1) words ≡ v ∷ rest → drop (at + 2) words ≡ rest → value words at ≡ Ok v →
    next_word go t at v rest ≡ (option_at t at words >>= λ s. go s.0 s.1 (drop s.1 words))
after_next go None at v words rest some behind given = refl
after_next go (Some (Alone r)) at v words rest some behind given = with_value go (at + 1) words (v ∷ rest) r some
after_next go (Some (WithValue f)) at v words rest some behind given = rw given (with_value go (at + 2) words rest (f (at + 1) v) behind)

value-past : (words : List Bytes) (at : ℕ) → length words ≤ at + 1 → value words at ≡ Err (model.MissingValue at)
value-past words at h = let no_more : ltb (at + 1) (length words) ≡ false = search (arith, tests) in rw no_more refl

value-there : (words : List Bytes) (at : ℕ) → at + 1 < length words → value words at ≡ Ok (word words (at + 1))
value-there words at h = let more : ltb (at + 1) (length words) ≡ true = search (arith, tests) in rw more refl

pub one_option : {A : Type 0} (find : A → ℕ → Bytes → Option (Takes A)) (o : A) (at : ℕ) (words : List Bytes) → at < length words →
    read_options find o at (drop at words) ≡ (option_at (find o at (word words at)) at words >>= λ s. read_options find s.0 s.1 (drop s.1 words))
one_option find o at words h =
    ⊎_elim
    (λ more.
    let next : drop (at + 1) words ≡ word words (at + 1) ∷ drop (at + 2) words = drop-word words (at + 1) more ∙ ap (λ n. word words (at + 1) ∷ drop n words) (omega arith) in
    rw (drop-word words at h, next)
    (is_next find o at (word words at) (word words (at + 1)) (drop (at + 2) words) (find o at (word words at)) refl
    ∙ after_next (read_options find) (find o at (word words at)) at (word words (at + 1)) words (drop (at + 2) words) next refl (value-there words at more)))
    (λ past.
    let none : drop (at + 1) words ≡ [] = drop_all (at + 1) words past in
    rw (drop-word words at h, none)
    (is_last find o at (word words at) (find o at (word words at)) refl ∙ after_last (read_options find) (find o at (word words at)) at words (λ p n. refl) none (value-past words at past)))
    (cases_lt (at + 1) (length words))

pub options_more : {A : Type 0} (find : A → ℕ → Bytes → Option (Takes A)) (o p : A) (at next : ℕ) (words : List Bytes) (t : Takes A) → at < length words → find o at (word words at) ≡ Some t → taken t at words ≡ Ok (p, next) →
    read_options find o at (drop at words) ≡ read_options find p next (drop next words)
options_more find o p at next words t h found took = rw (one_option find o at words h, found, took) refl

pub options_refused : {A : Type 0} (find : A → ℕ → Bytes → Option (Takes A)) (o : A) (at : ℕ) (words : List Bytes) (t : Takes A) (c : model.Refusal) → at < length words → find o at (word words at) ≡ Some t → taken t at words ≡ Err c →
    read_options find o at (drop at words) ≡ Err c
options_refused find o at words t c h found took = rw (one_option find o at words h, found, took) refl

pub options_unknown : {A : Type 0} (find : A → ℕ → Bytes → Option (Takes A)) (o : A) (at : ℕ) (words : List Bytes) → at < length words → find o at (word words at) ≡ None →
    read_options find o at (drop at words) ≡ Err (model.UnknownOption at)
options_unknown find o at words h found = rw (one_option find o at words h, found) refl
