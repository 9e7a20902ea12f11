-- A reading goes on with what is left: what a loop over words keeps true.
use Rattle.std.proofs.Common.{◌≡◌, ℕ, ◌+◌, ◌<◌, List, [], ◌∷◌, ◌++◌, length, drop, Option, Some, None, Bool, true, false, cond, option_map, Ok, Err, refl, sym, ap, ◌∙◌, append_assoc, IfSome, arith, Result, get_or}
use Rattle.std.specs.List.{prefix_len}
use Rattle.std.specs.Prelude.{option_and_then}
use Rattle.std.specs.Result.{IsErrAnd}
use Rattle.vs_command.specs.declared.refusal.Refusal.{Refusal}
use Rattle.vs_command.specs.Refusals.{refusal_of}
use Rattle.vs_command.specs.Readings.{Gives}
use Rattle.vs_defs.specs.Bytes.{Bytes}
use Rattle.vs_defs.specs.Request as model
use Rattle.vs_defs.specs.Numeral.{sign_of, bit_of, bits_of, is_numeral, Sign}
use Rattle.vs_defs.specs.Vector.{Vector}
use Rattle.vs_defs.specs.Read.{Reads, ◌>>=◌, read_component, read_components, read_keys, read_key, read_name, read_add_form, read_vector, read_options, find_add_option, no_add_options, read_vadd, word}
use Rattle.vs_command.proofs.Words.{drop-word, word_at}

-- what is read, behind what was read before
abbrev pub behind : {A : Type 0} → List A → Reads (List A) → Reads (List A)
behind front r = r >>= λ rest. Ok (front ++ rest)

pub behind-nil : {A : Type 0} (r : Reads (List A)) → behind [] r ≡ r
behind-nil (Ok x) = refl
behind-nil (Err e) = refl

pub behind-more : {A : Type 0} (front : List A) (x : A) (r : Reads (List A)) → behind front (r >>= λ xs. Ok (x ∷ xs)) ≡ behind (front ++ x ∷ []) r
behind-more front x (Ok xs) = ap Ok (sym (append_assoc front (x ∷ []) xs))
behind-more front x (Err e) = refl

-- where each component is a numeral
pub components_read : (at : ℕ) (ws : List Bytes) (bits : Vector) → bits_of ws ≡ Some bits → read_components at ws ≡ Ok bits
components_read at [] bits e = cc
components_read at (w ∷ ws) bits e = by_sign (sign_of w) (bits_of ws) (read_components (at + 1) ws) e (components_read (at + 1) ws) where
  by_sign : (o : Option Sign) (p : Option Vector) (r : Reads Vector) → option_and_then (λ s. option_map (λ v. bit_of s ∷ v) p) o ≡ Some bits → ((v : Vector) → p ≡ Some v → r ≡ Ok v) →
      read_component at o >>= (λ bit. r >>= λ v. Ok (bit ∷ v)) ≡ Ok bits
  by_sign None p r is f = cc
  by_sign (Some s) None r is f = cc
  by_sign (Some s) (Some v) r is f = let same : bit_of s ∷ v ≡ bits = cc in ap (λ (q : Reads Vector). q >>= λ v. Ok (bit_of s ∷ v)) (f v refl) ∙ ap Ok same

-- where the first that is none is at this place
pub component_refused : (at : ℕ) (ws : List Bytes) (place : ℕ) → prefix_len is_numeral ws ≡ place → place < length ws → read_components at ws ≡ Err (model.BadComponent (at + place))
component_refused at [] place e less = absurd (omega arith)
component_refused at (w ∷ ws) place e less = by_test (is_numeral w) _ (prefix_len is_numeral ws) (read_components (at + 1) ws) e (component_refused (at + 1) ws) where
  by_test : (b : Bool) (s : Sign) (n : ℕ) (r : Reads Vector) → cond b (1 + n) 0 ≡ place → ((k : ℕ) → n ≡ k → k < length ws → r ≡ Err (model.BadComponent (at + 1 + k))) →
      read_component at (cond b (Some s) None) >>= (λ bit. r >>= λ v. Ok (bit ∷ v)) ≡ Err (model.BadComponent (at + place))
  by_test true s n r is f =
      let here : at + 1 + n ≡ at + place = omega arith in
      ap (λ (q : Reads Vector). q >>= λ v. Ok (bit_of s ∷ v)) (f n refl (omega arith)) ∙ ap (λ (k : ℕ). Err (model.BadComponent k)) here
  by_test false s n r is f = let here : at ≡ at + place = omega arith in ap (λ (k : ℕ). Err (model.BadComponent k)) here

-- a cause that ends a part ends the whole
refused_as : {A B : Type 0} (cause : Option model.Refusal) (part : Reads A) (whole : Reads B) → IfSome cause (λ c. part ≡ Err c) → ((c : model.Refusal) → part ≡ Err c → whole ≡ Err c) → IfSome cause (λ c. whole ≡ Err c)
refused_as None part whole given f = given
refused_as (Some c) part whole given f = f c given

pub refused : {U A B : Type 0} (w : U → B) (result : Result U Refusal) (e : Refusal) (part : Reads A) (whole : Reads B) → IsErrAnd result (λ x. x ≡ e) → IfSome (refusal_of e) (λ c. part ≡ Err c) → ((c : model.Refusal) → part ≡ Err c → whole ≡ Err c) → Gives w result whole
refused w (Ok x) e part whole is given f = absurd is
refused w (Err x) e part whole is given f = rw is (refused_as (refusal_of e) part whole given f)

pub key_more : (i : ℕ) (ws keys more : List Bytes) (w key : Bytes) → i < length ws → w ≡ get_or ws i w → read_key w ≡ Ok key → more ≡ keys ++ key ∷ [] → behind keys (read_keys (drop i ws)) ≡ behind more (read_keys (drop (i + 1) ws))
key_more i ws keys more w key h at read pushed =
    let here : read_key (word ws i) ≡ Ok key = ap read_key (sym (word_at ws i w h at)) ∙ read in
    rw (pushed, drop-word ws i h, here) (behind-more keys key (read_keys (drop (i + 1) ws)))

pub key_refused : (i : ℕ) (ws keys : List Bytes) (w : Bytes) (c : model.Refusal) → i < length ws → w ≡ get_or ws i w → read_key w ≡ Err c → behind keys (read_keys (drop i ws)) ≡ Err c
key_refused i ws keys w c h at read =
    let here : read_key (word ws i) ≡ Err c = ap read_key (sym (word_at ws i w h at)) ∙ read in
    rw (drop-word ws i h, here) refl

-- a VADD is refused by the first cause in its options, where the words before them fit
pub addition_refused : (words : List Bytes) (key name : Bytes) (bits : Vector) (c : model.Refusal) → read_key (word words 1) ≡ Ok key → read_add_form (word words 2) ≡ Ok tt → read_vector 1 words ≡ Ok bits → read_name (word words (4 + length bits)) ≡ Ok name
    → read_options find_add_option no_add_options (5 + length bits) (drop (5 + length bits) words) ≡ Err c → read_vadd words ≡ Err c
addition_refused words key name bits c k f v n o = rw (k, f, v, n, o) refl
