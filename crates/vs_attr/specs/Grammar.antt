-- The grammar of RFC 8259, rule by rule. `R s r` says that the bytes s begin with what the rule derives, and that r follows it; so a
-- sequence of rules is a chain of bytes. The rules that derive a value name it. A value's depth is how many objects and arrays may be
-- open in it at once. That a text is UTF-8 (section 8.1) is said beside the grammar, of the whole text: a byte of 128 or more stands in
-- texts alone.
--     Derived text j       the bytes are a JSON text, of this value
use Rattle.std.specs.Prelude.{◌≡◌, ℕ, suc, ◌≤◌, ◌==◌, true, false, ◌||◌, List, [], ◌∷◌, ◌++◌, Some, codes}
use Rattle.std.specs.Char.{is_ascii_digit}
use Rattle.std.specs.Str.{is_utf8}
use Rattle.vs_defs.specs.Limits.{max_json_depth}
use Rattle.vs_defs.specs.Bytes.{Bytes}
use Rattle.vs_defs.specs.Json as json
use Rattle.vs_defs.specs.Json.{Json, Items, Members, Piece, is_space, short_escape, code_unit, bytes_of, json_of}

-- ws = *( %x20 / %x09 / %x0A / %x0D )
pub data Space : Bytes → Bytes → Type 0 where
  no_space : {r : Bytes} → Space r r
  space : {s r : Bytes} (c : ℕ) → is_space c ≡ true → Space s r → Space (c ∷ s) r

-- the six structural characters: ws, the byte, ws
abbrev pub Mark : ℕ → Bytes → Bytes → Type 0
Mark b s r = (t : Bytes) × Space s (b ∷ t) × Space t r

-- 1*DIGIT
pub data Digits : Bytes → Bytes → Type 0 where
  digit : {r : Bytes} (c : ℕ) → is_ascii_digit c ≡ true → Digits (c ∷ r) r
  digits : {s r : Bytes} (c : ℕ) → is_ascii_digit c ≡ true → Digits s r → Digits (c ∷ s) r

-- int = zero / ( digit1-9 *DIGIT ); 48 is `0`
pub data Whole : Bytes → Bytes → Type 0 where
  zero_alone : {r : Bytes} → Whole (48 ∷ r) r
  first_digit : {s r : Bytes} (c : ℕ) → (c == 48) ≡ false → Digits (c ∷ s) r → Whole (c ∷ s) r

-- [ frac ], frac = decimal-point 1*DIGIT
pub data Fraction : Bytes → Bytes → Type 0 where
  no_fraction : {r : Bytes} → Fraction r r
  fraction : {s r : Bytes} → Digits s r → Fraction (46 ∷ s) r

-- [ minus / plus ]
pub data Sign : Bytes → Bytes → Type 0 where
  no_sign : {r : Bytes} → Sign r r
  sign : {r : Bytes} (c : ℕ) → ((c == 43) || (c == 45)) ≡ true → Sign (c ∷ r) r

-- [ exp ], exp = e [ minus / plus ] 1*DIGIT; 101 is `e` and 69 is `E`
pub data Exponent : Bytes → Bytes → Type 0 where
  no_exponent : {r : Bytes} → Exponent r r
  exponent : {s t r : Bytes} (c : ℕ) → ((c == 101) || (c == 69)) ≡ true → Sign s t → Digits t r → Exponent (c ∷ s) r

-- int [ frac ] [ exp ]
pub data Unsigned : Bytes → Bytes → Type 0 where
  unsigned : {s t u r : Bytes} → Whole s t → Fraction t u → Exponent u r → Unsigned s r

-- number = [ minus ] int [ frac ] [ exp ]
pub data Number : Bytes → Bytes → Type 0 where
  plus : {s r : Bytes} → Unsigned s r → Number s r
  minus : {s r : Bytes} → Unsigned s r → Number (45 ∷ s) r

-- *char, char = unescaped / escape ( .. ), unescaped = %x20-21 / %x23-5B / %x5D-10FFFF; 34 is the quotation mark, 92 the backslash
pub data Chars : List Piece → Bytes → Bytes → Type 0 where
  no_chars : {r : Bytes} → Chars [] r r
  unescaped : {ps : List Piece} {s r : Bytes} (c : ℕ) → 32 ≤ c → (c == 34) ≡ false → (c == 92) ≡ false → Chars ps s r → Chars (json.plain c ∷ ps) (c ∷ s) r
  escaped : {ps : List Piece} {s r : Bytes} (c b : ℕ) → (c == 117) ≡ false → short_escape c ≡ Some b → Chars ps s r → Chars (json.plain b ∷ ps) (92 ∷ c ∷ s) r
  unit_escaped : {ps : List Piece} {s r : Bytes} (a b c d u : ℕ) → code_unit a b c d ≡ Some u → Chars ps s r → Chars (json.unit u ∷ ps) (92 ∷ 117 ∷ a ∷ b ∷ c ∷ d ∷ s) r

-- string = quotation-mark *char quotation-mark
abbrev pub Text : List Piece → Bytes → Bytes → Type 0
Text ps s r = (t : Bytes) × (s ≡ 34 ∷ t) × Chars ps t (34 ∷ r)

mutual
  -- value = false / null / true / object / array / number / string
  pub data Value : ℕ → Json → Bytes → Bytes → Type 0 where
    null : {d : ℕ} {r : Bytes} → Value d json.Null (codes "null" ++ r) r
    true_word : {d : ℕ} {r : Bytes} → Value d (json.Truth true) (codes "true" ++ r) r
    false_word : {d : ℕ} {r : Bytes} → Value d (json.Truth false) (codes "false" ++ r) r
    number : {d : ℕ} {r : Bytes} (n : Bytes) → Number (n ++ r) r → Value d (json.Number n) (n ++ r) r
    string : {d : ℕ} {ps : List Piece} {s r : Bytes} → Text ps s r → Value d (json.Text (bytes_of ps)) s r
    -- array = begin-array [ value *( value-separator value ) ] end-array
    empty_array : {d : ℕ} {s t r : Bytes} → Mark 91 s t → Mark 93 t r → Value (suc d) (json.Array json.no_items) s r
    array : {d : ℕ} {js : Items} {s t u r : Bytes} → Mark 91 s t → Values d js t u → Mark 93 u r → Value (suc d) (json.Array js) s r
    -- object = begin-object [ member *( value-separator member ) ] end-object
    empty_object : {d : ℕ} {s t r : Bytes} → Mark 123 s t → Mark 125 t r → Value (suc d) (json.Object json.no_members) s r
    object : {d : ℕ} {ms : Members} {s t u r : Bytes} → Mark 123 s t → Pairs d ms t u → Mark 125 u r → Value (suc d) (json.Object ms) s r

  -- value *( value-separator value )
  pub data Values : ℕ → Items → Bytes → Bytes → Type 0 where
    value : {d : ℕ} {j : Json} {s r : Bytes} → Value d j s r → Values d (json.item j json.no_items) s r
    values : {d : ℕ} {j : Json} {js : Items} {s t u r : Bytes} → Value d j s t → Mark 44 t u → Values d js u r → Values d (json.item j js) s r

  -- member *( value-separator member ), member = string name-separator value
  pub data Pairs : ℕ → Members → Bytes → Bytes → Type 0 where
    pair : {d : ℕ} {n : List Piece} {j : Json} {s t u r : Bytes} → Text n s t → Mark 58 t u → Value d j u r → Pairs d (json.member (bytes_of n) j json.no_members) s r
    pairs : {d : ℕ} {n : List Piece} {j : Json} {ms : Members} {s t u v w r : Bytes} → Text n s t → Mark 58 t u → Value d j u v → Mark 44 v w → Pairs d ms w r → Pairs d (json.member (bytes_of n) j ms) s r

-- JSON-text = ws value ws, in UTF-8, with no more than 64 objects and arrays open at once
pub record Derived (s : Bytes) (j : Json) : Type 0 where
  pub utf8 : is_utf8 s ≡ true
  pub at : Bytes
  pub rest : Bytes
  pub before : Space s at
  pub spelled : Value max_json_depth j at rest
  pub after : Space rest []

-- the definition's reader reads exactly what is derived
abbrev pub ReadsDerived : Type 0
ReadsDerived = (s : Bytes) (j : Json) → (json_of s ≡ Some j → Derived s j) × (Derived s j → json_of s ≡ Some j)
