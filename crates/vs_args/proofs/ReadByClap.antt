-- What `clap` reads in plain words.
use Rattle.std.proofs.Common.{◌≡◌, ◌++◌, ◌==◌, ◌&&◌, ◌||◌, ℕ, true, false, Bool, cond, List, [], ◌∷◌, Option, Some, None, is_some, codes, refl, option_map, option_and_then, ap, subst, sym, ◌∙◌, drop, take, not, ◌+◌, ◌-◌, ◌*◌, ◌^◌, ◌<◌, nat_lt, nat_le, length, arith}
use Rattle.std.specs.List.{All, starts_with, list_all, fold}
use Rattle.std.specs.Str.{IsUtf8}
use Rattle.std.proofs.lemmas.Str.{IsUtf8-from_ascii}
use Rattle.std.proofs.lemmas.Str.Ascii.{IsAscii-from_all}
use Rattle.std.proofs.lemmas.List.Elements.{All-nil, All-cons}
use Rattle.std.specs.Bool.{nat_eq}
use Rattle.std.specs.Char.{is_ascii, is_ascii_digit, digit_value}
use Rattle.std.specs.Str.Parse.{digits_value, digits_value_after, without_leading_plus}
use Rattle.std.proofs.lemmas.Str.{digit_value_digit}
use Rattle.std.proofs.lemmas.Str.Parse.{without_leading_plus_none}
use Rattle.std.proofs.lemmas.Slice.Eq.{bytes_eq-Decides}
use Rattle.clap.specs.Words.{Row, Text, first_of, subcommand_of, takes}
use Rattle.clap.specs.ValueTests.{accepts, is_numeral}
use Rattle.clap.specs.declared.builder.value_parser.ValueParser.TheVariants as parser
use Rattle.clap.specs.Lexer.{long_of, short_of, strip_byte}
use Rattle.clap.proofs.OnLiterals.{clap_on_literals}
use Rattle.vs_defs.specs.Bytes.{Bytes, same_name}
use Rattle.vs_defs.specs.Numeral.{is_empty}
use Rattle.vs_defs.specs.ProgramWords.{Settings, generate_choices, serve_choices, seed, is_plain_number, settings_of, setting, with_setting, value_in, job_by, choice_within, choice_named}
use Rattle.vs_defs.specs.ProgramWords.Job.{Script, Schedule, Generate, Serve}
use Rattle.vs_defs.specs.Decimal.{number_of}
use Rattle.vs_decimal.proofs.DigitLists.{digit_range}
use Rattle.vs_laws.proofs.Options.{is_some_of_map}
use Rattle.vs_args.proofs.Options.{lone_step, joined_step, named_step, strange_step}
use Rattle.std.proofs.lemmas.List.{take-append-drop}
use Rattle.std.proofs.lemmas.Bool.{and_from, and_parts}
use Rattle.std.proofs.lemmas.Bool.Decides.{nat_tests}
use Rattle.std.proofs.Math.Bool.{and-true, and-false}
use Rattle.vs_args.specs.Words.{job_named, IsScript}
use Rattle.vs_args.specs.Arguments.{program}

-- a word that doesn't begin with `-` is no option's name
no_dash : (c : ℕ) (cs : List ℕ) → (c == 45) ≡ false → strip_byte 45 (c ∷ cs) ≡ None
no_dash c cs e = rw (e, strip_byte) refl

no_long : (c : ℕ) (cs : List ℕ) → (c == 45) ≡ false → long_of (c ∷ cs) ≡ None
no_long c cs e = rw (no_dash c cs e) refl

no_short : (c : ℕ) (cs : List ℕ) → (c == 45) ≡ false → short_of (c ∷ cs) ≡ None
no_short c cs e = rw (no_dash c cs e) refl

abbrev pub seed_in : Option (Text × List Row) → Option (Text × Option Text)
seed_in = option_map (λ p. (p.0, first_of (codes "seed") p.1))

-- without the option its value is the default
reads_default : seed_in (subcommand_of program (codes "script" ∷ [])) ≡ Some (codes "script", Some (codes "0"))
unfolding clap_on_literals
reads_default = refl

-- the value of the option is the word behind it
reads_two : (c : ℕ) (cs : List ℕ) → (c == 45) ≡ false
    → seed_in (subcommand_of program (codes "script" ∷ codes "--seed" ∷ (c ∷ cs) ∷ [])) ≡ Some (codes "script", Some (c ∷ cs))
unfolding clap_on_literals
reads_two c cs e = rw (no_long c cs e, no_short c cs e, e) refl

-- the option and its value in one word
reads_joined : (v : List ℕ) → seed_in (subcommand_of program (codes "script" ∷ (codes "--seed=" ++ v) ∷ [])) ≡ Some (codes "script", Some v)
unfolding clap_on_literals
reads_joined v = refl

-- where a subcommand's rows are these, its value is
pub value_in_rows : (o : Option (Text × List Row)) (rows : List Row) (value : Text) → seed_in o ≡ Some (codes "script", Some value)
    → Some rows ≡ option_map (λ p. p.1) o → first_of (codes "seed") rows ≡ Some value
value_in_rows None rows value e r = cc
value_in_rows (Some p) rows value e r =
    let found : first_of (codes "seed") p.1 ≡ Some value = ap (option_and_then (λ q. q.1)) e in
    let same : rows ≡ p.1 = cc in
    rw same found

pub no_rows : (o : Option (Text × List Row)) (value : Text) → seed_in o ≡ Some (codes "script", Some value) → None ≡ option_map (λ p. p.1) o → ⊥
no_rows None value e r = cc
no_rows (Some p) value e r = cc

-- and these words are taken
takes_default : takes program (codes "script" ∷ []) ≡ true
unfolding clap_on_literals
takes_default = refl

takes_two : (c : ℕ) (cs : List ℕ) → (c == 45) ≡ false → accepts false (parser.Unsigned 0 (2 ^ 64 - 1)) (c ∷ cs) ≡ true
    → takes program (codes "script" ∷ codes "--seed" ∷ (c ∷ cs) ∷ []) ≡ true
unfolding clap_on_literals
takes_two c cs e a = rw (no_long c cs e, no_short c cs e, e, a) refl

takes_joined : (v : List ℕ) → accepts false (parser.Unsigned 0 (2 ^ 64 - 1)) v ≡ true
    → takes program (codes "script" ∷ (codes "--seed=" ++ v) ∷ []) ≡ true
unfolding clap_on_literals
takes_joined v a = rw a refl

-- the text that `clap` reads, and the job that it gives
pub record IsSeedText (words : List Bytes) (text : Bytes) : Type 0 where
  pub read : seed_in (subcommand_of program words) ≡ Some (codes "script", Some text)
  pub job : option_map Script (value_in seed text) ≡ job_named words
  pub utf8 : All IsUtf8 words
  pub taken : takes program words ≡ true

lone_setting : (value : Option ℕ) → option_map Script value ≡ option_map (λ s. Script (setting (codes "--seed") 0 s)) (with_setting seed value (Some []))
lone_setting None = refl
lone_setting (Some n) = refl

cond_some : (b : Bool) (n : ℕ) → is_some (cond b (Some n) None) ≡ true → b ≡ true
cond_some true n e = refl
cond_some false n e = cc

value_digits : (v : Bytes) → is_some (value_in seed v) ≡ true → (not (is_empty v) && list_all is_ascii_digit v) ≡ true
value_digits v e = (and_parts _ _ (and_parts (is_plain_number v) _ (and_parts _ _ (cond_some _ _ e)).0).0).0

-- a value begins with a digit, so with no `-`
digit_first : (c : ℕ) (cs : Bytes) → is_some (value_in seed (c ∷ cs)) ≡ true → (c == 45) ≡ false
digit_first c cs e =
    let digit : is_ascii_digit c ≡ true = (and_parts _ _ (and_parts (not (is_empty (c ∷ cs))) (list_all is_ascii_digit (c ∷ cs)) (value_digits (c ∷ cs) e)).1).0 in
    grind (arith, nat_tests)

-- `clap` takes the value of plain words, and as the same number
more_digits : (v : Bytes) (n : ℕ) → list_all is_ascii_digit v ≡ true → digits_value_after 10 n v ≡ fold (λ m c. m * 10 + (c - 48)) n v
more_digits [] n e = refl
more_digits (c ∷ cs) n e =
    let range = digit_range c (and_parts _ _ e).0 in
    let value : digit_value c + 48 ≡ c = digit_value_digit c range in
    let less : digit_value c ≡ c - 48 = omega arith in
    ap (λ d. digits_value_after 10 (n * 10 + d) cs) less ∙ more_digits cs (n * 10 + (c - 48)) (and_parts (is_ascii_digit c) _ e).1

few_digits : (v : Bytes) → list_all is_ascii_digit v ≡ true → list_all (λ d. nat_lt (digit_value d) 10) v ≡ true
few_digits [] e = refl
few_digits (c ∷ cs) e =
    let range = digit_range c (and_parts _ _ e).0 in
    let value : digit_value c + 48 ≡ c = digit_value_digit c range in
    let below : nat_lt (digit_value c) 10 ≡ true = grind (arith, nat_tests) in
    and_from _ _ below (few_digits cs (and_parts (is_ascii_digit c) _ e).1)

within : (n : ℕ) → nat_le n (2 ^ 64 - 1) ≡ true → (nat_lt n (2 ^ 64) && (nat_le 0 n && nat_le n (2 ^ 64 - 1))) ≡ true
within n e =
    let below : nat_lt n (2 ^ 64) ≡ true = grind (arith, nat_tests) in
    let least : nat_le 0 n ≡ true = grind (arith, nat_tests) in
    and_from _ _ below (and_from _ _ least e)

has_some : (c : ℕ) (cs : Bytes) → nat_lt 0 (length (c ∷ cs)) ≡ true
has_some c cs = grind (arith, nat_tests)

accepted : (v : Bytes) → is_some (value_in seed v) ≡ true → accepts false (parser.Unsigned 0 (2 ^ 64 - 1)) v ≡ true
accepted [] e = cc
accepted (c ∷ cs) e =
    let digits : list_all is_ascii_digit (c ∷ cs) ≡ true = (and_parts (not (is_empty (c ∷ cs))) _ (value_digits (c ∷ cs) e)).1 in
    let range = digit_range c (and_parts _ _ digits).0 in
    let no_plus : without_leading_plus (c ∷ cs) ≡ c ∷ cs = without_leading_plus_none (c ∷ cs) (λ p. absurd (omega arith)) in
    let same : digits_value 10 (c ∷ cs) ≡ number_of (c ∷ cs) = more_digits (c ∷ cs) 0 digits in
    let most : nat_le (number_of (c ∷ cs)) (2 ^ 64 - 1) ≡ true = (and_parts (is_plain_number (c ∷ cs) && nat_le 0 (number_of (c ∷ cs))) _ (cond_some _ _ e)).1 in
    let some : nat_lt 0 (length (c ∷ cs)) ≡ true = has_some c cs in
    let numeral : is_numeral (c ∷ cs) ≡ true = and_from _ _ some (few_digits (c ∷ cs) digits) in
    let fits : (nat_lt (digits_value 10 (c ∷ cs)) (2 ^ 64) && (nat_le 0 (digits_value 10 (c ∷ cs)) && nat_le (digits_value 10 (c ∷ cs)) (2 ^ 64 - 1))) ≡ true =
    rw same (within (number_of (c ∷ cs)) most) in
    subst (λ v. (is_numeral v && (nat_lt (digits_value 10 v) (2 ^ 64) && (nat_le 0 (digits_value 10 v) && nat_le (digits_value 10 v) (2 ^ 64 - 1)))) ≡ true)
    (sym no_plus) (and_from _ _ numeral fits)

-- plain words are ASCII, so text
small : (bs : Bytes) → list_all is_ascii bs ≡ true → All (λ b. b < 128) bs
small [] e = All-nil (λ b. b < 128)
small (b ∷ bs) e =
    let below : is_ascii b ≡ true = (and_parts _ _ e).0 in
    All-cons (λ b. b < 128) b bs (grind (arith, nat_tests)) (small bs (and_parts (is_ascii b) _ e).1)

no_texts : All IsUtf8 []
no_texts = All-nil IsUtf8

text : (w : Bytes) (ws : List Bytes) → list_all is_ascii w ≡ true → All IsUtf8 ws → All IsUtf8 (w ∷ ws)
text w ws e rest = All-cons IsUtf8 w ws (IsUtf8-from_ascii w (IsAscii-from_all w (small w e))) rest

digits_small : (v : Bytes) → list_all is_ascii_digit v ≡ true → list_all is_ascii v ≡ true
digits_small [] e = refl
digits_small (c ∷ cs) e =
    let digit : is_ascii_digit c ≡ true = (and_parts _ _ e).0 in
    let below : is_ascii c ≡ true = grind (arith, nat_tests) in
    and_from _ _ below (digits_small cs (and_parts (is_ascii_digit c) _ e).1)

value_small : (v : Bytes) → is_some (value_in seed v) ≡ true → list_all is_ascii v ≡ true
value_small v e = digits_small v (and_parts (not (is_empty v)) _ (value_digits v e)).1

joined_law : (v : Bytes) → is_some (value_in seed v) ≡ true → IsSeedText (codes "script" ∷ (codes "--seed=" ++ v) ∷ []) v
joined_law v e = record {
  read = reads_joined v;
  job = lone_setting (value_in seed v);
  taken = takes_joined v (accepted v e);
  utf8 = text (codes "script") ((codes "--seed=" ++ v) ∷ []) refl (text (codes "--seed=" ++ v) [] (value_small v e) no_texts);
}

two_law : (c : ℕ) (cs : Bytes) → is_some (value_in seed (c ∷ cs)) ≡ true → IsSeedText (codes "script" ∷ codes "--seed" ∷ (c ∷ cs) ∷ []) (c ∷ cs)
two_law c cs e = record {
  read = reads_two c cs (digit_first c cs e);
  job = lone_setting (value_in seed (c ∷ cs));
  taken = takes_two c cs (digit_first c cs e) (accepted (c ∷ cs) e);
  utf8 = text (codes "script") (codes "--seed" ∷ (c ∷ cs) ∷ []) refl
      (text (codes "--seed") ((c ∷ cs) ∷ []) refl (text (c ∷ cs) [] (value_small (c ∷ cs) e) no_texts));
}

valued_law : (v : Bytes) → is_some (value_in seed v) ≡ true → (text : Bytes) × IsSeedText (codes "script" ∷ codes "--seed" ∷ v ∷ []) text
valued_law [] e = cc
valued_law (c ∷ cs) e = (c ∷ cs, two_law c cs e)

-- no option is left for a further word
none_left : (w : Bytes) (ws : List Bytes) → is_some (settings_of [] (w ∷ ws)) ≡ false
none_left w [] = refl
none_left w (v ∷ ws) = refl

joined_word : (w : Bytes) → starts_with nat_eq w (codes "--seed=") ≡ true → w ≡ codes "--seed=" ++ drop 7 w
joined_word w is =
    let front : codes "--seed=" ≡ take 7 w = (bytes_eq-Decides (codes "--seed=") (take 7 w)).0 is in
    sym (take-append-drop 7 w) ∙ ap (λ f. f ++ drop 7 w) (sym front)

abbrev Seeded : List Bytes → Type 0
Seeded words = (text : Bytes) × IsSeedText words text

joined_lone : (v : Bytes) → is_some (settings_of (seed ∷ []) ((codes "--seed=" ++ v) ∷ [])) ≡ true → Seeded (codes "script" ∷ (codes "--seed=" ++ v) ∷ [])
joined_lone v e =
    let step = joined_step (seed ∷ []) (codes "--seed=" ++ v) [] seed refl in
    (v, joined_law v (sym (and-true _) ∙ sym step ∙ e))

lone_law : (w : Bytes) (b : Bool) → starts_with nat_eq w (codes "--seed=") ≡ b → is_some (settings_of (seed ∷ []) (w ∷ [])) ≡ true
    → Seeded (codes "script" ∷ w ∷ [])
lone_law w true is e =
    let word = joined_word w is in
    subst (λ x. Seeded (codes "script" ∷ x ∷ [])) (sym word) (joined_lone (drop 7 w) (subst (λ x. is_some (settings_of (seed ∷ []) (x ∷ [])) ≡ true) word e))
lone_law w false is e =
    let none : choice_within w (seed ∷ []) ≡ None = rw is refl in
    let bad = lone_step (seed ∷ []) w none in
    cc

named_law : (v : Bytes) (ws : List Bytes) → is_some (settings_of (seed ∷ []) (codes "--seed" ∷ v ∷ ws)) ≡ true → Seeded (codes "script" ∷ codes "--seed" ∷ v ∷ ws)
named_law v [] e =
    let step = named_step (seed ∷ []) (codes "--seed") v [] seed refl refl in
    valued_law v (sym (and-true _) ∙ sym step ∙ e)
named_law v (u ∷ us) e =
    let step = named_step (seed ∷ []) (codes "--seed") v (u ∷ us) seed refl refl in
    let bad : false ≡ true = sym (and-false _) ∙ ap (λ b. is_some (value_in seed v) && b) (sym (none_left u us)) ∙ sym step ∙ e in
    cc

two_words_law : (w v : Bytes) (ws : List Bytes) (joined named : Bool) → starts_with nat_eq w (codes "--seed=") ≡ joined → same_name w (codes "--seed") ≡ named
    → is_some (settings_of (seed ∷ []) (w ∷ v ∷ ws)) ≡ true → Seeded (codes "script" ∷ w ∷ v ∷ ws)
two_words_law w v ws true named is is_named e =
    let within : choice_within w (seed ∷ []) ≡ Some seed = rw is refl in
    let step = joined_step (seed ∷ []) w (v ∷ ws) seed within in
    let bad : false ≡ true = sym (and-false _) ∙ ap (λ b. is_some (value_in seed (drop 6 (drop 1 w))) && b) (sym (none_left v ws)) ∙ sym step ∙ e in
    cc
two_words_law w v ws false true is is_named e =
    let word : w ≡ codes "--seed" = (bytes_eq-Decides w (codes "--seed")).0 is_named in
    subst (λ x. Seeded (codes "script" ∷ x ∷ v ∷ ws)) (sym word) (named_law v ws (subst (λ x. is_some (settings_of (seed ∷ []) (x ∷ v ∷ ws)) ≡ true) word e))
two_words_law w v ws false false is is_named e =
    let within : choice_within w (seed ∷ []) ≡ None = rw is refl in
    let none : choice_named w (seed ∷ []) ≡ None = rw is_named refl in
    let bad = strange_step (seed ∷ []) w v ws within none in
    cc

settings_law : (ws : List Bytes) → is_some (settings_of (seed ∷ []) ws) ≡ true → Seeded (codes "script" ∷ ws)
settings_law [] e = (codes "0", record { read = reads_default; job = refl; taken = takes_default; utf8 = text (codes "script") [] refl no_texts })
settings_law (w ∷ []) e = lone_law w (starts_with nat_eq w (codes "--seed=")) refl e
settings_law (w ∷ v ∷ ws) e = two_words_law w v ws (starts_with nat_eq w (codes "--seed=")) (same_name w (codes "--seed")) refl refl e

no_script : (s : Option Settings) (seed : ℕ) → option_map (λ s. Generate (setting (codes "--seed") 0 s) (setting (codes "--members") 20000 s) (setting (codes "--dim") 256 s)) s
    ≡ Some (Script seed) → ⊥
no_script None seed e = cc
no_script (Some s) seed e = cc

no_script_in_schedule : (s : Option Settings) (seed : ℕ) → option_map (λ s. Schedule) s ≡ Some (Script seed) → ⊥
no_script_in_schedule None seed e = cc
no_script_in_schedule (Some s) seed e = cc

no_script_in_serve : (s : Option Settings) (seed : ℕ)
    → option_map (λ s. Serve (setting (codes "--port") 6379 s) (setting (codes "--workers") 8 s) (setting (codes "--seed") 0 s) (setting (codes "--connections") 4294967295 s)) s
    ≡ Some (Script seed) → ⊥
no_script_in_serve None seed e = cc
no_script_in_serve (Some s) seed e = cc

script_law : (w : Bytes) (ws : List Bytes) (seed : ℕ) (b s g d : Bool) → same_name w (codes "script") ≡ b → same_name w (codes "schedule") ≡ s
    → same_name w (codes "generate") ≡ g → same_name w (codes "serve") ≡ d → cond (b || (s || (g || (d || false)))) (job_by w ws) None ≡ Some (Script seed)
    → Seeded (w ∷ ws)
script_law w ws n false false false false is is_s is_g is_d e = cc
script_law w ws n false false false true is is_s is_g is_d e =
    let word : w ≡ codes "serve" = (bytes_eq-Decides w (codes "serve")).0 is_d in
    absurd (no_script_in_serve (settings_of serve_choices ws) n (subst (λ x. job_by x ws ≡ Some (Script n)) word e))
script_law w ws n false false true d is is_s is_g is_d e =
    let word : w ≡ codes "generate" = (bytes_eq-Decides w (codes "generate")).0 is_g in
    absurd (no_script (settings_of generate_choices ws) n (subst (λ x. job_by x ws ≡ Some (Script n)) word e))
script_law w ws n false true g d is is_s is_g is_d e =
    let word : w ≡ codes "schedule" = (bytes_eq-Decides w (codes "schedule")).0 is_s in
    absurd (no_script_in_schedule (settings_of [] ws) n (subst (λ x. job_by x ws ≡ Some (Script n)) word e))
script_law w ws n true s g d is is_s is_g is_d e =
    let word : w ≡ codes "script" = (bytes_eq-Decides w (codes "script")).0 is in
    let job : job_by (codes "script") ws ≡ Some (Script n) = subst (λ x. job_by x ws ≡ Some (Script n)) word e in
    subst (λ x. Seeded (x ∷ ws)) (sym word) (settings_law ws (sym (is_some_of_map (λ s. Script (setting (codes "--seed") 0 s)) (settings_of (seed ∷ []) ws)) ∙ ap is_some job))

-- plain words of `script` have a seed, which `clap` reads
pub seed_law : (words : List Bytes) → IsScript words → Seeded words
seed_law [] e = cc (e.1)
seed_law (w ∷ ws) e =
    script_law w ws e.0 (same_name w (codes "script")) (same_name w (codes "schedule")) (same_name w (codes "generate")) (same_name w (codes "serve"))
    refl refl refl refl e.1

pub words_utf8 : (words : List Bytes) → IsScript words → All IsUtf8 words
words_utf8 words e = (seed_law words e).1.utf8
