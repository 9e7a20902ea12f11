-- What the words of a generated member are read as, and that they are short.
--     reads_add      a VADD of the key, with the member's name and so many components
--     are_short      few words of few bytes
--     are_some       at least one
use Rattle.std.proofs.Common.{◌≡◌, ℕ, zero, suc, ◌+◌, ◌-◌, ◌*◌, ◌<◌, ◌≤◌, ◌^◌, ◌==◌, Bool, true, false, cond, nat_lt, List, [], ◌∷◌, ◌++◌, length, map, take, drop, Option, Some, None, Ok, Err, ℤ, pos, negsuc, codes, decimal, refl, sym, ap, ◌∙◌, subst, arith, lit≤, length-append}
use Rattle.std.specs.List.{All, fold, range_with_len}
use Rattle.std.specs.Int.Digits.{digits_of, number_from_digits_after}
use Rattle.std.proofs.lemmas.Int.Digits.{number_digits_of}
use Rattle.std.proofs.lemmas.Fmt.{decimal-digits_of, length-decimal-le}
use Rattle.std.proofs.lemmas.Bool.Decides.{nat_tests}
use Rattle.std.proofs.lemmas.List.{length-drop, length-take-le}
use Rattle.std.proofs.lemmas.List.Elements.{All-nil, All-cons, All-append}
use Rattle.std.proofs.lemmas.List.FromFn.{length-map-range_with_len}
use Rattle.vs_defs.specs.Bytes.{Bytes}
use Rattle.vs_defs.specs.Decimal.{number_of, negated, read_int}
use Rattle.vs_defs.specs.Limits.{max_components}
use Rattle.vs_defs.specs.Numeral.{begins_with, without, sign_of}
use Rattle.vs_defs.specs.Read.{Reads, ◌>>=◌, or_refusal, option_within, read, read_number, read_component, read_components, read_vector, read_key, read_name, read_add_form, read_options, read_vadd, read_command, fits_arity, word, find_add_option, no_add_options, AddOptions}
use Rattle.vs_defs.specs.Read as command
use Rattle.vs_defs.specs.Request as request
use Rattle.vs_defs.specs.Request.{Request, Refusal, Add}
use Rattle.vs_defs.specs.Vector.{Vector}
use Rattle.vs_command.specs.Readings.{AreShort}
use Rattle.vs_thread_defs.specs.Generator.{component, generated_words, member_name, vector_words}
use Rattle.vs_generate.specs.Grown.{IsAdded}

-- ---- readings that succeed

bind_ok : {A B : Type 0} (m : Reads A) (f : A → Reads B) (y : B) → (m >>= f) ≡ Ok y → (x : A) × (m ≡ Ok x) × (f x ≡ Ok y)
bind_ok (Ok x) f y e = (x, refl, e)
bind_ok (Err r) f y e = cc

same_ok : {A : Type 0} (b : Bool) (x y : A) (r : Refusal) → cond b (Ok x) (Err r) ≡ Ok y → x ≡ y
same_ok true x y r e = cc
same_ok false x y r e = cc

-- a command's words that are read fit its arity
abbrev fitted : Bool → Reads Request → Reads Request
fitted b m = elim b [ true ↦ m | false ↦ Err request.WrongArity ]

first_ok : (b : Bool) (m : Reads Request) (y : Request) → fitted b m ≡ Ok y → m ≡ Ok y
first_ok true m y e = e
first_ok false m y e = cc

last_ok : {A : Type 0} (b : Bool) (m : Reads A) (y : A) (r : Refusal) → cond b (Err r) m ≡ Ok y → (b ≡ false) × (m ≡ Ok y)
last_ok true m y r e = cc
last_ok false m y r e = (refl, e)

same_some : {A : Type 0} (b : Bool) (x y : A) → cond b (Some x) None ≡ Some y → x ≡ y
same_some true x y e = cc
same_some false x y e = cc

-- ---- numbers

digits_number : (n : ℕ) (ds : List ℕ) → fold (λ m c. m * 10 + (c - 48)) n (map (λ d. 48 + d) ds) ≡ number_from_digits_after 10 n ds
digits_number n [] = refl
digits_number n (d ∷ ds) =
    let e : 48 + d - 48 ≡ d = omega arith in
    ap (λ x. fold (λ m c. m * 10 + (c - 48)) (n * 10 + x) (map (λ d. 48 + d) ds)) e ∙ digits_number (n * 10 + d) ds

number_decimal : (n : ℕ) → 0 < n → n < 2 ^ 64 → number_of (decimal n) ≡ n
number_decimal n some few = ap number_of (decimal-digits_of n some few) ∙ digits_number 0 (digits_of 10 n) ∙ number_digits_of 10 n (lit≤ tt)

no_minus : (ds : List ℕ) → begins_with 45 (map (λ d. 48 + d) ds) ≡ false
no_minus [] = refl
no_minus (d ∷ ds) = differs d where
  differs : (d : ℕ) → (48 + d == 45) ≡ false
  differs d = grind (arith, nat_tests)

unsigned_decimal : (n : ℕ) → 0 < n → n < 2 ^ 64 → begins_with 45 (decimal n) ≡ false
unsigned_decimal n some few = ap (begins_with 45) (decimal-digits_of n some few) ∙ no_minus (digits_of 10 n)

without_none : (w : Bytes) → begins_with 45 w ≡ false → without 45 w ≡ w
without_none [] e = refl
without_none (c ∷ cs) e = rw e refl

int_read : (w : Bytes) (z : ℤ) → begins_with 45 w ≡ false → read_int w ≡ Some z → z ≡ pos (number_of w)
int_read w z free is =
    let got : negated (begins_with 45 w) (number_of (without 45 w)) ≡ z = same_some _ _ z is in
    sym got ∙ ap (λ b. negated b (number_of (without 45 w))) free ∙ ap (λ t. pos (number_of t)) (without_none w free)

or_ok : (o : Option ℕ) (r : Refusal) (n : ℕ) → or_refusal o r ≡ Ok n → o ≡ Some n
or_ok None r n e = cc
or_ok (Some m) r n e = cc

within_is : (least most : ℕ) (o : Option ℤ) (n : ℕ) → option_within least most o ≡ Some n → o ≡ Some (pos n)
within_is least most None n e = cc
within_is least most (Some (pos m)) n e = ap (λ k. Some (pos k)) (same_some _ m n e)
within_is least most (Some (negsuc m)) n e = cc

same_pos : (a b : ℕ) → pos a ≡ pos b → a ≡ b
same_pos a b e = cc

number_read : (least most : ℕ) (r : Refusal) (w : Bytes) (n : ℕ) → begins_with 45 w ≡ false → read_number least most r w ≡ Ok n → n ≡ number_of w
number_read least most r w n free is = same_pos n (number_of w) (int_read w (pos n) free (within_is least most (read_int w) n (or_ok (option_within least most (read_int w)) r n is)))

-- ---- vectors

components_length : (at : ℕ) (ws : List Bytes) (bits : Vector) → read_components at ws ≡ Ok bits → length bits ≡ length ws
components_length at [] bits e = let none : [] ≡ bits = cc in ap length (sym none)
components_length at (w ∷ ws) bits e =
    let first = bind_ok (read_component at (sign_of w)) (λ bit. read_components (at + 1) ws >>= λ bits. Ok (bit ∷ bits)) bits e in
    let rest = bind_ok (read_components (at + 1) ws) (λ more. Ok (first.0 ∷ more)) bits first.2 in
    let is : first.0 ∷ rest.0 ≡ bits = cc (rest.2) in
    sym (ap length is) ∙ ap suc (components_length (at + 1) ws rest.0 rest.1)

enough : (a n more : ℕ) → nat_lt a (n + more) ≡ false → n ≤ a
enough a n more e = grind (arith, nat_tests)

vector_length : (more : ℕ) (words : List Bytes) (bits : Vector) → begins_with 45 (word words 3) ≡ false → read_vector more words ≡ Ok bits
    → length bits ≡ number_of (word words 3)
vector_length more words bits free is =
    let number = bind_ok (read_number 1 max_components (request.BadDimension 3) (word words 3)) (λ n.
    cond (nat_lt (length words - 4) (n + more)) (Err (request.ShortVector (n + more) (length words - 4))) (read_components 4 (take n (drop 4 words)))) bits is in
    let n = number.0 in
    let read = last_ok (nat_lt (length words - 4) (n + more)) (read_components 4 (take n (drop 4 words))) bits (request.ShortVector (n + more) (length words - 4)) number.2 in
    let there : n ≤ length (drop 4 words) = subst (λ k. n ≤ k) (sym (length-drop 4 words)) (enough (length words - 4) n more read.0) in
    components_length 4 (take n (drop 4 words)) bits read.1 ∙ length-take-le n (drop 4 words) there
    ∙ number_read 1 max_components (request.BadDimension 3) (word words 3) n free number.1

-- ---- VADD

record IsVadd (words : List Bytes) (r : Request) : Type 0 where
  add : Add
  is : r ≡ request.Vadd add
  key : read_key (word words 1) ≡ Ok add.key
  bits : read_vector 1 words ≡ Ok add.bits
  name : read_name (word words (4 + length add.bits)) ≡ Ok add.name

abbrev after_name : List Bytes → Bytes → Vector → Bytes → Reads Request
after_name words key bits name =
    read_options find_add_option no_add_options (5 + length bits) (drop (5 + length bits) words) >>= λ o.
    Ok (request.Vadd (record { key = key; name = name; bits = bits; cas = o.cas; ef = o.ef; m = o.m; attr = o.attr }))

abbrev after_bits : List Bytes → Bytes → Vector → Reads Request
after_bits words key bits = read_name (word words (4 + length bits)) >>= λ name. after_name words key bits name

abbrev after_key : List Bytes → Bytes → Reads Request
after_key words key = read_add_form (word words 2) >>= λ _. (read_vector 1 words >>= λ bits. after_bits words key bits)

vadd_read : (words : List Bytes) (r : Request) → read_vadd words ≡ Ok r → IsVadd words r
vadd_read words r e =
    let key = bind_ok (read_key (word words 1)) (after_key words) r e in
    let form = bind_ok (read_add_form (word words 2)) (λ _. (read_vector 1 words >>= λ bits. after_bits words key.0 bits)) r key.2 in
    let bits = bind_ok (read_vector 1 words) (after_bits words key.0) r form.2 in
    let name = bind_ok (read_name (word words (4 + length bits.0))) (after_name words key.0 bits.0) r bits.2 in
    let options = bind_ok (read_options find_add_option no_add_options (5 + length bits.0) (drop (5 + length bits.0) words)) (λ o.
    Ok (request.Vadd (record { key = key.0; name = name.0; bits = bits.0; cas = o.cas; ef = o.ef; m = o.m; attr = o.attr }))) r name.2 in
    let o = options.0 in
    let add : Add = record { key = key.0; name = name.0; bits = bits.0; cas = o.cas; ef = o.ef; m = o.m; attr = o.attr } in
    record { add = add; is = same_request (request.Vadd add) r options.2; key = key.1; bits = bits.1; name = name.1 }
  where
    same_request : (a b : Request) → ◌≡◌ {A = Reads Request} (Ok a) (Ok b) → b ≡ a
    same_request a b e = cc

word_at : (xs : List Bytes) (y : Bytes) (ys : List Bytes) (n : ℕ) → length xs ≡ n → word (xs ++ y ∷ ys) n ≡ y
word_at [] y ys zero e = refl
word_at [] y ys (suc n) e = absurd (omega (arith, e))
word_at (x ∷ xs) y ys zero e = absurd (omega (arith, e))
word_at (x ∷ xs) y ys (suc n) e = word_at xs y ys n (omega (arith, e))

ok_same : (a b : Bytes) → ◌≡◌ {A = Reads Bytes} (Ok a) (Ok b) → a ≡ b
ok_same a b e = cc

word_behind : (a b c d : Bytes) (ws : List Bytes) (n : ℕ) → word (a ∷ b ∷ c ∷ d ∷ ws) (4 + n) ≡ word ws n
word_behind a b c d ws n = let e : 4 + n ≡ suc (suc (suc (suc n))) = omega arith in ap (word (a ∷ b ∷ c ∷ d ∷ ws)) e

abbrev components : ℕ → ℕ → ℕ → List Bytes
components seed dim i = map (component (vector_words seed dim i)) (range_with_len 0 dim)

pub reads_add : (seed dim i : ℕ) (r : Request) → 0 < dim → dim < 2 ^ 64 → read (generated_words seed dim i) ≡ Ok r
    → (add : Add) × (r ≡ request.Vadd add) × IsAdded dim i add
reads_add seed dim i r some few e =
    let words = generated_words seed dim i in
    let vadd : IsVadd words r = vadd_read words r (first_ok (fits_arity command.Vadd (length words)) (read_vadd words) r e) in
    let many : length vadd.add.bits ≡ dim = vector_length 1 words vadd.add.bits (unsigned_decimal dim some few) vadd.bits ∙ number_decimal dim some few in
    let at : word words (4 + length vadd.add.bits) ≡ member_name i =
    ap (λ n. word words (4 + n)) many
    ∙ word_behind (codes "VADD") (codes "g") (codes "VALUES") (decimal dim) (components seed dim i ++ member_name i ∷ codes "EF" ∷ codes "64" ∷ []) dim
    ∙ word_at (components seed dim i) (member_name i) (codes "EF" ∷ codes "64" ∷ []) dim (length-map-range_with_len (component (vector_words seed dim i)) 0 dim) in
    let key : codes "g" ≡ vadd.add.key = ok_same (codes "g") vadd.add.key vadd.key in
    let name : word words (4 + length vadd.add.bits) ≡ vadd.add.name = same_ok _ (word words (4 + length vadd.add.bits)) vadd.add.name _ vadd.name in
    (vadd.add, vadd.is, record { key = sym key; name = sym name ∙ at; dim_is = many })

-- ---- few and short

abbrev IsShort : Bytes → Type 0
IsShort w = length w < 2 ^ 32

short_component : (b : Bool) → IsShort (cond b (codes "1") (codes "-1"))
short_component true = lit≤ tt
short_component false = lit≤ tt

short_components : (words ks : List ℕ) → All IsShort (map (component words) ks)
short_components words [] = All-nil IsShort
short_components words (k ∷ ks) = All-cons IsShort (component words k) (map (component words) ks) (short_component _) (short_components words ks)

pub short_number : (n : ℕ) → n < 2 ^ 32 → length (decimal n) ≤ 20
short_number n few = length-decimal-le 20 n (lit≤ tt) (omega (arith, few)) (omega (arith, few))

pub are_short : (seed dim i : ℕ) → dim ≤ 4096 → i < 2 ^ 32 → AreShort (generated_words seed dim i)
are_short seed dim i few below =
    let number = short_number dim (omega (arith, few)) in
    let name = short_number i below in
    let many : length (components seed dim i) ≡ dim = length-map-range_with_len (component (vector_words seed dim i)) 0 dim in
    let tail = member_name i ∷ codes "EF" ∷ codes "64" ∷ [] in
    let behind : length (components seed dim i ++ tail) ≡ length (components seed dim i) + 3 = length-append (components seed dim i) tail in (
      omega (arith, behind, many, few),
      All-cons IsShort (codes "VADD") (codes "g" ∷ codes "VALUES" ∷ decimal dim ∷ (components seed dim i ++ tail)) (lit≤ tt) (All-cons IsShort (codes "g") (codes "VALUES" ∷ decimal dim ∷ (components seed dim i ++ tail)) (lit≤ tt)
          (All-cons IsShort (codes "VALUES") (decimal dim ∷ (components seed dim i ++ tail)) (lit≤ tt) (All-cons IsShort (decimal dim) (components seed dim i ++ tail) (omega (arith, number))
          (All-append IsShort (components seed dim i) tail (short_components (vector_words seed dim i) (range_with_len 0 dim))
          (All-cons IsShort (member_name i) (codes "EF" ∷ codes "64" ∷ []) (omega (arith, name)) (All-cons IsShort (codes "EF") (codes "64" ∷ []) (lit≤ tt) (All-cons IsShort (codes "64") [] (lit≤ tt) (All-nil IsShort)))))))),
    )

pub are_some : (seed dim i : ℕ) → 1 ≤ length (generated_words seed dim i)
are_some seed dim i = omega arith
