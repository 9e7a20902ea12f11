-- The limits that the texts of refusals name are those of `Limits`. Each is computed by the check.
use Rattle.std.specs.Prelude.{◌≡◌, ℕ, ◌++◌, codes, decimal, refl}
use Rattle.std.specs.Fmt.{digits}
use Rattle.vs_defs.specs.Limits.{max_name_bytes, max_attribute_bytes, max_filter_bytes, max_components, max_ef, max_filter_ef, min_m, max_m}
use Rattle.vs_defs.specs.Reply.{refusal_text, with_number, at_word}
use Rattle.vs_defs.specs.Request as request

bad_key : (n : ℕ) → refusal_text (request.BadKey n) ≡ with_number (codes "ERR key has ") n (codes " bytes, allowed are 1 to " ++ decimal max_name_bytes)
unfolding digits
bad_key n = refl

bad_name : (n : ℕ) → refusal_text (request.BadName n) ≡ with_number (codes "ERR name has ") n (codes " bytes, allowed are 1 to " ++ decimal max_name_bytes)
unfolding digits
bad_name n = refl

bad_dimension : (at : ℕ) → refusal_text (request.BadDimension at) ≡ at_word at (codes ": dimension 1 to " ++ decimal max_components ++ codes " expected")
unfolding digits
bad_dimension at = refl

bad_ef : (at : ℕ) → refusal_text (request.BadEf at) ≡ at_word at (codes ": EF 1 to " ++ decimal max_ef ++ codes " expected")
unfolding digits
bad_ef at = refl

bad_m : (at : ℕ) → refusal_text (request.BadM at) ≡ at_word at (codes ": M " ++ decimal min_m ++ codes " to " ++ decimal max_m ++ codes " expected")
unfolding digits
bad_m at = refl

bad_filter_ef : (at : ℕ) → refusal_text (request.BadFilterEf at) ≡ at_word at (codes ": FILTER-EF 0 to " ++ decimal max_filter_ef ++ codes " expected")
unfolding digits
bad_filter_ef at = refl

long_attribute : (n : ℕ) → refusal_text (request.LongAttribute n) ≡ with_number (codes "ERR attribute has ") n (codes " bytes, allowed are " ++ decimal max_attribute_bytes)
unfolding digits
long_attribute n = refl

long_filter : (n : ℕ) → refusal_text (request.LongFilter n) ≡ with_number (codes "ERR filter has ") n (codes " bytes, allowed are " ++ decimal max_filter_bytes)
unfolding digits
long_filter n = refl
