-- Two texts are one where their order says so.
use Rattle.std.proofs.Common.{◌≡◌}
use Rattle.std.specs.Ordering.{is_eq}
use Rattle.std.proofs.lemmas.Map.Text.{is_eq-slice_cmp}
use Rattle.vs_defs.specs.Bytes.{Bytes, name_cmp, same_name}

pub text_equal : (a b : Bytes) → is_eq (name_cmp a b) ≡ same_name a b
text_equal a b = is_eq-slice_cmp a b
