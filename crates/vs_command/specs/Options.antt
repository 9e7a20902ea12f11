-- Options behind a request's first words, one at a time.
--     value words at                       the word behind the option at a place, which has to stand there
--     taken option at words                what an option at a place makes of the options, and the place behind it and its value
--     AreAddOptionsInBounds o              what VADD's options may say; AreSimOptionsInBounds o the same of VSIM
use Rattle.std.specs.Prelude.{ℕ, ◌+◌, cond, nat_lt, List, IfSome, Ok, Err, length}
use Rattle.vs_defs.specs.Bytes.{Bytes}
use Rattle.vs_defs.specs.Bounds.{IsFrom, IsAttributeInBounds, IsFilterInBounds}
use Rattle.vs_defs.specs.Limits.{max_ef, min_m, max_m, max_count, max_filter_ef}
use Rattle.vs_defs.specs.Read.{Reads, ◌>>=◌, Takes, Alone, WithValue, AddOptions, SimOptions, word}
use Rattle.vs_defs.specs.Request as request

abbrev pub value : List Bytes → ℕ → Reads Bytes
value words at = cond (nat_lt (at + 1) (length words)) (Ok (word words (at + 1))) (Err (request.MissingValue at))

abbrev pub taken : {A : Type 0} → Takes A → ℕ → List Bytes → Reads (A × ℕ)
taken (Alone r) at words = r >>= λ o. Ok (o, at + 1)
taken (WithValue f) at words = value words at >>= λ v. f (at + 1) v >>= λ o. Ok (o, at + 2)

abbrev pub AreAddOptionsInBounds : AddOptions → Type 0
AreAddOptionsInBounds o = IsFrom 1 max_ef o.ef × IfSome o.m (IsFrom min_m max_m) × IfSome o.attr IsAttributeInBounds

abbrev pub AreSimOptionsInBounds : SimOptions → Type 0
AreSimOptionsInBounds o = IsFrom 1 max_count o.count × IsFrom 1 max_ef o.ef × IfSome o.filter IsFilterInBounds × IfSome o.filter_ef (IsFrom 0 max_filter_ef)
