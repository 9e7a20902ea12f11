-- What a search that several threads share needs of the runtime.
--     IsSharable R      what a reference to such a value holds says the same to each thread; the one law of `Sync`
use denote.RattleType.{RattleType}
use denote.Param.Send.{Common}
use Rattle.std.specs.Prelude.{ℕ}

abbrev pub IsSharable : RattleType → Type 0
IsSharable R = (x : R.Denot) (b o : ℕ) → Common (R.shr_at x b o)
