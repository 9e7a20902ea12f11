-- That the values of a type may be shared with other threads: what `Sync` says of it, taken apart and put together; two proofs of it are equal.
use base.Fml.{Fml, ftrue, fall, fand, fat, fauth, fbor, fdead, fdies, feq, fex, ffalse, fhide, finv, fkid, fleft, flent, flft, flt, fme, fnamed, fobor, fobs, for, fown, fres, froom, fsent, fsep, fshr_bor, ftok, fupd, fwand}
use base.Shift.{Keyless}
use denote.Param.Send.{IsSync}
use denote.RattleType.{RattleType}
use Rattle.vs_session.specs.Threads.{IsSharable}

pub one_keyless : (F : Fml) → IsProp (Keyless F)
one_keyless ftrue = λ a b i. tt
one_keyless ffalse = λ a b i. tt
one_keyless (feq d x y) = λ a b i. tt
one_keyless (flt m n) = λ a b i. tt
one_keyless (fat q τ b o v) = λ a b i. tt
one_keyless (froom τ b o) = λ a b i. tt
one_keyless (fleft q ω τs b o) = λ a b i. tt
one_keyless (fdies τ b) = λ a b i. tt
one_keyless (flft κ q) = λ a b i. tt
one_keyless (fdead κ) = λ a b i. tt
one_keyless (fobs γ x) = λ a b i. tt
one_keyless (fauth γ x) = λ a b i. tt
one_keyless (fres γ x) = λ a b i. tt
one_keyless (fown R γ x) = λ a b i. tt
one_keyless (fsep P Q) = λ a b i. (one_keyless P a.0 b.0 i, one_keyless Q a.1 b.1 i)
one_keyless (fand P Q) = λ a b i. (one_keyless P a.0 b.0 i, one_keyless Q a.1 b.1 i)
one_keyless (for P Q) = λ a b i. (one_keyless P a.0 b.0 i, one_keyless Q a.1 b.1 i)
one_keyless (fwand P Q) = λ a b i. (one_keyless P a.0 b.0 i, one_keyless Q a.1 b.1 i)
one_keyless (fupd P) = one_keyless P
one_keyless (fhide P) = one_keyless P
one_keyless (fbor κ P) = one_keyless P
one_keyless (fobor κ q P) = one_keyless P
one_keyless (flent κ P) = one_keyless P
one_keyless (finv P) = one_keyless P
one_keyless (fnamed nm P) = one_keyless P
one_keyless (fex X F) = λ a b i x. one_keyless (F x) (a x) (b x) i
one_keyless (fall X F) = λ a b i x. one_keyless (F x) (a x) (b x) i
one_keyless (fshr_bor κ Φ) = λ a b i x. one_keyless (Φ x) (a x) (b x) i
one_keyless (ftok E) = λ a b. absurd a
one_keyless (fkid h a) = λ a b. absurd a
one_keyless (fme h) = λ a b. absurd a
one_keyless (fsent E) = λ a b i. tt

pub sharable : (R : RattleType) → IsSync R → IsSharable R
sharable R is = is.shared

pub syncs : (R : RattleType) → IsSharable R → IsSync R
syncs R is = record { shared = is }
