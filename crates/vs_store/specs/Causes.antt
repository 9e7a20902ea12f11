-- Why a change is refused, cause by cause.
--     IsCause e o             the refusal is that cause
--     misfit add x            a VADD hasn't the dimension of the set, or another M than the set
--     no_room s n             a set of n members, or the store, takes no member more
--     limited s               no further change is accepted
--     HasRoom s n             none of the limits is reached for a member more in a set of n
--     HasRoomForKey s         none is reached for a key more
use Rattle.std.specs.Prelude.{◌≡◌, ◌<◌, ℕ, cond, nat_le, [], ◌∷◌, Option, Some, None, length, IsSomeAnd}
use Rattle.vs_defs.specs.Refuse.{first_cause, wrong_dimension, wrong_m, is_full_all, full_all}
use Rattle.vs_defs.specs.Request as request
use Rattle.vs_defs.specs.Store.{Contents, PlainStore, member_count}
use Rattle.vs_command.specs.Refusals.{refusal_of}
use Rattle.vs_command.specs.declared.refusal.Refusal.{Refusal}

abbrev pub IsCause : Refusal → Option request.Refusal → Type 0
IsCause e o = IsSomeAnd (refusal_of e) (λ cause. o ≡ Some cause)

abbrev pub misfit : request.Add → Contents → Option request.Refusal
misfit add x = first_cause (wrong_dimension x add.bits ∷ wrong_m x add.m)

abbrev pub no_room : PlainStore → ℕ → Option request.Refusal
no_room s n = first_cause ((nat_le s.limits.set n, request.FullSet n) ∷ (is_full_all s, full_all s) ∷ [])

abbrev pub limited : PlainStore → Option request.Refusal
limited s = cond (nat_le s.limits.changes s.changes) (Some (request.ChangeLimit s.changes)) None

pub record HasRoom (s : PlainStore) (n : ℕ) : Type 0 where
  pub set : n < s.limits.set
  pub all : member_count s < s.limits.all
  pub changes : s.changes < s.limits.changes

pub record HasRoomForKey (s : PlainStore) : Type 0 where
  pub keys : length s.sets < s.limits.keys
  pub all : member_count s < s.limits.all
  pub changes : s.changes < s.limits.changes
