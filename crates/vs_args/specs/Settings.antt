-- The values of the options, where words give them or by default.
--     IsSettings s list      s has the values of the list, and the default of each option that isn't in it
--     Gives result words     what is read where the definitions read so
use Rattle.std.specs.Prelude.{◌≡◌, Option, Some, None, IsSomeAnd, codes}
use Rattle.vs_defs.specs.Bounds.{IsFrom}
use Rattle.vs_defs.specs.ProgramWords as defs
use Rattle.vs_args.specs.declared.settings.Settings.{Settings}

pub record IsSettings (s : Settings) (list : defs.Settings) : Type 0 where
  pub seed : s.seed ≡ defs.setting (codes "--seed") 0 list
  pub members : s.members ≡ defs.setting (codes "--members") 20000 list
  pub dim : s.dim ≡ defs.setting (codes "--dim") 256 list
  pub port : s.port ≡ defs.setting (codes "--port") 6379 list
  pub workers : s.workers ≡ defs.setting (codes "--workers") 8 list
  pub connections : s.connections ≡ defs.setting (codes "--connections") 4294967295 list
  pub members_within : IsFrom 1 1048576 s.members
  pub dim_within : IsFrom 1 4096 s.dim
  pub port_within : IsFrom 1 65535 s.port
  pub workers_within : IsFrom 1 64 s.workers
  pub connections_within : IsFrom 1 4294967295 s.connections

abbrev pub Gives : Option Settings → Option defs.Settings → Type 0
Gives None list = list ≡ None
Gives (Some s) list = IsSomeAnd list (IsSettings s)
