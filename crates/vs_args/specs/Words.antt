-- The program's words, of the commands that are built.
--     built                    their names: a command that is built later is added here
--     job_named words          the job that plain words name; None where the words aren't plain
--     are_plain words          whether they are plain
--     IsScript words           they are plain words of `script`
use Rattle.std.specs.Prelude.{◌≡◌, ℕ, Bool, List, [], ◌∷◌, ◌++◌, Option, Some, None, is_some, map, codes, cond, drop, length}
use Rattle.vs_defs.specs.Bytes.{Bytes, same_name}
use Rattle.vs_defs.specs.ProgramWords as defs
use Rattle.vs_args.specs.declared.command.Command.{Command}
use Rattle.vs_args.specs.declared.command.Command.TheVariants.{Script, Schedule, Generate, Serve}
use Rattle.vs_args.specs.declared.command.Choice.{Choice}
use Rattle.vs_args.specs.declared.command.Choice.TheVariants.{Seed, Members, Dim, Port, Workers, Connections}

abbrev pub built : List Bytes
built = codes "script" ∷ codes "schedule" ∷ codes "generate" ∷ codes "serve" ∷ []

abbrev pub job_named : List Bytes → Option defs.Job
job_named words = defs.job_among built words

abbrev pub are_plain : List Bytes → Bool
are_plain words = is_some (job_named words)

-- plain words of `script`
abbrev pub IsScript : List Bytes → Type 0
IsScript words = (seed : ℕ) × (job_named words ≡ Some (defs.Script seed))

-- the definitions' option that an option of the program is
abbrev pub choice_of : Choice → defs.Choice
choice_of Seed = defs.seed
choice_of Members = record { name = codes "--members"; least = 1; most = 1048576 }
choice_of Dim = record { name = codes "--dim"; least = 1; most = 4096 }
choice_of Port = record { name = codes "--port"; least = 1; most = 65535 }
choice_of Workers = record { name = codes "--workers"; least = 1; most = 64 }
choice_of Connections = record { name = codes "--connections"; least = 1; most = 4294967295 }

abbrev pub command_named : Bytes → Option Command
command_named word =
    cond (same_name word (codes "script")) (Some Script) (cond (same_name word (codes "schedule")) (Some Schedule)
    (cond (same_name word (codes "generate")) (Some Generate) (cond (same_name word (codes "serve")) (Some Serve) None)))

abbrev pub choices_of : Command → List Choice
choices_of Script = Seed ∷ []
choices_of Schedule = []
choices_of Generate = Seed ∷ Members ∷ Dim ∷ []
choices_of Serve = Port ∷ Workers ∷ Seed ∷ Connections ∷ []

-- the words `--option` and `--option=`, as the definitions' options are named by them
abbrev pub is_named : Bytes → Choice → Bool
is_named word c = same_name word (choice_of c).name

abbrev pub joined_name : Choice → Bytes
joined_name c = (choice_of c).name ++ codes "="

abbrev pub seen : List Choice → List defs.Choice
seen = map choice_of

-- one option, or none, is taken out of those that are left
abbrev pub IsTaken : Option defs.Choice → List Choice → List Choice → Option Choice → Type 0
IsTaken found old new None = (found ≡ None) × (new ≡ old)
IsTaken found old new (Some c) = (found ≡ Some (choice_of c)) × (seen new ≡ defs.without_choice (choice_of c) (seen old))

-- the value that stands behind `--option=`
abbrev pub value_behind : Choice → Bytes → Bytes
value_behind c word = drop (length (choice_of c).name) (drop 1 word)
