-- What the program does with its arguments.
--     words_after_name args      its words: the arguments after the first, which is its own name
--     names_server words         the first word is `serve`
--     ServerGives status         how the server may end
--     Runs args status left left' written written'      the job of these words, or nothing where memory was refused for the words
use Rattle.std.specs.Prelude.{◌≡◌, ◌⊎◌, Bool, true, false, List, [], ◌∷◌, Option, Result, Ok, Err, map, drop, codes, string_bytes}
use Rattle.std.specs.Vec.Iter.{into_iter_items}
use Rattle.std.specs.declared.vec.IntoIter.{IntoIter}
use Rattle.std.specs.declared.string.String.{String}
use Rattle.std.specs.declared.alloc.Global.{Global}
use Rattle.std.specs.declared.io.Error.{Error}
use Rattle.vs_defs.specs.Bytes.{Bytes, same_name}
use Rattle.vs_args.specs.Words.{job_named}
use Rattle.vs_program.specs.declared.status.Status.{Status}
use Rattle.vs_program.specs.declared.status.Status.TheVariants.{Done, BadWords, NoMemory, AcceptFault, BindFault}
use Rattle.vs_program.specs.Jobs.{Does}

abbrev pub Args : Type 0
Args = IntoIter (String Global) Global

abbrev pub words_after_name : Args → List Bytes
words_after_name args = map string_bytes (drop 1 (into_iter_items args))

pub record DoesNothing (status : Status) (left left' written written' : Option Bytes) : Type 0 where
  pub status_is : status ≡ NoMemory
  pub unread : left' ≡ left
  pub unwritten : written' ≡ written

-- the arguments that can't be read are taken for no words
abbrev pub words_given : Result Args Error → List Bytes
words_given (Ok args) = words_after_name args
words_given (Err error) = []

abbrev pub names_server : List Bytes → Bool
names_server [] = false
names_server (w ∷ ws) = same_name w (codes "serve")

abbrev pub ServerGives : Status → Type 0
ServerGives Done = Unit {0}
ServerGives BadWords = Unit {0}
ServerGives NoMemory = Unit {0}
ServerGives AcceptFault = Unit {0}
ServerGives BindFault = Unit {0}
ServerGives status = ⊥

-- a server doesn't touch the standard streams
abbrev pub RunsWords : Bool → List Bytes → Status → Option Bytes → Option Bytes → Option Bytes → Option Bytes → Type 0
RunsWords true words status left left' written written' = ServerGives status × (left' ≡ left) × (written' ≡ written)
RunsWords false words status left left' written written' = Does (job_named words) status left left' written written'

abbrev pub Runs : Result Args Error → Status → Option Bytes → Option Bytes → Option Bytes → Option Bytes → Type 0
Runs args status left left' written written' =
    RunsWords (names_server (words_given args)) (words_given args) status left left' written written' ⊎ DoesNothing status left left' written written'
