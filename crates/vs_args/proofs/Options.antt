-- Options by their places in a list, and as the definitions find them.
use Rattle.std.proofs.Common.{◌≡◌, ℕ, zero, suc, ◌+◌, ◌<◌, Bool, true, false, List, [], ◌∷◌, ◌++◌, ◌&&◌, ◌||◌, length, get_or, map, drop, take, ◌-◌, ◌≤◌, Option, Some, None, is_some, cond, min, option_map, refl, ap, sym, ◌∙◌, arith, codes}
use Rattle.std.specs.List.{position, position_from, remove, starts_with}
use Rattle.std.specs.Bool.{nat_eq}
use Rattle.std.proofs.lemmas.List.Quantifiers.{position-Some}
use Rattle.std.proofs.lemmas.List.{length-take}
use Rattle.std.proofs.lemmas.Iterator.Adapters.{position_from-zero}
use Rattle.std.proofs.Math.Seq.{take-length}
use Rattle.std.proofs.lemmas.Slice.Eq.{bytes_eq-Decides}
use Rattle.vs_defs.specs.Bounds.{IsFrom}
use Rattle.vs_args.specs.declared.settings.Settings.{Settings}
use Rattle.vs_args.specs.Settings.{IsSettings, Gives}
use Rattle.vs_defs.specs.Bytes.{Bytes, same_name}
use Rattle.vs_args.specs.declared.command.Choice as own
use Rattle.vs_args.specs.declared.command.Choice.TheVariants as options
use Rattle.vs_args.specs.declared.command.Command.{Command}
use Rattle.vs_args.specs.declared.command.Command.TheVariants.{Script, Schedule, Generate, Serve}
use Rattle.vs_defs.specs.ProgramWords as defs
use Rattle.vs_args.specs.Words.{job_named, command_named, choices_of, choice_of, seen, is_named, joined_name, value_behind}
use Rattle.vs_defs.specs.ProgramWords.{Choice, choice_named, choice_within, without_choice, settings_of, value_in, with_setting, job_by}

-- the first choice that passes
abbrev first_by : (Choice → Bool) → List Choice → Option Choice
first_by p [] = None
first_by p (c ∷ cs) = cond (p c) (Some c) (first_by p cs)

named : (word : Bytes) (cs : List Choice) → first_by (λ c. same_name word c.name) cs ≡ choice_named word cs
named word [] = refl
named word (c ∷ cs) = ap (λ o. cond (same_name word c.name) (Some c) o) (named word cs)

within : (word : Bytes) (cs : List Choice) → first_by (λ c. starts_with nat_eq word (c.name ++ codes "=")) cs ≡ choice_within word cs
within word [] = refl
within word (c ∷ cs) = ap (λ o. cond (starts_with nat_eq word (c.name ++ codes "=")) (Some c) o) (within word cs)

-- a test that looks at the name alone
abbrev ByName : (Choice → Bool) → Type 0
ByName p = (c d : Choice) → c.name ≡ d.name → p c ≡ p d

other : (p : Choice → Bool) → ByName p → (c d : Choice) (b : Bool) → b ≡ same_name c.name d.name → p c ≡ true → p d ≡ false → b ≡ false
other p by c d false e passes no_ = refl
other p by c d true e passes no_ =
    let same : c.name ≡ d.name = (bytes_eq-Decides c.name d.name).0 (sym e) in
    let alike = by c d same in
    cc

module _ {X : Type 0} (seen : X → Choice) (p : Choice → Bool) (by : ByName p) where
  absent_at : (i : ℕ) (x : X) (xs : List X) (b : Bool) → p (seen x) ≡ b → (position_from (λ x. p (seen x)) (i + 1) xs ≡ None → first_by p (map seen xs) ≡ None)
      → position_from (λ x. p (seen x)) i (x ∷ xs) ≡ None → first_by p (map seen (x ∷ xs)) ≡ None
  absent_at i x xs true is rest e =
      let bad : Some i ≡ None = rw is at e in
      cc
  absent_at i x xs false is rest e = rw is (rest (rw is at e))

  absent_from : (i : ℕ) (xs : List X) → position_from (λ x. p (seen x)) i xs ≡ None → first_by p (map seen xs) ≡ None
  absent_from i [] e = refl
  absent_from i (x ∷ xs) e = absent_at i x xs (p (seen x)) refl (absent_from (i + 1) xs) e

  absent : (xs : List X) → position (λ x. p (seen x)) xs ≡ None → first_by p (map seen xs) ≡ None
  absent xs e = absent_from 0 xs (sym (position_from-zero (λ x. p (seen x)) xs) ∙ e)

  -- the choice at the first place that passes is found, and is the one that is taken out
  abbrev Found : List X → ℕ → X → Type 0
  Found xs i x = (first_by p (map seen xs) ≡ Some (seen x)) × (without_choice (seen x) (map seen xs) ≡ map seen (remove xs i))

  found_at : (xs : List X) (i : ℕ) (d : X) → i < length xs → p (seen (get_or xs i d)) ≡ true → ((k : ℕ) → k < i → p (seen (get_or xs k d)) ≡ false)
      → Found xs i (get_or xs i d)
  found_at [] i d h passes before = absurd (omega arith)
  found_at (x ∷ xs) zero d h passes before =
      let same : true ≡ same_name (seen x).name (seen x).name = sym ((bytes_eq-Decides (seen x).name (seen x).name).1 refl) in
      (rw passes refl, rw (← same) refl)
  found_at (x ∷ xs) (suc i) d h passes before =
      let more = found_at xs i d (omega arith) passes (λ k l. before (suc k) (omega arith)) in
      let no_ : p (seen x) ≡ false = before zero (omega arith) in
      let differs : same_name (seen (get_or xs i d)).name (seen x).name ≡ false = other p by (seen (get_or xs i d)) (seen x) _ refl passes no_ in
      (rw no_ more.0, rw differs (ap (λ cs. seen x ∷ cs) more.1))

  found : (xs : List X) (i : ℕ) (d : X) → position (λ x. p (seen x)) xs ≡ Some i → Found xs i (get_or xs i d)
  found xs i d e =
      let at = position-Some (λ x. p (seen x)) xs i d e in
      found_at xs i d at.0 at.1 at.2

-- a word and those behind it
pub split_first : (ws : List Bytes) (w : Bytes) → 1 ≤ length ws → w ≡ get_or ws 0 w → ws ≡ w ∷ take (length ws - 1) (drop 1 ws)
split_first [] w h is = absurd (omega arith)
split_first (x ∷ xs) w h is =
    let less : length xs ≡ suc (length xs) - 1 = omega arith in
    ap (λ y. y ∷ xs) (sym is) ∙ ap (λ ys. w ∷ ys) (sym (take-length xs) ∙ ap (λ n. take n xs) less)

with_some : (c : Choice) (value : Option ℕ) (more : Option (List (Bytes × ℕ))) → is_some (with_setting c value more) ≡ (is_some value && is_some more)
with_some c None more = refl
with_some c (Some v) None = refl
with_some c (Some v) (Some rest) = refl

pub joined_settings : (cs : List Choice) (w : Bytes) (ws : List Bytes) (c : Choice) → choice_within w cs ≡ Some c
    → settings_of cs (w ∷ ws) ≡ with_setting c (value_in c (drop (length c.name) (drop 1 w))) (settings_of (without_choice c cs) ws)
joined_settings cs w [] c e = rw e refl
joined_settings cs w (v ∷ ws) c e = rw (e, settings_of) refl

pub lone_settings : (cs : List Choice) (w : Bytes) → choice_within w cs ≡ None → settings_of cs (w ∷ []) ≡ None
lone_settings cs w e = rw e refl

pub named_settings : (cs : List Choice) (w v : Bytes) (ws : List Bytes) (c : Choice) → choice_within w cs ≡ None → choice_named w cs ≡ Some c
    → settings_of cs (w ∷ v ∷ ws) ≡ with_setting c (value_in c v) (settings_of (without_choice c cs) ws)
named_settings cs w v ws c e f = rw (e, f, settings_of) refl

pub strange_settings : (cs : List Choice) (w v : Bytes) (ws : List Bytes) → choice_within w cs ≡ None → choice_named w cs ≡ None
    → settings_of cs (w ∷ v ∷ ws) ≡ None
strange_settings cs w v ws e f = rw (e, f, settings_of) refl

-- whether there are settings
pub joined_step : (cs : List Choice) (w : Bytes) (ws : List Bytes) (c : Choice) → choice_within w cs ≡ Some c
    → is_some (settings_of cs (w ∷ ws)) ≡ (is_some (value_in c (drop (length c.name) (drop 1 w))) && is_some (settings_of (without_choice c cs) ws))
joined_step cs w ws c e =
    ap is_some (joined_settings cs w ws c e) ∙ with_some c (value_in c (drop (length c.name) (drop 1 w))) (settings_of (without_choice c cs) ws)

pub lone_step : (cs : List Choice) (w : Bytes) → choice_within w cs ≡ None → is_some (settings_of cs (w ∷ [])) ≡ false
lone_step cs w e = ap is_some (lone_settings cs w e)

pub named_step : (cs : List Choice) (w v : Bytes) (ws : List Bytes) (c : Choice) → choice_within w cs ≡ None → choice_named w cs ≡ Some c
    → is_some (settings_of cs (w ∷ v ∷ ws)) ≡ (is_some (value_in c v) && is_some (settings_of (without_choice c cs) ws))
named_step cs w v ws c e f =
    ap is_some (named_settings cs w v ws c e f) ∙ with_some c (value_in c v) (settings_of (without_choice c cs) ws)

pub strange_step : (cs : List Choice) (w v : Bytes) (ws : List Bytes) → choice_within w cs ≡ None → choice_named w cs ≡ None
    → is_some (settings_of cs (w ∷ v ∷ ws)) ≡ false
strange_step cs w v ws e f = ap is_some (strange_settings cs w v ws e f)

-- the same of the program's options
pub named_absent : (word : Bytes) (xs : List own.Choice) → position (is_named word) xs ≡ None → choice_named word (seen xs) ≡ None
named_absent word xs e = sym (named word (seen xs)) ∙ absent choice_of (λ c. same_name word c.name) (λ c d same. ap (same_name word) same) xs e

pub named_found : (word : Bytes) (xs : List own.Choice) (i : ℕ) (x : own.Choice) → position (is_named word) xs ≡ Some i → x ≡ get_or xs i x
    → (choice_named word (seen xs) ≡ Some (choice_of x)) × (seen (remove xs i) ≡ without_choice (choice_of x) (seen xs))
named_found word xs i x e is =
    let at = found choice_of (λ c. same_name word c.name) (λ c d same. ap (same_name word) same) xs i x e in
    (sym (named word (seen xs)) ∙ at.0 ∙ ap (λ y. Some (choice_of y)) (sym is), sym (ap (λ y. without_choice (choice_of y) (seen xs)) is ∙ at.1))

pub joined_absent : (word : Bytes) (xs : List own.Choice) → position (λ c. starts_with nat_eq word (joined_name c)) xs ≡ None
    → choice_within word (seen xs) ≡ None
joined_absent word xs e =
    sym (within word (seen xs)) ∙ absent choice_of (λ c. starts_with nat_eq word (c.name ++ codes "=")) (λ c d same. ap (λ n. starts_with nat_eq word (n ++ codes "=")) same) xs e

pub joined_found : (word : Bytes) (xs : List own.Choice) (i : ℕ) (x : own.Choice) → position (λ c. starts_with nat_eq word (joined_name c)) xs ≡ Some i
    → x ≡ get_or xs i x
    → (choice_within word (seen xs) ≡ Some (choice_of x)) × (seen (remove xs i) ≡ without_choice (choice_of x) (seen xs))
joined_found word xs i x e is =
    let at = found choice_of (λ c. starts_with nat_eq word (c.name ++ codes "=")) (λ c d same. ap (λ n. starts_with nat_eq word (n ++ codes "=")) same) xs i x e in
    (sym (within word (seen xs)) ∙ at.0 ∙ ap (λ y. Some (choice_of y)) (sym is), sym (ap (λ y. without_choice (choice_of y) (seen xs)) is ∙ at.1))

-- a word is no shorter than what it begins with
begins_within : (word front : Bytes) → starts_with nat_eq word front ≡ true → length front ≤ length word
begins_within word front is =
    let same : length front ≡ min (length front) (length word) = ap length ((bytes_eq-Decides front (take (length front) word)).0 is) ∙ length-take (length front) word in
    min_within (length front) (length word) same where
      min_within : (a b : ℕ) → a ≡ min a b → a ≤ b
      min_within a b e = omega (arith, e)

pub joined_covers : (word : Bytes) (xs : List own.Choice) (i : ℕ) (x : own.Choice) (name : Bytes) → position (λ c. starts_with nat_eq word (joined_name c)) xs ≡ Some i
    → x ≡ get_or xs i x → name ≡ joined_name x → length name ≤ length word
joined_covers word xs i x name e is named =
    let at = position-Some (λ c. starts_with nat_eq word (joined_name c)) xs i x e in
    let begins : starts_with nat_eq word name ≡ true = ap (starts_with nat_eq word) named ∙ ap (λ c. starts_with nat_eq word (joined_name c)) is ∙ at.1 in
    begins_within word name begins

pub value_part : (c : own.Choice) (word : Bytes) → drop (length (joined_name c)) word ≡ value_behind c word
value_part options.Seed [] = refl
value_part options.Seed (b ∷ bs) = refl
value_part options.Members [] = refl
value_part options.Members (b ∷ bs) = refl
value_part options.Dim [] = refl
value_part options.Dim (b ∷ bs) = refl
value_part options.Port [] = refl
value_part options.Port (b ∷ bs) = refl
value_part options.Workers [] = refl
value_part options.Workers (b ∷ bs) = refl
value_part options.Connections [] = refl
value_part options.Connections (b ∷ bs) = refl

-- the values that are read, where the first word is an option with its value
pub gives_with : (c : Choice) (v : ℕ) (s new : Settings) (more : Option defs.Settings)
    → ((list : defs.Settings) → IsSettings s list → IsSettings new ((c.name, v) ∷ list)) → Gives (Some s) more → Gives (Some new) (with_setting c (Some v) more)
gives_with c v s new None on gives = gives
gives_with c v s new (Some list) on gives = on list gives

pub no_value : (c : Choice) (more : Option defs.Settings) → with_setting c None more ≡ None
no_value c more = refl

pub no_more : (c : Choice) (value : Option ℕ) → with_setting c value None ≡ None
no_more c None = refl
no_more c (Some v) = refl

-- ---- the job of a command's settings

abbrev pub job_with : Command → defs.Settings → defs.Job
job_with Script s = defs.Script (defs.setting (codes "--seed") 0 s)
job_with Schedule s = defs.Schedule
job_with Generate s = defs.Generate (defs.setting (codes "--seed") 0 s) (defs.setting (codes "--members") 20000 s) (defs.setting (codes "--dim") 256 s)
job_with Serve s =
    defs.Serve (defs.setting (codes "--port") 6379 s) (defs.setting (codes "--workers") 8 s) (defs.setting (codes "--seed") 0 s)
    (defs.setting (codes "--connections") 4294967295 s)

by_command : (w : Bytes) (ws : List Bytes) (c : Command) (a s b d : Bool) → same_name w (codes "script") ≡ a → same_name w (codes "schedule") ≡ s
    → same_name w (codes "generate") ≡ b → same_name w (codes "serve") ≡ d
    → cond a (Some Script) (cond s (Some Schedule) (cond b (Some Generate) (cond d (Some Serve) None))) ≡ Some c
    → cond (a || (s || (b || (d || false)))) (job_by w ws) None ≡ option_map (job_with c) (settings_of (seen (choices_of c)) ws)
by_command w ws Script true s b d is is_s is_b is_d e = rw is refl
by_command w ws Schedule true s b d is is_s is_b is_d e = cc
by_command w ws Generate true s b d is is_s is_b is_d e = cc
by_command w ws Serve true s b d is is_s is_b is_d e = cc
by_command w ws Script false true b d is is_s is_b is_d e = cc
by_command w ws Schedule false true b d is is_s is_b is_d e =
    let word : w ≡ codes "schedule" = (bytes_eq-Decides w (codes "schedule")).0 is_s in
    rw word refl
by_command w ws Generate false true b d is is_s is_b is_d e = cc
by_command w ws Serve false true b d is is_s is_b is_d e = cc
by_command w ws Script false false true d is is_s is_b is_d e = cc
by_command w ws Schedule false false true d is is_s is_b is_d e = cc
by_command w ws Serve false false true d is is_s is_b is_d e = cc
by_command w ws Generate false false true d is is_s is_b is_d e =
    let word : w ≡ codes "generate" = (bytes_eq-Decides w (codes "generate")).0 is_b in
    rw word refl
by_command w ws Script false false false true is is_s is_b is_d e = cc
by_command w ws Schedule false false false true is is_s is_b is_d e = cc
by_command w ws Generate false false false true is is_s is_b is_d e = cc
by_command w ws Serve false false false true is is_s is_b is_d e =
    let word : w ≡ codes "serve" = (bytes_eq-Decides w (codes "serve")).0 is_d in
    rw word refl
by_command w ws c false false false false is is_s is_b is_d e = cc

pub job_by_command : (w : Bytes) (ws : List Bytes) (c : Command) → command_named w ≡ Some c
    → job_named (w ∷ ws) ≡ option_map (job_with c) (settings_of (seen (choices_of c)) ws)
job_by_command w ws c e =
    by_command w ws c (same_name w (codes "script")) (same_name w (codes "schedule")) (same_name w (codes "generate")) (same_name w (codes "serve"))
    refl refl refl refl e

no_command : (w : Bytes) (ws : List Bytes) (a s b d : Bool)
    → cond a (Some Script) (cond s (Some Schedule) (cond b (Some Generate) (cond d (Some Serve) None))) ≡ None
    → cond (a || (s || (b || (d || false)))) (job_by w ws) None ≡ None
no_command w ws true s b d e = cc
no_command w ws false true b d e = cc
no_command w ws false false true d e = cc
no_command w ws false false false true e = cc
no_command w ws false false false false e = refl

pub no_job_by : (w : Bytes) (ws : List Bytes) → command_named w ≡ None → job_named (w ∷ ws) ≡ None
no_job_by w ws e =
    no_command w ws (same_name w (codes "script")) (same_name w (codes "schedule")) (same_name w (codes "generate")) (same_name w (codes "serve")) e

-- the job of settings that were read
pub script_of : (s : Settings) (o : Option defs.Settings) → Gives (Some s) o → Some (defs.Script s.seed) ≡ option_map (job_with Script) o
script_of s None gives = absurd gives
script_of s (Some list) gives = ap (λ n. Some (defs.Script n)) gives.seed

pub schedule_of : (s : Settings) (o : Option defs.Settings) → Gives (Some s) o → Some defs.Schedule ≡ option_map (job_with Schedule) o
schedule_of s None gives = absurd gives
schedule_of s (Some list) gives = refl

pub generate_of : (s : Settings) (o : Option defs.Settings) → Gives (Some s) o → Some (defs.Generate s.seed s.members s.dim) ≡ option_map (job_with Generate) o
generate_of s None gives = absurd gives
generate_of s (Some list) gives =
    ap (λ n. Some (defs.Generate n s.members s.dim)) gives.seed ∙ ap (λ n. Some (defs.Generate (defs.setting (codes "--seed") 0 list) n s.dim)) gives.members
    ∙ ap (λ n. Some (defs.Generate (defs.setting (codes "--seed") 0 list) (defs.setting (codes "--members") 20000 list) n)) gives.dim

pub in_ranges : (s : Settings) (o : Option defs.Settings) → Gives (Some s) o → IsFrom 1 1048576 s.members × IsFrom 1 4096 s.dim
in_ranges s None gives = absurd gives
in_ranges s (Some list) gives = (gives.members_within, gives.dim_within)

pub serve_of : (s : Settings) (o : Option defs.Settings) → Gives (Some s) o → Some (defs.Serve s.port s.workers s.seed s.connections) ≡ option_map (job_with Serve) o
serve_of s None gives = absurd gives
serve_of s (Some list) gives =
    ap (λ n. Some (defs.Serve n s.workers s.seed s.connections)) gives.port
    ∙ ap (λ n. Some (defs.Serve (defs.setting (codes "--port") 6379 list) n s.seed s.connections)) gives.workers
    ∙ ap (λ n. Some (defs.Serve (defs.setting (codes "--port") 6379 list) (defs.setting (codes "--workers") 8 list) n s.connections)) gives.seed
    ∙ ap (λ n. Some (defs.Serve (defs.setting (codes "--port") 6379 list) (defs.setting (codes "--workers") 8 list) (defs.setting (codes "--seed") 0 list) n)) gives.connections

pub in_server_ranges : (s : Settings) (o : Option defs.Settings) → Gives (Some s) o
    → IsFrom 1 65535 s.port × IsFrom 1 64 s.workers × IsFrom 1 4294967295 s.connections
in_server_ranges s None gives = absurd gives
in_server_ranges s (Some list) gives = (gives.port_within, gives.workers_within, gives.connections_within)
