-- A core as the machine's.
--     actors_seen actors      what contracts see of its actors
--     seen_at core k          the actor of a number
--     busy_of actor           why it can't begin something
--     suits actor event       whether it is at what the event needs, and error_of event where it isn't
--     IsOfMachine core        it stands for some state of the machine of interleavings, under limits within the usual ones
--     Steps old event o new   one event: from whatever state the core stood for, to one for which it stands now
use Rattle.std.specs.Prelude.{ℕ, zero, suc, Bool, true, false, List, map, Option, Some, None, slice_get}
use Rattle.vs_thread_defs.specs.Core as core
use Rattle.vs_thread_defs.specs.Core.{StandsFor}
use Rattle.vs_thread_defs.specs.Interleaving.{State, Event, Outcome, Happens}
use Rattle.vs_thread_defs.specs.Interleaving as machine
use Rattle.vs_core.specs.declared.actor.Actor.{Actor}
use Rattle.vs_core.specs.declared.actor.Actor.TheVariants.{Idle, Looking, Drafting, Ready}

abbrev pub actor_seen : Actor → core.Seen
actor_seen Idle = core.Idle
actor_seen (Looking l) = core.IsLooking l
actor_seen (Drafting d) = core.IsDrafting d
actor_seen (Ready r) = core.IsReady r

abbrev pub actors_seen : List Actor → List core.Seen
actors_seen actors = map actor_seen actors

abbrev pub seen_at : core.Core → ℕ → Option core.Seen
seen_at c zero = None
seen_at c (suc k) = slice_get c.actors k

abbrev pub busy_of : Option core.Seen → Option Outcome
busy_of None = Some machine.NoSuchActor
busy_of (Some core.Idle) = None
busy_of (Some x) = Some machine.ActorBusy

abbrev pub IsOfMachine : core.Core → Type 0
IsOfMachine c = (s : State) × StandsFor c.store.limits c s

abbrev pub Steps : core.Core → Event → Outcome → core.Core → Type 0
Steps old e o new = (s : State) → StandsFor old.store.limits old s → (t : State) × Happens old.store.limits s e o t × StandsFor old.store.limits new t

-- ---- what an event needs

abbrev pub is_idle : core.Seen → Bool
is_idle core.Idle = true
is_idle x = false

abbrev pub is_looking : core.Seen → Bool
is_looking (core.IsLooking l) = true
is_looking x = false

abbrev pub is_drafting : core.Seen → Bool
is_drafting (core.IsDrafting d) = true
is_drafting x = false

abbrev pub is_ready : core.Seen → Bool
is_ready (core.IsReady r) = true
is_ready x = false

abbrev pub suits : core.Seen → Event → Bool
suits x (machine.Do k r words) = is_idle x
suits x (machine.Look k search) = is_idle x
suits x (machine.Draft k add drawn) = is_idle x
suits x (machine.Finish k) = is_looking x
suits x (machine.Prepare k) = is_drafting x
suits x (machine.Commit k) = is_ready x

-- the error of one that is at something else
abbrev pub error_of : Event → Outcome
error_of (machine.Do k r words) = machine.ActorBusy
error_of (machine.Look k search) = machine.ActorBusy
error_of (machine.Draft k add drawn) = machine.ActorBusy
error_of (machine.Finish k) = machine.ActorIdle
error_of (machine.Prepare k) = machine.ActorIdle
error_of (machine.Commit k) = machine.ActorIdle
