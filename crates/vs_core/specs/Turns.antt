-- What an event is for the store and its one actor, whatever the others are at.
--     StandsAt limits s k a store seen     at the state the store is this one, and the actor of the number is this one
--     Stands store seen                    so it is at some state
--     Turns event old was outcome new now      the event: from every state where these stand, to one where the new ones do
use Rattle.std.specs.Prelude.{◌≡◌, ℕ, Some}
use Rattle.vs_defs.specs.History.{IsPrefix}
use Rattle.vs_defs.specs.Store.{Store, Set, Limits}
use Rattle.vs_thread_defs.specs.Core.{Seen, ActorStands}
use Rattle.vs_thread_defs.specs.Interleaving.{State, Actor, Event, Outcome, HappensAt, actor_at, actor_of, with_actor}
use Rattle.vs_thread_defs.specs.Machine.{GraphHistory, GraphLegal, store_of}

pub record StandsAt (limits : Limits) (s : State) (k : ℕ) (a : Actor) (store : Store Set) (seen : Seen) : Type 0 where
  pub ends : store ≡ store_of limits s.history
  pub legal : GraphLegal limits s.history
  pub there : actor_at s k ≡ Some a
  pub stands : ActorStands limits s.history seen a

abbrev pub Stands : Store Set → Seen → Type 0
Stands store seen = (s : State) × (k : ℕ) × (a : Actor) × StandsAt store.limits s k a store seen

pub record Turned (limits : Limits) (s : State) (a : Actor) (e : Event) (o : Outcome) (new : Store Set) (now : Seen) : Type 0 where
  pub history : GraphHistory
  pub after : Actor
  pub happens : HappensAt limits a s e o (with_actor s (actor_of e) after history)
  pub goes_on : IsPrefix s.history history
  pub ends : new ≡ store_of limits history
  pub legal : GraphLegal limits history
  pub stands : ActorStands limits history now after

abbrev pub Turns : Event → Store Set → Seen → Outcome → Store Set → Seen → Type 0
Turns e old was o new now = (s : State) (a : Actor) → StandsAt old.limits s (actor_of e) a old was → Turned old.limits s a e o new now
