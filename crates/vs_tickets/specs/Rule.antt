-- The rule on the ticket word, which is the number of tickets drawn, and what each kind of step does to the views of the seats.
--     share parts below past limit        a view: its parts of all, how many tickets below the limit its seat drew, how many past it
--     dealt_from, dealt                    a seat is made for a worker: what the maker keeps, and the new view
--     gathered                             two views put together
--     Kept limit state                     the rule
--     Drawn, Learned                       what a draw tells its seat, and what a load tells the seat that has all parts
use Rattle.std.specs.Prelude.{◌≡◌, ℕ, ◌+◌, ◌-◌, ◌^◌, ◌<◌, ◌≤◌, min, List, [], ◌∷◌}
use mathlib.Core.Option.{some}
use lib.ListN.{get_elem?}
use Rattle.atomic_table.specs.Table.{State, Me}
use Rattle.atomic_table.specs.Seated.{TableId}
use Rattle.vs_tickets.specs.declared.View.{View}

abbrev pub share : ℕ → ℕ → ℕ → ℕ → View
share parts below past limit = record { parts = parts; below = below; past = past; limit = limit }

-- all parts there are: more than there can be workers
abbrev pub all_parts : ℕ
all_parts = 2 ^ 32

abbrev pub dealt_from : View → View
dealt_from v = share (v.parts - 1) v.below v.past v.limit

abbrev pub dealt : View → View
dealt v = share 1 0 0 v.limit

abbrev pub gathered : View → View → View
gathered v w = share (v.parts + w.parts) (v.below + w.below) (v.past + w.past) v.limit

-- the seat's table is this one, which has one word
abbrev pub IsSeatOf : TableId → TableId → Type 0
IsSeatOf table seat = (seat ≡ table) × (table.words ≡ 1)

abbrev pub total : (View → ℕ) → List View → ℕ
total f [] = 0
total f (v ∷ vs) = f v + total f vs

-- a view with no part has drawn nothing, none has gone past the limit more often than it has parts, and one with a part knows the limit
pub record Fits (limit : ℕ) (v : View) : Type 0 where
  pub idle : v.parts ≡ 0 → (v.below ≡ 0) × (v.past ≡ 0)
  pub few : v.past ≤ v.parts
  pub knows : 0 < v.parts → v.limit ≡ limit

-- so the word is at most the limit and the number of parts
pub record Kept (limit : ℕ) (s : State ℕ View) : Type 0 where
  pub drawn : ℕ
  pub words_are : s.words ≡ drawn ∷ []
  pub parts : total (λ v. v.parts) s.views ≡ all_parts
  pub below : total (λ v. v.below) s.views ≡ min drawn limit
  pub past : total (λ v. v.past) s.views ≡ drawn - limit
  pub fits : (by : ℕ) (v : View) → get_elem? s.views by ≡ some v → Fits limit v

-- one more below the limit, or one more past it
pub record Drawn (me : Me ℕ View) (found : ℕ) (now : Me ℕ View) : Type 0 where
  pub slots : now.1 ≡ me.1
  pub below : found < me.0.limit → now.0 ≡ share me.0.parts (me.0.below + 1) me.0.past me.0.limit
  pub past : me.0.limit ≤ found → now.0 ≡ share me.0.parts me.0.below (me.0.past + 1) me.0.limit

-- the tickets of the one seat are all that were drawn
pub record Learned (me : Me ℕ View) (found : ℕ) (now : Me ℕ View) : Type 0 where
  pub same : now ≡ me
  pub below : me.0.below ≡ min found me.0.limit
  pub past : me.0.past ≡ found - me.0.limit
