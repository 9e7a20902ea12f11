-- What the server answers, and what it then says of its listeners.
--     back f hs                        what f says of each of a list, the last first
--     risen faults olds news           how many listeners' counts of faults rose
--     IsDone, IsFault, Answers         what each answer says of the counts and of the links that were closed
--     IsServed ..                      how each listener's links were served
--     IsEnded ..                       both, by the number of tickets drawn
use Rattle.std.specs.Prelude.{◌≡◌, ℕ, ◌+◌, ◌-◌, ◌^◌, ◌<◌, ◌≤◌, min, Bool, if◌then◌else◌, nat_le, List, [], ◌∷◌, ◌++◌, length, Option, Some, None, IsSome, All, sum_by, slice_index_or}
use Rattle.std.specs.List.{AllZip}
use Rattle.vs_defs.specs.Store.{Limits}
use Rattle.vs_defs.specs.History.{IsPrefix}
use Rattle.vs_thread_defs.specs.Machine.{GraphHistory, GraphLegal, IsGoodThroughout}
use Rattle.vs_connection.specs.Point.{Point}
use Rattle.vs_pass.specs.Knower.{Knower}
use Rattle.vs_server.specs.declared.serve.ServeEnd.{ServeEnd}
use Rattle.vs_server.specs.declared.serve.ServeEnd.TheVariants.{Done, AcceptFault, NoMemory}
use Rattle.vs_server.specs.Chains.{start, Chained}

-- what a pass has seen, if there is one
abbrev pub seen_by : Option Knower → GraphHistory
seen_by None = []
seen_by (Some p) = p.seen

-- the last of a list first, and of each what f says
abbrev pub back : {W L : Type 0} → (W → L) → List W → List L
back f [] = []
back f (h ∷ hs) = back f hs ++ f h ∷ []

-- so far the list all has been taken apart: xs is its beginning, and the rest is in hs, the last first
pub record IsParted {W L : Type 0} (f : W → L) (xs : List L) (hs : List W) (all : List L) : Type 0 where
  pub whole : xs ++ back f hs ≡ all

abbrev pub told : {X : Type 0} → Option (List X) → ℕ
told None = 0
told (Some xs) = length xs

abbrev pub rose : ℕ → ℕ → Bool
rose before now = nat_le (min (before + 1) (2 ^ 64 - 1)) now

-- how many listeners' counts rose
abbrev pub risen : {L : Type 0} → (L → ℕ) → List L → List L → ℕ
risen f [] news = 0
risen f (v ∷ olds) [] = 0
risen f (v ∷ olds) (w ∷ news) = (if rose (f v) (f w) then 1 else 0) + risen f olds news

module _ {L X : Type 0} (closed : L → Option (List X)) (faults : L → ℕ) (limit : ℕ) (olds news : List L) where
  -- no count rose, and the links that were closed are the limit in number
  pub record IsDone : Type 0 where
    pub calm : AllZip (λ v w. faults w ≡ faults v) olds news
    pub whole : All (λ v. IsSome (closed v)) olds → sum_by (λ w. told (closed w)) news ≡ sum_by (λ v. told (closed v)) olds + limit

  -- a count rose, and fewer links were closed; and unless every count rose, those closed and the counts that rose are at least the limit
  pub record IsFault : Type 0 where
    pub cause : 0 < risen faults olds news
    pub fewer : All (λ v. IsSome (closed v)) olds → sum_by (λ w. told (closed w)) news < sum_by (λ v. told (closed v)) olds + limit
    pub rest : All (λ v. IsSome (closed v)) olds → risen faults olds news < length olds → sum_by (λ v. told (closed v)) olds + limit ≤ sum_by (λ w. told (closed w)) news + risen faults olds news

  abbrev pub Answers : ServeEnd → Type 0
  Answers Done = IsDone
  Answers AcceptFault = IsFault
  Answers NoMemory = news ≡ olds

-- the listener at each place, from n on, was served by the number of its place, from that number's first state to some state of which B holds
abbrev pub AllServed : {L X S : Type 0} → (ℕ → S → X → X → S → Type 0) → (ℕ → S) → (S → Type 0) → (L → Option (List X)) → (L → Option (List X)) → ℕ → List L → List L → Type 0
AllServed P first B given closed n [] [] = Unit {0}
AllServed P first B given closed n [] (w ∷ news) = ⊥
AllServed P first B given closed n (v ∷ olds) [] = ⊥
AllServed {L} {X} {S} P first B given closed n (v ∷ olds) (w ∷ news) = ((t : S) × B t × Chained P n n (first n) t (given v) (closed v) (given w) (closed w)) × AllServed P first B given closed (n + 1) olds news

-- there is one legal history of good stores that each listener's last list begins; the listener at each place is served by the number of its place, whose
-- words are those of the number's stream from its start
pub record IsServed {L X : Type 0} (limits : Limits) (seed : ℕ) (P : ℕ → Point GraphHistory → X → X → Point GraphHistory → Type 0) (given closed : L → Option (List X)) (olds news : List L) : Type 0 where
  pub log : GraphHistory
  pub legal : GraphLegal limits log
  pub good : IsGoodThroughout log
  pub each : AllServed P (start seed) (λ t. IsPrefix t.history log) given closed 0 olds news

-- of the workers `all`, those that are not in hs have met
pub record HaveMet {W : Type 0} (seen : W → GraphHistory) (hs all : List W) (log : GraphHistory) : Type 0 where
  pub rest : List W
  pub whole : all ≡ hs ++ rest
  pub each : All (λ w. IsPrefix (seen w) log) rest

-- the numbers go down by one, and with as many more as are to come they would end at 0
pub record GoDown {W : Type 0} (number : W → ℕ) (n : ℕ) (hs : List W) : Type 0 where
  pub at : (k : ℕ) (d : W) → k < length hs → number (slice_index_or hs k d) + k + 1 ≡ n

-- so many tickets were drawn in all: which of the two answers fits, and how the links were served
pub record IsEnded {L X : Type 0} (limits : Limits) (seed : ℕ) (P : ℕ → Point GraphHistory → X → X → Point GraphHistory → Type 0) (given closed : L → Option (List X)) (faults : L → ℕ) (limit : ℕ) (olds news : List L) (drawn : ℕ) : Type 0 where
  pub done : drawn ≡ limit + length olds → IsDone closed faults limit olds news
  pub fault : ¬ (drawn ≡ limit + length olds) → IsFault closed faults limit olds news
  pub served : IsServed limits seed P given closed olds news
