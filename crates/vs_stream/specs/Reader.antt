-- What a reader of the stream stands for, after these bytes were fed to it.
use Rattle.std.specs.Prelude.{◌≡◌, ◌≤◌, ◌∷◌, ◌++◌, ℕ, Bool, List, [], length}
use Rattle.vs_defs.specs.Bytes.{Bytes}
use Rattle.vs_defs.specs.Stream.{Message, Fault, Border, Broken, Splits, with_words, place_in}
use Rattle.vs_stream.specs.Machine.{State, start, star, minus, minus_one, count, count_end, bulk, len, len_end, body, body_end, line, Next, Goes, Gives, Breaks, step, reads}

-- A reader with the messages that it has read, those without a word left out: within a message, or at a fault's place, or out of memory.
pub data Reader : Type 0 where
  reading : List Message → State → Reader
  broken : List Message → Fault → ℕ → Reader
  lost : List Message → Reader

-- a message that has a word
abbrev pub worded : Message → List Message
worded [] = []
worded (w ∷ ws) = (w ∷ ws) ∷ []

-- n bytes came before
abbrev pub taken : ℕ → List Message → Next → Reader
taken n ms (Goes s) = reading ms s
taken n ms (Gives m) = reading (ms ++ worded m) start
taken n ms (Breaks f) = broken ms f n

abbrev pub reader_step : Bool → ℕ → Reader → ℕ → Reader
reader_step lines n (reading ms s) c = taken n ms (step lines s c)
reader_step lines n (broken ms f at) c = broken ms f at
reader_step lines n (lost ms) c = lost ms

-- the part of a message that has come
abbrev pub PartOf : State → Bytes → Type 0
PartOf start part = part ≡ []
PartOf star part = (b : ℕ) × (more : Bytes) × (part ≡ b ∷ more)
PartOf minus part = (b : ℕ) × (more : Bytes) × (part ≡ b ∷ more)
PartOf minus_one part = (b : ℕ) × (more : Bytes) × (part ≡ b ∷ more)
PartOf (count k n) part = (b : ℕ) × (more : Bytes) × (part ≡ b ∷ more)
PartOf (count_end n) part = (b : ℕ) × (more : Bytes) × (part ≡ b ∷ more)
PartOf (bulk l sum ws) part = (b : ℕ) × (more : Bytes) × (part ≡ b ∷ more)
PartOf (len l sum ws k n) part = (b : ℕ) × (more : Bytes) × (part ≡ b ∷ more)
PartOf (len_end l sum ws n) part = (b : ℕ) × (more : Bytes) × (part ≡ b ∷ more)
PartOf (body l sum ws n w) part = (b : ℕ) × (more : Bytes) × (part ≡ b ∷ more)
PartOf (body_end l sum ws w) part = (b : ℕ) × (more : Bytes) × (part ≡ b ∷ more)
PartOf (line k ws w) part = (b : ℕ) × (more : Bytes) × (part ≡ b ∷ more)

pub record WhileReading (lines : Bool) (n : ℕ) (ms : List Message) (s : State) (fed : Bytes) : Type 0 where
  pub front : Bytes
  pub part : Bytes
  pub all : List Message
  pub fed_is : fed ≡ front ++ part
  pub counted : n ≡ length fed
  pub whole : Splits lines front all Border
  pub given : with_words all ≡ ms
  pub part_of : PartOf s part
  pub onward : (rest : Bytes) → reads lines start (part ++ rest) ≡ reads lines s rest

pub record AfterFault (lines : Bool) (ms : List Message) (f : Fault) (at : ℕ) (fed : Bytes) : Type 0 where
  pub all : List Message
  pub rest : Bytes
  pub splits : Splits lines fed all (Broken f rest)
  pub given : with_words all ≡ ms
  pub place : at ≡ place_in fed rest

pub record AfterLoss (lines : Bool) (ms : List Message) (fed : Bytes) : Type 0 where
  pub front : Bytes
  pub rest : Bytes
  pub all : List Message
  pub fed_is : fed ≡ front ++ rest
  pub begun : 1 ≤ length rest
  pub whole : Splits lines front all Border
  pub given : with_words all ≡ ms

-- these bytes were fed; n is their number, where the reader goes on
abbrev pub Means : Bool → ℕ → Reader → Bytes → Type 0
Means lines n (reading ms s) fed = WhileReading lines n ms s fed
Means lines n (broken ms f at) fed = AfterFault lines ms f at fed
Means lines n (lost ms) fed = AfterLoss lines ms fed

-- these messages stand before
abbrev pub prefixed : List Message → Reader → Reader
prefixed given (reading ms s) = reading (given ++ ms) s
prefixed given (broken ms f at) = broken (given ++ ms) f at
prefixed given (lost ms) = lost (given ++ ms)
