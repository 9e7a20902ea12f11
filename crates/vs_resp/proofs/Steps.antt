-- What a decoder stands for after more bytes, and what its callers learn.
use Rattle.std.proofs.Common.{◌≡◌, ◌<◌, ◌≤◌, ◌+◌, ◌-◌, true, List, [], ◌∷◌, ◌++◌, ℕ, zero, suc, length, take, drop, get_or, refl, sym, ap, subst, ◌∙◌, arith, append_assoc, append-nil, length-append, Result, take-add, Option, Some, None, IfNone}
use Rattle.std.proofs.lemmas.List.{take-append-drop}
use Rattle.vs_resp.specs.declared.Decoder.{Decoder}
use Rattle.vs_resp.specs.declared.Fault.{Fault}
use Rattle.vs_resp.specs.declared.Stage.{Stage}
use Rattle.vs_resp.specs.declared.Stage.TheVariants.{Start, Star, Minus, MinusOne, Count, CountEnd, Bulk, Length, LengthEnd, Body, BodyEnd, Line, Faulty, Lost}
use Rattle.vs_resp.specs.declared.FeedError.{FeedError}
use Rattle.vs_resp.specs.declared.FeedError.TheVariants.{NoMemory, Protocol}
use Rattle.vs_resp.specs.Stands.{fault_of, at_stage, reader_of, NotLost, IsGoing, Stands, failure_at, answer_of, FeedMeans}
use Rattle.vs_defs.specs.Limits.{max_message_bytes}
use Rattle.vs_defs.specs.Bytes.{Bytes}
use Rattle.vs_defs.specs.Stream.{Message}
use Rattle.vs_stream.specs.Machine.{State, start, bulk, body, body_end, after_bulk}
use Rattle.vs_stream.specs.Reader.{Reader, reading, worded, taken, reader_step, Means, WhileReading, AfterFault, AfterLoss, prefixed}
use Rattle.vs_resp.specs.Bulk.{IsBulk}
use Rattle.vs_resp.proofs.WholeBulks.{leads_reading}
use Rattle.vs_stream.specs.Given.{GivenAll, GivenFirst, GivenBefore}
use Rattle.vs_stream.specs.Place.{IsStream}
use Rattle.vs_stream.proofs.Reader.{IsInside, means_step, prefixed_step, reading_body, loss_of, loss_more, fault_more, reading_begins, reading_all, fault_all, fault_place, all_first, loss_first, loss_before, reading_start, reading_inside, fault_inside}

-- ---- the three kinds of stage

data Kind (t : Stage) : Type 0 where
  goes : IsGoing t → failure_at t ≡ None → Kind t
  breaks : (fault : Fault) (at : ℕ) → t ≡ Faulty fault at → Kind t
  loses : t ≡ Lost → Kind t

kind_of : (t : Stage) → Kind t
kind_of Start = goes tt refl
kind_of Star = goes tt refl
kind_of Minus = goes tt refl
kind_of MinusOne = goes tt refl
kind_of Count = goes tt refl
kind_of CountEnd = goes tt refl
kind_of Bulk = goes tt refl
kind_of Length = goes tt refl
kind_of LengthEnd = goes tt refl
kind_of Body = goes tt refl
kind_of BodyEnd = goes tt refl
kind_of Line = goes tt refl
kind_of (Faulty fault at) = breaks fault at refl
kind_of Lost = loses refl

-- a decoder that goes on is reading, and only at the start it isn't within a message
going_at : (t : Stage) (ms : List Message) (digits value left sum want : ℕ) (words : List Bytes) (word : Bytes) → IsGoing t →
    (s : State) × (at_stage t ms digits value left sum want words word ≡ reading ms s) × ((t ≡ Start → ⊥) → IsInside s)
going_at Start ms digits value left sum want words word g = (_, refl, λ n. absurd (n refl))
going_at Star ms digits value left sum want words word g = (_, refl, λ n. tt)
going_at Minus ms digits value left sum want words word g = (_, refl, λ n. tt)
going_at MinusOne ms digits value left sum want words word g = (_, refl, λ n. tt)
going_at Count ms digits value left sum want words word g = (_, refl, λ n. tt)
going_at CountEnd ms digits value left sum want words word g = (_, refl, λ n. tt)
going_at Bulk ms digits value left sum want words word g = (_, refl, λ n. tt)
going_at Length ms digits value left sum want words word g = (_, refl, λ n. tt)
going_at LengthEnd ms digits value left sum want words word g = (_, refl, λ n. tt)
going_at Body ms digits value left sum want words word g = (_, refl, λ n. tt)
going_at BodyEnd ms digits value left sum want words word g = (_, refl, λ n. tt)
going_at Line ms digits value left sum want words word g = (_, refl, λ n. tt)
going_at (Faulty fault at) ms digits value left sum want words word g = absurd g
going_at Lost ms digits value left sum want words word g = absurd g

pub reading_of : (d : Decoder) (fed : Bytes) (given : List Message) → IsGoing d.stage → Stands d fed given →
    (s : State) × WhileReading true d.fed (given ++ d.ready.items) s fed × ((d.stage ≡ Start → ⊥) → IsInside s)
reading_of d fed given g m =
    let s = going_at d.stage d.ready.items d.digits d.value d.left d.sum d.want d.words d.word.items g in
    (s.0, subst (λ (r : Reader). Means true d.fed (prefixed given r) fed) s.1 m, s.2)

at_its_stage : (d : Decoder) (t : Stage) → d.stage ≡ t → reader_of d ≡ at_stage t d.ready.items d.digits d.value d.left d.sum d.want d.words d.word.items
at_its_stage d t is = ap (λ (t : Stage). at_stage t d.ready.items d.digits d.value d.left d.sum d.want d.words d.word.items) is

broken_of : (d : Decoder) (fed : Bytes) (given : List Message) (fault : Fault) (at : ℕ) → d.stage ≡ Faulty fault at → Stands d fed given → AfterFault true (given ++ d.ready.items) (fault_of fault) at fed
broken_of d fed given fault at is m = subst (λ (r : Reader). Means true d.fed (prefixed given r) fed) (at_its_stage d (Faulty fault at) is) m

lost_of : (d : Decoder) (fed : Bytes) (given : List Message) → d.stage ≡ Lost → Stands d fed given → AfterLoss true (given ++ d.ready.items) fed
lost_of d fed given is m = subst (λ (r : Reader). Means true d.fed (prefixed given r) fed) (at_its_stage d Lost is) m

-- ---- more bytes

-- out of memory; n is the count of bytes that the decoder comes to
byte_lost : (d e : Decoder) (fed more : Bytes) (given : List Message) (n : ℕ) → 1 ≤ length more → IsGoing d.stage → e.stage ≡ Lost → e.ready.items ≡ d.ready.items → Stands d fed given →
    Means true n (prefixed given (reader_of e)) (fed ++ more)
byte_lost d e fed more given n some g is ready m =
    let a = reading_of d fed given g m in
    subst (λ (r : Reader). Means true n (prefixed given r) (fed ++ more)) (sym (at_its_stage e Lost is))
    (subst (λ (l : List Message). AfterLoss true (given ++ l) (fed ++ more)) (sym ready) (loss_of true d.fed (given ++ d.ready.items) a.0 fed more some a.1))

pub take_one : (xs : Bytes) → 0 < length xs → take 1 xs ≡ get_or xs 0 0 ∷ []
take_one [] h = absurd (omega arith)
take_one (c ∷ cs) h = refl

-- whether memory is gone
kept_or : (P : Type 0) (t : Stage) → (t ≡ Lost → P) → ((t ≡ Lost → ⊥) → P) → P
kept_or P t gone kept = by_kind (kind_of t) where
  by_kind : Kind t → P
  by_kind (goes g n) = kept (λ is. subst (λ (s : Stage). IsGoing s) is g)
  by_kind (breaks fault at is) = kept (λ gone_too. let both : Faulty fault at ≡ Lost = sym is ∙ gone_too in cc)
  by_kind (loses is) = gone is

-- one byte more; the decoder counts it afterwards
pub byte_stands : (d e : Decoder) (fed : Bytes) (given : List Message) (c : ℕ) (xs : Bytes) → xs ≡ c ∷ [] → IsGoing d.stage → (NotLost e → reader_of e ≡ reader_step true d.fed (reader_of d) c) →
    (e.stage ≡ Lost → e.ready.items ≡ d.ready.items) → e.fed ≡ d.fed → Stands d fed given → Means true (e.fed + 1) (prefixed given (reader_of e)) (fed ++ xs)
byte_stands d e fed given c xs one g state gone count m =
    subst (λ (l : Bytes). Means true (e.fed + 1) (prefixed given (reader_of e)) (fed ++ l)) (sym one)
    (kept_or (Means true (e.fed + 1) (prefixed given (reader_of e)) (fed ++ c ∷ [])) e.stage
    (λ is. byte_lost d e fed (c ∷ []) given (e.fed + 1) (omega arith) g is (gone is) m)
    (λ kept.
    subst (λ (r : Reader). Means true (e.fed + 1) (prefixed given r) (fed ++ c ∷ [])) (sym (state kept))
    (subst (λ (r : Reader). Means true (e.fed + 1) r (fed ++ c ∷ [])) (sym (prefixed_step true d.fed given (reader_of d) c))
    (subst (λ (n : ℕ). Means true (n + 1) (reader_step true d.fed (prefixed given (reader_of d)) c) (fed ++ c ∷ [])) (sym count)
    (means_step true d.fed (prefixed given (reader_of d)) c fed m)))))

-- the bytes of a bulk, of which there are n
pub body_stands : (d e : Decoder) (fed : Bytes) (given : List Message) (xs : Bytes) (n : ℕ) → length xs ≡ n → 0 < n → d.stage ≡ Body → n ≤ d.want →
    (NotLost e → reader_of e ≡ reading d.ready.items (body d.left d.sum d.words (d.want - n) (d.word.items ++ xs))) →
    (e.stage ≡ Lost → e.ready.items ≡ d.ready.items) → e.fed ≡ d.fed + n → Stands d fed given → Stands e (fed ++ xs) given
body_stands d e fed given xs n is some stage within state gone count m =
    let going : IsGoing d.stage = subst (λ (t : Stage). IsGoing t) (sym stage) tt in
    let a : WhileReading true d.fed (given ++ d.ready.items) (body d.left d.sum d.words d.want d.word.items) fed =
    subst (λ (r : Reader). Means true d.fed (prefixed given r) fed) (at_its_stage d Body stage) m in
    let le : length xs ≤ d.want = subst (λ (i : ℕ). i ≤ d.want) (sym is) within in
    let more = subst (λ (i : ℕ). WhileReading true (d.fed + i) (given ++ d.ready.items) (body d.left d.sum d.words (d.want - i) (d.word.items ++ xs)) (fed ++ xs)) is
    (reading_body true d.fed (given ++ d.ready.items) d.left d.sum d.words d.want d.word.items fed xs le a) in
    kept_or (Stands e (fed ++ xs) given) e.stage
    (λ is_lost. byte_lost d e fed xs given e.fed (omega arith) going is_lost (gone is_lost) m)
    (λ kept.
    subst (λ (r : Reader). Means true e.fed (prefixed given r) (fed ++ xs)) (sym (state kept))
    (subst (λ (n' : ℕ). Means true n' (reading (given ++ d.ready.items) (body d.left d.sum d.words (d.want - n) (d.word.items ++ xs))) (fed ++ xs)) (sym count) more))

-- a whole bulk, of n bytes; the decoder counts them afterwards
pub bulk_stands : (d e : Decoder) (fed : Bytes) (given : List Message) (xs word : Bytes) (n : ℕ) → length xs ≡ n → d.stage ≡ Bulk → IsBulk xs word → d.sum + length word ≤ max_message_bytes →
    (NotLost e → reader_of e ≡ taken d.fed d.ready.items (after_bulk d.left (d.sum + length word) (d.words ++ word ∷ []))) →
    (e.stage ≡ Lost → e.ready.items ≡ d.ready.items) → e.fed ≡ d.fed → Stands d fed given → Means true (e.fed + n) (prefixed given (reader_of e)) (fed ++ xs)
bulk_stands d e fed given xs word n is stage whole few state gone count m =
    let going : IsGoing d.stage = subst (λ (t : Stage). IsGoing t) (sym stage) tt in
    let ms = given ++ d.ready.items in
    let sum = d.sum + length word in
    let ws = d.words ++ word ∷ [] in
    let a : WhileReading true d.fed ms (bulk d.left d.sum d.words) fed = subst (λ (r : Reader). Means true d.fed (prefixed given r) fed) (at_its_stage d Bulk stage) m in
    let b = whole d.left d.sum d.words few in
    let at = d.fed + length b.0 in
    let ended = means_step true at (reading ms (body_end d.left sum d.words word)) 10 (fed ++ b.0)
    (leads_reading d.fed ms (bulk d.left d.sum d.words) (body_end d.left sum d.words word) fed b.0 b.2 a) in
    let all : (fed ++ b.0) ++ 10 ∷ [] ≡ fed ++ xs = append_assoc fed b.0 (10 ∷ []) ∙ ap (λ (l : Bytes). fed ++ l) (sym b.1) in
    let bytes : length b.0 + 1 ≡ n = sym (length-append b.0 (10 ∷ [])) ∙ ap length (sym b.1) ∙ is in
    let place : at + 1 ≡ e.fed + n = omega arith in
    let after : Means true (e.fed + n) (taken at ms (after_bulk d.left sum ws)) (fed ++ xs) =
    subst (λ (i : ℕ). Means true i (taken at ms (after_bulk d.left sum ws)) (fed ++ xs)) place
    (subst (λ (l : Bytes). Means true (at + 1) (taken at ms (after_bulk d.left sum ws)) l) all ended) in
    kept_or (Means true (e.fed + n) (prefixed given (reader_of e)) (fed ++ xs)) e.stage
    (λ is_lost. byte_lost d e fed xs given (e.fed + n) (omega arith) going is_lost (gone is_lost) m)
    (λ kept.
    subst (λ (r : Reader). Means true (e.fed + n) (prefixed given r) (fed ++ xs)) (sym (state kept))
    (subst (λ (r : Reader). Means true (e.fed + n) r (fed ++ xs)) (behind_bulk d.left sum ws given d.ready.items at d.fed) after)) where
      -- no fault comes here, so the place says nothing
      behind_bulk : (l sum : ℕ) (ws : List Bytes) (given ms : List Message) (i j : ℕ) → taken i (given ++ ms) (after_bulk l sum ws) ≡ prefixed given (taken j ms (after_bulk l sum ws))
      behind_bulk zero sum ws given ms i j = ap (λ (all : List Message). reading all start) (append_assoc given ms (worded ws))
      behind_bulk (suc l) sum ws given ms i j = refl

-- After a fault, and after want of memory, what comes later is not looked at.
pub stays : (d : Decoder) (fed more : Bytes) (given : List Message) → (IsGoing d.stage → ⊥) → Stands d fed given → Stands d (fed ++ more) given
stays d fed more given g m = by_kind (kind_of d.stage) where
  by_kind : Kind d.stage → Stands d (fed ++ more) given
  by_kind (goes going n) = absurd (g going)
  by_kind (breaks fault at is) =
      subst (λ (r : Reader). Means true d.fed (prefixed given r) (fed ++ more)) (sym (at_its_stage d (Faulty fault at) is))
      (fault_more true (given ++ d.ready.items) (fault_of fault) at fed more (broken_of d fed given fault at is m))
  by_kind (loses is) =
      subst (λ (r : Reader). Means true d.fed (prefixed given r) (fed ++ more)) (sym (at_its_stage d Lost is))
      (loss_more true (given ++ d.ready.items) fed more (lost_of d fed given is m))

-- ---- what feed's answer says

pub feed_means : (d : Decoder) (result : Result (Unit {0}) FeedError) (fed : Bytes) (given : List Message) → result ≡ answer_of (failure_at d.stage) → Stands d fed given → FeedMeans fed result
feed_means d result fed given is m = subst (λ (r : Result (Unit {0}) FeedError). FeedMeans fed r) (sym is) (by_kind (kind_of d.stage)) where
  by_kind : Kind d.stage → FeedMeans fed (answer_of (failure_at d.stage))
  by_kind (goes g none) =
      let a = reading_of d fed given g m in
      subst (λ (o : Option FeedError). FeedMeans fed (answer_of o)) (sym none) (reading_begins true d.fed (given ++ d.ready.items) a.0 fed a.1)
  by_kind (breaks fault at at_fault) =
      subst (λ (t : Stage). FeedMeans fed (answer_of (failure_at t))) (sym at_fault)
      (fault_place true (given ++ d.ready.items) (fault_of fault) at fed (broken_of d fed given fault at at_fault m))
  by_kind (loses at_loss) = subst (λ (t : Stage). FeedMeans fed (answer_of (failure_at t))) (sym at_loss) tt

-- ---- what next's answer says

given_all : (d : Decoder) (fed : Bytes) (given : List Message) → (failure_at d.stage ≡ Some NoMemory → ⊥) → Stands d fed given → GivenAll true fed (given ++ d.ready.items)
given_all d fed given f m = by_kind (kind_of d.stage) where
  by_kind : Kind d.stage → GivenAll true fed (given ++ d.ready.items)
  by_kind (goes g none) = let a = reading_of d fed given g m in reading_all true d.fed (given ++ d.ready.items) a.0 fed a.1
  by_kind (breaks fault at is) = fault_all true (given ++ d.ready.items) (fault_of fault) at fed (broken_of d fed given fault at is m)
  by_kind (loses is) = absurd (f (ap failure_at is))

no_memory_lost : (t : Stage) → failure_at t ≡ Some NoMemory → t ≡ Lost
no_memory_lost t f = by_kind (kind_of t) where
  by_kind : Kind t → t ≡ Lost
  by_kind (goes g none) = let both : None ≡ Some NoMemory = sym none ∙ f in cc
  by_kind (breaks fault at is) = let both : Some (Protocol fault at) ≡ Some NoMemory = sym (ap failure_at is) ∙ f in cc
  by_kind (loses is) = is

-- what was given, with what of that which is ready, is a prefix of the messages
pub given_first : (d : Decoder) (fed : Bytes) (given more later : List Message) → d.ready.items ≡ more ++ later → Stands d fed given → GivenFirst true fed (given ++ more)
given_first d fed given more later ready m =
    let all : given ++ d.ready.items ≡ (given ++ more) ++ later = ap (λ (l : List Message). given ++ l) ready ∙ sym (append_assoc given more later) in
    kept_or (GivenFirst true fed (given ++ more)) d.stage
    (λ is. loss_first true (given ++ more) later fed (subst (λ (l : List Message). AfterLoss true l fed) all (lost_of d fed given is m)))
    (λ kept. all_first true (given ++ more) later fed (subst (λ (l : List Message). GivenAll true fed l) all (given_all d fed given (λ f. kept (no_memory_lost d.stage f)) m)))

-- nothing is ready
pub next_all : (d : Decoder) (fed : Bytes) (given : List Message) (r : Option Message) → IfNone r (d.ready.items ≡ []) → (failure_at d.stage ≡ Some NoMemory → ⊥) → Stands d fed given → IfNone r (GivenAll true fed given)
next_all d fed given None none f m =
    let all : given ++ d.ready.items ≡ given = ap (λ (l : List Message). given ++ l) none ∙ append-nil given in
    subst (λ (l : List Message). GivenAll true fed l) all (given_all d fed given f m)
next_all d fed given (Some message) none f m = tt

-- one message is handed out
prefixed_at : (t : Stage) (given ms : List Message) (digits value left sum want : ℕ) (words : List Bytes) (word : Bytes) →
    prefixed given (at_stage t ms digits value left sum want words word) ≡ at_stage t (given ++ ms) digits value left sum want words word
prefixed_at Start given ms digits value left sum want words word = refl
prefixed_at Star given ms digits value left sum want words word = refl
prefixed_at Minus given ms digits value left sum want words word = refl
prefixed_at MinusOne given ms digits value left sum want words word = refl
prefixed_at Count given ms digits value left sum want words word = refl
prefixed_at CountEnd given ms digits value left sum want words word = refl
prefixed_at Bulk given ms digits value left sum want words word = refl
prefixed_at Length given ms digits value left sum want words word = refl
prefixed_at LengthEnd given ms digits value left sum want words word = refl
prefixed_at Body given ms digits value left sum want words word = refl
prefixed_at BodyEnd given ms digits value left sum want words word = refl
prefixed_at Line given ms digits value left sum want words word = refl
prefixed_at (Faulty fault at) given ms digits value left sum want words word = refl
prefixed_at Lost given ms digits value left sum want words word = refl

pub next_stands : (d e : Decoder) (fed : Bytes) (given more : List Message) → e.stage ≡ d.stage → e.digits ≡ d.digits → e.value ≡ d.value → e.left ≡ d.left → e.sum ≡ d.sum → e.want ≡ d.want →
    e.words ≡ d.words → e.word.items ≡ d.word.items → d.ready.items ≡ more ++ e.ready.items → e.fed ≡ d.fed → Stands d fed given → Stands e fed (given ++ more)
next_stands d e fed given more stage digits value left sum want words word ready count m =
    let all : given ++ d.ready.items ≡ (given ++ more) ++ e.ready.items = ap (λ (l : List Message). given ++ l) ready ∙ sym (append_assoc given more e.ready.items) in
    let a : prefixed given (reader_of d) ≡ at_stage d.stage (given ++ d.ready.items) d.digits d.value d.left d.sum d.want d.words d.word.items = prefixed_at d.stage given d.ready.items d.digits d.value d.left d.sum d.want d.words d.word.items in
    let b : prefixed (given ++ more) (reader_of e) ≡ at_stage e.stage ((given ++ more) ++ e.ready.items) e.digits e.value e.left e.sum e.want e.words e.word.items = prefixed_at e.stage (given ++ more) e.ready.items e.digits e.value e.left e.sum e.want e.words e.word.items in
    let same : prefixed given (reader_of d) ≡ prefixed (given ++ more) (reader_of e) = cc in
    subst (λ (n : ℕ). Means true n (prefixed (given ++ more) (reader_of e)) fed) (sym count)
    (subst (λ (r : Reader). Means true d.fed r fed) same m)

-- ---- the border

pub border_inside : (d : Decoder) (fed : Bytes) (given : List Message) → (d.stage ≡ Start → ⊥) → (failure_at d.stage ≡ Some NoMemory → ⊥) → Stands d fed given → IsStream true fed → ⊥
border_inside d fed given s f m i = by_kind (kind_of d.stage) where
  by_kind : Kind d.stage → ⊥
  by_kind (goes g none) = let a = reading_of d fed given g m in reading_inside true d.fed (given ++ d.ready.items) a.0 fed (a.2 s) a.1 i
  by_kind (breaks fault at is) = fault_inside true (given ++ d.ready.items) (fault_of fault) at fed (broken_of d fed given fault at is m) i
  by_kind (loses is) = f (ap failure_at is)

pub border_start : (d : Decoder) (fed : Bytes) (given : List Message) → d.stage ≡ Start → Stands d fed given → IsStream true fed
border_start d fed given is m = reading_start true d.fed (given ++ d.ready.items) fed (subst (λ (r : Reader). Means true d.fed (prefixed given r) fed) (at_its_stage d Start is) m)

-- ---- pieces of a piece

pub joined : (fed p : Bytes) (at n : ℕ) → (fed ++ take at p) ++ take n (drop at p) ≡ fed ++ take (at + n) p
joined fed p at n = append_assoc fed (take at p) (take n (drop at p)) ∙ ap (λ (l : Bytes). fed ++ l) (sym (take-add at n p))

pub more_taken : (d e : Decoder) (fed p rest : Bytes) (given : List Message) (at n : ℕ) → rest ≡ drop at p →
    ((fed : Bytes) (given : List Message) → Stands d fed given → Stands e (fed ++ take n rest) given) → Stands d (fed ++ take at p) given → Stands e (fed ++ take (at + n) p) given
more_taken d e fed p rest given at n is f s =
    subst (λ (l : Bytes). Stands e l given) (ap (λ (l : Bytes). (fed ++ take at p) ++ take n l) is ∙ joined fed p at n) (f (fed ++ take at p) given s)

pub all_taken : (d : Decoder) (fed p : Bytes) (given : List Message) (n : ℕ) → (IsGoing d.stage → ⊥) → Stands d (fed ++ take n p) given → Stands d (fed ++ p) given
all_taken d fed p given n g s =
    subst (λ (l : Bytes). Stands d l given) (append_assoc fed (take n p) (drop n p) ∙ ap (λ (l : Bytes). fed ++ l) (take-append-drop n p)) (stays d (fed ++ take n p) (drop n p) given g s)

-- nothing is ready, and memory was refused
pub next_before : (d : Decoder) (fed : Bytes) (given : List Message) (r : Option Message) → IfNone r (d.ready.items ≡ []) → failure_at d.stage ≡ Some NoMemory → Stands d fed given → IfNone r (GivenBefore true fed given)
next_before d fed given None none f m =
    let all : given ++ d.ready.items ≡ given = ap (λ (l : List Message). given ++ l) none ∙ append-nil given in
    subst (λ (l : List Message). GivenBefore true fed l) all (loss_before true (given ++ d.ready.items) fed (lost_of d fed given (no_memory_lost d.stage f) m))
next_before d fed given (Some message) none f m = tt
