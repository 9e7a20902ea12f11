-- What a decoder stands for.
use Rattle.std.specs.Prelude.{◌≡◌, ℕ, true, List, length, Result, Ok, Err, Option, Some, None}
use Rattle.vs_resp.specs.declared.Decoder.{Decoder}
use Rattle.vs_resp.specs.declared.Stage.{Stage}
use Rattle.vs_resp.specs.declared.Stage.TheVariants.{Start, Star, Minus, MinusOne, Count, CountEnd, Bulk, Length, LengthEnd, Body, BodyEnd, Line, Faulty, Lost}
use Rattle.vs_resp.specs.declared.Fault.{Fault}
use Rattle.vs_resp.specs.declared.Fault.TheVariants.{BadCount, CountTooLarge, ExpectedBulk, BadLength, LengthTooLarge, MessageTooLarge, BadEnd, InlineTooLong}
use Rattle.vs_resp.specs.declared.FeedError.{FeedError}
use Rattle.vs_resp.specs.declared.FeedError.TheVariants.{NoMemory, Protocol}
use Rattle.vs_defs.specs.Bytes.{Bytes}
use Rattle.vs_defs.specs.Stream as stream
use Rattle.vs_defs.specs.Stream.{Message}
use Rattle.vs_stream.specs.Machine.{start, star, minus, minus_one, count, count_end, bulk, len, len_end, body, body_end, line}
use Rattle.vs_stream.specs.Reader.{Reader, reading, broken, lost, Means, prefixed}
use Rattle.vs_stream.specs.Place.{HasFault, BeginsStream}

-- the definitions' fault
abbrev pub fault_of : Fault → stream.Fault
fault_of BadCount = stream.BadCount
fault_of CountTooLarge = stream.CountTooLarge
fault_of ExpectedBulk = stream.ExpectedBulk
fault_of BadLength = stream.BadLength
fault_of LengthTooLarge = stream.LengthTooLarge
fault_of MessageTooLarge = stream.MessageTooLarge
fault_of BadEnd = stream.BadEnd
fault_of InlineTooLong = stream.InlineTooLong

abbrev pub at_stage : Stage → List Message → ℕ → ℕ → ℕ → ℕ → ℕ → List Bytes → Bytes → Reader
at_stage Start ms digits value left sum want words word = reading ms start
at_stage Star ms digits value left sum want words word = reading ms star
at_stage Minus ms digits value left sum want words word = reading ms minus
at_stage MinusOne ms digits value left sum want words word = reading ms minus_one
at_stage Count ms digits value left sum want words word = reading ms (count digits value)
at_stage CountEnd ms digits value left sum want words word = reading ms (count_end value)
at_stage Bulk ms digits value left sum want words word = reading ms (bulk left sum words)
at_stage Length ms digits value left sum want words word = reading ms (len left sum words digits value)
at_stage LengthEnd ms digits value left sum want words word = reading ms (len_end left sum words value)
at_stage Body ms digits value left sum want words word = reading ms (body left sum words want word)
at_stage BodyEnd ms digits value left sum want words word = reading ms (body_end left sum words word)
at_stage Line ms digits value left sum want words word = reading ms (line value words word)
at_stage (Faulty fault at) ms digits value left sum want words word = broken ms (fault_of fault) at
at_stage Lost ms digits value left sum want words word = lost ms

abbrev pub reader_of : Decoder → Reader
reader_of d = at_stage d.stage d.ready.items d.digits d.value d.left d.sum d.want d.words d.word.items

abbrev pub NotLost : Decoder → Type 0
NotLost d = d.stage ≡ Lost → ⊥

abbrev pub IsGoing : Stage → Type 0
IsGoing Start = Unit {0}
IsGoing Star = Unit {0}
IsGoing Minus = Unit {0}
IsGoing MinusOne = Unit {0}
IsGoing Count = Unit {0}
IsGoing CountEnd = Unit {0}
IsGoing Bulk = Unit {0}
IsGoing Length = Unit {0}
IsGoing LengthEnd = Unit {0}
IsGoing Body = Unit {0}
IsGoing BodyEnd = Unit {0}
IsGoing Line = Unit {0}
IsGoing (Faulty fault at) = ⊥
IsGoing Lost = ⊥

-- These bytes were fed, and these messages were given so far.
abbrev pub Stands : Decoder → Bytes → List Message → Type 0
Stands d fed given = Means true d.fed (prefixed given (reader_of d)) fed

-- the error that each feed answers from now on, if there is one
abbrev pub failure_at : Stage → Option FeedError
failure_at Start = None
failure_at Star = None
failure_at Minus = None
failure_at MinusOne = None
failure_at Count = None
failure_at CountEnd = None
failure_at Bulk = None
failure_at Length = None
failure_at LengthEnd = None
failure_at Body = None
failure_at BodyEnd = None
failure_at Line = None
failure_at (Faulty fault at) = Some (Protocol fault at)
failure_at Lost = Some NoMemory

abbrev pub failure : Decoder → Option FeedError
failure d = failure_at d.stage

abbrev pub answer_of : Option FeedError → Result (Unit {0}) FeedError
answer_of None = Ok tt
answer_of (Some error) = Err error

-- how many bytes were taken, at most as many as were fed
abbrev pub bytes_taken : Decoder → ℕ
bytes_taken d = d.fed

-- what feed's answer says of all bytes fed
abbrev pub FeedMeans : Bytes → Result (Unit {0}) FeedError → Type 0
FeedMeans fed (Ok u) = BeginsStream true fed
FeedMeans fed (Err (Protocol fault at)) = HasFault true fed (fault_of fault) at
FeedMeans fed (Err NoMemory) = Unit {0}

-- how many messages are ready to be given
abbrev pub ready_count : Decoder → ℕ
ready_count d = length d.ready.items
