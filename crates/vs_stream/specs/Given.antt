-- What callers of a decoder learn of the messages that it has given: all of the input's messages that have a word, or the first of them,
-- or all before the one that it was reading when memory was refused.
use Rattle.std.specs.Prelude.{◌≡◌, ◌≤◌, ◌++◌, Bool, List, length}
use Rattle.vs_defs.specs.Bytes.{Bytes}
use Rattle.vs_defs.specs.Stream.{Message, End, Border, Splits, with_words}

abbrev pub GivenAll : Bool → Bytes → List Message → Type 0
GivenAll lines fed given = (ms : List Message) × (e : End) × Splits lines fed ms e × (with_words ms ≡ given)

abbrev pub GivenFirst : Bool → Bytes → List Message → Type 0
GivenFirst lines fed given = (ms : List Message) × (e : End) × Splits lines fed ms e × ((later : List Message) × (with_words ms ≡ given ++ later))

-- some bytes of a message more were fed
abbrev pub GivenBefore : Bool → Bytes → List Message → Type 0
GivenBefore lines fed given =
    (front : Bytes) × (rest : Bytes) × (ms : List Message) × (fed ≡ front ++ rest) × (1 ≤ length rest) × Splits lines front ms Border × (with_words ms ≡ given)
