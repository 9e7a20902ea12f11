-- What a caller of a decoder makes of its clauses: how the input ends, with its messages.
use Rattle.std.proofs.Common.{◌≡◌, ℕ, Bool, List, refl, subst}
use Rattle.vs_defs.specs.Bytes.{Bytes}
use Rattle.vs_defs.specs.Stream.{Message, Fault, End, Border, Within, Broken, Splits, with_words, place_in}
use Rattle.vs_stream.specs.Place.{IsStream, BeginsStream, HasFault}
use Rattle.vs_stream.specs.Given.{GivenAll}
use Rattle.vs_defs.proofs.StreamLaws.{splits_once}
use Rattle.vs_stream.proofs.Place.{begins_no_fault}

-- the input ends so, and these are its messages that have a word
abbrev pub EndsSo : Bool → Bytes → List Message → End → Type 0
EndsSo lines fed given e = (ms : List Message) × Splits lines fed ms e × (with_words ms ≡ given)

-- all is given and the input is whole messages
pub ends_border : (lines : Bool) (fed : Bytes) (given : List Message) → GivenAll lines fed given → IsStream lines fed → EndsSo lines fed given Border
ends_border lines fed given g s = (g.0, subst (λ (e : End). Splits lines fed g.0 e) (splits_once lines fed g.0 s.0 g.1 Border g.2 s.1).1 g.2, g.3)

within_by : (lines : Bool) (fed : Bytes) (given : List Message) (ms : List Message) (e : End) → Splits lines fed ms e → with_words ms ≡ given → BeginsStream lines fed → (IsStream lines fed → ⊥) → EndsSo lines fed given Within
within_by lines fed given ms Border h w b n = absurd (n (ms, h))
within_by lines fed given ms Within h w b n = (ms, h, w)
within_by lines fed given ms (Broken f rest) h w b n = absurd (begins_no_fault lines fed f (place_in fed rest) b (ms, rest, h, refl))

-- all is given, there is no fault, and the input isn't whole messages
pub ends_within : (lines : Bool) (fed : Bytes) (given : List Message) → GivenAll lines fed given → BeginsStream lines fed → (IsStream lines fed → ⊥) → EndsSo lines fed given Within
ends_within lines fed given g b n = within_by lines fed given g.0 g.1 g.2 g.3 b n

-- all before a fault is given
pub ends_broken_at : (lines : Bool) (fed : Bytes) (given : List Message) (f : Fault) (at : ℕ) → GivenAll lines fed given → HasFault lines fed f at →
    (rest : Bytes) × EndsSo lines fed given (Broken f rest) × (at ≡ place_in fed rest)
ends_broken_at lines fed given f at g h =
    (h.1, (g.0, subst (λ (e : End). Splits lines fed g.0 e) (splits_once lines fed g.0 h.0 g.1 (Broken f h.1) g.2 h.2).1 g.2, g.3), h.3)
