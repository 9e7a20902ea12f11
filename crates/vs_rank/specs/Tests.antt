-- What a test of attributes answers.
--     Attribute               an attribute, which may be absent
--     GivesAt post            what a call at an attribute may answer, from what a closure's call ensures
--     Answers gives passes    each answer at an attribute is the predicate's
--     AnswersOne gives        the answers are those of one predicate
use Rattle.std.specs.Prelude.{◌≡◌, Bool, Option}
use Rattle.std.specs.Option.{option_copied}
use Rattle.vs_defs.specs.Bytes.{Bytes}
use denote.Ref.{Bor}

abbrev pub Attribute : Type 0
Attribute = Option Bytes

abbrev pub GivesAt : (Option (Bor Bytes) → Bool → Type 0) → Attribute → Bool → Type 0
GivesAt post attr answer = (shown : Option (Bor Bytes)) × (option_copied shown ≡ attr) × post shown answer

abbrev pub Answers : (Attribute → Bool → Type 0) → (Attribute → Bool) → Type 0
Answers gives passes = (attr : Attribute) (answer : Bool) → gives attr answer → answer ≡ passes attr

abbrev pub AnswersOne : (Attribute → Bool → Type 0) → Type 0
AnswersOne gives = ∥ ((passes : Attribute → Bool) × Answers gives passes) ∥₁
