-- What one accept does, and the links that a listener tells: those given and those closed, each in order. A link is its two ends.
use Rattle.std.specs.Prelude.{◌≡◌, ◌+◌, ◌-◌, ◌^◌, ◌<◌, ◌≤◌, min, ℕ, List, [], ◌∷◌, ◌++◌, length, Option, IfSome, option_map}
use Rattle.vs_outside.specs.declared.listener.Accepted.{Accepted}
use Rattle.vs_outside.specs.declared.listener.Accepted.TheVariants.{Link, Failed}

-- the links with one more, where they are told
abbrev pub with_link : {I O : Type 0} → I → O → Option (List (I × O)) → Option (List (I × O))
with_link i o links = option_map (λ xs. xs ++ (i, o) ∷ []) links

-- what the accept answered, the links given before it, and those given then
abbrev pub Accepts : {I O : Type 0} → Accepted I O → Option (List (I × O)) → Option (List (I × O)) → Type 0
Accepts (Link i o) before after = after ≡ with_link i o before
Accepts Failed before after = after ≡ before

-- the count of faults rose, or is at the greatest count, where it tells nothing more
abbrev pub Rose : ℕ → ℕ → Type 0
Rose before after = (before ≤ after) × (min (before + 1) (2 ^ 64 - 1) ≤ after)

-- what the accept answered, the count of faults before it, and the count then
abbrev pub CountsFault : {I O : Type 0} → Accepted I O → ℕ → ℕ → Type 0
CountsFault (Link i o) before after = after ≡ before
CountsFault Failed before after = Rose before after

-- where the listener tells its links, no more were closed than given
pub record IsOrdered {L : Type 0} (given closed : Option (List L)) : Type 0 where
  pub no_more : IfSome given (λ g. IfSome closed (λ c. length c ≤ length g))

-- where the listener tells its links, fewer were closed than given
abbrev pub HasOpen : {L : Type 0} → Option (List L) → Option (List L) → Type 0
HasOpen given closed = IfSome given (λ g. IfSome closed (λ c. length c < length g))
