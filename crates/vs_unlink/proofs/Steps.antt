-- One more pair is looked at.
use Rattle.std.proofs.Common.{◌≡◌, ℕ, ◌+◌, ◌<◌, true, false, List, [], ◌∷◌, ◌++◌, length, get_or, take, map, sym, ap, ◌∙◌}
use Rattle.std.specs.List.{list_any}
use Rattle.std.proofs.lemmas.List.{take_more, map-append}
use Rattle.std.proofs.lemmas.List.Sums.{fold-append}
use Rattle.std.proofs.lemmas.Bool.{cond-true, cond-false}
use Rattle.vs_unlink.specs.declared.Pair.{Pair}
use Rattle.vs_unlink.specs.Pairs.{share, take_pair, matched}

pub matched_more : {X : Type 0} (f : X → Pair) (xs : List X) (i : ℕ) (d : X) → i < length xs → matched (map f (take (i + 1) xs)) ≡ take_pair (matched (map f (take i xs))) (f (get_or xs i d))
matched_more f xs i d h =
    ap (λ l. matched (map f l)) (take_more xs i d h) ∙ ap matched (map-append f (take i xs) (get_or xs i d ∷ [])) ∙ fold-append take_pair [] (map f (take i xs)) (f (get_or xs i d) ∷ [])

pub step_taken : {X : Type 0} (f : X → Pair) (xs : List X) (i : ℕ) (d : X) (added : List Pair) (p : Pair) → i < length xs → added ≡ matched (map f (take i xs)) → p ≡ f (get_or xs i d) → list_any (λ q. share q p) added ≡ true
    → added ≡ matched (map f (take (i + 1) xs))
step_taken f xs i d added p h was e taken =
    sym (cond-true (list_any (λ q. share q p) added) added (added ++ p ∷ []) taken) ∙ ap (take_pair added) e ∙ ap (λ l. take_pair l (f (get_or xs i d))) was ∙ sym (matched_more f xs i d h)

pub step_free : {X : Type 0} (f : X → Pair) (xs : List X) (i : ℕ) (d : X) (added next : List Pair) (p : Pair) → i < length xs → added ≡ matched (map f (take i xs)) → p ≡ f (get_or xs i d) → list_any (λ q. share q p) added ≡ false
    → next ≡ added ++ p ∷ [] → next ≡ matched (map f (take (i + 1) xs))
step_free f xs i d added next p h was e free made =
    made ∙ sym (cond-false (list_any (λ q. share q p) added) added (added ++ p ∷ []) free) ∙ ap (take_pair added) e ∙ ap (λ l. take_pair l (f (get_or xs i d))) was ∙ sym (matched_more f xs i d h)
