-- The entries of a map of changes, as a list.
use Rattle.std.proofs.Common.{◌≡◌, ℕ, ◌==◌, List, [], ◌∷◌, ◌++◌, map, refl, cond, arith, ap, ◌∙◌, sym, append_assoc, append-nil, length, true, false, ◌<◌}
use Rattle.std.specs.Prelude.{Some}
use Rattle.std.specs.declared.option.Option.{Option}
use Rattle.std.specs.Ordering.{nat_cmp}
use Rattle.std.specs.Map.{lookup}
use Rattle.std.specs.BTreeMap.{is_at}
use Rattle.std.proofs.lemmas.Bool.{both_ways}
use Rattle.std.proofs.lemmas.Bool.Decides.{nat_tests}
use Rattle.vs_page.specs.Changes.{says}
use Rattle.vs_page.specs.declared.page_map.Change.{Change}

abbrev pub change_of : {X : Type 0} → ℕ × Option X → Change X
change_of e = record { id = e.0; item = e.1 }

same_test : (k q : ℕ) → (k == q) ≡ is_at (nat_cmp q) k
same_test k q = grind (arith, nat_tests)

pub says_entries : {X : Type 0} (es : List (ℕ × Option X)) (q : ℕ) → says (map change_of es) q ≡ lookup (is_at (nat_cmp q)) es
says_entries [] q = refl
says_entries (e ∷ es) q = λ t. cond (same_test e.0 q t) (Some e.1) (says_entries es q t)

pub one_listed : {X : Type 0} (list more : List (Change X)) (es es' : List (ℕ × Option X)) (e : ℕ × Option X) (all : List (Change X)) → list ++ map change_of es ≡ all → es ≡ e ∷ es' → more ≡ list ++ change_of e ∷ []
    → more ++ map change_of es' ≡ all
one_listed list more es es' e all before is made =
    ap (λ l. l ++ map change_of es') made ∙ append_assoc list (change_of e ∷ []) (map change_of es') ∙ ap (λ l. list ++ map change_of l) (sym is) ∙ before

pub all_listed : {X : Type 0} (list : List (Change X)) (es : List (ℕ × Option X)) (all : List (Change X)) → list ++ map change_of es ≡ all → (0 < length es → false ≡ true) → list ≡ all
all_listed list [] all h none = sym (append-nil list) ∙ h
all_listed list (e ∷ es) all h none = absurd (both_ways false refl (none (omega arith)))
