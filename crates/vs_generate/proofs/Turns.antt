-- A turn of the loop that adds the generated members.
--     placed         where a generator is, by its own number
--     placed_first   at its beginning
--     turned         what it hands out, and where it is then
--     turned_by, ended_by     the same by what a call answers
--     grown_next     the store with this member
use Rattle.std.proofs.Common.{◌≡◌, ℕ, suc, ◌+◌, ◌<◌, List, Option, Some, None, pos, sym, ap, ap₂, ◌∙◌, subst, arith}
use Rattle.rand_pcg.specs.Lcg.{Lcg}
use Rattle.vs_defs.specs.Bounds.{IsFrom}
use Rattle.vs_defs.specs.Bytes.{Bytes}
use Rattle.vs_defs.specs.Request as request
use Rattle.vs_defs.specs.Store.{Set, Store}
use Rattle.vs_session_defs.specs.Words.{generator, drawn, after_draws}
use Rattle.vs_random_words.proofs.Drawn.{after_push}
use Rattle.vs_thread_defs.specs.Generator.{generated_words}
use Rattle.vs_gen.specs.Generated.{Generating, at, IsNext}
use Rattle.vs_generate.specs.Grown.{AddsOne, IsGrown}
use Rattle.vs_generate.proofs.Growing.{grows}

pub placed : (seed members dim i : ℕ) (g : Generating) → g ≡ at seed members dim i → (g.next ≡ i) × (g ≡ at seed members dim g.next)
placed seed members dim i g e =
    let next : g.next ≡ i = ap (λ (x : Generating). x.next) e in
    (next, e ∙ ap (at seed members dim) (sym next))

pub turned : (seed members dim : ℕ) (old new : Generating) (words : List Bytes) → old ≡ at seed members dim old.next → IsNext seed old.next old (Some words) new
    → (old.next < members) × (words ≡ generated_words seed dim old.next) × (new.next ≡ old.next + 1) × (new ≡ at seed members dim new.next)
turned seed members dim old new words e n =
    let all : old.members ≡ members = ap (λ (x : Generating). x.members) e in
    let size : old.dim ≡ dim = ap (λ (x : Generating). x.dim) e in
    let is : new ≡ at seed members dim (old.next + 1) = n.2 ∙ ap₂ (λ (m d : ℕ). at seed m d (old.next + 1)) all size in
    let there = placed seed members dim (old.next + 1) new is in
    (subst (λ k. old.next < k) all n.0, n.1 ∙ ap (λ (d : ℕ). generated_words seed d old.next) size, there.0, there.1)

behind : (seed members dim : ℕ) (old new : Generating) (got : Option (List Bytes)) → old ≡ at seed members dim old.next
    → ((s i : ℕ) → old ≡ at s old.members old.dim i → IsNext s i old got new) → IsNext seed old.next old got new
behind seed members dim old new got e next =
    let all : old.members ≡ members = ap (λ (x : Generating). x.members) e in
    let size : old.dim ≡ dim = ap (λ (x : Generating). x.dim) e in
    next seed old.next (e ∙ ap₂ (λ (m d : ℕ). at seed m d old.next) (sym all) (sym size))

-- a member was handed out
pub turned_by : (seed members dim : ℕ) (old new : Generating) (got : Option (List Bytes)) (words : List Bytes) → old ≡ at seed members dim old.next
    → ((s i : ℕ) → old ≡ at s old.members old.dim i → IsNext s i old got new) → got ≡ Some words
    → (old.next < members) × (words ≡ generated_words seed dim old.next) × (new.next ≡ old.next + 1) × (new ≡ at seed members dim new.next)
turned_by seed members dim old new got words e next is =
    turned seed members dim old new words e (subst (λ (g : Option (List Bytes)). IsNext seed old.next old g new) is (behind seed members dim old new got e next))

-- none was left
pub ended_by : (seed members dim : ℕ) (old new : Generating) (got : Option (List Bytes)) → old ≡ at seed members dim old.next
    → ((s i : ℕ) → old ≡ at s old.members old.dim i → IsNext s i old got new) → got ≡ None → old.next ≡ members
ended_by seed members dim old new got e next is =
    let n = subst (λ (g : Option (List Bytes)). IsNext seed old.next old g new) is (behind seed members dim old new got e next) in
    n.0 ∙ ap (λ (x : Generating). x.members) e

one_draw : (i : ℕ) (g : Lcg) → after_draws 1 (after_draws i g) ≡ after_draws (i + 1) g
one_draw i g = let e : i + 1 ≡ suc i = omega arith in sym (ap (λ (n : ℕ). after_draws n g) e ∙ after_push i g)

pub grown_next : (seed dim i next : ℕ) (words : List Bytes) (old new : Store Set) (levels levels' : Lcg) → IsFrom 1 4096 dim
    → words ≡ generated_words seed dim i → next ≡ i + 1 → levels ≡ after_draws i (generator seed 0) → levels' ≡ after_draws 1 levels → IsGrown seed i dim old
    → AddsOne old words (drawn 1 levels) (request.Int (pos 1)) new → (levels' ≡ after_draws next (generator seed 0)) × IsGrown seed next dim new
grown_next seed dim i next words old new levels levels' few words_are next_is drawn_so moved grown added =
    let one = subst (λ (g : Lcg). AddsOne old words (drawn 1 g) (request.Int (pos 1)) new) drawn_so added in
    let same = subst (λ (w : List Bytes). AddsOne old w (drawn 1 (after_draws i (generator seed 0))) (request.Int (pos 1)) new) words_are one in
    let more = grows seed i dim old new (omega (arith, few.0)) (omega (arith, few.1)) grown same in
    let behind = moved ∙ ap (λ (g : Lcg). after_draws 1 g) drawn_so ∙ one_draw i (generator seed 0) ∙ ap (λ (n : ℕ). after_draws n (generator seed 0)) (sym next_is) in
    (behind, subst (λ n. IsGrown seed n dim new) (sym next_is) more)
