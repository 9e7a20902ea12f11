-- What is told by the answers to the questions, each of which is given as an equation.
--     facts_by      VINFO of the key
--     found_by      the search for member 0
--     links_by      VLINKS of a member
--     links_more    the links of one member more
use Rattle.std.proofs.Common.{◌≡◌, ℕ, ◌+◌, ◌-◌, Bool, false, List, [], length, get_or, map, Some, codes, subst, arith}
use Rattle.std.proofs.lemmas.List.FromFn.{sum_by-map-range_with_len_more}
use Rattle.vs_command.specs.Answers.{hits_of}
use Rattle.vs_command.specs.declared.answer.NamedHit.{NamedHit}
use Rattle.vs_defs.specs.Answers.{Answers}
use Rattle.vs_defs.specs.Bytes.{Bytes}
use Rattle.vs_defs.specs.Request as request
use Rattle.vs_defs.specs.Request.{Answer, Hit, Info, Request}
use Rattle.vs_defs.specs.Store.{Set, Store, set_of}
use Rattle.vs_thread_defs.specs.Generator.{member_name, search_of_first}
use Rattle.vs_generate.specs.Asked.{FactsOf, FoundFirst, links_below, links_of_name}
use Rattle.vs_generate.proofs.Asks.{facts_of}
use Rattle.vs_generate.proofs.Links.{lowest_links}

by_equations : (s : Store Set) (r q : Request) (a b : Answer) → r ≡ q → a ≡ b → Answers s r [] a → Answers s q [] b
by_equations s r q a b same alike answers = subst (λ (x : Answer). Answers s q [] x) alike (subst (λ (x : Request). Answers s x [] a) same answers)

pub facts_by : (s : Store Set) (r : Request) (a : Answer) (info : Info) → r ≡ request.Vinfo (codes "g") → a ≡ request.Informed info → Answers s r [] a → FactsOf s info
facts_by s r a info same alike answers = facts_of s info (by_equations s r (request.Vinfo (codes "g")) a (request.Informed info) same alike answers)

pub found_by : (truth : Bool) (s : Store Set) (r : Request) (a : Answer) (dim : ℕ) (scores attrs : Bool) (hits : List Hit) → r ≡ search_of_first truth
    → a ≡ request.Hits dim scores attrs hits → Answers s r [] a → FoundFirst truth s hits
found_by truth s r a dim scores attrs hits same alike answers = record {
  dim = dim;
  scores = scores;
  attrs = attrs;
  answers = by_equations s r (search_of_first truth) a (request.Hits dim scores attrs hits) same alike answers;
}

pub links_by : (s : Store Set) (name : Bytes) (r : Request) (a : Answer) (dim : ℕ) (scores : Bool) (layers : List (List NamedHit)) (lowest : List NamedHit)
    → r ≡ request.Vlinks (codes "g") name false → a ≡ request.Layers dim scores (map hits_of layers) → Answers s r [] a
    → lowest ≡ get_or layers (length layers - 1) lowest → (x : Set) → set_of (codes "g") s ≡ Some x → length lowest ≡ links_of_name x name
links_by s name r a dim scores layers lowest same alike answers last x there =
    let told = by_equations s r (request.Vlinks (codes "g") name false) a (request.Layers dim scores (map hits_of layers)) same alike answers in
    lowest_links x (set_of (codes "g") s) name dim scores layers lowest told.answer_is there last

pub links_more : (x : Set) (n : ℕ) → links_below (n + 1) x ≡ links_below n x + links_of_name x (member_name n)
links_more x n = sum_by-map-range_with_len_more (links_of_name x) member_name 0 n n (omega arith)
