use Rattle.std.proofs.Common.{◌≡◌, ◌+◌, ◌*◌, ℕ, ◌∙◌, ap, arith}
use Rattle.rand_pcg.specs.Lcg.{Lcg}
use Rattle.vs_session_defs.specs.Words.{generator, drawn, after_draws}
use Rattle.vs_thread_defs.specs.Generator.{words_per_member}
use Rattle.vs_gen.specs.Generated.{Generating, words_of}
use Rattle.vs_gen.proofs.Components.{next_member}
use Rattle.vs_gen.proofs.Generator.next_words.Goals as goal

pub returns-clause-next : goal.returns-clause-next
returns-clause-next c = λ seed i e.
    let now = c.args.self.now in
    let g = c.self.inside in
    let w = words_per_member now.dim in
    let is_next : g.next ≡ i = ap (λ (s : Generating). s.next) (c.self.view_is ∙ e) in
    let is_members : g.members ≡ now.members = ap (λ (s : Generating). s.members) c.self.view_is in
    let is_dim : g.dim ≡ now.dim = ap (λ (s : Generating). s.dim) c.self.view_is in
    let one_on : g.next + 1 ≡ i + 1 = ap (λ (n : ℕ). n + 1) is_next in
    let is_stream : now.stream ≡ after_draws (i * w) (generator seed 1) = ap (λ (s : Generating). s.stream) e in
    let moved : c.in_ok-words.stream ≡ after_draws ((i + 1) * w) (generator seed 1) =
    c.in_ok-words.ensures.1 ∙ ap (λ (s : Lcg). after_draws w s) is_stream ∙ next_member i w (generator seed 1) in (
      omega (arith, is_next, is_members, c.self.invariant.0, c.if-self.false),
      c.in_ok-words.ensures.0 ∙ ap (λ (s : Generating). words_of (drawn w s.stream) now.dim s.next) e,
      λ k. record { stream = moved k; members = is_members k; dim = is_dim k; next = one_on k },
    )
