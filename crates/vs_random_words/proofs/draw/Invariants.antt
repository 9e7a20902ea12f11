use Rattle.std.proofs.Common.{◌≡◌, ◌≤◌}
use Rattle.std.specs.Prelude.{vec_capacity, vec_len}
use Rattle.vs_session_defs.specs.Words.{drawn, after_draws}
use Rattle.vs_random_words.proofs.draw.Given as goal

abbrev pub invariant-loop : goal.invariant-loop
invariant-loop l = (l.words.items ≡ drawn l.counter l.initial.generator) × (l.generator ≡ after_draws l.counter l.initial.generator) × (l.initial.count ≤ vec_capacity l.words) × (vec_len l.words ≡ l.counter)
