-- Drawn words: the 32-bit words of the generator Lcg64Xsh32 (PCG's XSH RR 64/32; this project's choice).
--     generator seed number          the generator of a seed and a stream's number
--     drawn n g, after_draws n g     its next n words, and the generator behind them
use Rattle.std.specs.Prelude.{ℕ, zero, suc, List, [], ◌∷◌}
use Rattle.rand_pcg.specs.Lcg.{Lcg, started, increment_of}
use Rattle.rand_pcg.specs.Pcg.{pcg32, multiplier_64}

abbrev pub generator : ℕ → ℕ → Lcg
generator seed number = started 64 multiplier_64 seed (increment_of 64 number)

abbrev pub drawn : ℕ → Lcg → List ℕ
drawn zero g = []
drawn (suc n) g = (pcg32 g).0 ∷ drawn n (pcg32 g).1

abbrev pub after_draws : ℕ → Lcg → Lcg
after_draws zero g = g
after_draws (suc n) g = after_draws n (pcg32 g).1
