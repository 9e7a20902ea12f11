use Rattle.std.proofs.Common.{◌+◌, ◌*◌, ap, length, take, drop, arith}
use Rattle.std.proofs.lemmas.List.{length-drop}
use Rattle.vs_truth.specs.Nearest.{KeepsBits}
use Rattle.vs_truth_tests.proofs.Lined.{lined_at, lined_long, keeps_lined, row_behind}
use Rattle.vs_truth_tests.proofs.run_tests.LinedMembers.beside.Goals as goal

pub returns-clause-run : goal.returns-clause-run
returns-clause-run g c = λ some.
    let s = c.args.self.now in
    let place = c.args.place in
    record {
      within = omega (arith, c.requires);
      long = omega (arith, ap length c.from.ensures, length-drop place s.words, s.alike, c.requires, lined_long s.names s.words);
      each = λ k inside.
          lined_at s.names s.words (place + k) (λ member. KeepsBits member.bits (take 1 (drop (k * 1) c.from.result.now))) (omega (arith, inside, c.requires, lined_long s.names s.words))
          (keeps_lined s.words (place + k) (take 1 (drop (k * 1) c.from.result.now)) (omega (arith, inside, s.alike, c.requires, lined_long s.names s.words)) (row_behind s.words place k c.from.result.now c.from.ensures));
    }
