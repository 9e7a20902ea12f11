use Rattle.std.proofs.Common.{arith}
use Rattle.vs_truth.specs.Nearest.{KeepsBits}
use Rattle.vs_truth_tests.proofs.Lined.{lined_at, keeps_lined}
use Rattle.vs_truth_tests.proofs.run_tests.LinedMembers.bits.Goals as goal

pub returns-clause-kept : goal.returns-clause-kept
returns-clause-kept g c =
    let s = c.args.self.now in
    lined_at s.names s.words c.args.place (λ member. KeepsBits member.bits c.one_of.result.now) (omega arith) (keeps_lined s.words c.args.place c.one_of.result.now (omega (arith, s.alike)) c.one_of.ensures)
