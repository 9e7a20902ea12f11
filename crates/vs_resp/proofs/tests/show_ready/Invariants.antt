use Rattle.std.proofs.Common.{◌≡◌}
use Rattle.vs_resp.specs.Stands.{bytes_taken, ready_count}
use Rattle.vs_resp.proofs.tests.show_ready.Given as goal

abbrev pub invariant-loop-message : goal.invariant-loop-message
invariant-loop-message l = bytes_taken l.decoder ≡ bytes_taken l.fn.decoder

abbrev pub decreases-loop-message : goal.decreases-loop-message
decreases-loop-message l = ready_count l.decoder
