use Rattle.vs_history.specs.Work.{entry_of}
use Rattle.vs_history.proofs.hold.note_change.Given as goal

abbrev pub ghosts-append : goal.ghosts-append
ghosts-append g a = record { entry = entry_of a.pass.now.number g.W.Working.work }
