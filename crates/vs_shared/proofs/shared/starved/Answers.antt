use Rattle.vs_shared.proofs.Starved.{starved, draft_starved}
use Rattle.vs_shared.proofs.shared.starved.Goals as goal

pub returns-clause-now : goal.returns-clause-now
returns-clause-now g c = starved g.N.TableName.limits c.args.pass.now.number c.args.pass.now.seen c.known-known.ensures.legal

pub returns-clause-draft : goal.returns-clause-draft
returns-clause-draft g c = draft_starved g.N.TableName.limits c.args.pass.now.number c.args.pass.now.seen c.known-known.ensures.legal
