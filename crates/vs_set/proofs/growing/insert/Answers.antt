use Rattle.vs_set.proofs.growing.insert.Goals as goal

pub returns-clause-inserted : goal.returns-clause-inserted
returns-clause-inserted g c = record {
  draft = c.in_ok-draft.draft;
  body_is = c.in_ok-draft.ensures.body;
  level_is = c.in_ok-draft.ensures.level;
  chosen = c.in_ok-draft.ensures.chosen;
  added = c.in_ok-commit.ensures.added;
  entry = c.in_ok-commit.ensures.entry;
  before = c.nodes-before.ensures.good;
  good = c.nodes-nodes.ensures.good;
  m = c.commit.ensures.m;
  dim = c.commit.ensures.dim;
}
