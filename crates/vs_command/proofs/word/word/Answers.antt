use Rattle.vs_command.proofs.Words.{word_at}
use Rattle.vs_command.proofs.word.word.Goals as goal

pub returns-clause-word : goal.returns-clause-word
returns-clause-word c = word_at c.args.words.now c.args.at c.index-words-at.result c.requires.within c.index-words-at.is
