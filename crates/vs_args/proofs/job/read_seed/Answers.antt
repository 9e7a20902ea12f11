use Rattle.vs_args.proofs.ReadByClap.{words_utf8}
use Rattle.vs_args.proofs.job.read_seed.Goals as goal

pub texts_of-requires : goal.texts_of-requires
texts_of-requires c = words_utf8 c.args.words.now c.requires
