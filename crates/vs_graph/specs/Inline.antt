-- What a contract sees of words and bytes of which few lie in a value.
use Rattle.std.specs.Prelude.{ℕ, ◌≤◌, List, take}
use Rattle.vs_graph.specs.declared.inline_words.KeptWords.{KeptWords}
use Rattle.vs_graph.specs.declared.inline_words.KeptWords.TheVariants as words
use Rattle.vs_graph.specs.declared.inline_name.KeptName.{KeptName}
use Rattle.vs_graph.specs.declared.inline_name.KeptName.TheVariants as name

abbrev pub words_kept : KeptWords → List ℕ
words_kept (words.Inline count words) = take count words
words_kept (words.Block16 block) = block.items
words_kept (words.Block32 block) = block.items
words_kept (words.Block64 block) = block.items
words_kept (words.Long list) = list

abbrev pub AreWordsSound : KeptWords → Type 0
AreWordsSound (words.Inline count words) = count ≤ 4
AreWordsSound (words.Block16 block) = Unit {0}
AreWordsSound (words.Block32 block) = Unit {0}
AreWordsSound (words.Block64 block) = Unit {0}
AreWordsSound (words.Long list) = Unit {0}

abbrev pub bytes_kept : KeptName → List ℕ
bytes_kept (name.Inline count bytes) = take count bytes
bytes_kept (name.Long text) = text

abbrev pub AreBytesSound : KeptName → Type 0
AreBytesSound (name.Inline count bytes) = count ≤ 22
AreBytesSound (name.Long text) = Unit {0}
