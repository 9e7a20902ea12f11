use Rattle.std.proofs.Common.{◌≡◌, ◌≤◌, ◌<◌, [], ◌∷◌, false, length, get_or, ap, sym, subst, ◌∙◌, arith}
use Rattle.vs_defs.specs.Bytes.{Bytes, is_word}
use Rattle.vs_defs.specs.Stream.{Message}
use Rattle.vs_connection.proofs.tests.is_only.Goals as goal

one_word : (words : Message) (word : Bytes) → 1 ≤ length words → length words < 2 → word ≡ get_or words 0 word → words ≡ word ∷ []
one_word [] word some few is = absurd (omega arith)
one_word (first ∷ []) word some few is = ap (λ (w : Bytes). w ∷ []) (sym is)
one_word (first ∷ second ∷ more) word some few is = absurd (omega arith)

not_one : (words : Message) (word : Bytes) → (length words ≡ 1 → ⊥) → words ≡ word ∷ [] → ⊥
not_one words word many is = many (ap (λ (l : Message). length l) is)

pub returns-in-len1-clause-yes : goal.returns-in-len1-clause-yes
returns-in-len1-clause-yes c equal =
    (c.word-item.result, one_word c.args.message.now c.word-item.result c.in-len1.len_at_least c.in-len1.len_below c.word-item.is, sym c.is_name.ensures ∙ equal)

pub returns-in-len1-clause-no : goal.returns-in-len1-clause-no
returns-in-len1-clause-no c differs w is =
    let one = one_word c.args.message.now c.word-item.result c.in-len1.len_at_least c.in-len1.len_below c.word-item.is in
    let both : c.word-item.result ∷ [] ≡ w ∷ [] = sym one ∙ is in
    let same : c.word-item.result ≡ w = cc in
    subst (λ (v : Bytes). is_word c.args.name.now v ≡ false) same (sym c.is_name.ensures ∙ differs)
