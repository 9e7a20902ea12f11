use Rattle.vs_attr.proofs.Names.{encode_two, encode_three, encode_four}
use Rattle.vs_attr.proofs.text.encode.Goals as goal

pub returns-then-code-lt2048 : goal.returns-then-code-lt2048
returns-then-code-lt2048 c = rw c.continuation-last.ensures (encode_two c.args.code c.if-code-lt128.false c.if-code-lt2048.true)

pub returns-then-code-lt65536 : goal.returns-then-code-lt65536
returns-then-code-lt65536 c =
    rw (c.continuation-last.ensures, c.continuation-middle.ensures) (encode_three c.args.code c.if-code-lt2048.false c.if-code-lt65536.true)

pub returns : goal.returns
returns c =
    rw (c.continuation-last.ensures, c.continuation-middle.ensures, c.continuation.ensures) (encode_four c.args.code c.if-code-lt65536.false)
