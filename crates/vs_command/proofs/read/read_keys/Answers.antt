use Rattle.std.proofs.Common.{◌≡◌, length, ◌∙◌, arith}
use Rattle.std.proofs.lemmas.List.{length-append}
use Rattle.std.proofs.lemmas.List.Elements.{All-push}
use Rattle.vs_defs.specs.Bounds.{IsNameInBounds}
use Rattle.vs_defs.specs.Read.{read_key}
use Rattle.vs_command.proofs.Steps.{key_more, key_refused, refused}
use Rattle.vs_command.proofs.read.read_keys.Goals as goal

pub returns-in_err-read_key-clause-keys : goal.returns-in_err-read_key-clause-keys
returns-in_err-read_key-clause-keys c =
    refused (λ keys. keys) c.from_residual.result c.in_err-read_key.field-0.0 (read_key c.word-item.result) _ c.from_residual.ensures.1 c.in_err-read_key.ensures.key
    (λ k h. c.loop-word.invariant.rest ∙ key_refused c.loop-word.word-index c.args.words.now c.loop-word.keys c.word-item.result k c.loop-word-test.true c.word-item.is h)

pub loop-word-preserved : goal.loop-word-preserved
loop-word-preserved c = record {
  rest = c.loop-word.invariant.rest ∙ key_more c.loop-word.word-index c.args.words.now c.loop-word.keys c.push.new.self c.word-item.result c.in_ok-read_key.field-0 c.loop-word-test.true c.word-item.is c.in_ok-read_key.ensures.key c.in_ok-push.ensures.ok;
  bounds = rw c.in_ok-push.ensures.ok (All-push IsNameInBounds c.loop-word.keys c.in_ok-read_key.field-0 c.loop-word.invariant.bounds c.in_ok-read_key.ensures.bounds);
  len = rw c.in_ok-push.ensures.ok (let e : length c.loop-word.keys ≡ c.loop-word.word-index = c.loop-word.invariant.len in simp length-append (omega arith));
}
