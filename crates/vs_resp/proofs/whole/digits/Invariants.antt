use Rattle.std.proofs.Common.{◌-◌, ◌≤◌, ◌+◌, ℕ, List, take}
use Rattle.vs_defs.specs.Bytes.{Bytes}
use Rattle.vs_defs.specs.Limits.{max_message_bytes, max_word_bytes}
use Rattle.vs_stream.specs.Machine.{len}
use Rattle.vs_resp.specs.Bulk.{Leads}
use Rattle.vs_resp.proofs.whole.digits.Given as goal

abbrev pub invariant-digits : goal.invariant-digits
invariant-digits l = record {
  spells : (k sum : ℕ) (ws : List Bytes) → sum + l.value ≤ max_message_bytes → Leads (len k sum ws 0 0) (take l.size l.bytes) (len k sum ws l.size l.value);
  value : l.value ≤ max_word_bytes;
  within : l.size ≤ l.most;
}

abbrev pub decreases-digits : goal.decreases-digits
decreases-digits l = l.most - l.size
