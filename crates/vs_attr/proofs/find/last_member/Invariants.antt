use Rattle.std.proofs.Common.{◌≡◌, length, option_copied, None}
use Rattle.vs_attr.specs.Reading.{members_at, member_depth}
use Rattle.vs_attr.specs.Fields.{named_in, found_value, IsReadable}
use Rattle.vs_attr.proofs.find.last_member.Given as goal

abbrev pub invariant-loop-raw : goal.invariant-loop-raw
invariant-loop-raw l = record {
  value : named_in l.name (found_value (option_copied l.found)) (members_at member_depth l.text) ≡ named_in l.name None (members_at member_depth l.fn.text);
  readable : IsReadable (option_copied l.found);
}

abbrev pub decreases-loop-raw : goal.decreases-loop-raw
decreases-loop-raw l = length l.text
