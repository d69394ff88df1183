use Rattle.std.proofs.Common.{◌≡◌}
use Rattle.serde_json.specs.View.{members_view}
use Rattle.mini_writer.specs.Keys.{with_members}
use Rattle.mini_writer.proofs.members.filled.Given as goal

abbrev pub invariant-loop-member : goal.invariant-loop-member
invariant-loop-member l = with_members l.member-iterator.rest.items (members_view l.object.entries) ≡ with_members l.fn.members.items (members_view l.fn.started.entries)
