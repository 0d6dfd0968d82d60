use Rattle.std.proofs.Common.{◌∙◌}
use Rattle.sync_msgs.specs.EntryTexts.{entry_members}
use Rattle.sync_msgs.proofs.entry_json.entry_parts.Goals as goal

pub returns : goal.returns
unfolding entry_members
returns c = c.in_ok-put-3.ensures.ok ∙ rw (c.in_ok-put-2.ensures.ok, c.in_ok-put.ensures.ok, c.in_ok-members.ensures, c.in_ok-reply_json.ensures, c.from.ensures, c.in_ok-writes.ensures, c.as_slice.ensures)
