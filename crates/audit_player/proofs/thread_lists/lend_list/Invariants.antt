use Rattle.std.proofs.Common.{take, ◌≤◌, ◌+◌, ◌-◌, length, vec_len, vec_capacity}
use Rattle.std.specs.Prelude.{All}
use Rattle.hart_calls.specs.Track.{NamesList}
use Rattle.script_language.specs.declared.limits.TheConstants.{MOST_LISTS}
use Rattle.audit_player.specs.ThreadLists.{AreCallsOf}
use Rattle.audit_player.proofs.thread_lists.lend_list.Given as goal

abbrev pub invariant-calls : goal.invariant-calls
invariant-calls l = record {
  room : vec_len l.list + (length l.calls - l.call-index) ≤ vec_capacity l.list;
  there : All (NamesList MOST_LISTS) l.list.items;
  are : AreCallsOf l.images (take l.call-index l.calls) l.list.items;
}
