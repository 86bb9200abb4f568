use Rattle.std.proofs.Common.{take, ◌≡◌, ◌<◌, ◌≤◌, ◌+◌, ◌-◌, length, vec_len, vec_capacity}
use Rattle.std.specs.Prelude.{All}
use Rattle.script_language.specs.declared.limits.TheConstants.{MOST_LISTS}
use Rattle.process_model.specs.declared.call.Start.{Start}
use Rattle.audit_player.specs.ThreadLists.{AreStartsOf}
use Rattle.audit_player.proofs.thread_lists.lend_starts.Given as goal

abbrev pub invariant-starts : goal.invariant-starts
invariant-starts l = record {
  room : vec_len l.starts + (length l.start-items - l.start-index) ≤ vec_capacity l.starts;
  all : length l.starts.items ≡ l.start-index;
  there : All (λ (start : Start). start.list < MOST_LISTS) l.starts.items;
  are : AreStartsOf l.script.images (take l.start-index l.start-items) l.starts.items;
}
