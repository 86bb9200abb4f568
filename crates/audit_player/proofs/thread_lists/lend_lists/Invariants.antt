use Rattle.std.proofs.Common.{◌≡◌, ◌≤◌, ◌+◌, ◌-◌, length, vec_len, vec_capacity}
use Rattle.std.specs.Prelude.{All}
use Rattle.hart_calls.specs.Track.{NamesList}
use Rattle.script_language.specs.declared.limits.TheConstants.{MOST_LISTS}
use Rattle.audit_player.proofs.LentLists.{AreBelow}
use Rattle.audit_player.proofs.thread_lists.lend_lists.Given as goal

abbrev pub invariant-numbers : goal.invariant-numbers
invariant-numbers l = record {
  room : vec_len l.lists + (MOST_LISTS - l.number) ≤ vec_capacity l.lists;
  all : length l.lists.items ≡ l.number;
  there : All (λ calls. All (NamesList MOST_LISTS) calls) l.lists.items;
  are : AreBelow l.script.images l.script.lists l.number l.lists.items;
}
