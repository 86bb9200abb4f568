use Rattle.std.proofs.Common.{◌≡◌, ◌<◌, ◌||◌, ℕ, false, length, get_or}
use Rattle.std.specs.List.{list_any}
use Rattle.script_language.specs.Lines.{raw_lines}
use Rattle.script_language.specs.ThreadScript.{begins_list}
use Rattle.script_reader.proofs.thread_lines.lists_named.Given as goal
use Rattle.script_language.specs.declared.limits.TheConstants.{MOST_LISTS}

abbrev pub invariant-lines : goal.invariant-lines
invariant-lines l = record {
  says : (k : ℕ) → k < MOST_LISTS → (get_or l.named k false || list_any (begins_list k) (raw_lines l.left)) ≡ list_any (begins_list k) (raw_lines l.text);
  long : length l.named ≡ MOST_LISTS;
}

abbrev pub decreases-lines : goal.decreases-lines
decreases-lines l = length l.left
