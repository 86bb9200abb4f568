use Rattle.std.proofs.Common.{◌≡◌, ◌≤◌, take}
use Rattle.std.specs.Prelude.{vec_capacity}
use Rattle.hart_calls.proofs.plain_call.add_pages.Given as goal

-- so many pages are copied
abbrev pub invariant-uses : goal.invariant-uses
invariant-uses l = record {
  copied : l.pages.items ≡ take l.page-index l.recent;
  room : 2 ≤ vec_capacity l.pages;
}
