use Rattle.std.proofs.Common.{◌≡◌, ◌≤◌, length, map, take}
use Rattle.address_space.specs.Layouts.{last_page, region_of}
use Rattle.address_space.specs.Parts.{regions_in}
use Rattle.address_space.proofs.layout.Layout.new.Given as goal
use Rattle.sv39_entry.specs.Schemes.{trapframe_page}

-- so many regions are in the list
abbrev pub invariant-parts : goal.invariant-parts
invariant-parts l = record {
  list : map region_of l.list.items ≡ regions_in (take l.part-index l.fn.parts);
  count : length l.list.items ≡ l.part-index;
  last : l.end ≡ last_page 0 (regions_in (take l.part-index l.fn.parts));
  low : l.end ≤ trapframe_page l.fn.scheme;
}
