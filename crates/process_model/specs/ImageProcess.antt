-- The process that start and exec make of the segments of an accepted image (`process_of`): its regions (segments, guard,
-- stack), its pages with their bytes, all in memory, each a copy of its own, and an empty heap.
use Rattle.std.specs.Prelude.{ℕ, zero, suc, true, false, ◌+◌, ◌*◌, None, List, [], ◌∷◌, ◌++◌, drop, map, flat_map}
use Rattle.process_model.specs.Bytes.{pages_for, padded}
use Rattle.process_model.specs.PageMap.{from_list, numbers}
use Rattle.process_model.specs.Regions.{Region, segment, guard, stack, zeros, image}
use Rattle.process_model.specs.Process.{Process, Page}
use Rattle.process_model.specs.Images.{LoadSegment, end_of_loads}
use Rattle.sv39_entry.specs.Address.{page_of}
use Rattle.sv39_entry.specs.declared.scheme.Scheme.{Scheme}
use Rattle.process_model.specs.declared.limits.TheConstants.{GUARD_PAGES, STACK_PAGES}

-- the region of a segment, which may always be read
abbrev pub segment_region : LoadSegment → Region
segment_region l = record {
  first = page_of l.address;
  pages = pages_for l.memory_size;
  reads = true;
  writes = l.writes;
  executes = l.executes;
  kind = segment;
  source = image;
}

abbrev pub guard_at : ℕ → Region
guard_at first = record { first = first; pages = GUARD_PAGES; reads = false; writes = false; executes = false; kind = guard; source = zeros }

abbrev pub stack_at : ℕ → Region
stack_at first = record { first = first; pages = STACK_PAGES; reads = true; writes = true; executes = false; kind = stack; source = zeros }

-- the regions of the segments, then one guard page and one stack page (the xv6 book, "Code: exec"). Gaps between segments
-- are granted to nobody (own choice)
abbrev pub parts_of : List LoadSegment → List Region
parts_of ls = let end = end_of_loads 0 ls in map segment_region ls ++ guard_at end ∷ stack_at (end + GUARD_PAGES) ∷ []

-- n pages by number, from page `first` on, with these bytes and zeros after them
abbrev pub page_run : ℕ → List ℕ → ℕ → List (ℕ × List ℕ)
page_run first bytes zero = []
page_run first bytes (suc n) = (first, padded 4096 bytes) ∷ page_run (first + 1) (drop 4096 bytes) n

abbrev pub load_pages : LoadSegment → List (ℕ × List ℕ)
load_pages l = page_run (page_of l.address) l.bytes (pages_for l.memory_size)

-- all pages of the process by number, guard and stack among them, with their bytes
abbrev pub image_pages : List LoadSegment → List (ℕ × List ℕ)
image_pages ls = flat_map load_pages ls ++ page_run (end_of_loads 0 ls) [] (GUARD_PAGES + STACK_PAGES)

abbrev pub page_numbers : List LoadSegment → List ℕ
page_numbers ls = map (λ e. e.0) (image_pages ls)

-- each page gets a copy number of its own, from `fresh` on
abbrev pub numbered : ℕ → List (ℕ × List ℕ) → List (ℕ × Page)
numbered fresh [] = []
numbered fresh (e ∷ es) = (e.0, record { bytes = e.1; copy = fresh; cow = false; dirty = false }) ∷ numbered (fresh + 1) es

-- the process of checked segments: its heap is empty and begins at the top of the stack page
unfoldable pub process_of : Scheme → ℕ → List LoadSegment → Process
process_of s fresh ls =
    let top = 4096 * (end_of_loads 0 ls + (GUARD_PAGES + STACK_PAGES)) in
    record {
      scheme = s;
      parts = parts_of ls;
      mappings = [];
      heap_base = top;
      size = top;
      settled = from_list (numbered fresh (image_pages ls));
      tabled = numbers (page_numbers ls);
      pending = None;
    }
