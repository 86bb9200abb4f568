-- Segments of a program image. The model's segment for one of the code or of a list (`load_of`, `segment_load`), and its
-- code as a tuple (`load_code`). Predicates of segments that passed exec's checks: in order, apart, low enough (`IsLoad`,
-- `AreInOrder`, `AreJudged`, `AreLoads`). Results of the checks (`loads_after`, `loads_in`). A region of zeros, for guard
-- and stack.
use Rattle.std.specs.Prelude.{◌≡◌, ℕ, Bool, true, ◌+◌, ◌%◌, ◌<◌, ◌≤◌, List, [], ◌∷◌, length, refl, Result, Ok, Err}
use Rattle.std.specs.Coded.{Coded, code_by, coded×, coded_ℕ, coded_bool, coded_list}
use Rattle.process_model.specs.Images.{LoadSegment, end_of_loads, end_page}
use Rattle.sv39_entry.specs.Address.{page_of}
use Rattle.process_model.specs.declared.image.Segment.{Segment}
use Rattle.process_model.specs.Regions.{Region, zeros}
use Rattle.sv39_entry.specs.Rights.{executes, reads, writes}
use Rattle.sv39_entry.specs.Schemes.{trapframe_page}
use Rattle.sv39_entry.specs.declared.scheme.Scheme.{Scheme}
use Rattle.address_space.specs.Layouts.{region_kind}
use Rattle.address_space.specs.declared.region.RegionKind.{RegionKind}
use Rattle.exec_segments.specs.declared.load.Load.{Load}
use Rattle.process_model.specs.declared.limits.TheConstants.{GUARD_PAGES, MOST_SEGMENTS, STACK_PAGES}

-- the model's segment for one of the code
abbrev pub load_of : Load → LoadSegment
load_of l = record {
  address = l.address;
  memory_size = l.memory_size;
  file_size = l.file_size;
  writes = l.writes;
  executes = l.executes;
  inside = l.is_inside;
  bytes = l.bytes.now;
}

abbrev pub load_code : Coded LoadSegment
load_code = code_by (ℕ × (ℕ × (ℕ × (Bool × (Bool × (Bool × List ℕ))))))
    (coded× coded_ℕ (coded× coded_ℕ (coded× coded_ℕ (coded× coded_bool (coded× coded_bool (coded× coded_bool (coded_list coded_ℕ)))))))
    (λ l. (l.address, (l.memory_size, (l.file_size, (l.writes, (l.executes, (l.inside, l.bytes)))))))
    (λ p. record {
      address = p.0;
      memory_size = p.1.0;
      file_size = p.1.1.0;
      writes = p.1.1.1.0;
      executes = p.1.1.1.1.0;
      inside = p.1.1.1.1.1.0;
      bytes = p.1.1.1.1.1.1;
    })
    (λ _. refl)

-- a segment has pages, no more bytes in the image than in memory, and starts at a multiple of 4,096, on page `end` or later;
-- guard and stack fit between its end and the trapframe
pub record IsLoad (z : Scheme) (end : ℕ) (l : LoadSegment) : Type 0 where
  pub some : 0 < l.memory_size
  pub sizes : length l.bytes ≤ l.memory_size
  pub aligned : l.address % 4096 ≡ 0
  pub high : end_page l + (GUARD_PAGES + STACK_PAGES) ≤ trapframe_page z
  pub in_order : end ≤ page_of l.address

-- each segment is an `IsLoad`, the first after page `end`, each other after the page where the one before it ends: they
-- ascend, and are apart
abbrev pub AreInOrder : Scheme → ℕ → List LoadSegment → Type 0
AreInOrder z end [] = Unit {0}
AreInOrder z end (l ∷ ls) = IsLoad z end l × AreInOrder z (end_page l) ls

-- at most 16 segments passed their checks so far, and page `end` follows the last of them (0 if there is none)
pub record AreJudged (z : Scheme) (ls : List LoadSegment) (end : ℕ) : Type 0 where
  pub few : length ls ≤ MOST_SEGMENTS
  pub in_order : AreInOrder z 0 ls
  pub last : end_of_loads 0 ls ≡ end

-- the result of checking one more segment: the segments after it, or the check that it fails
abbrev pub loads_after : {E : Type 0} → Result (Unit {0}) E → List LoadSegment → Result (List LoadSegment) E
loads_after (Ok _) after = Ok after
loads_after (Err e) after = Err e

-- the segments of an accepted image: 1 to 16, in order
pub record AreLoads (z : Scheme) (ls : List LoadSegment) : Type 0 where
  pub some : 1 ≤ length ls
  pub few : length ls ≤ MOST_SEGMENTS
  pub in_order : AreInOrder z 0 ls

-- segments that passed their checks, and the scheme of the address space for which they were checked
pub record JudgedLoads : Type 0 where
  pub scheme : Scheme
  pub loads : List LoadSegment

-- the segments of an image, or why it is not accepted
abbrev pub loads_in : {E : Type 0} → Result JudgedLoads E → Result (List LoadSegment) E
loads_in (Ok i) = Ok i.loads
loads_in (Err e) = Err e

-- the segment of a list, as the checks see it: all its bytes lie inside the image
abbrev pub segment_load : Segment → LoadSegment
segment_load s = record {
  address = s.address;
  memory_size = s.memory_size;
  file_size = length s.bytes;
  writes = s.writes;
  executes = s.executes;
  inside = true;
  bytes = s.bytes;
}

-- a region of `pages` pages of zeros, with these rights
abbrev pub zeros_region : ℕ → ℕ → RegionKind → ℕ → Region
zeros_region first pages kind rights = record {
  first = first;
  pages = pages;
  reads = reads rights;
  writes = writes rights;
  executes = executes rights;
  kind = region_kind kind;
  source = zeros;
}
