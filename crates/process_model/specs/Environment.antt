-- How the service of a fault and kernel copies make one page resident (in memory, ready for an access), or find too few
-- frames. `Environment`: the input from outside the process (files, copy numbers that others have, where frames run short);
-- `Progress`: the process in the middle of a call, the next copy number (each names one copy of a page in memory) and the
-- frames taken.
use Rattle.std.specs.Prelude.{ℕ, Bool, true, false, ◌+◌, Option, None, Some, Result, Ok, Err, List}
use Rattle.process_model.specs.Files.{File}
use Rattle.process_model.specs.Frames.{resident_need}
use Rattle.process_model.specs.PageMap.{get}
use Rattle.process_model.specs.Process.{Process, Page}
use Rattle.process_model.specs.Residence.{is_resident, made_resident}
use Rattle.sv39_entry.specs.Address.{page_of}
use Rattle.sv39_entry.specs.declared.access.Access.{Access}
use Rattle.sv39_entry.specs.declared.rule.Rule.{Rule}
use Rattle.sv39_entry.specs.declared.rule.Rule.TheVariants.{NoFrame}

-- the input from outside a process: the files, the copy numbers that others have, and where frames run short
pub record Environment : Type 0 where
  pub files : List File
  -- whether another process has this copy number
  pub others_have : ℕ → Bool
  -- `is_dry page total`: whether at this page the call, which needs `total` frames in all up to this page, runs short
  pub is_dry : ℕ → ℕ → Bool

-- a process in the middle of a call: the next copy number, and how many frames the call has taken
pub record Progress : Type 0 where
  pub process : Process
  pub fresh : ℕ
  pub taken : ℕ

abbrev pub is_shared_by : (ℕ → Bool) → Option Page → Bool
is_shared_by others_have None = false
is_shared_by others_have (Some s) = others_have s.copy

-- whether another process has the copy number of the page; false if the page is not settled
abbrev pub is_shared_page : Environment → Process → ℕ → Bool
is_shared_page a p page = is_shared_by a.others_have (get p.settled page)

-- the page is made resident if frames suffice; the counter of copy numbers goes up by one even if none was used
abbrev pub unless_dry : Environment → Access → ℕ → Progress → ℕ → Bool → Result Progress Rule
unless_dry a access page g need true = Err NoFrame
unless_dry a access page g need false = Ok (record {
  process = made_resident a.files g.fresh (is_shared_page a g.process page) g.process access page;
  fresh = g.fresh + 1;
  taken = g.taken + need;
})

abbrev pub need_at : Environment → Access → ℕ → Process → ℕ
need_at a access page p = resident_need (is_shared_page a p page) p access page

abbrev pub unless_resident : Environment → Access → ℕ → Progress → Bool → Result Progress Rule
unless_resident a access page g true = Ok g
unless_resident a access page g false = let need = need_at a access page g.process in unless_dry a access page g need (a.is_dry page (g.taken + need))

-- a page is made resident for an access; NoFrame if frames are too few. A resident page stays as it is
unfoldable pub resident_at : Environment → Access → ℕ → Progress → Result Progress Rule
resident_at a access page g = unless_resident a access page g (is_resident g.process access page)

-- the page of an address is made resident for an access, unless a rule denies the access
abbrev pub resident_at_address : Environment → Access → ℕ → Progress → Option Rule → Result Progress Rule
resident_at_address a access address g (Some r) = Err r
resident_at_address a access address g None = resident_at a access (page_of address) g
