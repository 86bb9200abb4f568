-- How many frames a start, an exec, a fork and the service of a page need, from what the headline shows
-- (`frames_for_image`, `frames_for_child`, `frames_for_page`); which steps may find too few (`MayLackFrames`, `LacksFrames`);
-- which frames a process begins with (`HasNewFrames`, `SharesFrames`), keeps (`KeepsFrames`) and shares (`IsSharedPage`).
-- A frame of a process is its trapframe, a page table, or that of a settled page: two pages are on one frame if they have one
-- copy number.
use Rattle.std.specs.Prelude.{◌≡◌, ◌≢◌, ◌⊎◌, ℕ, Bool, true, false, not, ◌+◌, ◌-◌, ◌<◌, ◌&&◌, ◌||◌, Option, None, Some, List, ◌∷◌, Ok}
use Rattle.std.specs.Prelude.{is_some, length, option_map, if◌then◌else◌}
use Rattle.process_laws.specs.Latest.{page_byte}
use Rattle.process_laws.specs.Pages.{Grant, grant, has_cow_mark, is_ready_page}
use Rattle.process_laws.specs.Words.{CopiesBytes, IsOnHart, MayCall}
use Rattle.process_model.specs.Frames.{tables_needed}
use Rattle.process_model.specs.ImageProcess.{page_numbers}
use Rattle.process_model.specs.Images.{image_loads, LoadSegment}
use Rattle.process_model.specs.PageMap.{contains, get, keys}
use Rattle.process_model.specs.Process.{Process}
use Rattle.process_model.specs.World.{free, free_slot, others_have, process_in, World}
use Rattle.process_model.specs.declared.image.Image.{Image}
use Rattle.process_model.specs.declared.step.Step.{Step}
use Rattle.process_model.specs.declared.step.Step.TheVariants.{Exec, Fork, Serve, Start}
use Rattle.sv39_entry.specs.Address.{page_of}
use Rattle.sv39_entry.specs.declared.access.Access.{Access}
use Rattle.sv39_entry.specs.declared.scheme.Scheme.{Scheme}

-- pages of a process

-- the page is in memory
abbrev pub is_settled : Process → ℕ → Bool
is_settled p page = is_some (get p.settled page)

-- the page is tabled: it was settled since the start or exec, or, in a child, at the fork or since; so the page tables on the
-- way to it are there
abbrev pub has_tables : Process → ℕ → Bool
has_tables p page = contains p.tabled page

-- the copy number of the page, which stands for its frame; None if it is not settled
abbrev pub copy_on : Process → ℕ → Option ℕ
copy_on p page = option_map (λ x. x.copy) (get p.settled page)

-- whether a process in another slot than s has the copy number
abbrev pub is_shared : World → ℕ → Option ℕ → Bool
is_shared w s None = false
is_shared w s (Some copy) = others_have w s copy

-- frames

-- a frame for each page of the image, its guard and stack among them, and one for each page table on the way to these, to
-- TRAMPOLINE and to TRAPFRAME (`tables_needed`)
abbrev pub frames_for_image : Scheme → List LoadSegment → ℕ
frames_for_image s ls = length (page_numbers ls) + tables_needed s (page_numbers ls)

-- the child's trapframe, and its page tables, on the way to the pages that are settled, to TRAMPOLINE and to TRAPFRAME
abbrev pub frames_for_child : Process → ℕ
frames_for_child p = 1 + tables_needed p.scheme (keys p.settled)

-- none for a page that is ready for the access. Else: for a page that is not settled one, and one for each page table that it
-- lacks; for a page with the copy-on-write mark one if another process has its copy too; for any other none
abbrev pub frames_for_page : World → ℕ → Process → Access → ℕ → ℕ
frames_for_page w s p access page =
    if is_ready_page p access page then 0
    else if is_settled p page then (if has_cow_mark p page && is_shared w s (copy_on p page) then 1 else 0)
    else 1 + (tables_needed p.scheme (page ∷ keys p.tabled) - tables_needed p.scheme (keys p.tabled))

-- fewer frames are free than the page of the address needs, for an access of the process in slot s
pub record LacksFrames (w : World) (s : ℕ) (access : Access) (address : ℕ) : Type 0 where
  pub process : Process
  pub there : process_in w s ≡ Some process
  pub few : free w < frames_for_page w s process access (page_of address)

-- no page of any process has the copy number
abbrev pub IsNewCopy : World → ℕ → Type 0
IsNewCopy w copy = (s page : ℕ) (p : Process) → process_in w s ≡ Some p → copy_on p page ≢ Some copy

-- a process that begins with an image: its tabled pages are its settled ones, and each of these is on a new frame
pub record HasNewFrames (w : World) (p : Process) : Type 0 where
  pub tables : (page : ℕ) → has_tables p page ≡ is_settled p page
  pub copies : (page copy : ℕ) → copy_on p page ≡ Some copy → IsNewCopy w copy

-- the child of a fork: it has its parent's pages on the same frames, and they are its tabled ones
pub record SharesFrames (p c : Process) : Type 0 where
  pub tables : (page : ℕ) → has_tables c page ≡ is_settled p page
  pub copies : (page : ℕ) → copy_on c page ≡ copy_on p page

-- a page that is settled, or taken over: it loses the copy-on-write mark
abbrev pub IsTaken : Process → Process → ℕ → Type 0
IsTaken p q page = (is_settled p page ≡ false) ⊎ ((has_cow_mark p page ≡ true) × (has_cow_mark q page ≡ false))

-- process p, in slot s, becomes q, and keeps its frames: page tables come only with pages that are settled, and none goes; a
-- page keeps its copy number, or is settled or taken over and gets a new one; and it is taken over and keeps its number only if
-- no other process has it
pub record KeepsFrames (w : World) (s : ℕ) (p q : Process) : Type 0 where
  pub tables : (page : ℕ) → has_tables q page ≡ (has_tables p page || (is_settled q page && not (is_settled p page)))
  pub copies : (page copy : ℕ) → copy_on q page ≡ Some copy → (copy_on p page ≡ Some copy) ⊎ (IsNewCopy w copy × IsTaken p q page)
  pub alone : (page copy : ℕ) → has_cow_mark p page ≡ true → has_cow_mark q page ≡ false → copy_on p page ≡ Some copy
      → copy_on q page ≡ Some copy → others_have w s copy ≡ false

-- page `one` of p and page `two` of q, which are on one frame: it is the same page, with the same bytes, and if p may write it,
-- with the copy-on-write mark
pub record IsSharedPage (p q : Process) (one two : ℕ) : Type 0 where
  pub same : one ≡ two
  pub bytes : (i : ℕ) → page_byte (get p.settled one) i ≡ page_byte (get q.settled two) i
  pub marked : (g : Grant) → grant p one ≡ Some g → g.writes ≡ true → has_cow_mark p one ≡ true

-- the steps that may say NoFrame: a start of a good image if a slot is free; if the kernel may be called for the process, an
-- exec of a good image, and a fork if a slot is free; a service, and a kernel copy
pub data MayLackFrames (w : World) : Step → Type 0 where
  start : {image : Image} {s : ℕ} {ls : List LoadSegment} → free_slot w ≡ Some s → image_loads w.scheme image ≡ Ok ls → MayLackFrames w (Start image)
  exec : {h s : ℕ} {p : Process} {image : Image} {ls : List LoadSegment} → IsOnHart w h s p → MayCall w h p
      → image_loads w.scheme image ≡ Ok ls → MayLackFrames w (Exec h image)
  fork : {h s t : ℕ} {p : Process} → IsOnHart w h s p → MayCall w h p → free_slot w ≡ Some t → MayLackFrames w (Fork h)
  serve : {h : ℕ} → MayLackFrames w (Serve h)
  copy : {h n : ℕ} {x : Step} → CopiesBytes h n x → MayLackFrames w x
