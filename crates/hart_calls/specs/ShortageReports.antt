-- `ReportsShortage`: evidence in a seat's view (what an owner's capability at a frame store holds and knows) for a call's
-- shortage: NoFrame, the free count was read as 0 with too few frames reserved (`WasDry`; `AccessDry` and `CopyDry` add the
-- counts read); SharersFull, a reference count was read as `MOST_REFERENCES` (`WasFull`).
use Rattle.std.specs.Prelude.{◌≡◌, ℕ, ◌+◌, ◌<◌, ◌==◌, ◌∷◌, ◌++◌, false, [], List, is_some, Option, option_to_list, Ok, if◌then◌else◌}
use Rattle.fault_rules.specs.MadeResident.{is_counted, is_shared_by}
use Rattle.frame_store.specs.View.{View}
use Rattle.hart_calls.specs.Shortages.{frames_at, in_progress, out_progress, refused, Shortage}
use Rattle.process_model.specs.Files.{File}
use Rattle.process_model.specs.Frames.{exec_need, fork_need, resident_need}
use Rattle.process_model.specs.Images.{image_loads, LoadSegment}
use Rattle.process_model.specs.PageMap.{get}
use Rattle.process_model.specs.Process.{Process}
use Rattle.process_model.specs.declared.call.Call.{Call}
use Rattle.process_model.specs.declared.call.Call.TheVariants as call
use Rattle.process_model.specs.declared.reply.Refusal.TheVariants.{NoFrame, SharersFull}
use Rattle.process_model.specs.declared.limits.TheConstants.{MOST_REFERENCES}
use Rattle.sv39_entry.specs.Address.{page_of}
use Rattle.sv39_entry.specs.declared.access.Access.{Access}
use Rattle.sv39_entry.specs.declared.access.Access.TheVariants.{Fetch, Load, Store}

-- between views v and w the free count was read as 0 while fewer than `need` frames were reserved. Exactly `met` frames were
-- claimed, for the needs that were met before, and exactly these reference counts were read
pub record WasDry (v w : View) (need met : ℕ) (counts : List ℕ) : Type 0 where
  pub zeros : v.tallies.zeros < w.tallies.zeros
  pub short : w.tallies.short < need
  pub claims : w.tallies.claims ≡ v.tallies.claims + met
  pub looks : w.tallies.looks ≡ v.tallies.looks ++ counts

-- `WasDry` with the need of an access's page. The count of its frame was read exactly if the access is a store and the page
-- has the copy-on-write mark; the page counts as shared exactly if that count is not 1
abbrev pub AccessDry : View → View → Process → Access → ℕ → Type 0
AccessDry v w p access page =
    (count : Option ℕ) × (is_some count ≡ is_counted access (get p.settled page))
    × WasDry v w (resident_need (is_shared_by count) p access page) 0 (option_to_list count)

-- `WasDry` with the need of a page of a copy. The copy began on page `first` with process p, and has process q at this page.
-- If this page is not the first, the need of the first was met; counts are as in `AccessDry`
abbrev pub CopyDry : View → View → Process → Process → Access → ℕ → ℕ → Type 0
CopyDry v w p q access first page =
    (before count : Option ℕ) × (is_some before ≡ (if first == page then false else is_counted access (get p.settled first)))
    × (is_some count ≡ is_counted access (get q.settled page))
    × WasDry v w (resident_need (is_shared_by count) q access page) (if first == page then 0
    else resident_need (is_shared_by before) p access first) (option_to_list before ++ option_to_list count)

-- exactly one reference count was read: `MOST_REFERENCES`
abbrev pub WasFull : View → View → Type 0
WasFull v w = w.tallies.looks ≡ v.tallies.looks ++ MOST_REFERENCES ∷ []

-- the seat's evidence for this shortage of a call. Of slots, host memory and promises nothing is said here
abbrev pub ReportsShortage : View → View → List File → Process → Call → Shortage → Type 0
ReportsShortage v w files p (call.Fetch address) (frames_at page) = AccessDry v w p Fetch page
ReportsShortage v w files p (call.Load address width) (frames_at page) = AccessDry v w p Load page
ReportsShortage v w files p (call.Store address width value) (frames_at page) = AccessDry v w p Store page
ReportsShortage v w files p (call.CopyIn address n) (frames_at page) = CopyDry v w p (in_progress files p page address n) Load (page_of address) page
ReportsShortage v w files p (call.CopyOut address bytes) (frames_at page) =
    CopyDry v w p (out_progress files p page address bytes.now) Store (page_of address) page
ReportsShortage v w files p (call.Exec image) (refused done NoFrame) = (ls : List LoadSegment) × (image_loads p.scheme image ≡ Ok ls)
    × WasDry v w (exec_need p.scheme ls) 0 []
ReportsShortage v w files p (call.Fork list) (refused done NoFrame) = WasDry v w (fork_need p) 0 []
ReportsShortage v w files p (call.Fork list) (refused done SharersFull) = WasFull v w
ReportsShortage v w files p c shortage = Unit {0}
