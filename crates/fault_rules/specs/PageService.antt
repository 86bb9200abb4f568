-- Record `ServesPage`: one page of a space is made resident or is not, because a rule denies the access, frames are too few,
-- or the files refuse the promise (reservation) of a page read. It is the contract of `serve`, of `make_resident` and its
-- parts, and of each page of a kernel copy. For it, records `StoreModel` (what contracts know of a seat type, a store and
-- files) and `Moment` (a space, its store and the files at one moment).
use Rattle.std.specs.Prelude.{◌≡◌, ◌≢◌, ℕ, ◌-◌, ◌<◌, ◌≤◌, List, [], Option, Result, Ok, Err, if◌then◌else◌, length}
use Rattle.address_space.specs.Agreement.{Body, body_of, IsSpace}
use Rattle.address_space.specs.Kept.{IsUntouched, KeepsPlace}
use Rattle.address_space.specs.declared.space.Space.{Space}
use Rattle.fault_rules.specs.MadeResident.{HasMadeResident, LacksFrames, WhenMadeResident}
use Rattle.fault_rules.specs.Serves.{DoesNothing, is_ready, IsEnd, served_moves}
use Rattle.fault_rules.specs.declared.residence.ResidenceError.{ResidenceError}
use Rattle.fault_rules.specs.declared.residence.ResidenceError.TheVariants as residence_error
use Rattle.fault_rules.specs.declared.service.Served.{Served}
use Rattle.fault_rules.specs.declared.service.Served.TheVariants.{Ended, Ready, Unserved}
use Rattle.file_cabinet.specs.Promises.{refusal_of}
use Rattle.file_cabinet.specs.declared.promise.PromiseError.{PromiseError}
use Rattle.frame_store.specs.Laws.{KeepsSeats}
use Rattle.frame_store.specs.View.{View}
use Rattle.process_model.specs.Files.{File}
use Rattle.process_model.specs.PageMoves.{PageMove}
use Rattle.process_model.specs.Process.{Process}
use Rattle.process_model.specs.declared.reply.Refusal.{Refusal}
use Rattle.sv39_entry.specs.declared.access.Access.{Access}
use Rattle.sv39_entry.specs.declared.rule.Rule.{Rule}
use Rattle.sv39_entry.specs.declared.rule.Rule.TheVariants.{NoFrame}
use Rattle.table_walk.specs.Tables.{Tables}

-- what the traits of a seat, a store and files have for contracts: their views and relations
pub record StoreModel (Seat Frames Cabinet : Type 0) : Type 1 where
  pub view : Seat → View
  pub invariant : Frames → List Seat → Type 0
  pub alone : Type 0
  pub free : Frames → ℕ
  pub count : Frames → ℕ → ℕ
  pub files : Cabinet → List File
  pub becomes : Cabinet → List PageMove → Cabinet → Type 0
  pub can_refuse : Cabinet → ℕ → PromiseError → Type 0

abbrev pub store_model : {Seat Frames Cabinet : Type 0} → (Seat → View) → (Frames → List Seat → Type 0) → Type 0 → (Frames → ℕ)
    → (Frames → ℕ → ℕ) → (Cabinet → List File) → (Cabinet → List PageMove → Cabinet → Type 0)
    → (Cabinet → ℕ → PromiseError → Type 0) → StoreModel Seat Frames Cabinet
store_model view invariant alone free count files becomes can_refuse =
    record { view = view; invariant = invariant; alone = alone; free = free; count = count; files = files; becomes = becomes; can_refuse = can_refuse }

-- a space, its store and the files, at one moment
pub record Moment (Seat Frames Cabinet : Type 0) : Type 0 where
  pub space : Space Seat
  pub store : Frames
  pub files : Cabinet

abbrev pub moment : {Seat Frames Cabinet : Type 0} → Space Seat → Frames → Cabinet → Moment Seat Frames Cabinet
moment space store files = record { space = space; store = store; files = files }

abbrev pub body_at : {Seat Frames Cabinet : Type 0} → StoreModel Seat Frames Cabinet → Moment Seat Frames Cabinet → Body
body_at l a = body_of l.view a.space

-- the outcome of a service that a result of `make_resident` stands for
abbrev pub served_as : Result (Unit {0}) ResidenceError → Served
served_as (Ok u) = Ready
served_as (Err residence_error.NoFrame) = Ended NoFrame
served_as (Err (residence_error.Unpromised e)) = Unserved (refusal_of e)

-- a page was to be made resident for an access, from moment a to moment b, and the outcome is `served`; `rule` gives the
-- first rule that denies the access to a process
pub record ServesPage {Seat Frames Cabinet : Type 0} (l : StoreModel Seat Frames Cabinet) (a b : Moment Seat Frames Cabinet) (access : Access)
    (page : ℕ) (rule : Process → Option Rule) (served : Served) : Type 0 where
  -- if a rule denies the access, the outcome is an end by it; if none does, an end is by NoFrame
  pub ended : (t : Tables) (p : Process) → IsSpace (body_at l a) t p → IsEnd (rule p) served
  -- Ready: the page was made resident
  pub ready : served ≡ Ready
      → HasMadeResident (body_at l a) (body_at l b) (l.files a.files) access page (λ f c. l.alone → c ≡ l.count a.store f)
  -- NoFrame: too few frames could be reserved
  pub dry : served ≡ Ended NoFrame → LacksFrames (body_at l a) (body_at l b) access page
  -- after an end the space is the process that it was
  pub whole : (r : Rule) → served ≡ Ended r → (t : Tables) (p : Process) → IsSpace (body_at l a) t p → IsSpace (body_at l b) t p
  -- a refusal is one with which the files can refuse to promise one page, and the page begins with a page of a file
  pub unpromised : (e : Refusal) → served ≡ Unserved e → (x : PromiseError) × l.can_refuse a.files 1 x × (e ≡ refusal_of x)
  pub of_file : (e : Refusal) → served ≡ Unserved e → (t : Tables) (p : Process) → IsSpace (body_at l a) t p
      → 0 < length (served_moves (l.files a.files) p page (rule p))
  -- after a denial and after a refusal regions, view and store are as they were
  pub stays : DoesNothing served → IsUntouched l.view a.space b.space a.store b.store
  -- what is read from files: nothing after a refusal, else the page's bytes, if no rule denies the access
  pub files_stay : (e : Refusal) → served ≡ Unserved e → l.becomes a.files [] b.files
  pub moves : ((e : Refusal) → served ≢ Unserved e) → (t : Tables) (p : Process) → IsSpace (body_at l a) t p
      → l.becomes a.files (served_moves (l.files a.files) p page (rule p)) b.files
  -- if nobody else changes the store: Ready only if enough frames are free, NoFrame only if too few are, and how many are
  -- free after it
  pub enough : l.alone → WhenMadeResident (body_at l a) access page (l.count a.store) (λ need. served ≡ Ready → need ≤ l.free a.store)
  pub short : l.alone → WhenMadeResident (body_at l a) access page (l.count a.store) (λ need. served ≡ Ended NoFrame → l.free a.store < need)
  pub free : l.alone → WhenMadeResident (body_at l a) access page (l.count a.store) (λ need.
      l.free b.store ≡ l.free a.store - (if is_ready served then need else 0))
  -- root table, trapframe and regions stay, and the store's invariant is kept for all other seats
  pub place : KeepsPlace a.space b.space
  pub keeps : KeepsSeats l.invariant a.store a.space.seat b.store b.space.seat
