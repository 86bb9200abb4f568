-- What a fork does, as relations: its stages (frames and references taken, `Prepares`; ready for the child, `CanDivide`; the
-- child's tables made, `HasChild`), parent and child after it (`Forks`, `HasForked`), and what is given back if a count was
-- full (`IsGivenBack`). Also which error a result is, and the model's refusal for it.
use Rattle.std.specs.Prelude.{◌≡◌, ℕ, ◌+◌, ◌<◌, Err, List, [], ◌∷◌, Result, Some}
use Rattle.std.specs.FinMap.{get}
use Rattle.frame_store.specs.View.{counted, hold_of, IsHeld, IsSole, references, spent, View}
use Rattle.process_model.specs.Frames.{fork_need}
use Rattle.process_model.specs.PageMap as pages
use Rattle.process_model.specs.Process.{Page, Process}
use Rattle.process_model.specs.Residence.{child_of, marked}
use Rattle.process_model.specs.declared.reply.Refusal.{Refusal}
use Rattle.process_model.specs.declared.reply.Refusal.TheVariants as refusal
use Rattle.process_model.specs.declared.limits.TheConstants.{MOST_REFERENCES}
use Rattle.sv39_entry.specs.Schemes.{trampoline_page, trapframe_page}
use Rattle.table_walk.specs.TableCounts.{AreTablesOf}
use Rattle.table_walk.specs.Tables.{HasTables, Tables}
use Rattle.address_space.specs.Agreement.{Body, body, code_rights, data_rights, HasKernelLeaf, IsLeafNumber, IsFrameOfPage, IsSpace}
use Rattle.address_space.specs.SettledLists.{AreSettled}
use Rattle.address_space.specs.declared.settled_pages.SettledPage.{SettledPage}
use Rattle.cow_fork.specs.Children.{HasChildLeaf}
use Rattle.cow_fork.specs.Occurrences.{times}
use Rattle.cow_fork.specs.SplitSpaces.{AreForChild}
use Rattle.cow_fork.specs.ForkReferences.{AreToShare, HasMore, IsToShare}
use Rattle.cow_fork.specs.declared.fork_process.ForkError.{ForkError}
use Rattle.cow_fork.specs.declared.fork_process.ForkError.TheVariants as refused

-- the model's refusal for an error of `fork`
abbrev pub refusal_of : ForkError → Refusal
refusal_of refused.NoFrame = refusal.NoFrame
refusal_of refused.SharersFull = refusal.SharersFull

-- which error a result is

abbrev pub IsNoFrameError : {A : Type 0} → Result A ForkError → Type 0
IsNoFrameError r = r ≡ Err refused.NoFrame

abbrev pub IsSharersFullError : {A : Type 0} → Result A ForkError → Type 0
IsSharersFullError r = r ≡ Err refused.SharersFull

-- from v to w the seat got one reference more of each frame in `shared`, for each time it is listed there, and has `need`
-- credits; `frames` is the same list
pub record Prepares (v w : View) (need : ℕ) (frames shared : List ℕ) : Type 0 where
  pub more : HasMore v w frames
  pub all : frames ≡ shared
  pub credits : w.credits ≡ need
  pub tallies : w.tallies ≡ v.tallies

-- references and credits are what they were; one count was read since, `MOST_REFERENCES`
pub record IsGivenBack (v w : View) : Type 0 where
  pub holds : (f : ℕ) → hold_of w f ≡ hold_of v f
  pub credits : w.credits ≡ v.credits
  pub tallies : w.tallies ≡ counted (MOST_REFERENCES ∷ []) v.tallies

-- the space was process p with the view v; since then its seat got the credits of the fork, and one reference more of each
-- frame that will be shared, listed in `frames`. So the child can be made
pub record CanDivide (v : View) (x : Body) (t : Tables) (p : Process) (list : List SettledPage) (frames : List ℕ) : Type 0 where
  pub space : IsSpace (body v x.root x.trapframe x.layout) t p
  pub more : HasMore v x.view frames
  pub going : AreToShare t p (trapframe_page p.scheme) frames
  pub settled : AreSettled t p 0 (trapframe_page p.scheme) list
  pub credits : (x.view).credits ≡ fork_need p
  pub tallies : (x.view).tallies ≡ v.tallies

-- from v to w the child's tables u were made, over the trapframe `own`, both on frames of which the seat had no reference;
-- `frames` has each frame that u names, once, and no other. The seat has these references beside those that it had, and knows
-- the words that it knew
pub record HasChild (v w : View) (t u : Tables) (p : Process) (root own : ℕ) (frames : List ℕ) : Type 0 where
  pub tables : HasTables p.scheme w root u
  pub on_trampoline : HasKernelLeaf u (trampoline_page p.scheme) 0 code_rights
  pub on_trapframe : HasKernelLeaf u (trapframe_page p.scheme) own data_rights
  pub settled : (n : ℕ) (s : Page) → pages.get p.settled n ≡ Some s → HasChildLeaf t u p n s
  pub only : (k x : ℕ) → get u.leaves k ≡ Some x → IsLeafNumber p k
  pub tabled : AreTablesOf p.scheme u (pages.keys p.settled)
  pub counts : (f : ℕ) → references w f ≡ references v f + times f frames
  pub same : (f : ℕ) → IsHeld v f → ((hold_of w f).words ≡ (hold_of v f).words) × ((hold_of w f).sole ≡ (hold_of v f).sole)
  pub fresh : (k f : ℕ) → get u.tables k ≡ Some f → references v f ≡ 0
  pub going : (f : ℕ) → 0 < times f frames → IsHeld v f → IsToShare t p (trapframe_page p.scheme) f
  pub for_child : AreForChild u (λ f. times f frames)
  pub own_fresh : references v own ≡ 0
  pub own_sole : IsSole w own
  pub own_apart : (k : ℕ) → get u.tables k ≡ Some own → ⊥
  pub credits : w.credits ≡ 0
  pub tallies : w.tallies ≡ spent (fork_need p) v.tallies

-- a fork of process p: body x before it, y the parent after it, z the child. Both have each settled page on the frame that
-- the parent had, and the parent's seat claimed the frames of the fork
pub record Forks (x y z : Body) (t u w : Tables) (p : Process) : Type 0 where
  pub parent : IsSpace y u (marked p)
  pub child : IsSpace z w (child_of p)
  pub on_parent : (n f : ℕ) (s : Page) → pages.get p.settled n ≡ Some s → IsFrameOfPage u n f → IsFrameOfPage t n f
  pub on_child : (n f : ℕ) (s : Page) → pages.get p.settled n ≡ Some s → IsFrameOfPage w n f → IsFrameOfPage t n f
  pub tallies : (y.view).tallies ≡ spent (fork_need p) (x.view).tallies

-- what a fork does if it is not refused: `Forks`, whichever process the space was
abbrev pub HasForked : Body → Body → Body → Type 0
HasForked x y z = (t : Tables) (p : Process) → IsSpace x t p → (u w : Tables) × Forks x y z t u w p
