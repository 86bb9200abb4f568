-- Kernel copies of one space (copyin, copyout) run by run; a run is the bytes of the copy in one page. The runs of a copy
-- (`runs`, `runs_of`); what is done with one that is read (`IsRead`) or stored (`Puts`); the whole copy (`CopiesIn`,
-- `CopiesOut`): each page is made resident once, at the run's first address, and then the run is copied. The first run that
-- is stopped ends the copy; the runs before it stay copied.
use Rattle.std.specs.Prelude.{◌≡◌, ℕ, zero, suc, ◌+◌, ◌-◌, ◌%◌, nat_le, Option, None, Some, Result, Ok, Err, List, [], ◌∷◌, ◌++◌, drop}
use Rattle.std.specs.Prelude.{length, take, if◌then◌else◌}
use Rattle.address_space.specs.Agreement.{IsSpace}
use Rattle.address_space.specs.Steps.{CanRead, CanWrite, TakesFrames}
use Rattle.fault_rules.specs.PageService.{body_at, Moment, StoreModel}
use Rattle.frame_store.specs.Laws.{KeepsSeats}
use Rattle.frame_store.specs.View.{IsSole}
use Rattle.process_model.specs.Process.{Page, Process}
use Rattle.process_model.specs.Residence.{stored, with_page}
use Rattle.sv39_entry.specs.Address.{page_of}
use Rattle.sv39_entry.specs.declared.access.Access.TheVariants.{Load, Store}
use Rattle.table_walk.specs.Tables.{Tables}
use Rattle.user_copy.specs.ReachedPage.{Reaches}
use Rattle.user_copy.specs.declared.short.Stop.{Stop}

-- ---- runs

-- how many of n bytes from an address on lie in its page
abbrev pub near : ℕ → ℕ → ℕ
near address n = let room = 4096 - address % 4096 in if nat_le n room then n else room

-- the run of n bytes at an address; none if n is 0, so that no page is made resident for it
abbrev pub some_run : ℕ → ℕ → List (ℕ × ℕ)
some_run address zero = []
some_run address (suc n) = (address, suc n) ∷ []

-- the runs of a copy of n bytes, at most 256: these lie in at most two pages
abbrev pub runs : ℕ → ℕ → List (ℕ × ℕ)
runs address n = some_run address (near address n) ++ some_run (address + near address n) (n - near address n)

-- the run of some bytes for an address; none if there are no bytes
abbrev pub some_bytes : ℕ → List ℕ → List (ℕ × List ℕ)
some_bytes address [] = []
some_bytes address (b ∷ bytes) = (address, b ∷ bytes) ∷ []

-- the runs of a copy of these bytes, at most 256, to an address
abbrev pub runs_of : ℕ → List ℕ → List (ℕ × List ℕ)
runs_of address bytes =
    let here = near address (length bytes) in
    some_bytes address (take here bytes) ++ some_bytes (address + here) (drop here bytes)

-- ---- what is done with them

module _ {Seat Frames Cabinet : Type 0} (l : StoreModel Seat Frames Cabinet) where
  -- `got` are the n bytes at an address of a settled page, and nothing changed
  pub record IsRead (a b : Moment Seat Frames Cabinet) (address n : ℕ) (got : List ℕ) : Type 0 where
    pub bytes : (t : Tables) (p : Process) (s : Page) → CanRead (body_at l a) t p (page_of address) s → got ≡ take n (drop (address % 4096) s.bytes)
    pub view : l.view b.space.seat ≡ l.view a.space.seat
    pub root : b.space.root ≡ a.space.root
    pub trapframe : b.space.trapframe ≡ a.space.trapframe
    pub layout : b.space.layout ≡ a.space.layout
    pub store : b.store ≡ a.store
    pub files : b.files ≡ a.files
    pub keeps : KeepsSeats l.invariant a.store a.space.seat b.store b.space.seat

  -- bytes were stored at an address of a settled page without copy-on-write mark whose region grants writing, and no frame was
  -- taken
  pub record Puts (a b : Moment Seat Frames Cabinet) (address : ℕ) (bytes : List ℕ) : Type 0 where
    pub agrees : (t : Tables) (p : Process) (s : Page) → CanWrite (body_at l a) t p (page_of address) s
        → IsSpace (body_at l b) t (with_page p (page_of address) (stored s (address % 4096) bytes))
    pub soles : (f : ℕ) → IsSole (l.view a.space.seat) f → IsSole (l.view b.space.seat) f
    pub takes : TakesFrames (l.view a.space.seat) (l.view b.space.seat) 0 []
    pub free : l.alone → l.free b.store ≡ l.free a.store
    pub counts : l.alone → (f : ℕ) → l.count b.store f ≡ l.count a.store f
    pub root : b.space.root ≡ a.space.root
    pub trapframe : b.space.trapframe ≡ a.space.trapframe
    pub layout : b.space.layout ≡ a.space.layout
    pub files : b.files ≡ a.files
    pub keeps : KeepsSeats l.invariant a.store a.space.seat b.store b.space.seat

  -- ---- copies: `done` is what was copied before, `stop` is what stopped the copy, None if nothing did

  -- what follows for a run, by whether its page was made resident
  abbrev pub IfReached : Result (Unit {0}) Stop → Type 0 → (Stop → Type 0) → Type 0
  IfReached (Ok u) Goes Stops = Goes
  IfReached (Err stop) Goes Stops = Stops stop

  -- a copy from the process, along the runs: `bytes` are all that were copied, with those before
  abbrev pub CopiesIn : List (ℕ × ℕ) → Moment Seat Frames Cabinet → Moment Seat Frames Cabinet → List ℕ → List ℕ → Option Stop → Type 0
  CopiesIn [] a c done bytes stop = (c ≡ a) × (bytes ≡ done) × (stop ≡ None)
  CopiesIn (run ∷ rest) a c done bytes stop =
      (b : Moment Seat Frames Cabinet) × (r : Result (Unit {0}) Stop) × Reaches l a b Load run.0 r
      × IfReached r ((d : Moment Seat Frames Cabinet) × (got : List ℕ) × IsRead b d run.0 run.1 got × CopiesIn rest d c (done ++ got) bytes stop)
      (λ s. (c ≡ b) × (bytes ≡ done) × (stop ≡ Some s))

  -- a copy to the process, along the runs: `count` is how many bytes were copied, with those before
  abbrev pub CopiesOut : List (ℕ × List ℕ) → Moment Seat Frames Cabinet → Moment Seat Frames Cabinet → ℕ → ℕ → Option Stop → Type 0
  CopiesOut [] a c done count stop = (c ≡ a) × (count ≡ done) × (stop ≡ None)
  CopiesOut (run ∷ rest) a c done count stop =
      (b : Moment Seat Frames Cabinet) × (r : Result (Unit {0}) Stop) × Reaches l a b Store run.0 r
      × IfReached r ((d : Moment Seat Frames Cabinet) × Puts b d run.0 run.1 × CopiesOut rest d c (done + length run.1) count stop)
      (λ s. (c ≡ b) × (count ≡ done) × (stop ≡ Some s))
