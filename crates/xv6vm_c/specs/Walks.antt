-- What the calls of a walk that asks for its words answer, for every argument.
use Rattle.std.specs.Prelude.{◌≡◌, ◌==◌, ℕ, false, true, is_some, Option, None, Some, if◌then◌else◌}
use Rattle.lent_walk.specs.Walks.{Goes}
use Rattle.sv39_entry.specs.Satp.{root_ppn, scheme_of}
use Rattle.sv39_entry.specs.declared.access.Access.{Access}
use Rattle.sv39_entry.specs.declared.access.Mode.{Mode}
use Rattle.sv39_entry.specs.declared.scheme.Scheme.{Scheme}
use Rattle.table_walk.specs.Memory.{Extent, Memory, has_byte}
use Rattle.xv6vm_c.specs.Codes.{access_of, is_bare, mode_of}
use Rattle.xv6vm_c.specs.declared.walk.Walk.{Walk}

-- a walk is for an access to an address by a satp
pub record IsFor (satp address access mode : ℕ) (w : Walk) : Type 0 where
  pub satp_is : w.satp ≡ satp
  pub address_is : w.address ≡ address
  pub access_is : w.access ≡ access
  pub mode_is : w.mode ≡ mode

-- the numbers of a walk have a meaning
pub record HasMeaning (w : Walk) (s : Scheme) (a : Access) (p : Mode) : Type 0 where
  pub scheme : scheme_of w.satp ≡ Some s
  pub access : access_of w.access ≡ Some a
  pub mode : mode_of w.mode ≡ Some p

-- how far a walk with a meaning has come, over a memory
abbrev pub GoesOn : Walk → Scheme → Access → Mode → Memory → Extent → Type 0
GoesOn w s a p m there = Goes s m there (root_ppn w.satp) w.address a p w.at

-- a walk begins
pub record IsBegunWalk (w : Walk) : Type 0 where
  -- Sv39 and Sv48: over any memory
  pub walks : (s : Scheme) (a : Access) (p : Mode) → HasMeaning w s a p → (m : Memory) (there : Extent) → GoesOn w s a p m there
  -- Bare: the address is the physical address
  pub bare : (a : Access) (p : Mode) → is_bare w.satp ≡ true → access_of w.access ≡ Some a → mode_of w.mode ≡ Some p → (w.at.status ≡ 3) × (w.at.place ≡ w.address)
  -- an argument has no meaning: the first of access, mode and satp
  pub unknown_access : access_of w.access ≡ None → (w.at.status ≡ 6) × (w.at.cause ≡ 1)
  pub unknown_mode : (a : Access) → access_of w.access ≡ Some a → mode_of w.mode ≡ None → (w.at.status ≡ 6) × (w.at.cause ≡ 2)
  pub unknown_satp : (a : Access) (p : Mode) → access_of w.access ≡ Some a → mode_of w.mode ≡ Some p → is_bare w.satp ≡ false → scheme_of w.satp ≡ None
      → (w.at.status ≡ 6) × (w.at.cause ≡ 3)

-- the word that a caller tells; None: it is outside the memory
abbrev pub word_if : ℕ → ℕ → Option ℕ
word_if is_there word = if is_there == 0 then None else Some word

-- a memory has what a walk asks for, as a caller tells it: the word, or that the byte is there
pub record IsTold (w : Walk) (m : Memory) (there : Extent) (read : Option ℕ) : Type 0 where
  pub of_word : w.at.status ≡ 8 → m w.at.table w.at.index ≡ read
  pub of_byte : w.at.status ≡ 9 → has_byte there w.at.place ≡ is_some read
