-- How far a walk that asks for its words has come, over any memory that gives them (`Goes`): at a table's word (`IsAtWord`), at the byte that a
-- leaf leads to (`IsAtByte`), or at its end (`HasEnded`), with the outcome of the translation. (RISC-V Privileged Architecture 20211203, 4.3.2.)
use Rattle.std.specs.Prelude.{◌≡◌, ◌⊎◌, ℕ, ◌+◌, ◌-◌, ◌*◌, ◌≤◌, ◌==◌, true, if◌then◌else◌}
use Rattle.sv39_entry.specs.Address.{page_of, vpn}
use Rattle.sv39_entry.specs.Schemes.{is_canonical, top_level}
use Rattle.sv39_entry.specs.Word.{permits}
use Rattle.sv39_entry.specs.declared.access.Access.{Access}
use Rattle.sv39_entry.specs.declared.access.Mode.{Mode}
use Rattle.sv39_entry.specs.declared.scheme.Scheme.{Scheme}
use Rattle.table_walk.specs.Memory.{Extent, Memory, physical_address}
use Rattle.table_walk.specs.Walk.{FindsLeaf, IsAt, Translates}
use Rattle.table_walk.specs.declared.walk.Walk.{Walk}
use Rattle.table_walk.specs.declared.walk.Walk.TheVariants as walk
use Rattle.lent_walk.specs.declared.walk.LentWalk.{LentWalk}

-- the walk asks for the word at an address's index in a table
pub record IsAsking (address level table : ℕ) (w : LentWalk) : Type 0 where
  pub asks : w.status ≡ 8
  pub of_level : w.level ≡ level
  pub of_table : w.table ≡ table
  pub index : w.index ≡ vpn (page_of address) level
  pub place : w.place ≡ table * 4096 + vpn (page_of address) level * 8

-- the walk asks for the word of a table on its way
pub record IsAtWord (s : Scheme) (m : Memory) (root address : ℕ) (w : LentWalk) : Type 0 where
  pub asks : w.status ≡ 8
  pub low : w.level ≤ top_level s
  pub way : IsAt s m root (page_of address) (top_level s - w.level) w.table
  pub index : w.index ≡ vpn (page_of address) w.level
  pub place : w.place ≡ w.table * 4096 + w.index * 8
  pub canonical : is_canonical s address ≡ true

-- the walk has a leaf that permits the access, and asks whether the byte that it leads to is in the memory
pub record IsAtByte (s : Scheme) (m : Memory) (root address : ℕ) (access : Access) (mode : Mode) (w : LentWalk) : Type 0 where
  pub asks : w.status ≡ 9
  pub leaf : FindsLeaf s m root address w.word w.level
  pub permitted : permits mode access w.word ≡ true
  pub place : w.place ≡ physical_address w.word w.level address

-- the numbers of an outcome
abbrev pub Tells : LentWalk → Walk → Type 0
Tells w (walk.Leaf word level address) = (w.status ≡ 0) × (w.word ≡ word) × (w.level ≡ level) × (w.place ≡ address)
Tells w (walk.PageFault cause) = (w.status ≡ 1) × (w.cause ≡ cause)
Tells w (walk.AccessFault cause) = (w.status ≡ 2) × (w.cause ≡ cause)

-- the access is translated to an outcome, which the walk tells
abbrev pub HasEnded : Scheme → Memory → Extent → ℕ → ℕ → Access → Mode → LentWalk → Type 0
HasEnded s m there root address access mode w = (x : Walk) × Translates s m there root address access mode x × Tells w x

abbrev pub Goes : Scheme → Memory → Extent → ℕ → ℕ → Access → Mode → LentWalk → Type 0
Goes s m there root address access mode w =
    IsAtWord s m root address w ⊎ (IsAtByte s m root address access mode w ⊎ HasEnded s m there root address access mode w)

-- how many answers a walk still asks for, at most
abbrev pub left : LentWalk → ℕ
left w = if w.status == 8 then w.level + 2 else (if w.status == 9 then 1 else 0)
