-- Lemmas of walks that ask for their words: how one begins and goes on, by the numbers of its scheme, access and mode.
use Rattle.std.proofs.Common.{◌≡◌, ℕ, ◌<◌, ◌≤◌, sym, ◌∙◌, inl, inr, arith, ap, Option, Some, None, is_some}
use Rattle.std.proofs.lemmas.Bool.{false≢true}
use Rattle.sv39_entry.specs.Satp.{root_ppn}
use Rattle.sv39_entry.specs.Schemes.{top_level}
use Rattle.sv39_entry.specs.declared.access.Access.{Access}
use Rattle.sv39_entry.specs.declared.access.Mode.{Mode}
use Rattle.sv39_entry.specs.declared.scheme.Scheme.{Scheme}
use Rattle.sv39_entry.specs.declared.scheme.Scheme.TheVariants.{Sv39, Sv48}
use Rattle.table_walk.specs.Memory.{Extent, Memory, has_byte}
use Rattle.table_walk.specs.declared.walk.Walk.TheVariants as walk
use Rattle.lent_walk.specs.Walks.{Goes, HasEnded, IsAtByte, IsAtWord, left}
use Rattle.lent_walk.specs.declared.walk.LentWalk.{LentWalk}

pub some_is : {X : Type 0} {x : X} → Some x ≡ None → ⊥
some_is same = false≢true (sym (ap is_some same))

pub begun_with : (s z : Scheme) (m : Memory) (there : Extent) (root top address : ℕ) (a : Access) (p : Mode) (w : LentWalk) → s ≡ z → root ≡ top
    → Goes s m there root address a p w → Goes z m there top address a p w
begun_with s z m there root top address a p w scheme at goes = rw (← scheme, ← at) goes

pub for_access : (s : Scheme) (m : Memory) (there : Extent) (satp other address : ℕ) (a b : Access) (p q : Mode) (w : LentWalk) → satp ≡ other → a ≡ b → p ≡ q
    → Goes s m there (root_ppn satp) address a p w → Goes s m there (root_ppn other) address b q w
for_access s m there satp other address a b p q w same access mode goes = rw (← same, ← access, ← mode) goes

top_low : (s : Scheme) → top_level s ≤ 3
top_low Sv39 = omega arith
top_low Sv48 = omega arith

module _ (s : Scheme) (m : Memory) (there : Extent) (root address : ℕ) (a : Access) (p : Mode) where
  -- a walk that has ended asks for nothing
  asks_not : (w : LentWalk) → HasEnded s m there root address a p w → 0 < left w → ⊥
  asks_not w (walk.Leaf leaf level physical, outcome, tells) more = let none = rw tells.0 at more in omega (arith, none)
  asks_not w (walk.PageFault cause, outcome, tells) more = let none = rw tells.0 at more in omega (arith, none)
  asks_not w (walk.AccessFault cause, outcome, tells) more = let none = rw tells.0 at more in omega (arith, none)

  -- a walk that asks is at a level that there is
  pub level_low : (w : LentWalk) → Goes s m there root address a p w → 0 < left w → w.level ≤ 3
  level_low w (inl at) more = let low = at.low in omega (arith, low, top_low s)
  level_low w (inr (inl at)) more = let low = at.leaf.1.reads.low in omega (arith, low, top_low s)
  level_low w (inr (inr ended)) more = absurd (asks_not w ended more)

pub goes_on : (s z : Scheme) (m : Memory) (there : Extent) (root address : ℕ) (a b : Access) (p q : Mode) (w r : LentWalk) (read : Option ℕ) → s ≡ z → a ≡ b → p ≡ q → 0 < left w
    → (IsAtWord s m root address w → m w.table w.index ≡ read → Goes s m there root address a p r)
    → (IsAtByte s m root address a p w → has_byte there w.place ≡ is_some read → Goes s m there root address a p r)
    → (w.status ≡ 8 → m w.table w.index ≡ read) → (w.status ≡ 9 → has_byte there w.place ≡ is_some read)
    → Goes z m there root address b q w → Goes z m there root address b q r
goes_on s z m there root address a b p q w r read scheme access mode more word byte of_word of_byte goes =
    let here : Goes s m there root address a p w = rw (scheme, access, mode) goes in
    rw (← scheme, ← access, ← mode) (elim here [
      | inl at ↦ word at (of_word at.asks)
      | inr (inl at) ↦ byte at (of_byte at.asks)
      | inr (inr ended) ↦ absurd (asks_not s m there root address a p w ended more)
    ])
