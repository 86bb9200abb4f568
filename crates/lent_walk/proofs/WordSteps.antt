-- Lemmas: how a walk that asks for its words goes on, by the word that it is given, over any memory that has this word.
use Rattle.std.proofs.Common.{◌≡◌, ◌⊎◌, ℕ, zero, suc, ◌+◌, ◌-◌, ◌*◌, ◌%◌, ◌^◌, ◌<◌, true, false, refl, sym, ◌∙◌, inl, inr, arith, Option, Some, None}
use Rattle.sv39_entry.specs.Address.{page_of, vpn}
use Rattle.sv39_entry.specs.Causes.{access_fault_cause, page_fault_cause}
use Rattle.sv39_entry.specs.Schemes.{is_canonical, top_level}
use Rattle.sv39_entry.specs.Word.{kind_of, permits, ppn}
use Rattle.sv39_entry.specs.declared.access.Access.{Access}
use Rattle.sv39_entry.specs.declared.access.Mode.{Mode}
use Rattle.sv39_entry.specs.declared.entry.Kind.TheVariants.{Invalid, Leaf, Pointer}
use Rattle.sv39_entry.specs.declared.scheme.Scheme.{Scheme}
use Rattle.table_walk.specs.Memory.{Extent, Memory, has_byte, physical_address}
use Rattle.table_walk.specs.Walk.{FindsLeaf, IsAt, Reads, Translates}
use Rattle.table_walk.specs.declared.walk.Walk.{Walk}
use Rattle.table_walk.specs.declared.walk.Walk.TheVariants as walk
use Rattle.table_walk.proofs.Ways.{down, invalid, misaligned, too_far}
use Rattle.lent_walk.specs.Walks.{Goes, IsAsking, IsAtByte, IsAtWord}
use Rattle.lent_walk.specs.declared.walk.LentWalk.{LentWalk}

module _ (s : Scheme) (m : Memory) (there : Extent) (root address : ℕ) (access : Access) (mode : Mode) where
  -- the word that the walk asks for is the one that it reads at this level
  reads : (w : LentWalk) (o : Option ℕ) → IsAtWord s m root address w → m w.table w.index ≡ o → Reads s m root (page_of address) w.level o
  reads w o at has = record { low = at.low; table = w.table; way = at.way; read = rw at.index at has }

  -- the root's table is the first
  pub first : (r : LentWalk) → is_canonical s address ≡ true → IsAsking address (top_level s) root r → Goes s m there root address access mode r
  first r canonical asks =
      let none : top_level s - top_level s ≡ 0 = omega arith in
      inl (record {
        asks = asks.asks;
        low = rw asks.of_level (omega arith);
        way = rw (asks.of_level, asks.of_table, none) refl;
        index = rw asks.of_level asks.index;
        place = rw (asks.of_table, asks.index) asks.place;
        canonical = canonical;
      })

  pub not_canonical : (r : LentWalk) → is_canonical s address ≡ false → r.status ≡ 1 → r.cause ≡ page_fault_cause access → Goes s m there root address access mode r
  not_canonical r bad status cause = inr (inr (walk.PageFault (page_fault_cause access), (refl, inl (inl bad)), (status, cause)))

  pub outside : (w r : LentWalk) → IsAtWord s m root address w → m w.table w.index ≡ None → r.status ≡ 2 → r.cause ≡ access_fault_cause access
      → Goes s m there root address access mode r
  outside w r at has status cause =
      inr (inr (walk.AccessFault (access_fault_cause access), (refl, inl (at.canonical, (w.level, reads w None at has))), (status, cause)))

  pub invalid_word : (w r : LentWalk) (word : ℕ) → IsAtWord s m root address w → m w.table w.index ≡ Some word → kind_of word ≡ Invalid → r.status ≡ 1
      → r.cause ≡ page_fault_cause access → Goes s m there root address access mode r
  invalid_word w r word at has kind status cause =
      inr (inr (walk.PageFault (page_fault_cause access), (refl, inl (inr (invalid s m root (page_of address) w.level word (reads w (Some word) at has) kind))), (status, cause)))

  -- a pointer at level 0
  pub last_pointer : (w r : LentWalk) (word : ℕ) → IsAtWord s m root address w → m w.table w.index ≡ Some word → kind_of word ≡ Pointer → w.level ≡ 0 → r.status ≡ 1
      → r.cause ≡ page_fault_cause access → Goes s m there root address access mode r
  last_pointer w r word at has kind last status cause =
      let further = down s m root (page_of address) w.level word (reads w (Some word) at has) kind in
      let bottom : suc (top_level s) - w.level ≡ suc (top_level s) = omega (arith, last) in
      inr (inr (walk.PageFault (page_fault_cause access), (refl, inl (inr (too_far s m root (page_of address) (ppn word) (rw bottom at further)))), (status, cause)))

  -- a pointer leads to the table below
  pub below : (w r : LentWalk) (word : ℕ) → IsAtWord s m root address w → m w.table w.index ≡ Some word → kind_of word ≡ Pointer → 0 < w.level
      → IsAsking address (w.level - 1) (ppn word) r → Goes s m there root address access mode r
  below w r word at has kind more asks =
      let low = at.low in
      let further = down s m root (page_of address) w.level word (reads w (Some word) at has) kind in
      let deeper : suc (top_level s) - w.level ≡ top_level s - (w.level - 1) = omega arith in
      inl (record {
        asks = asks.asks;
        low = rw asks.of_level (omega arith);
        way = rw (asks.of_level, asks.of_table) (rw deeper at further);
        index = rw asks.of_level asks.index;
        place = rw (asks.of_table, asks.index) asks.place;
        canonical = at.canonical;
      })

  pub misaligned_leaf : (w r : LentWalk) (word : ℕ) → IsAtWord s m root address w → m w.table w.index ≡ Some word → kind_of word ≡ Leaf
      → (ppn word % 2 ^ (9 * w.level) ≡ 0 → ⊥) → r.status ≡ 1 → r.cause ≡ page_fault_cause access → Goes s m there root address access mode r
  misaligned_leaf w r word at has kind odd status cause =
      inr (inr (walk.PageFault (page_fault_cause access), (refl, inl (inr (misaligned s m root (page_of address) w.level word (reads w (Some word) at has) kind odd))), (status, cause)))

  -- an aligned leaf
  found : (w : LentWalk) (word : ℕ) → IsAtWord s m root address w → m w.table w.index ≡ Some word → kind_of word ≡ Leaf → ppn word % 2 ^ (9 * w.level) ≡ 0
      → FindsLeaf s m root address word w.level
  found w word at has kind aligned = (at.canonical, record { reads = reads w (Some word) at has; kind = kind; aligned = aligned })

  pub denied : (w r : LentWalk) (word : ℕ) → IsAtWord s m root address w → m w.table w.index ≡ Some word → kind_of word ≡ Leaf → ppn word % 2 ^ (9 * w.level) ≡ 0
      → permits mode access word ≡ false → r.status ≡ 1 → r.cause ≡ page_fault_cause access → Goes s m there root address access mode r
  denied w r word at has kind aligned denies status cause =
      inr (inr (walk.PageFault (page_fault_cause access), (refl, inr (word, w.level, found w word at has kind aligned, denies)), (status, cause)))

  pub permitted : (w r : LentWalk) (word : ℕ) → IsAtWord s m root address w → m w.table w.index ≡ Some word → kind_of word ≡ Leaf → ppn word % 2 ^ (9 * w.level) ≡ 0
      → permits mode access word ≡ true → r.status ≡ 9 → r.word ≡ word → r.level ≡ w.level → r.place ≡ physical_address word w.level address
      → Goes s m there root address access mode r
  permitted w r word at has kind aligned permits status same level place =
      inr (inl (record {
        asks = status;
        leaf = rw (same, level) (found w word at has kind aligned);
        permitted = rw same permits;
        place = rw (same, level) place;
      }))

  pub granted : (w r : LentWalk) → IsAtByte s m root address access mode w → has_byte there w.place ≡ true → r.status ≡ 0 → r.word ≡ w.word → r.level ≡ w.level
      → r.place ≡ w.place → Goes s m there root address access mode r
  granted w r at byte status word level place =
      inr (inr (walk.Leaf w.word w.level w.place, (at.leaf, at.permitted, at.place, byte), (status, word, level, place)))

  pub gone : (w r : LentWalk) → IsAtByte s m root address access mode w → has_byte there w.place ≡ false → r.status ≡ 2 → r.cause ≡ access_fault_cause access
      → Goes s m there root address access mode r
  gone w r at byte status cause =
      inr (inr (walk.AccessFault (access_fault_cause access), (refl, inr (w.word, w.level, at.leaf, at.permitted, rw at.place at byte)), (status, cause)))
