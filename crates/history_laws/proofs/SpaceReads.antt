-- Lemmas: where nothing old of an address space is in any cache, what a hart may hold of it is what a walk over memory as it is reads.
use Rattle.std.proofs.Common.{◌≡◌, ◌⊎◌, ℕ, zero, suc, ◌-◌, ◌≤◌, true, false, refl, sym, ap, subst, ◌∙◌, inl, inr, arith, Some, List, ◌∷◌}
use Rattle.std.proofs.lemmas.Bool.{false≢true}
use Rattle.std.proofs.lemmas.Option.{same_Some}
use Rattle.sv39_entry.specs.Address.{page_of, vpn}
use Rattle.sv39_entry.specs.Satp.{asid, root_ppn, scheme_of}
use Rattle.sv39_entry.specs.Schemes.{top_level}
use Rattle.sv39_entry.specs.Word.{ppn}
use Rattle.sv39_entry.specs.declared.entry.Kind.TheVariants.{Pointer}
use Rattle.sv39_entry.specs.declared.scheme.Scheme.{Scheme}
use Rattle.table_walk.specs.Walk.{IsAt}
use Rattle.walk_rules.specs.Addresses.{top_of}
use Rattle.walk_rules.specs.Kinds.{kind_in}
use Rattle.walk_rules.specs.declared.extensions.Extensions.{Extensions}
use Rattle.access_history.specs.Held.{IsHeld, IsKept, IsUnder, Read, at_root, below, goes_on, is_active, next, now, stays, updated}
use Rattle.access_history.specs.History.{First, Memory, IsPast, memory_at, satp_at}
use Rattle.access_history.specs.History as history
use Rattle.access_history.specs.declared.event.Event.{Event}
use Rattle.history_laws.specs.PlainWalks.{IsPlainHart}
use Rattle.history_laws.specs.SpaceWalks.{HasNoGlobals, IsFreshFor, IsOwn, IsSpaceSettled, LeavesWalk, fenced, fenced_all, fresh, quiet}
use Rattle.history_laws.proofs.PlainEntries.{pointer_of}
use Rattle.history_laws.proofs.PlainReads.{IsRead, read_now, top_is, word_updated}

-- the walk from the root of a satp over memory at a moment reads an entry
pub record IsReadBy (f : First) (va satp : ℕ) (h : List Event) (s : Scheme) (r : Read) : Type 0 where
  pub low : r.level ≤ top_level s
  pub way : IsAt s (memory_at f.memory h) (root_ppn satp) (page_of va) (top_level s - r.level) r.table
  pub word : memory_at f.memory h r.table (vpn (page_of va) r.level) ≡ Some r.word

module _ (f : First) (va satp : ℕ) (s : Scheme) (e : Event) (h : List Event) (q : LeavesWalk f s (page_of va) satp e h) where
  way_on : (k table : ℕ) → k ≤ top_level s → IsAt s (memory_at f.memory h) (root_ppn satp) (page_of va) k table
      → IsAt s (memory_at f.memory (e ∷ h)) (root_ppn satp) (page_of va) k table
  way_on zero table low way = way
  way_on (suc k) table low way =
      (way.0, way.1, way_on k way.0 (omega (arith, low)) way.2, q k way.0 (omega (arith, low)) way.2 ∙ way.3, way.4, way.5)

  way_back : (k table : ℕ) → k ≤ top_level s → IsAt s (memory_at f.memory (e ∷ h)) (root_ppn satp) (page_of va) k table
      → IsAt s (memory_at f.memory h) (root_ppn satp) (page_of va) k table
  way_back zero table low way = way
  way_back (suc k) table low way =
      let up = way_back k way.0 (omega (arith, low)) way.2 in (way.0, way.1, up, sym (q k way.0 (omega (arith, low)) up) ∙ way.3, way.4, way.5)

  same_word : (level table : ℕ) → level ≤ top_level s → IsAt s (memory_at f.memory h) (root_ppn satp) (page_of va) (top_level s - level) table
      → memory_at f.memory (e ∷ h) table (vpn (page_of va) level) ≡ memory_at f.memory h table (vpn (page_of va) level)
  same_word level table low way =
      let back : top_level s - (top_level s - level) ≡ level = omega (arith, low) in
      subst (λ (n : ℕ). memory_at f.memory (e ∷ h) table (vpn (page_of va) n) ≡ memory_at f.memory h table (vpn (page_of va) n)) back
      (q (top_level s - level) table (omega arith) way)

  read_on : (r : Read) → IsReadBy f va satp h s r → IsReadBy f va satp (e ∷ h) s r
  read_on r read = record {
    low = read.low;
    way = way_on (top_level s - r.level) r.table (omega arith) read.way;
    word = same_word r.level r.table read.low read.way ∙ read.word;
  }

kept_fresh : (x : Extensions) (f : First) (va space : ℕ) (r : Read) → r.asid ≡ space → r.global ≡ false → (h past : List Event) → IsFreshFor space h
    → IsKept x f va r h past → past ≡ h
kept_fresh x f va space r mine local h past none now = refl
kept_fresh x f va space r mine local h past fenced_all (next k free) = absurd (free (tt, tt))
kept_fresh x f va space r mine local h past fenced (next k free) = absurd (free ((mine, local), tt))

kept_word : (x : Extensions) (f : First) (va satp : ℕ) (s : Scheme) (r : Read) → r.asid ≡ asid satp → r.global ≡ false → r.level ≤ top_level s
    → (h past : List Event) → IsSpaceSettled f s (page_of va) satp h → IsKept x f va r h past
    → IsAt s (memory_at f.memory h) (root_ppn satp) (page_of va) (top_level s - r.level) r.table
    → memory_at f.memory h r.table (vpn (page_of va) r.level) ≡ memory_at f.memory past r.table (vpn (page_of va) r.level)
kept_word x f va satp s r mine local low h past (fresh none own) kept way =
    ap (λ (k : List Event). memory_at f.memory k r.table (vpn (page_of va) r.level)) (sym (kept_fresh x f va (asid satp) r mine local h past none kept))
kept_word x f va satp s r mine local low h past (quiet settled q own) now way = refl
kept_word x f va satp s r mine local low h past (quiet {h = before} {e = e} settled q own) (next kept free) way =
    let back = way_back f va satp s e before q (top_level s - r.level) r.table (omega arith) way in
    same_word f va satp s e before q r.level r.table low back ∙ kept_word x f va satp s r mine local low before past settled kept back

-- a walk of its ASID is under this satp, also one that began while satp had it and goes on
own_now : (f : First) (satp other : ℕ) (h : List Event) → IsOwn f satp h → satp_at f.satp h ≡ other → asid other ≡ asid satp → other ≡ satp
own_now f satp other h (inl is) has same = sym has ∙ is
own_now f satp other h (inr apart) has same = absurd (apart (ap asid has ∙ same))

pub own_satp : (f : First) (s : Scheme) (page satp other : ℕ) (h : List Event) → IsSpaceSettled f s page satp h → IsUnder f other h → asid other ≡ asid satp
    → other ≡ satp
own_satp f s page satp other h (fresh none own) (is_active has) same = own_now f satp other h own has same
own_satp f s page satp other h (fresh fenced_all own) (goes_on under free) same = absurd (free tt)
own_satp f s page satp other h (fresh fenced own) (goes_on under free) same = absurd (free (sym same))
own_satp f s page satp other h (quiet settled q own) (is_active has) same = own_now f satp other h own has same
own_satp f s page satp other h (quiet {h = before} settled q own) (goes_on under free) same = own_satp f s page satp other before settled under same

module _ (x : Extensions) (plain : IsPlainHart x) (f : First) (va satp : ℕ) (s : Scheme) (is : scheme_of satp ≡ Some s) where
  at_top : (level : ℕ) (h : List Event) (table other : ℕ) → other ≡ satp → top_of other ≡ Some level → table ≡ root_ppn other
      → (level ≤ top_level s) × IsAt s (memory_at f.memory h) (root_ppn satp) (page_of va) (top_level s - level) table
  at_top level h table other own highest root =
      let same = same_Some (top_level s) level (sym (top_is satp s is) ∙ ap top_of (sym own) ∙ highest) in
      let none : top_level s - level ≡ zero = omega (arith, same) in (
        omega (arith, same),
        subst (λ (n : ℕ). IsAt s (memory_at f.memory h) (root_ppn satp) (page_of va) n table) (sym none) (root ∙ ap root_ppn own),
      )

  under : (h : List Event) (above : Read) (level table : ℕ) → IsReadBy f va satp h s above → kind_in x above.level above.word ≡ Pointer
      → above.level ≡ suc level → table ≡ ppn above.word
      → (level ≤ top_level s) × IsAt s (memory_at f.memory h) (root_ppn satp) (page_of va) (top_level s - level) table
  under h above level table up pointer next_level leads =
      let low = up.low in
      let back : above.level ≡ top_level s - (top_level s - above.level) = omega (arith, low) in
      let more : top_level s - level ≡ suc (top_level s - above.level) = omega (arith, low, next_level) in
      let word = subst (λ (n : ℕ). memory_at f.memory h above.table (vpn (page_of va) n) ≡ Some above.word) back up.word in (
        omega (arith, low, next_level),
        subst (λ (n : ℕ). IsAt s (memory_at f.memory h) (root_ppn satp) (page_of va) n table) (sym more)
            (above.table, above.word, up.way, word, pointer_of x plain.napot plain.pbmt above.level above.word pointer, leads),
      )

  read_by : (h past : List Event) (r : Read) → HasNoGlobals x f va h → IsSpaceSettled f s (page_of va) satp h → IsHeld x f va h r past
      → r.asid ≡ asid satp → IsReadBy f va satp h s r
  read_by h past r none settled (at_root may root) mine =
      let own = own_satp f s (page_of va) satp root.satp h settled root.under (sym root.space ∙ mine) in
      let here = at_top r.level h r.table root.satp own root.highest root.root in
      let local = none h past r history.now (at_root may root) in
      record { low = here.0; way = here.1; word = read_now x f va h past r plain.napot (kept_word x f va satp s r mine local here.0 h past settled may.kept here.1) may.had }
  read_by h past r none settled (below {since = since} {above = above} was may step) mine =
      let local = none h past r history.now (below was may step) in
      let up = read_by h since above none settled was (sym step.space ∙ mine) in
      let here = under h above r.level r.table up step.pointer step.next_level step.table in
      record { low = here.0; way = here.1; word = read_now x f va h past r plain.napot (kept_word x f va satp s r mine local here.0 h past settled may.kept here.1) may.had }
  read_by h past r none (fresh fenced_all own) (stays was free) mine = absurd (free (tt, tt))
  read_by h past r none (fresh fenced own) (stays {h = before} was free) mine =
      absurd (free ((mine, none before past r (history.older history.now) was), tt))
  read_by h past r none (quiet settled q own) (stays {h = before} {e = e} was free) mine =
      read_on f va satp s e before q r (read_by before past r (λ k at read in_past. none k at read (history.older in_past)) settled was mine)
  read_by h past r none (fresh fenced_all own) (updated was u) mine = let bad = u.stores in cc
  read_by h past r none (fresh fenced own) (updated was u) mine = let bad = u.stores in cc
  read_by h past r none (quiet settled q own) (updated {h = before} {past = since} {r = b} {e = e} {w = w} was u) mine =
      let on = read_on f va satp s e before q b (read_by before since b (λ k at read in_past. none k at read (history.older in_past)) settled was mine) in
      record { low = on.low; way = on.way; word = word_updated x plain f va e before b w u }

-- for the present satp
pub read_of_space : (x : Extensions) (plain : IsPlainHart x) (f : First) (va : ℕ) (s : Scheme) (h past : List Event) (r : Read)
    → scheme_of (satp_at f.satp h) ≡ Some s → HasNoGlobals x f va h → IsSpaceSettled f s (page_of va) (satp_at f.satp h) h → IsHeld x f va h r past
    → (r.asid ≡ asid (satp_at f.satp h)) ⊎ (r.global ≡ true) → IsRead f va h s r
read_of_space x plain f va s h past r is none settled held serves =
    let mine : r.asid ≡ asid (satp_at f.satp h) = elim serves [
      | inl same ↦ same
      | inr set ↦ absurd (false≢true (sym (none h past r history.now held) ∙ set))
    ] in
    let read = read_by x plain f va (satp_at f.satp h) s is h past r none settled held mine in
    record { low = read.low; way = read.way; word = read.word }

-- and its walks are under it
pub own_of_space : (f : First) (s : Scheme) (page : ℕ) (h : List Event) → IsSpaceSettled f s page (satp_at f.satp h) h → (satp : ℕ) → IsUnder f satp h
    → asid satp ≡ asid (satp_at f.satp h) → satp ≡ satp_at f.satp h
own_of_space f s page h settled satp under same = own_satp f s page (satp_at f.satp h) satp h settled under same
