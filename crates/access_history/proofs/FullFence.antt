-- Lemmas of the moment after a fence of everything: what is kept through it, and what is held after it, is of that moment; and each
-- entry that is held is one that a walk over memory as it is reads.
use Rattle.std.proofs.Common.{◌≡◌, ℕ, zero, suc, ◌-◌, ◌≤◌, refl, sym, ap, subst, arith, inl, inr, Bool, true, false, ◌∙◌, ◌||◌, None, Some, List, ◌∷◌}
use Rattle.std.proofs.lemmas.Bool.{false≢true}
use Rattle.sv39_entry.specs.Address.{page_of, vpn}
use Rattle.sv39_entry.specs.Satp.{asid, root_ppn}
use Rattle.sv39_entry.specs.declared.entry.Kind.TheVariants.{Pointer}
use Rattle.walk_rules.specs.Addresses.{is_canonical, top_of}
use Rattle.walk_rules.specs.Kinds.{kind_in}
use Rattle.walk_rules.specs.declared.extensions.Extensions.{Extensions}
use Rattle.access_history.specs.Held.{HadWord, IsCovered, MayPassRead, IsHeld, IsKept, MayRead, Read, has_global, read_of, at_root, below, is_active, stays, updated, now, next}
use Rattle.access_history.specs.History.{First, memory_at, satp_at}
use Rattle.access_history.specs.Walks.{IsWay, levels_above}
use Rattle.access_history.specs.declared.event.Event.{Event}
use Rattle.access_history.specs.declared.event.Event.TheVariants.{Fence}
use Rattle.access_history.proofs.Covering.{under_after}

-- what an event covers is read anew, or not held
pub kept_after : (x : Extensions) (f : First) (va : ℕ) (r : Read) (h past : List Event) (e : Event) → IsKept x f va r (e ∷ h) past
    → IsCovered x f va e h r past → past ≡ e ∷ h
kept_after x f va r h past e now covered = refl
kept_after x f va r h past e (next k free) covered = absurd (free covered)

pub covered_after : (x : Extensions) (f : First) (va : ℕ) (h past : List Event) (e : Event) (r : Read) → IsHeld x f va (e ∷ h) r past
    → IsCovered x f va e h r past → past ≡ e ∷ h
covered_after x f va h past e r (at_root may root) covered = kept_after x f va r h past e may.kept covered
covered_after x f va h past e r (below above may is) covered = kept_after x f va r h past e may.kept covered
covered_after x f va h past e r (stays was free) covered = absurd (free covered)
covered_after x f va h past e r (updated was is) covered = refl

pub held_after : (x : Extensions) (f : First) (va : ℕ) (h past : List Event) (r : Read) → IsHeld x f va (Fence None None ∷ h) r past
    → past ≡ Fence None None ∷ h
held_after x f va h past r held = covered_after x f va h past (Fence None None) r held (tt, tt)

-- a walk over memory as it is reads an entry
abbrev pub WalkReads : Extensions → First → ℕ → List Event → Read → Type 0
WalkReads x f va h r =
    (top : ℕ) × (top_of (satp_at f.satp h) ≡ Some top) × (r.level ≤ top)
    × IsWay x (memory_at f.memory h) (root_ppn (satp_at f.satp h)) (page_of va) top (levels_above top r.level) r.table
    × (memory_at f.memory h r.table (vpn (page_of va) r.level) ≡ Some r.word)

read_now : (x : Extensions) (f : First) (va : ℕ) (h past : List Event) (r : Read) → x.svnapot ≡ false → past ≡ Fence None None ∷ h
    → HadWord x f va past r → memory_at f.memory h r.table (vpn (page_of va) r.level) ≡ Some r.word
read_now x f va h past r plain same (inl had) = subst (λ (k : List Event). memory_at f.memory k r.table (vpn (page_of va) r.level) ≡ Some r.word) same had
read_now x f va h past r plain same (inr other) = absurd (false≢true (sym plain ∙ other.0))

pub walk_reads : (x : Extensions) (f : First) (va : ℕ) (h past : List Event) (r : Read) → x.svnapot ≡ false → IsHeld x f va (Fence None None ∷ h) r past
    → WalkReads x f va h r
walk_reads x f va h past r plain (at_root may root) =
    let own = under_after f root.satp h None tt root.under in
    let none : levels_above r.level r.level ≡ zero = omega arith in
    let here = subst (λ (k : ℕ). IsWay x (memory_at f.memory h) (root_ppn (satp_at f.satp h)) (page_of va) r.level k r.table) (sym none)
    (root.root ∙ ap root_ppn (sym own)) in
    (r.level, ap top_of own ∙ root.highest, omega arith, here, read_now x f va h past r plain (kept_after x f va r h past (Fence None None) may.kept (tt, tt)) may.had)
walk_reads x f va h past r plain (below {since = since} {above = above} was may is) =
    let up = walk_reads x f va h since above plain was in
    let le = up.2 in
    let next_level = is.next_level in
    let next_way : levels_above up.0 r.level ≡ suc (levels_above up.0 above.level) = omega (arith, le, next_level) in
    let back : above.level ≡ up.0 - levels_above up.0 above.level = omega (arith, le) in
    let read = subst (λ (level : ℕ). memory_at f.memory h above.table (vpn (page_of va) level) ≡ Some above.word) back up.4 in
    let kind = subst (λ (level : ℕ). kind_in x level above.word ≡ Pointer) back is.pointer in
    let way = subst (λ (k : ℕ). IsWay x (memory_at f.memory h) (root_ppn (satp_at f.satp h)) (page_of va) up.0 k r.table) (sym next_way)
    (above.table, above.word, up.3, read, kind, is.table) in
    (up.0, up.1, omega (arith, le, next_level), way, read_now x f va h past r plain (kept_after x f va r h past (Fence None None) may.kept (tt, tt)) may.had)
walk_reads x f va h past r plain (stays was free) = absurd (free (tt, tt))
walk_reads x f va h past r plain (updated was is) = let store = is.stores in cc

-- what a walk over memory as it is reads, a hart may hold
module _ (x : Extensions) (f : First) (va : ℕ) (h : List Event) (top : ℕ) (is : top_of (satp_at f.satp h) ≡ Some top) (canonical : is_canonical top va ≡ true)
    (free : (table index : ℕ) → MayPassRead f (Fence None None ∷ h) table index) where
  abbrev HeldNow : ℕ → ℕ → ℕ → Type 0
  HeldNow level table word =
      (global : Bool) × IsHeld x f va (Fence None None ∷ h) (read_of level table word (asid (satp_at f.satp h)) global) (Fence None None ∷ h)

  may_now : (level table word : ℕ) (global : Bool) → memory_at f.memory h table (vpn (page_of va) level) ≡ Some word
      → MayRead x f va (Fence None None ∷ h) (read_of level table word (asid (satp_at f.satp h)) global) (Fence None None ∷ h)
  may_now level table word global read =
      record { had = inl read; kept = now; allowed = free table (vpn (page_of va) level) }

  pub walk_held : (k table word : ℕ) → k ≤ top → IsWay x (memory_at f.memory h) (root_ppn (satp_at f.satp h)) (page_of va) top k table
      → memory_at f.memory h table (vpn (page_of va) (top - k)) ≡ Some word → HeldNow (top - k) table word
  walk_held zero table word low way read =
      let all : top ≡ top - zero = omega arith in
      let highest = subst (λ (level : ℕ). top_of (satp_at f.satp h) ≡ Some level) all is in
      let valid = subst (λ (level : ℕ). is_canonical level va ≡ true) all canonical in (
        has_global word,
        at_root (may_now (top - zero) table word (has_global word) read)
            (record {
              satp = satp_at f.satp h;
              under = is_active refl;
              highest = highest;
              canonical = valid;
              root = way;
              space = refl;
              global = refl;
            }),
      )
  walk_held (suc k) table word low way read =
      let up = walk_held k way.0 way.1 (omega (arith, low)) way.2 way.3 in
      let next_one : top - k ≡ suc (top - suc k) = omega (arith, low) in
      let may = may_now (top - suc k) table word (up.0 || has_global word) read in (
        up.0 || has_global word,
        below up.1 may
            (record { pointer = way.4; next_level = next_one; table = way.5; space = refl; global = refl }),
      )
