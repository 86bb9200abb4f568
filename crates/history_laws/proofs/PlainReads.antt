-- Lemmas: what a walk over memory as it is reads, a hart may hold at that moment; and where nothing older is in any cache, no more.
use Rattle.std.proofs.Common.{◌≡◌, ◌↔◌, IsTrue, ℕ, zero, suc, ◌+◌, ◌-◌, ◌*◌, ◌≤◌, ◌==◌, ◌&&◌, ◌||◌, Bool, true, false, refl, sym, subst, ◌∙◌, inl, inr, arith, None, Some, List, [], if◌then◌else◌, ◌∷◌, ap}
use Rattle.std.proofs.lemmas.Bool.{false≢true}
use Rattle.std.proofs.lemmas.Option.{same_Some}
use Rattle.sv39_entry.specs.Address.{has, page_of, vpn}
use Rattle.sv39_entry.specs.Satp.{asid, mode, root_ppn, scheme_of}
use Rattle.sv39_entry.specs.Schemes.{is_canonical, top_level}
use Rattle.sv39_entry.specs.Word.{ppn}
use Rattle.sv39_entry.specs.declared.access.Access.TheVariants as access
use Rattle.sv39_entry.specs.declared.entry.Kind.TheVariants.{Invalid, Pointer}
use Rattle.sv39_entry.specs.declared.scheme.Scheme.{Scheme}
use Rattle.sv39_entry.specs.declared.scheme.Scheme.TheVariants.{Sv39, Sv48}
use Rattle.table_walk.specs.Walk.{IsAt, Reads}
use Rattle.table_walk.proofs.Ways.{HasMark, marked_on}
use Rattle.walk_rules.specs.Addresses as addresses
use Rattle.walk_rules.specs.Addresses.{top_of}
use Rattle.walk_rules.specs.Kinds.{kind_in}
use Rattle.walk_rules.specs.declared.extensions.Extensions.{Extensions}
use Rattle.walk_rules.specs.declared.status.Privilege.TheVariants as privilege
use Rattle.access_history.specs.Held.{HadWord, IsHeld, IsKept, IsUnder, IsUpdate, MayRead, Read, has_global, read_of, at_root, below, goes_on, is_active, stays, updated, now, next}
use Rattle.access_history.specs.History.{First, Memory, memory_at, satp_at}
use Rattle.access_history.specs.declared.event.Event.{Event}
use Rattle.access_history.proofs.Updates.{stored}
use Rattle.history_laws.specs.PlainWalks.{IsFresh, IsPlainHart, IsQuiet, IsSettled, fenced, fresh, quiet}
use Rattle.history_laws.proofs.FreePmp.{passes}
use Rattle.history_laws.proofs.PlainEntries.{of_pointer, pointer_of, valid_v}

-- ---- the scheme of satp

top_by : (a b c : Bool) (s : Scheme) → (if a then Some Sv39 else (if b then Some Sv48 else None)) ≡ Some s
    → (if a then Some 2 else (if b then Some 3 else (if c then Some 4 else None))) ≡ Some (top_level s)
top_by true b c s is = subst (λ (t : Scheme). Some 2 ≡ Some (top_level t)) (same_Some Sv39 s is) refl
top_by false true c s is = subst (λ (t : Scheme). Some 3 ≡ Some (top_level t)) (same_Some Sv48 s is) refl
top_by false false c s is = absurd (cc)

pub top_is : (w : ℕ) (s : Scheme) → scheme_of w ≡ Some s → top_of w ≡ Some (top_level s)
top_is w s is = top_by (mode w == 8) (mode w == 9) (mode w == 10) s is

pub same_canonical : (s : Scheme) (a : ℕ) → addresses.is_canonical (top_level s) a ≡ is_canonical s a
same_canonical Sv39 a = refl
same_canonical Sv48 a = refl

-- ---- what a walk reads may be held

-- G is what a valid entry makes global by
global_by : (v g : Bool) → v ≡ true → (v && g) ≡ g
global_by true g set = refl
global_by false g set = absurd (false≢true set)

pub valid_global : (w : ℕ) → has w 0 ≡ true → has_global w ≡ has w 5
valid_global w set = global_by (has w 0) (has w 5) set

module _ (x : Extensions) (plain : IsPlainHart x) (f : First) (free : f.pmp ≡ []) (va : ℕ) (h : List Event) (s : Scheme)
    (is : scheme_of (satp_at f.satp h) ≡ Some s) (canonical : is_canonical s va ≡ true) where
  abbrev memory : Memory
  memory = memory_at f.memory h

  abbrev root : ℕ
  root = root_ppn (satp_at f.satp h)

  abbrev space : ℕ
  space = asid (satp_at f.satp h)

  may : (level table word : ℕ) (global : Bool) → memory table (vpn (page_of va) level) ≡ Some word
      → MayRead x f va h (read_of level table word space global) h
  may level table word global read = record {
    had = inl read;
    kept = now;
    allowed = passes f.pmp free h privilege.Supervisor access.Load (table * 4096 + vpn (page_of va) level * 8) 8;
  }

  -- held, where b says whether a pointer on the way has G
  abbrev HeldAt : ℕ → ℕ → ℕ → ℕ → Type 0
  HeldAt k level table word =
      (b : Bool) × IsHeld x f va h (read_of level table word space (b || has_global word)) h × (IsTrue b ↔ HasMark s memory root (page_of va) k)

  held_at : (k table word : ℕ) → k ≤ top_level s → IsAt s memory root (page_of va) k table
      → memory table (vpn (page_of va) (top_level s - k)) ≡ Some word → HeldAt k (top_level s - k) table word
  held_at zero table word low way read =
      let all : top_level s ≡ top_level s - zero = omega arith in
      let highest = subst (λ (level : ℕ). top_of (satp_at f.satp h) ≡ Some level) all (top_is (satp_at f.satp h) s is) in
      let valid = subst (λ (level : ℕ). addresses.is_canonical level va ≡ true) all (same_canonical s va ∙ canonical) in (
        false,
        at_root (may (top_level s - zero) table word (has_global word) read) (record {
          satp = satp_at f.satp h;
          under = is_active refl;
          highest = highest;
          canonical = valid;
          root = way;
          space = refl;
          global = refl;
        }),
        ((λ set. absurd (false≢true set)), (λ mark. absurd (let low = mark.3 in omega (arith, low)))),
      )
  held_at (suc k) table word low way read =
      let up = held_at k way.0 way.1 (omega (arith, low)) way.2 way.3 in
      let next_one : top_level s - k ≡ suc (top_level s - suc k) = omega (arith, low) in
      let back : k ≡ top_level s - (top_level s - k) = omega (arith, low) in
      let pointer = subst (λ (level : ℕ). kind_in x level way.1 ≡ Pointer) (sym next_one) (of_pointer x plain.napot plain.pbmt (top_level s - suc k) way.1 way.4) in
      let valid = valid_v way.1 (λ other. let bad : Pointer ≡ Invalid = sym way.4 ∙ other in cc) in
      let reads : Reads s memory root (page_of va) (top_level s - k) (Some way.1) = record {
        low = omega arith;
        table = way.0;
        way = subst (λ (n : ℕ). IsAt s memory root (page_of va) n way.0) back way.2;
        read = way.3;
      } in
      let before = subst (λ (n : ℕ). IsTrue up.0 ↔ HasMark s memory root (page_of va) n) back up.2 in
      let after = marked_on s memory root (page_of va) (top_level s - k) way.1 up.0 way.0 reads.way reads before in
      let marks = subst (λ (n : ℕ). IsTrue (up.0 || has way.1 5) ↔ HasMark s memory root (page_of va) (suc n)) (sym back) after in
      let mark = subst (λ (g : Bool). IsTrue (up.0 || g) ↔ HasMark s memory root (page_of va) (suc k)) (sym (valid_global way.1 valid)) marks in (
        up.0 || has_global way.1,
        below up.1 (may (top_level s - suc k) table word ((up.0 || has_global way.1) || has_global word) read)
            (record {
              pointer = pointer;
              next_level = next_one;
              table = way.5;
              space = refl;
              global = refl;
            }),
        mark,
      )

  -- the same, by the level
  pub held_level : (level table word : ℕ) → level ≤ top_level s → IsAt s memory root (page_of va) (top_level s - level) table
      → memory table (vpn (page_of va) level) ≡ Some word → HeldAt (top_level s - level) level table word
  held_level level table word low way read =
      let back : level ≡ top_level s - (top_level s - level) = omega (arith, low) in
      let here = subst (λ (n : ℕ). memory table (vpn (page_of va) n) ≡ Some word) back read in
      subst (λ (n : ℕ). HeldAt (top_level s - level) n table word) (sym back) (held_at (top_level s - level) table word (omega arith) way here)

-- ---- where nothing older is in any cache

kept_fresh : (x : Extensions) (f : First) (va : ℕ) (h past : List Event) (r : Read) → IsFresh h → IsKept x f va r h past → past ≡ h
kept_fresh x f va h past r none now = refl
kept_fresh x f va h past r fenced (next k free) = absurd (free (tt, tt))

-- each walk is under satp as it is
pub own_satp : (f : First) (s : Scheme) (page satp : ℕ) (h : List Event) → IsSettled f s page h → IsUnder f satp h → satp ≡ satp_at f.satp h
own_satp f s page satp h settled (is_active has) = sym has
own_satp f s page satp h (fresh fenced) (goes_on under free) = absurd (free tt)
own_satp f s page satp h (quiet {h = before} settled q) (goes_on under free) = own_satp f s page satp before settled under ∙ sym q.satp

-- the walk over memory as it is reads an entry
pub record IsRead (f : First) (va : ℕ) (h : List Event) (s : Scheme) (r : Read) : Type 0 where
  pub low : r.level ≤ top_level s
  pub way : IsAt s (memory_at f.memory h) (root_ppn (satp_at f.satp h)) (page_of va) (top_level s - r.level) r.table
  pub word : memory_at f.memory h r.table (vpn (page_of va) r.level) ≡ Some r.word

-- the table below a pointer that the walk reads
pub table_below : (x : Extensions) (plain : IsPlainHart x) (f : First) (va : ℕ) (h : List Event) (s : Scheme) (above : Read) (level table : ℕ)
    → IsRead f va h s above → kind_in x above.level above.word ≡ Pointer → above.level ≡ suc level → table ≡ ppn above.word
    → (level ≤ top_level s) × IsAt s (memory_at f.memory h) (root_ppn (satp_at f.satp h)) (page_of va) (top_level s - level) table
table_below x plain f va h s above level table up pointer next_level leads =
    let low = up.low in
    let back : above.level ≡ top_level s - (top_level s - above.level) = omega (arith, low) in
    let more : top_level s - level ≡ suc (top_level s - above.level) = omega (arith, low, next_level) in
    let word = subst (λ (n : ℕ). memory_at f.memory h above.table (vpn (page_of va) n) ≡ Some above.word) back up.word in (
      omega (arith, low, next_level),
      subst (λ (n : ℕ). IsAt s (memory_at f.memory h) (root_ppn (satp_at f.satp h)) (page_of va) n table) (sym more)
          (above.table, above.word, up.way, word, pointer_of x plain.napot plain.pbmt above.level above.word pointer, leads),
    )

-- the root's level, and its table
pub table_at_root : (f : First) (va : ℕ) (h : List Event) (s : Scheme) (level table : ℕ) → scheme_of (satp_at f.satp h) ≡ Some s
    → top_of (satp_at f.satp h) ≡ Some level → table ≡ root_ppn (satp_at f.satp h)
    → (level ≤ top_level s) × IsAt s (memory_at f.memory h) (root_ppn (satp_at f.satp h)) (page_of va) (top_level s - level) table
table_at_root f va h s level table is highest root =
    let same = same_Some (top_level s) level (sym (top_is (satp_at f.satp h) s is) ∙ highest) in
    let none : top_level s - level ≡ zero = omega (arith, same) in
    (omega (arith, same), subst (λ (n : ℕ). IsAt s (memory_at f.memory h) (root_ppn (satp_at f.satp h)) (page_of va) n table) (sym none) root)

-- a quiet event changes no way of the walk
module _ (f : First) (va : ℕ) (s : Scheme) (e : Event) (h : List Event) (q : IsQuiet f s (page_of va) e h) where
  same_root : root_ppn (satp_at f.satp (e ∷ h)) ≡ root_ppn (satp_at f.satp h)
  same_root = ap root_ppn q.satp

  way_on : (k table : ℕ) → k ≤ top_level s → IsAt s (memory_at f.memory h) (root_ppn (satp_at f.satp h)) (page_of va) k table
      → IsAt s (memory_at f.memory (e ∷ h)) (root_ppn (satp_at f.satp (e ∷ h))) (page_of va) k table
  way_on zero table low way = way ∙ sym same_root
  way_on (suc k) table low way =
      (way.0, way.1, way_on k way.0 (omega (arith, low)) way.2, q.words k way.0 (omega (arith, low)) way.2 ∙ way.3, way.4, way.5)

  way_back : (k table : ℕ) → k ≤ top_level s → IsAt s (memory_at f.memory (e ∷ h)) (root_ppn (satp_at f.satp (e ∷ h))) (page_of va) k table
      → IsAt s (memory_at f.memory h) (root_ppn (satp_at f.satp h)) (page_of va) k table
  way_back zero table low way = way ∙ same_root
  way_back (suc k) table low way =
      let up = way_back k way.0 (omega (arith, low)) way.2 in (way.0, way.1, up, sym (q.words k way.0 (omega (arith, low)) up) ∙ way.3, way.4, way.5)

  same_word : (level table : ℕ) → level ≤ top_level s
      → IsAt s (memory_at f.memory h) (root_ppn (satp_at f.satp h)) (page_of va) (top_level s - level) table
      → memory_at f.memory (e ∷ h) table (vpn (page_of va) level) ≡ memory_at f.memory h table (vpn (page_of va) level)
  same_word level table low way =
      let back : top_level s - (top_level s - level) ≡ level = omega (arith, low) in
      subst (λ (n : ℕ). memory_at f.memory (e ∷ h) table (vpn (page_of va) n) ≡ memory_at f.memory h table (vpn (page_of va) n)) back
      (q.words (top_level s - level) table (omega arith) way)

  read_on : (r : Read) → IsRead f va h s r → IsRead f va (e ∷ h) s r
  read_on r read = record {
    low = read.low;
    way = way_on (top_level s - r.level) r.table (omega arith) read.way;
    word = same_word r.level r.table read.low read.way ∙ read.word;
  }

-- a word on the way is now as it was at each moment of which a hart may hold it
kept_word : (x : Extensions) (f : First) (va : ℕ) (s : Scheme) (r : Read) → r.level ≤ top_level s → (h past : List Event) → IsSettled f s (page_of va) h
    → IsKept x f va r h past → IsAt s (memory_at f.memory h) (root_ppn (satp_at f.satp h)) (page_of va) (top_level s - r.level) r.table
    → memory_at f.memory h r.table (vpn (page_of va) r.level) ≡ memory_at f.memory past r.table (vpn (page_of va) r.level)
kept_word x f va s r low h past (fresh none) kept way =
    ap (λ (k : List Event). memory_at f.memory k r.table (vpn (page_of va) r.level)) (sym (kept_fresh x f va h past r none kept))
kept_word x f va s r low h past (quiet settled q) now way = refl
kept_word x f va s r low h past (quiet {h = before} {e = e} settled q) (next kept free) way =
    let back = way_back f va s e before q (top_level s - r.level) r.table (omega arith) way in
    same_word f va s e before q r.level r.table low back ∙ kept_word x f va s r low before past settled kept back

pub read_now : (x : Extensions) (f : First) (va : ℕ) (h past : List Event) (r : Read) → x.svnapot ≡ false
    → memory_at f.memory h r.table (vpn (page_of va) r.level) ≡ memory_at f.memory past r.table (vpn (page_of va) r.level) → HadWord x f va past r
    → memory_at f.memory h r.table (vpn (page_of va) r.level) ≡ Some r.word
read_now x f va h past r none same (inl had) = same ∙ had
read_now x f va h past r none same (inr other) = absurd (false≢true (sym none ∙ other.0))

-- an update stores the word in the place of the address's PTE, as without Svnapot there is no other
pub word_updated : (x : Extensions) → IsPlainHart x → (f : First) (va : ℕ) (e : Event) (h : List Event) (r : Read) (w : ℕ) → IsUpdate x f va e h r w
    → memory_at f.memory (e ∷ h) r.table (vpn (page_of va) r.level) ≡ Some w
word_updated x plain f va e h r w is = elim is.place [
  | inl own ↦ subst (λ (i : ℕ). memory_at f.memory (e ∷ h) r.table i ≡ Some w) own (stored x f va e h r w is)
  | inr group ↦ absurd (false≢true (sym plain.napot ∙ group.0))
]

pub read_of_held : (x : Extensions) (plain : IsPlainHart x) (f : First) (va : ℕ) (s : Scheme) (h past : List Event) (r : Read)
    → scheme_of (satp_at f.satp h) ≡ Some s → IsSettled f s (page_of va) h → IsHeld x f va h r past → IsRead f va h s r
read_of_held x plain f va s h past r is settled (at_root may root) =
    let own = own_satp f s (page_of va) root.satp h settled root.under in
    let here = table_at_root f va h s r.level r.table is (ap top_of (sym own) ∙ root.highest) (root.root ∙ ap root_ppn own) in
    record { low = here.0; way = here.1; word = read_now x f va h past r plain.napot (kept_word x f va s r here.0 h past settled may.kept here.1) may.had }
read_of_held x plain f va s h past r is settled (below {since = since} {above = above} was may step) =
    let up = read_of_held x plain f va s h since above is settled was in
    let here = table_below x plain f va h s above r.level r.table up step.pointer step.next_level step.table in
    record { low = here.0; way = here.1; word = read_now x f va h past r plain.napot (kept_word x f va s r here.0 h past settled may.kept here.1) may.had }
read_of_held x plain f va s h past r is (fresh fenced) (stays was free) = absurd (free (tt, tt))
read_of_held x plain f va s h past r is (quiet settled q) (stays {h = before} {e = e} was free) =
    let same : scheme_of (satp_at f.satp before) ≡ Some s = sym (ap scheme_of q.satp) ∙ is in
    read_on f va s e before q r (read_of_held x plain f va s before past r same settled was)
read_of_held x plain f va s h past r is (fresh fenced) (updated was u) = let bad = u.stores in cc
read_of_held x plain f va s h past r is (quiet settled q) (updated {h = before} {past = since} {r = b} {e = e} {w = w} was u) =
    let same : scheme_of (satp_at f.satp before) ≡ Some s = sym (ap scheme_of q.satp) ∙ is in
    let on = read_on f va s e before q b (read_of_held x plain f va s before since b same settled was) in
    record { low = on.low; way = on.way; word = word_updated x plain f va e before b w u }
