-- Lemmas: in every run, a region grants an aligned access if and only if no rule denies it (`first_rule` gives none); used
-- for this, that guard regions grant no right and regions are in ascending order in every run (`IsSound`).
use Rattle.std.proofs.Common.{◌≡◌, ◌⊎◌, ℕ, Bool, true, false, cond, not, ◌&&◌, ◌==◌, ◌+◌, ◌-◌, ◌%◌, ◌≤◌, ◌<◌, inl, inr, refl, sym, ap, subst, ◌∙◌, arith, Option, None, Some, List, [], ◌∷◌, ◌++◌, map}
use Rattle.std.specs.Prelude.{nat_le, nat_lt}
use Rattle.std.proofs.lemmas.Bool.{and_parts, eq-eqb, eqb-true, ltb-true, false≢true}
use Rattle.std.proofs.lemmas.Grind.{common_steps}
use Rattle.std.proofs.lemmas.Option.{same_Some}
use Rattle.process_laws.specs.Words.{UserAccess, has_right, IsGranted}
use Rattle.process_laws.proofs.EveryChange.{always_holds, IsKept}
use Rattle.process_laws.proofs.InOrder.{order_is_kept}
use Rattle.sv39_entry.specs.declared.scheme.Scheme.{Scheme}
use Rattle.sv39_entry.specs.declared.scheme.Scheme.TheVariants.{Sv39, Sv48}
use Rattle.process_model.specs.Bytes.{pages_for}
use Rattle.process_model.specs.Files.{File}
use Rattle.process_model.specs.Images.{LoadSegment, end_of_loads}
use Rattle.process_model.specs.ImageProcess.{guard_at, process_of, segment_region}
use Rattle.process_model.specs.Mappings.{back_of, front_of, is_shared, mapping_around, mapping_of, moved_along, with_instead, with_mapping}
use Rattle.process_model.specs.Order.{EachRegion, IsInOrder, Row}
use Rattle.process_model.specs.Process.{heap_of, Process, regions}
use Rattle.process_model.proofs.RegionRows.{each_append, each_at, row_up}
use Rattle.process_model.specs.Regions.{copy_rule, end_of, first_rule, holds_page, is_aligned, is_guard_kind, lacks_right, private_mapping, Region, region_at, shared_mapping}
use Rattle.process_model.specs.Steps.{run}
use Rattle.process_model.specs.World.{booted, process_in}
use Rattle.process_model.specs.declared.config.Config.{Config}
use Rattle.process_model.specs.declared.step.Step.{Step}
use Rattle.sv39_entry.specs.Address.{page_of}
use Rattle.sv39_entry.specs.Schemes.{trapframe_page}
use Rattle.sv39_entry.specs.declared.access.Access.{Access}
use Rattle.sv39_entry.specs.declared.access.Access.TheVariants as access
use Rattle.sv39_entry.specs.declared.rule.Rule.{Rule}
use Rattle.sv39_entry.specs.declared.rule.Rule.TheVariants.{Misaligned}

-- no rule: a grant

aligned_if : (b : Bool) (o : Option Rule) → cond b o (Some Misaligned) ≡ None → (b ≡ true) × (o ≡ None)
aligned_if true o e = (refl, e)
aligned_if false o e = absurd cc

right_there : (z : Scheme) (rs : List Region) (kind : Access) (address : ℕ) (r : Region) → region_at rs (page_of address) ≡ Some r → copy_rule z rs kind address ≡ None → has_right r kind ≡ true
right_there z rs access.Fetch address r f e = grind (arith, common_steps)
right_there z rs access.Load address r f e = grind (arith, common_steps)
right_there z rs access.Store address r f e = grind (arith, common_steps)

region_if : (z : Scheme) (rs : List Region) (kind : Access) (address : ℕ) (o : Option Region) → region_at rs (page_of address) ≡ o → copy_rule z rs kind address ≡ None → (r : Region) × (o ≡ Some r) × (has_right r kind ≡ true)
region_if z rs kind address None f e = grind (arith, common_steps)
region_if z rs kind address (Some r) f e = (r, refl, right_there z rs kind address r f e)

pub region_there : (z : Scheme) (rs : List Region) (kind : Access) (address : ℕ) → copy_rule z rs kind address ≡ None → (r : Region) × (region_at rs (page_of address) ≡ Some r) × (has_right r kind ≡ true)
region_there z rs kind address e = region_if z rs kind address _ refl e

pub granted_by : (p : Process) (a : UserAccess) → first_rule p.scheme (regions p) a.access a.address a.width ≡ None → IsGranted p a
granted_by p a e =
    let t = aligned_if (is_aligned a.address a.width) (copy_rule p.scheme (regions p) a.access a.address) e in
    let r = region_there p.scheme (regions p) a.access a.address t.1 in
    record { region = r.0; has = r.1; right = r.2; aligned = eqb-true (a.address % a.width) 0 t.0 }

-- guards grant nothing

abbrev pub Bare : Region → Type 0
Bare r = is_guard_kind r.kind ≡ true → (access : Access) → has_right r access ≡ false

abbrev pub AllBare : List Region → Type 0
AllBare rs = EachRegion Bare rs

guard_bare : (first : ℕ) (access : Access) → has_right (guard_at first) access ≡ false
guard_bare first access.Fetch = refl
guard_bare first access.Load = refl
guard_bare first access.Store = refl

segments_bare : (ls : List LoadSegment) → AllBare (map segment_region ls)
segments_bare [] = tt
segments_bare (l ∷ ls) = (λ e. absurd cc, segments_bare ls)

made_bare : (z : Scheme) (n : ℕ) (ls : List LoadSegment) → AllBare (process_of z n ls).parts × AllBare (process_of z n ls).mappings
unfolding process_of
made_bare z n ls = (each_append Bare (map segment_region ls) _ (segments_bare ls) (λ e. guard_bare (end_of_loads 0 ls), (λ e. absurd cc, tt)), tt)

no_guard : (b : Bool) → is_guard_kind (cond b shared_mapping private_mapping) ≡ true → ⊥
no_guard true e = absurd cc
no_guard false e = absurd cc

mapping_bare : (first pages protection flags n : ℕ) → Bare (mapping_of first pages protection flags n)
mapping_bare first pages protection flags n e = absurd (no_guard (is_shared flags) e)

around_bare : (ms : List Region) (first end : ℕ) (m : Region) → mapping_around ms first end ≡ Some m → AllBare ms → Bare m
around_bare [] first end m e b = absurd cc
around_bare (x ∷ ms) first end m e b = elim (nat_le x.first first && nat_le end (end_of x)) as (λ t. cond t (Some x) (mapping_around ms first end) ≡ Some m → Bare m) [
  | true ↦ λ is. subst Bare (same_Some x m is) b.0
  | false ↦ λ is. around_bare ms first end m is b.1
] e

instead_bare : (ms rs : List Region) (at : ℕ) → AllBare ms → AllBare rs → AllBare (with_instead ms at rs)
instead_bare [] rs at b c = tt
instead_bare (m ∷ ms) rs at b c = elim (m.first == at) as (λ t. AllBare (cond t (rs ++ ms) (m ∷ with_instead ms at rs))) [
  | true ↦ each_append Bare rs ms c b.1
  | false ↦ (b.0, instead_bare ms rs at b.1 c)
]

same_right : (m n : Region) → n.reads ≡ m.reads → n.writes ≡ m.writes → n.executes ≡ m.executes → (access : Access) → has_right m access ≡ false → has_right n access ≡ false
same_right m n r w x access.Fetch e = x ∙ e
same_right m n r w x access.Load e = r ∙ e
same_right m n r w x access.Store e = w ∙ e

front_bare : (m : Region) (first : ℕ) → Bare m → AllBare (front_of m first)
front_bare m first b = elim (nat_lt m.first first) as (λ t. AllBare (cond t (record m { pages = first - m.first } ∷ []) [])) [
  | true ↦ (λ e access. same_right m (record m { pages = first - m.first }) refl refl refl access (b e access), tt)
  | false ↦ tt
]

back_bare : (m : Region) (end : ℕ) → Bare m → AllBare (back_of m end)
back_bare m end b = elim (nat_lt end (end_of m)) as (λ t. AllBare (cond t (record m { first = end; pages = end_of m - end; source = moved_along m.source (end - m.first) } ∷ []) [])) [
  | true ↦ (λ e access. same_right m (record m { first = end; pages = end_of m - end; source = moved_along m.source (end - m.first) }) refl refl refl access (b e access), tt)
  | false ↦ tt
]

with_bare : (m : Region) (ms : List Region) → Bare m → AllBare ms → AllBare (with_mapping m ms)
with_bare m [] b c = (b, tt)
with_bare m (x ∷ ms) b c = elim (nat_lt m.first x.first) as (λ t. AllBare (cond t (m ∷ x ∷ ms) (x ∷ with_mapping m ms))) [
  | true ↦ (b, c)
  | false ↦ (c.0, with_bare m ms b c.1)
]

pub record AreBare (p : Process) : Type 0 where
  parts : AllBare p.parts
  mappings : AllBare p.mappings

bare_is_kept : (scheme : Scheme) → IsKept scheme (λ n p. AreBare p)
bare_is_kept scheme = record {
  later = λ n m p le b. b;
  made = λ z same n image ls e. let b = made_bare z n ls in record { parts = b.0; mappings = b.1 };
  settled = λ n files p access address granted none b. record { parts = b.parts; mappings = b.mappings };
  taken = λ n shared p page x e b. record { parts = b.parts; mappings = b.mappings };
  written = λ n p page x bytes e long b. record { parts = b.parts; mappings = b.mappings };
  awaiting = λ n p a b. record { parts = b.parts; mappings = b.mappings };
  sized = λ n p wanted none b. record { parts = b.parts; mappings = b.mappings };
  mapping = λ n files p len protection flags file first none place b. record { parts = b.parts; mappings = with_bare _ p.mappings (mapping_bare first (pages_for len) protection flags file) b.mappings };
  unmapping = λ n p m first end le around one b.
      let whole : Bare m = around_bare p.mappings first end m around b.mappings in
      record { parts = b.parts; mappings = instead_bare p.mappings _ m.first b.mappings (each_append Bare (front_of m first) (back_of m end) (front_bare m first whole) (back_bare m end whole)) };
  parent = λ n p b. record { parts = b.parts; mappings = b.mappings };
  child = λ n p b. record { parts = b.parts; mappings = b.mappings };
}

-- where a region may be

held_below : (r : Region) (page : ℕ) → holds_page r page ≡ true → page < end_of r
held_below r page e = let t = and_parts (nat_le r.first page) (nat_lt page (end_of r)) e in ltb-true page (end_of r) t.1

row_at : (least low high page : ℕ) (rs : List Region) (r : Region) → Row least low rs high → region_at rs page ≡ Some r → page < high
row_at least low high page [] r row e = absurd cc
row_at least low high page (x ∷ rs) r row e = elim (holds_page x page) as (λ b. holds_page x page ≡ b → cond b (Some x) (region_at rs page) ≡ Some r → page < high) [
  | true ↦ λ t is.
      let below : page < x.first + x.pages = held_below x page t in
      let rest : x.first + x.pages ≤ high = row_up least (end_of x) high rs row.2 in
      omega arith
  | false ↦ λ t is. row_at least (end_of x) high page rs r row.2 is
] refl e

at_append : (rs ss : List Region) (page : ℕ) (r : Region) → region_at (rs ++ ss) page ≡ Some r → (region_at rs page ≡ Some r) ⊎ (region_at ss page ≡ Some r)
at_append [] ss page r e = inr e
at_append (x ∷ rs) ss page r e = elim (holds_page x page) as (λ b. cond b (Some x) (region_at (rs ++ ss) page) ≡ Some r → (cond b (Some x) (region_at rs page) ≡ Some r) ⊎ (region_at ss page ≡ Some r)) [
  | true ↦ λ is. inl is
  | false ↦ λ is. at_append rs ss page r is
] e

pub record IsSound (p : Process) : Type 0 where
  pub ordered : IsInOrder p
  pub bare : AreBare p

pub always_sound : (c : Config) (files : List File) (xs : List Step) (s : ℕ) (p : Process) → process_in (run (booted c files) xs).world s ≡ Some p → IsSound p
always_sound c files xs s p e = record {
  ordered = (always_holds (λ n p. IsInOrder p) c files xs (order_is_kept c.scheme)).each s p e;
  bare = (always_holds (λ n p. AreBare p) c files xs (bare_is_kept c.scheme)).each s p e;
}

heap_bare : (p : Process) → Bare (heap_of p)
heap_bare p e = absurd cc

below_trapframe : (p : Process) (page : ℕ) (r : Region) → IsInOrder p → region_at (regions p) page ≡ Some r → page < trapframe_page p.scheme
below_trapframe p page r o e =
    let room : page_of p.heap_base ≤ pages_for p.size = o.room in
    let top : pages_for p.size ≤ trapframe_page p.scheme = row_up 1 (pages_for p.size) (trapframe_page p.scheme) p.mappings o.above in
    elim (at_append p.parts (heap_of p ∷ p.mappings) page r e) [
      | inl is ↦ let h : page < page_of p.heap_base = row_at 1 0 (page_of p.heap_base) page p.parts r o.parts is in omega arith
      | inr is ↦ elim (holds_page (heap_of p) page) as (λ b. holds_page (heap_of p) page ≡ b → cond b (Some (heap_of p)) (region_at p.mappings page) ≡ Some r → page < trapframe_page p.scheme) [
        | true ↦ λ t same. let h : page < page_of p.heap_base + (pages_for p.size - page_of p.heap_base) = held_below (heap_of p) page t in omega arith
        | false ↦ λ t same. row_at 1 (pages_for p.size) (trapframe_page p.scheme) page p.mappings r o.above same
      ] refl is
    ]

not_guard : (g : Bool) (x : Bool) → (g ≡ true → x ≡ false) → x ≡ true → g ≡ false
not_guard true x f e = absurd (false≢true (sym (f refl) ∙ e))
not_guard false x f e = refl

has_not_lacks : (r : Region) (access : Access) → has_right r access ≡ true → lacks_right access (Some r) ≡ false
has_not_lacks r access.Fetch e = ap not e
has_not_lacks r access.Load e = ap not e
has_not_lacks r access.Store e = ap not e

granted39 : (rs : List Region) (access : Access) (address : ℕ) (r : Region) → page_of address < trapframe_page Sv39 → region_at rs (page_of address) ≡ Some r → is_guard_kind r.kind ≡ false
    → lacks_right access (Some r) ≡ false → copy_rule Sv39 rs access address ≡ None
granted39 rs access address r below has guard right = grind (arith, common_steps)

granted48 : (rs : List Region) (access : Access) (address : ℕ) (r : Region) → page_of address < trapframe_page Sv48 → region_at rs (page_of address) ≡ Some r → is_guard_kind r.kind ≡ false
    → lacks_right access (Some r) ≡ false → copy_rule Sv48 rs access address ≡ None
granted48 rs access address r below has guard right = grind (arith, common_steps)

copy_granted : (z : Scheme) (rs : List Region) (access : Access) (address : ℕ) (r : Region) → page_of address < trapframe_page z → region_at rs (page_of address) ≡ Some r → is_guard_kind r.kind ≡ false
    → lacks_right access (Some r) ≡ false → copy_rule z rs access address ≡ None
copy_granted Sv39 rs access address r below has guard right = granted39 rs access address r below has guard right
copy_granted Sv48 rs access address r below has guard right = granted48 rs access address r below has guard right

pub sound_grants : (p : Process) (a : UserAccess) → IsSound p → IsGranted p a → first_rule p.scheme (regions p) a.access a.address a.width ≡ None
sound_grants p a sound g =
    let below : page_of a.address < trapframe_page p.scheme = below_trapframe p (page_of a.address) g.region sound.ordered g.has in
    let bare : Bare g.region = each_at Bare (regions p) (page_of a.address) g.region (each_append Bare p.parts (heap_of p ∷ p.mappings) sound.bare.parts (heap_bare p, sound.bare.mappings)) g.has in
    let guard = not_guard (is_guard_kind g.region.kind) (has_right g.region a.access) (λ t. bare t a.access) g.right in
    ap (λ b. cond b (copy_rule p.scheme (regions p) a.access a.address) (Some Misaligned)) (eq-eqb (a.address % a.width) 0 g.aligned)
    ∙ copy_granted p.scheme (regions p) a.access a.address g.region below g.has guard (has_not_lacks g.region a.access g.right)
