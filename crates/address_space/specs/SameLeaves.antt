-- A law (`leaves_stay`): two spaces have the same leaves if they have one scheme, one trapframe, the same regions and the
-- same settled pages (those in memory), each page on one frame and with the same marks in both. For it, `same_word`: two
-- leaves with the same page number and flags are equal.
use Rattle.std.proofs.Common.{◌≡◌, ℕ, ◌/◌, ◌%◌, ◌^◌, ◌==◌, ◌||◌, Bool, true, false, not, Option, None, Some, refl, ap, sym, subst, ◌∙◌, inl}
use Rattle.std.proofs.Common.{inr, arith, if◌then◌else◌}
use Rattle.std.proofs.lemmas.Bool.{cases_eq, eqb-true, eq-eqb}
use Rattle.std.proofs.lemmas.Option.{same_Some}
use Rattle.std.specs.FinMap.{get}
use Rattle.process_model.specs.PageMap as pages
use Rattle.process_model.specs.Process.{Page, Process, regions}
use Rattle.process_model.specs.Regions.{Region, region_at}
use Rattle.sv39_entry.specs.Address.{has}
use Rattle.sv39_entry.specs.Word.{flags_kind, IsLeafOf, kind_of, ppn}
use Rattle.sv39_entry.specs.declared.entry.Kind.{Kind}
use Rattle.sv39_entry.specs.declared.entry.Kind.TheVariants.{Invalid, Leaf}
use Rattle.sv39_entry.specs.Schemes.{trampoline_page, trapframe_page}
use Rattle.table_walk.specs.Tables.{leaf_node, Tables}
use Rattle.address_space.specs.Agreement.{Body, code_rights, data_rights, HasKernelLeaf, is_dirty_page, IsFrameOfPage, IsPageLeaf, IsSpace}

-- words of leaves

-- two words have the same page number and the same flags
pub record HaveSame (w v : ℕ) : Type 0 where
  pub names : ppn w ≡ ppn v
  pub at1 : has w 1 ≡ has v 1
  pub at2 : has w 2 ≡ has v 2
  pub at3 : has w 3 ≡ has v 3
  pub at4 : has w 4 ≡ has v 4
  pub at5 : has w 5 ≡ has v 5
  pub at6 : has w 6 ≡ has v 6
  pub at7 : has w 7 ≡ has v 7
  pub at8 : has w 8 ≡ has v 8
  pub at9 : has w 9 ≡ has v 9

same_bit : (a b : ℕ) → (a % 2 == 1) ≡ (b % 2 == 1) → a % 2 ≡ b % 2
same_bit a b same = elim (cases_eq (a % 2) 1) [
  | inl one ↦ one ∙ sym (eqb-true (b % 2) 1 (sym same ∙ eq-eqb (a % 2) 1 one))
  | inr other ↦ elim (cases_eq (b % 2) 1) [
    | inl one ↦ eqb-true (a % 2) 1 (same ∙ eq-eqb (b % 2) 1 one) ∙ sym one
    | inr also ↦ omega (arith, other, also)
  ]
]

half : (a b : ℕ) → a % 2 ≡ b % 2 → a / 2 ≡ b / 2 → a ≡ b
half a b bit rest = omega (arith, bit, rest)

upper : (b : Bool) (k : Kind) → (if b then k else Invalid) ≡ Leaf → b ≡ true
upper true k e = refl
upper false k e = absurd (cc)

valid : (v c : Bool) (k : Kind) → (if not v || c then Invalid else k) ≡ Leaf → v ≡ true
valid true c k e = refl
valid false c k e = absurd (cc)

is_upper : (w : ℕ) → kind_of w ≡ Leaf → w / 2 ^ 54 ≡ 0
unfolding kind_of
is_upper w kind = eqb-true (w / 2 ^ 54) 0 (upper _ (flags_kind w) kind)

is_valid : (w : ℕ) → kind_of w ≡ Leaf → has w 0 ≡ true
unfolding kind_of
is_valid w kind = valid (has w 0) _ _ (subst (λ (b : Bool). (if b then flags_kind w else Invalid) ≡ Leaf) (upper _ (flags_kind w) kind) kind)

-- two leaves with the same page number and the same flags are equal
pub same_word : (w v : ℕ) → kind_of w ≡ Leaf → kind_of v ≡ Leaf → HaveSame w v → w ≡ v
same_word w v kind also same =
    let w_low = is_upper w kind in
    let v_low = is_upper v also in
    let names = same.names in
    let top : w / 2 ^ 10 ≡ v / 2 ^ 10 = omega (arith, w_low, v_low, names) in
    let s9 : w / 2 ^ 9 ≡ v / 2 ^ 9 = half (w / 2 ^ 9) (v / 2 ^ 9) (same_bit _ _ same.at9) (omega (arith, top)) in
    let s8 : w / 2 ^ 8 ≡ v / 2 ^ 8 = half (w / 2 ^ 8) (v / 2 ^ 8) (same_bit _ _ same.at8) (omega (arith, s9)) in
    let s7 : w / 2 ^ 7 ≡ v / 2 ^ 7 = half (w / 2 ^ 7) (v / 2 ^ 7) (same_bit _ _ same.at7) (omega (arith, s8)) in
    let s6 : w / 2 ^ 6 ≡ v / 2 ^ 6 = half (w / 2 ^ 6) (v / 2 ^ 6) (same_bit _ _ same.at6) (omega (arith, s7)) in
    let s5 : w / 2 ^ 5 ≡ v / 2 ^ 5 = half (w / 2 ^ 5) (v / 2 ^ 5) (same_bit _ _ same.at5) (omega (arith, s6)) in
    let s4 : w / 2 ^ 4 ≡ v / 2 ^ 4 = half (w / 2 ^ 4) (v / 2 ^ 4) (same_bit _ _ same.at4) (omega (arith, s5)) in
    let s3 : w / 2 ^ 3 ≡ v / 2 ^ 3 = half (w / 2 ^ 3) (v / 2 ^ 3) (same_bit _ _ same.at3) (omega (arith, s4)) in
    let s2 : w / 2 ^ 2 ≡ v / 2 ^ 2 = half (w / 2 ^ 2) (v / 2 ^ 2) (same_bit _ _ same.at2) (omega (arith, s3)) in
    let s1 : w / 2 ^ 1 ≡ v / 2 ^ 1 = half (w / 2 ^ 1) (v / 2 ^ 1) (same_bit _ _ same.at1) (omega (arith, s2)) in
    let s0 : w / 2 ^ 0 ≡ v / 2 ^ 0 = half (w / 2 ^ 0) (v / 2 ^ 0) (same_bit _ _ (is_valid w kind ∙ sym (is_valid v also))) (omega (arith, s1)) in
    omega (arith, s0)

kernel_same : (w v f rights : ℕ) → IsLeafOf w f rights false false true → IsLeafOf v f rights false false true → HaveSame w v
kernel_same w v f rights a b = record {
  names = a.names ∙ sym b.names;
  at1 = a.read ∙ sym b.read;
  at2 = a.write ∙ sym b.write;
  at3 = a.execute ∙ sym b.execute;
  at4 = a.for_user ∙ sym b.for_user;
  at5 = a.global ∙ sym b.global;
  at6 = a.accessed ∙ sym b.accessed;
  at7 = a.modified ∙ sym b.modified;
  at8 = a.cow ∙ sym b.cow;
  at9 = a.unused ∙ sym b.unused;
}

page_same : (w v f g : ℕ) (r : Region) (mark dirty : Bool) → ppn w ≡ ppn v → IsPageLeaf w f r mark dirty → IsPageLeaf v g r mark dirty → HaveSame w v
page_same w v f g r mark dirty names a b = record {
  names = names;
  at1 = a.read ∙ sym b.read;
  at2 = a.write ∙ sym b.write;
  at3 = a.execute ∙ sym b.execute;
  at4 = a.for_user ∙ sym b.for_user;
  at5 = a.global ∙ sym b.global;
  at6 = a.accessed ∙ sym b.accessed;
  at7 = a.dirty ∙ sym b.dirty;
  at8 = a.cow ∙ sym b.cow;
  at9 = a.unused ∙ sym b.unused;
}

-- page n, which is z, was settled before, with the same marks and on the frame that it is on
pub record WasAlike (t u : Tables) (p : Process) (n : ℕ) (z : Page) : Type 0 where
  pub before : Page
  pub settled : pages.get p.settled n ≡ Some before
  pub cow : z.cow ≡ before.cow
  pub dirty : z.dirty ≡ before.dirty
  pub on : (f : ℕ) → IsFrameOfPage u n f → IsFrameOfPage t n f

module _ (x y : Body) (t u : Tables) (p q : Process) (a : IsSpace x t p) (b : IsSpace y u q) (trapframe : y.trapframe ≡ x.trapframe)
    (same_scheme : q.scheme ≡ p.scheme) (same_regions : regions q ≡ regions p)
    (still : (n : ℕ) (s : Page) → pages.get p.settled n ≡ Some s → (z : Page) × (pages.get q.settled n ≡ Some z)) (was : (n : ℕ) (z : Page)
    → pages.get q.settled n ≡ Some z → WasAlike t u p n z) where
  kind_t : (k w : ℕ) → get t.leaves k ≡ Some w → kind_of w ≡ Leaf
  kind_t k w found = (a.stands.tables.known.leaf_hung k w found).0

  kind_u : (k w : ℕ) → get u.leaves k ≡ Some w → kind_of w ≡ Leaf
  kind_u k w found = (b.stands.tables.known.leaf_hung k w found).0

  kernel_kept : (page f rights : ℕ) → HasKernelLeaf t page f rights → HasKernelLeaf u page f rights
      → get u.leaves (leaf_node page) ≡ get t.leaves (leaf_node page)
  kernel_kept page f rights (w, at_w, is_w) (v, at_v, is_v) =
      let same : v ≡ w = same_word v w (kind_u _ v at_v) (kind_t _ w at_w) (kernel_same v w f rights is_v is_w) in
      at_v ∙ ap Some same ∙ sym at_w

  page_kept : (n : ℕ) (z : Page) → pages.get q.settled n ≡ Some z → get u.leaves (leaf_node n) ≡ get t.leaves (leaf_node n)
  page_kept n z there =
      let old = was n z there in
      let shown = a.stands.shows.settled n old.before old.settled in
      let now = b.stands.shows.settled n z there in
      let region : now.region ≡ shown.region =
      same_Some now.region shown.region (sym now.in_region ∙ ap (λ rs. region_at rs n) same_regions ∙ shown.in_region) in
      let on = old.on now.frame (now.leaf, now.mapped, now.made.names) in
      let names : ppn now.leaf ≡ ppn shown.leaf = now.made.names ∙ sym on.2 ∙ ap ppn (same_Some on.0 shown.leaf (sym on.1 ∙ shown.mapped)) in
      let dirty : is_dirty_page now.region z ≡ is_dirty_page shown.region old.before = ap (λ r. is_dirty_page r z) region
      ∙ ap (λ m. is_dirty_page shown.region (record z { dirty = m })) old.dirty in
      let made : IsPageLeaf now.leaf now.frame shown.region old.before.cow (is_dirty_page shown.region old.before) =
      subst (λ (d : Bool). IsPageLeaf now.leaf now.frame shown.region old.before.cow d) dirty
      (subst (λ (m : Bool). IsPageLeaf now.leaf now.frame shown.region m (is_dirty_page now.region z)) old.cow
      (subst (λ (r : Region). IsPageLeaf now.leaf now.frame r z.cow (is_dirty_page now.region z)) region now.made)) in
      let same : now.leaf ≡ shown.leaf =
      same_word now.leaf shown.leaf (kind_u _ now.leaf now.mapped) (kind_t _ shown.leaf shown.mapped)
      (page_same now.leaf shown.leaf now.frame shown.frame shown.region _ _ names made shown.made) in
      now.mapped ∙ ap Some same ∙ sym shown.mapped

  on_trampoline : get u.leaves (leaf_node (trampoline_page p.scheme)) ≡ get t.leaves (leaf_node (trampoline_page p.scheme))
  on_trampoline = kernel_kept (trampoline_page p.scheme) 0 code_rights a.stands.shows.on_trampoline (rw same_scheme at b.stands.shows.on_trampoline)

  on_trapframe : get u.leaves (leaf_node (trapframe_page p.scheme)) ≡ get t.leaves (leaf_node (trapframe_page p.scheme))
  on_trapframe = kernel_kept (trapframe_page p.scheme) x.trapframe data_rights a.stands.shows.on_trapframe (subst (λ (f : ℕ).
      HasKernelLeaf u (trapframe_page p.scheme) f data_rights) trapframe (rw same_scheme at b.stands.shows.on_trapframe))

  at_number : (k j : ℕ) → k ≡ j → get u.leaves j ≡ get t.leaves j → get u.leaves k ≡ get t.leaves k
  at_number k j same kept = ap (get u.leaves) same ∙ kept ∙ sym (ap (get t.leaves) same)

  -- the leaves of u are those of t
  pub leaves_stay : (k : ℕ) → get u.leaves k ≡ get t.leaves k
  leaves_stay k = go (get t.leaves k) refl (get u.leaves k) refl where
    go : (o : Option ℕ) → get t.leaves k ≡ o → (r : Option ℕ) → get u.leaves k ≡ r → get u.leaves k ≡ get t.leaves k
    go (Some w) found r is = elim (a.stands.shows.only k w found) [
      | inl same ↦ at_number k _ same on_trampoline
      | inr more ↦ elim more [
        | inl same ↦ at_number k _ same on_trapframe
        | inr page ↦ let z = still page.0 page.1 page.3 in at_number k _ page.2 (page_kept page.0 z.0 z.1)
      ]
    ]
    go None found None is = is ∙ sym found
    go None found (Some v) is = elim (b.stands.shows.only k v is) [
      | inl same ↦ at_number k _ (same ∙ ap (λ z. leaf_node (trampoline_page z)) same_scheme) on_trampoline
      | inr more ↦ elim more [
        | inl same ↦ at_number k _ (same ∙ ap (λ z. leaf_node (trapframe_page z)) same_scheme) on_trapframe
        | inr page ↦ at_number k _ page.2 (page_kept page.0 page.1 page.3)
      ]
    ]
