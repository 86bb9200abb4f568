-- Lemmas for the step `TrampolineFetch`: the kernel's table and each process's map TRAMPOLINE's page to the kernel's code in
-- frame 0, a fetch by a walk or by a TLB entry finds it, and refusals and reply are the model's.
use Rattle.std.proofs.Common.{◌≡◌, ℕ, ◌+◌, ◌*◌, ◌/◌, ◌%◌, ◌<◌, ◌≤◌, ◌==◌, ◌&&◌, nat_lt, Bool, true, false, Option, None, Some, List, refl, ap, sym, ◌∙◌, inl, inr, arith, subst}
use Rattle.std.specs.Prelude.{slice_get}
use Rattle.std.specs.FinMap.{get}
use Rattle.std.proofs.lemmas.Bool.{eq-eqb, ne_eqb}
use Rattle.std.proofs.lemmas.Option.{same_Some}
use Rattle.frame_store.specs.View.{View}
use Rattle.process_model.specs.Harts as model
use Rattle.process_model.specs.Harts.{entry_serves}
use Rattle.process_model.specs.Process.{Process}
use Rattle.process_model.specs.Steps.{plain_step}
use Rattle.process_model.specs.World.{World, answers, refuses}
use Rattle.process_model.specs.declared.phase.Phase.{Phase}
use Rattle.process_model.specs.declared.reply.Refusal.{Refusal}
use Rattle.process_model.specs.declared.reply.Refusal.TheVariants.{BadArgument, Impossible, NoEntry}
use Rattle.process_model.specs.declared.reply.ScalarReply.TheVariants.{InFrame, Refused}
use Rattle.process_model.specs.declared.reply.Reply.TheVariants.{Scalar}
use Rattle.process_model.specs.declared.step.Step.TheVariants as step
use Rattle.sv39_entry.specs.Address.{page_of}
use Rattle.sv39_entry.specs.Frame.{frame_at, ppn_of}
use Rattle.sv39_entry.specs.Word.{IsLeafOf, kind_of, leaf_word, permits, ppn}
use Rattle.sv39_entry.specs.declared.access.Access.TheVariants.{Fetch}
use Rattle.sv39_entry.specs.declared.access.Mode.TheVariants.{Supervisor}
use Rattle.sv39_entry.specs.declared.frame.FrameNo.{FrameNo}
use Rattle.sv39_entry.specs.Schemes.{trampoline_page, low_canonical, of_scheme}
use Rattle.sv39_entry.specs.declared.scheme.Scheme.{Scheme}
use Rattle.table_walk.specs.Tables.{Tables, leaf_node, walk_leaf}
use Rattle.table_walk.specs.Memory.{physical_address}
use Rattle.table_walk.specs.declared.walk.Walk.{Walk}
use Rattle.table_walk.specs.declared.walk.Walk.TheVariants as walk
use Rattle.address_space.specs.Agreement.{code_rights, ShowsPages}
use Rattle.address_space.specs.Kernel.{IsKernelTable, kernel_leaf, kernel_page}
use Rattle.hart_machine.specs.Harts.{hart_of}
use Rattle.hart_machine.specs.Tables.{IsTranslated}
use Rattle.table_walk.specs.Leaves.{answer, lands, Leaf, leaf_at, walk_answer}
use Rattle.table_walk.specs.Nodes.{low_leaf}
use Rattle.hart_machine.specs.BufferEntries.{IsTrampolineLeaf}
use Rattle.hart_machine.specs.Worlds.{IsWorldButBuffers, IsModelOutcome}
use Rattle.hart_machine.specs.declared.hart.Hart.{Hart}
use Rattle.hart_machine.specs.declared.machine.Machine.{Machine}
use Rattle.hart_machine.proofs.HartSteps.{HasHart, impossible, improper, makes, process_at, refused, runs, without_entry, without_hart}

-- tables

-- a walk of an address of the page finds the leaf of the page
top_leaf : (z : Scheme) (t : Tables) (a : ℕ) → page_of a ≡ trampoline_page z → get t.leaves (walk_leaf z (page_of a)) ≡ get t.leaves (leaf_node (trampoline_page z))
top_leaf z t a page = ap (λ n. get t.leaves (walk_leaf z n)) page ∙ ap (get t.leaves) (low_leaf z (trampoline_page z) (omega (arith, of_scheme z)))

kernel_top : (z : Scheme) (frames : ℕ) (stacks : List ℕ) → kernel_leaf (kernel_page z frames stacks (trampoline_page z)) ≡ Some (leaf_word 0 code_rights false false true)
kernel_top z frames stacks = rw (eq-eqb (trampoline_page z) (trampoline_page z) refl) refl

-- the leaf of the page leads to frame 0, and the kernel may fetch by it
record HasCode (z : Scheme) (t : Tables) : Type 0 where
  word : ℕ
  mapped : get t.leaves (leaf_node (trampoline_page z)) ≡ Some word
  names : ppn word ≡ ppn_of 0
  lets : permits Supervisor Fetch word ≡ true

process_code : (v : View) (trapframe : ℕ) (t : Tables) (p : Process) → ShowsPages v trapframe t p → HasCode p.scheme t
process_code v trapframe t p shows = let leaf = shows.on_trampoline in record {
  word = leaf.0;
  mapped = leaf.1;
  names = leaf.2.names;
  lets = rw (leaf.2.for_user, leaf.2.execute, leaf.2.accessed) refl;
}

kernel_code : (z : Scheme) (v : View) (root frames slots : ℕ) (stacks : List ℕ) (t : Tables) → IsKernelTable z v root frames slots stacks t → HasCode z t
kernel_code z v root frames slots stacks t k = record {
  word = leaf_word 0 code_rights false false true;
  mapped = k.maps.leaves (trampoline_page z) (omega (arith, of_scheme z)) ∙ kernel_top z frames stacks;
  names = omega arith;
  lets = refl;
}

-- the same of an entry of a buffer that tells of the page

code_leaf : (z : Scheme) (t : Tables) (word a : ℕ) → get t.leaves (leaf_node (trampoline_page z)) ≡ Some word → IsLeafOf word 0 code_rights false false true → page_of a ≡ trampoline_page z → IsTrampolineLeaf (leaf_at z t a)
code_leaf z t word a mapped made page = (word, rw (low_canonical z a (omega (arith, page)), top_leaf z t a page ∙ mapped) refl, made)

code_word : IsLeafOf (leaf_word 0 code_rights false false true) 0 code_rights false false true
unfolding kind_of
code_word = record {
  names = omega arith;
  valid = refl;
  read = refl;
  write = refl;
  execute = refl;
  for_user = refl;
  global = refl;
  accessed = refl;
  modified = refl;
  cow = refl;
  unused = refl;
  readable = λ e. refl;
  executable = λ e none. refl;
}

pub kernel_code_leaf : (z : Scheme) (v : View) (root frames slots : ℕ) (stacks : List ℕ) (t : Tables) → IsKernelTable z v root frames slots stacks t → (a : ℕ) → page_of a ≡ trampoline_page z → IsTrampolineLeaf (leaf_at z t a)
kernel_code_leaf z v root frames slots stacks t k a page =
    code_leaf z t (leaf_word 0 code_rights false false true) a (k.maps.leaves (trampoline_page z) (omega (arith, of_scheme z)) ∙ kernel_top z frames stacks) code_word page

pub process_code_leaf : (v : View) (trapframe : ℕ) (t : Tables) (p : Process) → ShowsPages v trapframe t p → (a : ℕ) → page_of a ≡ trampoline_page p.scheme → IsTrampolineLeaf (leaf_at p.scheme t a)
process_code_leaf v trapframe t p shows a page = let leaf = shows.on_trampoline in code_leaf p.scheme t leaf.0 a leaf.1 leaf.2 page

module _ (z : Scheme) (offset : ℕ) (low : offset < 4096) where
  abbrev address : ℕ
  address = 4096 * trampoline_page z + offset

  -- a fetch that found frame 0
  abbrev IsFetched : Walk → Type 0
  IsFetched walked = (w : ℕ) × (walked ≡ walk.Leaf w 0 (physical_address w 0 address)) × (ppn w ≡ ppn_of 0)

  by_table : (t : Tables) → HasCode z t → (walked : Walk) → walked ≡ walk_answer z t address Fetch Supervisor → IsFetched walked
  by_table t code walked is =
      let page : page_of address ≡ trampoline_page z = omega (arith, low) in
      (code.word, is ∙ rw (low_canonical z address (omega (arith, page)), top_leaf z t address page ∙ code.mapped, code.lets) refl, code.names)

  by_leaf : (l : Option Leaf) → IsTrampolineLeaf l → (walked : Walk) → walked ≡ answer l address Fetch Supervisor → IsFetched walked
  by_leaf l (word, is_leaf, made) walked is =
      let lets : permits Supervisor Fetch word ≡ true = rw (made.for_user, made.execute, made.accessed) refl in
      (word, is ∙ ap (λ (o : Option Leaf). answer o address Fetch Supervisor) is_leaf ∙ rw lets refl, made.names)

  module _ (m : Machine) (w : World) (is : IsWorldButBuffers m w) (same : m.kernel.scheme ≡ z) (h : ℕ) (x : Hart) (at : slice_get m.harts.items h ≡ Some x) (walked : Walk)
      (served : IsTranslated z x is.tables is.kernel address Fetch Supervisor walked) where
    is_fetched : IsFetched walked
    is_fetched = elim served [
      | inl of_kernel ↦ by_table is.kernel (subst (λ y. HasCode y is.kernel) same (kernel_code m.kernel.scheme _ _ _ _ _ _ is.of_kernel)) walked of_kernel.1
      | inr more ↦ elim more [
        | inl own ↦
            let y = is.hosted h own.0 x at own.2 in
            let p = process_at m w is own.0 y.0 y.1 in
            let schemes = is.schemes own.0 p.0 p.1 ∙ sym is.scheme ∙ same in
            by_table (is.tables own.0) (subst (λ y. HasCode y (is.tables own.0)) schemes (process_code _ _ _ p.0 (p.2).agrees.stands.shows)) walked own.3
        | inr code ↦ by_leaf (code.1).1 (code.1).2 walked (code.1).3
      ]
    ]

    -- a leaf is found
    pub finds_leaf : ((word level a : ℕ) → walked ≡ walk.Leaf word level a → ⊥) → ⊥
    finds_leaf none = let found = is_fetched in none found.0 0 _ found.1

    -- and the frame is frame 0
    pub finds_code : (word level a : ℕ) → walked ≡ walk.Leaf word level a → frame_at (a / 4096) ≡ Some (record { 0 = 0 })
    finds_code word level a leaf =
        let found = is_fetched in
        let same : walk.Leaf word level a ≡ walk.Leaf found.0 0 (physical_address found.0 0 address) = sym leaf ∙ found.1 in
        let is_address : a ≡ physical_address found.0 0 address = cc in
        ap (λ (k : ℕ). frame_at (k / 4096)) is_address ∙ ap frame_at (lands found.0 address ∙ found.2)

-- steps

is_proper : (offset : ℕ) → offset % 4 ≡ 0 → offset < 4096 → (offset % 4 == 0 && nat_lt offset 4096) ≡ true
is_proper offset aligned low = rw (eq-eqb (offset % 4) 0 aligned) (grind (arith, low))

module _ (m : Machine) (w : World) (is : IsWorldButBuffers m w) (h offset : ℕ) (via : Option ℕ) where
  abbrev fetches : Refusal → Type 0
  fetches r = IsModelOutcome m (Scalar (Refused r)) (plain_step w (step.TrampolineFetch h offset via))

  pub nowhere : slice_get w.harts h ≡ None → fetches BadArgument
  nowhere none = refused m w is BadArgument _ (without_hart w h _ _ _ _ none)

  pub misaligned : (offset % 4 ≡ 0 → ⊥) → fetches BadArgument
  misaligned other = refused m w is BadArgument _ (improper w h _ _ _ _ (rw (ne_eqb (offset % 4) 0 other) refl))

  pub beyond : 4096 ≤ offset → fetches BadArgument
  beyond high = refused m w is BadArgument _ (improper w h _ _ _ _ (past (offset % 4 == 0) (nat_lt offset 4096) (grind (arith, high)))) where
    past : (a b : Bool) → b ≡ false → (a && b) ≡ false
    past true b none = none
    past false b none = refl

  module _ (aligned : offset % 4 ≡ 0) (low : offset < 4096) (p : Phase) (has : HasHart m w h p) where
    pub elsewhere : model.in_trampoline p ≡ false → fetches (Impossible p)
    elsewhere fails = refused m w is (Impossible p) _
        (impossible w h _ (λ x. model.in_trampoline x.phase) _ _ (hart_of has.hart) has.in_model (is_proper offset aligned low) (ap model.in_trampoline has.phased ∙ fails) ∙ ap (λ q. refuses w (Impossible q)) has.phased)

    module _ (inside : model.in_trampoline p ≡ true) (n : Machine) (after : IsWorldButBuffers n w) where
      pub no_entry : entry_serves m.policy (hart_of has.hart) (4096 * trampoline_page w.scheme + offset) via ≡ false → IsModelOutcome n (Scalar (Refused NoEntry)) (plain_step w (step.TrampolineFetch h offset via))
      no_entry fails = refused n w after NoEntry _
          (without_entry w h _ (λ x. model.in_trampoline x.phase) (λ x. entry_serves w.policy x (4096 * trampoline_page w.scheme + offset) via) _ (hart_of has.hart) has.in_model (is_proper offset aligned low)
          (ap model.in_trampoline has.phased ∙ inside) (ap (λ q. entry_serves q (hart_of has.hart) (4096 * trampoline_page w.scheme + offset) via) (sym is.policy) ∙ fails))

      pub fetches_code : entry_serves m.policy (hart_of has.hart) (4096 * trampoline_page w.scheme + offset) via ≡ true → (f : FrameNo) → Some f ≡ Some (record { 0 = 0 })
          → IsModelOutcome n (Scalar (InFrame f.0)) (plain_step w (step.TrampolineFetch h offset via))
      fetches_code serves f found = rw (same_Some _ _ found) (makes n (Scalar (InFrame 0)) w _ after
          (runs w h _ (λ x. model.in_trampoline x.phase) (λ x. entry_serves w.policy x (4096 * trampoline_page w.scheme + offset) via) (λ x. answers w (Scalar (InFrame 0))) (hart_of has.hart) has.in_model (is_proper offset aligned low)
          (ap model.in_trampoline has.phased ∙ inside) (ap (λ q. entry_serves q (hart_of has.hart) (4096 * trampoline_page w.scheme + offset) via) (sym is.policy) ∙ serves)))
