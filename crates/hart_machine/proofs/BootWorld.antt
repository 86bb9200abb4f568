-- Lemmas for `boot`: the new machine is in the model's world (state) after boot, with empty buffers, the TLBs (`boots`,
-- `boots_in`); and a configuration that can boot has at most 64 slots.
use Rattle.std.proofs.Common.{◌≡◌, ℕ, ◌≤◌, ◌&&◌, nat_le, true, zero, suc, refl, ap, sym, subst, ◌∙◌, None, Some, option_map, List, [], ◌∷◌, map, replicate, arith}
use Rattle.std.specs.Prelude.{Contains, slice_get}
use Rattle.std.proofs.lemmas.List.{length-replicate}
use Rattle.std.proofs.lemmas.Option.{same_Some, slice_get-map}
use Rattle.address_space.specs.Kernel.{IsKernelTable}
use Rattle.frame_store.specs.Plain.{PlainStateInvariant}
use Rattle.frame_store.specs.Seats.{present}
use Rattle.hart_machine.specs.Harts.{hart_of, key_of}
use Rattle.hart_machine.specs.BufferEntries.{IsInWorld}
use Rattle.hart_machine.specs.Worlds.{IsSlotContent, IsWorldButBuffers, seats_of}
use Rattle.hart_machine.specs.declared.hart.Hart.{Hart}
use Rattle.hart_machine.specs.declared.machine.Machine.{Machine}
use Rattle.hart_machine.specs.declared.slot_process.SlotProcess.{SlotProcess}
use Rattle.hart_tlb.specs.declared.entry.TlbEntry.{TlbEntry}
use Rattle.process_model.specs.Files.{File}
use Rattle.process_model.specs.Frames.{can_boot, kernel_frames}
use Rattle.std.proofs.lemmas.Bool.{and_parts}
use Rattle.std.proofs.lemmas.Bool.Decides.{nat_tests}
use Rattle.process_model.specs.Harts as model
use Rattle.process_model.specs.World.{booted}
use Rattle.process_model.specs.declared.config.Config.{Config}
use Rattle.table_walk.specs.Tables.{Tables}
use Rattle.process_model.specs.declared.limits.TheConstants.{FEWEST_FRAMES, MOST_FRAMES, MOST_HARTS, MOST_SLOTS}

-- what is there at first

present_none : {A : Type 0} (n : ℕ) → present {Seat = A} (replicate n None) ≡ []
present_none zero = refl
present_none (suc n) = present_none n

none_there : {A : Type 0} (n i : ℕ) (x : A) → slice_get (replicate n None) i ≡ Some (Some x) → ⊥
none_there zero i x e = absurd (cc)
none_there (suc n) zero x e = absurd (cc)
none_there (suc n) (suc i) x e = none_there n i x e

empty_place : (n i : ℕ) (t : Tables) → IsSlotContent (slice_get (replicate n None) i) (slice_get (replicate n None) i) t
empty_place zero i t = tt
empty_place (suc n) zero t = tt
empty_place (suc n) (suc i) t = empty_place n i t

replicated : {A : Type 0} (n i : ℕ) (x y : A) → slice_get (replicate n x) i ≡ Some y → y ≡ x
replicated zero i x y e = absurd (cc)
replicated (suc n) zero x y e = sym (same_Some _ _ e)
replicated (suc n) (suc i) x y e = replicated n i x y e

hart_idle : (n : ℕ) (xs : List Hart) → map hart_of xs ≡ replicate n model.idle_hart → (h : ℕ) (x : Hart) → slice_get xs h ≡ Some x → hart_of x ≡ model.idle_hart
hart_idle n xs are h x is =
    replicated n h model.idle_hart (hart_of x) (ap (λ ys. slice_get ys h) (sym are) ∙ slice_get-map hart_of xs h ∙ ap (option_map hart_of) is)

nothing_buffered : (es : List TlbEntry) → map key_of es ≡ [] → (e : TlbEntry) → Contains es e → ⊥
nothing_buffered [] none e h = absurd (omega (arith, h.1))
nothing_buffered (a ∷ es) none e h = absurd (cc)

-- the limits of boot
pub few_slots : (c : Config) → can_boot c.scheme c.harts c.frames c.slots ≡ true → c.slots ≤ MOST_SLOTS
few_slots c is =
    let rest = and_parts (nat_le 1 c.harts && nat_le c.harts MOST_HARTS && nat_le FEWEST_FRAMES c.frames && nat_le c.frames MOST_FRAMES && nat_le 1 c.slots && nat_le c.slots MOST_SLOTS) (nat_le (kernel_frames c.scheme c.frames c.slots) c.frames) is in
    let low = and_parts (nat_le 1 c.harts && nat_le c.harts MOST_HARTS && nat_le FEWEST_FRAMES c.frames && nat_le c.frames MOST_FRAMES && nat_le 1 c.slots) (nat_le c.slots MOST_SLOTS) rest.0 in
    grind (arith, nat_tests, low.1)

module _ (m : Machine) (c : Config) (files : List File) (ruled : m.policy ≡ c.policy) (schemed : m.kernel.scheme ≡ c.scheme) (small : c.slots ≤ MOST_SLOTS) (sized : m.kernel.seat.size ≡ c.frames) (stacks : List ℕ) (t : Tables)
    (table : IsKernelTable m.kernel.scheme m.kernel.seat m.kernel.root.0 c.frames c.slots stacks t) (rule : PlainStateInvariant m.frames (m.kernel.seat ∷ []))
    (slots : m.slots.items ≡ replicate c.slots None) (harts : map hart_of m.harts.items ≡ replicate c.harts model.idle_hart) (filed : m.files ≡ files) where
  idle_at : (h : ℕ) (x : Hart) → slice_get m.harts.items h ≡ Some x → hart_of x ≡ model.idle_hart
  idle_at h x is = hart_idle c.harts m.harts.items harts h x is

  pub boots : IsWorldButBuffers m (booted c files)
  boots = record {
    tables = λ _. t;
    kernel = t;
    stacks = stacks;
    policy = ruled;
    scheme = schemed;
    schemes = λ s p at. absurd (none_there c.slots s p at);
    few = subst (λ n. n ≤ MOST_SLOTS) (sym (length-replicate c.slots None)) small;
    frames = sized;
    invariant = subst (λ ts. PlainStateInvariant m.frames (m.kernel.seat ∷ seats_of ts)) (sym slots) (rw (present_none {A = SlotProcess} c.slots) rule);
    of_kernel = subst (λ n. IsKernelTable m.kernel.scheme m.kernel.seat m.kernel.root.0 c.frames n stacks t) (sym (length-replicate c.slots None)) table;
    places = λ s. subst (λ ts. IsSlotContent (slice_get ts s) (slice_get (replicate c.slots None) s) t) (sym slots) (empty_place c.slots s t);
    copies = λ i j a b f g p q x y at. absurd (none_there c.slots i p at);
    counted = λ i n p a at. absurd (none_there c.slots i p at);
    files = filed;
    harts = harts;
    hosted = λ h s x at on. absurd (let none = ap (λ (k : model.Hart). k.slot) (idle_at h x at) in let some = sym on ∙ none in cc);
    alone = λ s h k x y at also on. absurd (let none = ap (λ (z : model.Hart). z.slot) (idle_at h x at) in let some = sym on ∙ none in cc);
    idle = λ h x at none. ap (λ (k : model.Hart). k.phase) (idle_at h x at);
    local = λ h x e at in_it. absurd (nothing_buffered x.buffer (ap (λ (k : model.Hart). k.keys) (idle_at h x at)) e in_it);
  }

  -- no buffer has an entry
  pub boots_in : IsInWorld m (booted c files)
  boots_in = record {
    world = boots;
    buffers = λ h x e at in_it. absurd (nothing_buffered x.buffer (ap (λ (k : model.Hart). k.keys) (idle_at h x at)) e in_it);
    clean = λ asid h x at s user on. absurd (let none = ap (λ (k : model.Hart). k.slot) (idle_at h x at) in let some = sym on ∙ none in cc);
  }
