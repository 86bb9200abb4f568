-- Lemmas: no TLB of a machine changes if its harts are the same (`same_harts`), or one hart becomes another with the same
-- buffer (`same_buffers`).
use Rattle.std.proofs.Common.{◌≡◌, ℕ, zero, suc, get_or, Option, Some, option_map, List, [], ◌∷◌, refl, ap, ◌∙◌}
use Rattle.std.specs.Prelude.{slice_get, slice_set}
use Rattle.std.specs.Vec.{with_item}
use Rattle.hart_tlb.specs.declared.entry.TlbEntry.{TlbEntry}
use Rattle.hart_machine.specs.Buffers.{SameBuffers}
use Rattle.hart_machine.specs.declared.hart.Hart.{Hart}
use Rattle.hart_machine.specs.declared.machine.Machine.{Machine}

abbrev buffer_at : List Hart → ℕ → Option (List TlbEntry)
buffer_at hs k = option_map (λ (x : Hart). x.buffer) (slice_get hs k)

-- the hart that was read becomes one with the same buffer
same_at : (hs : List Hart) (h : ℕ) (x y : Hart) → x ≡ get_or hs h x → y.buffer ≡ x.buffer → (k : ℕ) → buffer_at (slice_set hs h y) k ≡ buffer_at hs k
same_at [] h x y read same k = refl
same_at (z ∷ hs) zero x y read same zero = ap Some (same ∙ ap (λ (u : Hart). u.buffer) read)
same_at (z ∷ hs) zero x y read same (suc k) = refl
same_at (z ∷ hs) (suc h) x y read same zero = refl
same_at (z ∷ hs) (suc h) x y read same (suc k) = same_at hs h x y read same k

pub same_harts : (m n : Machine) → n.harts ≡ m.harts → SameBuffers m n
same_harts m n same h = rw same refl

module _ (m : Machine) (h : ℕ) (x y : Hart) (read : x ≡ get_or m.harts.items h x) where
  abbrev changed : Machine
  changed = record m { harts = with_item m.harts h y }

  pub same_buffers : y.buffer ≡ x.buffer → SameBuffers m changed
  same_buffers same = same_at m.harts.items h x y read same
