-- Lemmas on the leaves of the kernel's page table: each names a frame, and none has G (global).
use Rattle.std.proofs.Common.{◌⊎◌, ◌≤◌, ◌==◌, ◌&&◌, nat_le, nat_lt, cond, Bool, List, option_map, ◌≡◌, ℕ, ◌+◌, ◌-◌, ◌/◌, ◌%◌, ◌^◌, ◌<◌, true, false, Option, None, Some, refl, ap, sym, subst, ◌∙◌, inl, inr, arith}
use Rattle.std.proofs.lemmas.Option.{same_Some}
use Rattle.std.specs.FinMap.{get}
use Rattle.std.specs.Prelude.{slice_get}
use Rattle.std.proofs.lemmas.Bool.{cases_eq, cases_lt, eq-eqb, ne_eqb}
use Rattle.address_space.specs.Kernel.{first_direct, frame_rights, IsKernelTable, kernel_leaf, kernel_page}
use Rattle.frame_store.specs.View.{View}
use Rattle.sv39_entry.specs.Word.{leaf_word}
use Rattle.sv39_entry.specs.declared.scheme.Scheme.TheVariants.{Sv39, Sv48}
use Rattle.sv39_entry.specs.Schemes.{trampoline_page, page_limit, low_page}
use Rattle.sv39_entry.specs.declared.scheme.Scheme.{Scheme}
use Rattle.table_walk.specs.Tables.{Tables, walk_leaf}
use Rattle.address_space.specs.Agreement.{code_rights, data_rights}
use Rattle.table_walk.specs.Leaves.{LeavesAreLocal, LeavesAreThere}
use Rattle.table_walk.specs.Nodes.{walk_leaf_is}
use Rattle.address_space.specs.ProcessLeaves.{IsUsable, usable}

-- the kernel's leaves are of two kinds
abbrev IsKernelPage : ℕ × ℕ → Type 0
IsKernelPage x = (x.0 < 2 ^ 16) × ((x.1 ≡ code_rights) ⊎ (x.1 ≡ data_rights))

sound_kernel : (x : ℕ × ℕ) → IsKernelPage x → IsUsable (leaf_word x.0 x.1 false false true)
sound_kernel x (small, inl is) = rw is (usable (leaf_word x.0 code_rights false false true) x.0 small (omega arith) (ne_eqb _ 1 (omega arith)))
sound_kernel x (small, inr is) = rw is (usable (leaf_word x.0 data_rights false false true) x.0 small (omega arith) (ne_eqb _ 1 (omega arith)))

rights_of : (f : ℕ) → (frame_rights f ≡ code_rights) ⊎ (frame_rights f ≡ data_rights)
rights_of f = elim (cases_eq f 0) [ inl zero ↦ inl (rw (eq-eqb f 0 zero) refl) | inr other ↦ inr (rw (ne_eqb f 0 other) refl) ]

first_of : (b c d : Bool) (x y : ℕ × ℕ) (o : Option (ℕ × ℕ)) → IsKernelPage x → (c ≡ true → IsKernelPage y) → ((z : ℕ × ℕ) → o ≡ Some z → IsKernelPage z)
    → (z : ℕ × ℕ) → cond b (Some x) (cond c (Some y) (cond d o None)) ≡ Some z → IsKernelPage z
first_of true c d x y o first second third z is = subst IsKernelPage (same_Some x z is) first
first_of false true d x y o first second third z is = subst IsKernelPage (same_Some y z is) (second refl)
first_of false false true x y o first second third z is = third z is
first_of false false false x y o first second third z is = absurd (cc)

not_below : (a b : ℕ) → b ≤ a → nat_lt a b ≡ false
not_below a b beyond = grind (arith, beyond)

not_both : (a b : Bool) → b ≡ false → (a && b) ≡ true → ⊥
not_both true b other is = cc
not_both false b other is = cc

low_page_low : (s : Scheme) (page : ℕ) → low_page s page < page_limit s
low_page_low Sv39 page = omega arith
low_page_low Sv48 page = omega arith

module _ (s : Scheme) (v : View) (root frames slots : ℕ) (stacks : List ℕ) (t : Tables) (k : IsKernelTable s v root frames slots stacks t) where
  stacked : (o : Option ℕ) → ((f : ℕ) → o ≡ Some f → f < 2 ^ 16) → (z : ℕ × ℕ) → option_map (λ (f : ℕ). (f, data_rights)) o ≡ Some z → IsKernelPage z
  stacked None each z is = absurd (cc)
  stacked (Some f) each z is = subst IsKernelPage (same_Some (f, data_rights) z is) (each f refl, inr refl)

  kernel_page_is : (page : ℕ) (z : ℕ × ℕ) → kernel_page s frames stacks page ≡ Some z → IsKernelPage z
  kernel_page_is page = first_of (page == trampoline_page s) (nat_le first_direct page && nat_lt page (first_direct + frames)) (nat_lt page (trampoline_page s) && ((trampoline_page s - page) % 2 == 0))
      (0, code_rights) (page - first_direct, frame_rights (page - first_direct)) _ (omega arith, inl refl)
      (λ inside. (few (cases_lt page (first_direct + frames)) inside, rights_of (page - first_direct)))
      (stacked (slice_get stacks ((trampoline_page s - page) / 2 - 1)) (λ f at. (k.maps.holds.stack _ f at).2)) where
        few : (page < first_direct + frames) ⊎ (first_direct + frames ≤ page) → (nat_le first_direct page && nat_lt page (first_direct + frames)) ≡ true → page - first_direct < 2 ^ 16
        few (inl below) inside = omega (arith, below, k.few_frames)
        few (inr beyond) inside = absurd (not_both (nat_le first_direct page) (nat_lt page (first_direct + frames)) (not_below page (first_direct + frames) beyond) inside)

  kernel_leaf_of : (o : Option (ℕ × ℕ)) → ((z : ℕ × ℕ) → o ≡ Some z → IsKernelPage z) → (w : ℕ) → kernel_leaf o ≡ Some w → IsUsable w
  kernel_leaf_of None each w is = absurd (cc)
  kernel_leaf_of (Some z) each w is = subst IsUsable (same_Some (leaf_word z.0 z.1 false false true) w is) (sound_kernel z (each z refl))

  of_page : (page w : ℕ) → get t.leaves (walk_leaf s page) ≡ Some w → IsUsable w
  of_page page w found =
      let low : low_page s page < page_limit s = low_page_low s page in
      kernel_leaf_of (kernel_page s frames stacks (low_page s page)) (kernel_page_is (low_page s page)) w
      (sym (k.maps.leaves (low_page s page) low) ∙ ap (get t.leaves) (sym (walk_leaf_is s page)) ∙ found)

  pub kernel_there : LeavesAreThere s t
  kernel_there page w found = (of_page page w found).0

  pub kernel_local : LeavesAreLocal s t
  kernel_local page w found = (of_page page w found).1
