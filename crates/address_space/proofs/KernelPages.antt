-- Lemmas on `kernel_page`, the frame to which a page of the kernel is mapped: for the trampoline, a frame at its own address,
-- the stack of a slot, and none above the trampoline. What one more frame or stack changes, and bounds of pages and frames.
use Rattle.std.proofs.Common.{◌≡◌, ℕ, zero, suc, ◌+◌, ◌-◌, ◌/◌, ◌%◌, ◌^◌, ◌<◌, ◌≤◌, ◌⊎◌, Bool, true, false, cond, List, [], ◌∷◌, ◌++◌, length, Option, None, Some, inl, inr, refl, ap, sym, subst, ◌∙◌, arith}
use Rattle.std.specs.Prelude.{◌==◌, ◌&&◌, nat_le, nat_lt, option_map, slice_get}
use Rattle.std.proofs.lemmas.Bool.{cases_eq, cases_lt, eq-eqb, ne_eqb, lt-ltb, le-ltb, le-leb, lt-leb, and_left, and_right, and_parts, eqb-true, ltb-true}
use Rattle.std.proofs.lemmas.Option.{same_Some}
use Rattle.address_space.specs.Agreement.{code_rights, data_rights}
use Rattle.address_space.specs.Kernel.{first_direct, frame_rights, kernel_page, stack_page}
use Rattle.sv39_entry.specs.Schemes.{of_scheme, trampoline_page}
use Rattle.sv39_entry.specs.declared.scheme.Scheme.{Scheme}

-- ---- lists that grow at their end

pub get_last : (xs : List ℕ) (x i : ℕ) → i ≡ length xs → slice_get (xs ++ x ∷ []) i ≡ Some x
get_last [] x zero is = refl
get_last [] x (suc i) is = absurd (omega (arith, is))
get_last (y ∷ xs) x zero is = absurd (omega (arith, is))
get_last (y ∷ xs) x (suc i) is = get_last xs x i (omega (arith, is))

pub get_before : (xs : List ℕ) (x i : ℕ) → (i ≡ length xs → ⊥) → slice_get (xs ++ x ∷ []) i ≡ slice_get xs i
get_before [] x zero apart = absurd (apart refl)
get_before [] x (suc i) apart = refl
get_before (y ∷ xs) x zero apart = refl
get_before (y ∷ xs) x (suc i) apart = get_before xs x i (λ e. apart (ap suc e))

-- ---- choices

-- the choice where the test holds may be another
under : {A : Type 0} (b : Bool) (x y z : A) → (b ≡ true → x ≡ y) → cond b x z ≡ cond b y z
under true x y z same = same refl
under false x y z same = refl

-- what holds of both choices holds of the one that is made
chosen : {A : Type 0} (P : A → Type 0) (b : Bool) (x y : Option A) → (b ≡ true → (p : A) → x ≡ Some p → P p) → ((p : A) → y ≡ Some p → P p)
    → (p : A) → cond b x y ≡ Some p → P p
chosen P true x y first second p is = first refl p is
chosen P false x y first second p is = second p is

mapped_from : {A B : Type 0} (g : A → B) (o : Option A) (p : B) → option_map g o ≡ Some p → (x : A) × (o ≡ Some x) × (p ≡ g x)
mapped_from g None p is = absurd (cc)
mapped_from g (Some x) p is = (x, refl, sym (same_Some (g x) p is))

none_either_way : {A : Type 0} (b : Bool) → ◌≡◌ {A = Option A} (cond b None None) None
none_either_way true = refl
none_either_way false = refl

-- ---- the pages

abbrev is_direct : ℕ → ℕ → Bool
is_direct frames page = nat_le first_direct page && nat_lt page (first_direct + frames)

abbrev on_stack : Scheme → List ℕ → ℕ → Option (ℕ × ℕ)
on_stack z stacks page = option_map (λ frame. (frame, data_rights)) (slice_get stacks (((trampoline_page z) - page) / 2 - 1))

module _ (z : Scheme) (frames : ℕ) (stacks : List ℕ) (page : ℕ) where
  pub on_trampoline : page ≡ (trampoline_page z) → kernel_page z frames stacks page ≡ Some (0, code_rights)
  on_trampoline is = rw (eq-eqb page (trampoline_page z) is) refl

  pub on_frame : frames ≤ 1024 → (i : ℕ) → i < frames → page ≡ first_direct + i → kernel_page z frames stacks page ≡ Some (i, frame_rights i)
  on_frame few i less is =
      let facts = of_scheme z in
      let apart : page ≡ (trampoline_page z) → ⊥ = λ e. omega (arith, e, is, few, less, facts) in
      let i_is : page - first_direct ≡ i = omega (arith, is) in
      rw (ne_eqb page (trampoline_page z) apart, le-leb first_direct page (omega (arith, is)), lt-ltb page (first_direct + frames) (omega (arith, is, less)), i_is) refl

  pub on_slot : frames ≤ 1024 → (slot f : ℕ) → slot < 64 → page ≡ stack_page z slot → slice_get stacks slot ≡ Some f → kernel_page z frames stacks page ≡ Some (f, data_rights)
  on_slot few slot f less is at =
      let facts = of_scheme z in
      let apart : page ≡ (trampoline_page z) → ⊥ = λ e. omega (arith, e, is, less, facts) in
      let even : ((trampoline_page z) - page) % 2 ≡ 0 = omega (arith, is, less, facts) in
      let slot_is : ((trampoline_page z) - page) / 2 - 1 ≡ slot = omega (arith, is, less, facts) in
      rw (
        ne_eqb page (trampoline_page z) apart,
        and_right (nat_le first_direct page) (nat_lt page (first_direct + frames)) (le-ltb page (first_direct + frames) (omega (arith, is, few, less, facts))),
        lt-ltb page (trampoline_page z) (omega (arith, is, less, facts)),
        eq-eqb (((trampoline_page z) - page) % 2) 0 even,
        slot_is,
        at,
      ) refl

  -- nothing is mapped above the trampoline
  pub above_none : frames ≤ 1024 → trampoline_page z < page → kernel_page z frames stacks page ≡ None
  above_none few high =
      let facts = of_scheme z in
      let apart : page ≡ (trampoline_page z) → ⊥ = λ e. omega (arith, e, high) in
      rw (
        ne_eqb page (trampoline_page z) apart,
        and_right (nat_le first_direct page) (nat_lt page (first_direct + frames)) (le-ltb page (first_direct + frames) (omega (arith, few, high, facts))),
        le-ltb page (trampoline_page z) (omega (arith, high)),
      ) refl

  -- one more frame is mapped
  pub frame_other : (page ≡ first_direct + frames → ⊥) → kernel_page z (frames + 1) stacks page ≡ kernel_page z frames stacks page
  frame_other apart =
      let test : nat_lt page (first_direct + (frames + 1)) ≡ nat_lt page (first_direct + frames) = elim (cases_lt page (first_direct + frames)) [
        | inl less ↦ lt-ltb page (first_direct + (frames + 1)) (omega (arith, less)) ∙ sym (lt-ltb page (first_direct + frames) less)
        | inr more ↦ le-ltb page (first_direct + (frames + 1)) (omega (arith, more, apart)) ∙ sym (le-ltb page (first_direct + frames) more)
      ] in
      rw test refl

  -- one more stack is mapped
  pub stack_other : (f : ℕ) → (page ≡ stack_page z (length stacks) → ⊥) → kernel_page z frames (stacks ++ f ∷ []) page ≡ kernel_page z frames stacks page
  stack_other f apart =
      let on = nat_lt page (trampoline_page z) && (((trampoline_page z) - page) % 2 == 0) in
      ap (λ (o : Option (ℕ × ℕ)). cond (page == (trampoline_page z)) (Some (0, code_rights)) (cond (is_direct frames page) (Some (page - first_direct, frame_rights (page - first_direct))) o))
      (under on (on_stack z (stacks ++ f ∷ []) page) (on_stack z stacks page) None (λ is.
      let parts = and_parts (nat_lt page (trampoline_page z)) (((trampoline_page z) - page) % 2 == 0) is in
      let below = ltb-true page (trampoline_page z) parts.0 in
      let even = eqb-true (((trampoline_page z) - page) % 2) 0 parts.1 in
      ap (option_map (λ (frame : ℕ). (frame, data_rights))) (get_before stacks f (((trampoline_page z) - page) / 2 - 1) (λ e. apart (omega (arith, e, below, even))))))

-- before the first frame and the first stack
pub nothing_else : (z : Scheme) (page : ℕ) → (page ≡ (trampoline_page z) → ⊥) → kernel_page z 0 [] page ≡ None
nothing_else z page apart =
    let far : is_direct 0 page ≡ false = elim (cases_lt page first_direct) [
      | inl less ↦ and_left (nat_le first_direct page) (nat_lt page (first_direct + 0)) (lt-leb first_direct page less)
      | inr more ↦ and_right (nat_le first_direct page) (nat_lt page (first_direct + 0)) (le-ltb page (first_direct + 0) (omega (arith, more)))
    ] in
    rw (ne_eqb page (trampoline_page z) apart, far) (none_either_way {A = ℕ × ℕ} (nat_lt page (trampoline_page z) && (((trampoline_page z) - page) % 2 == 0)))

-- ---- what pages are mapped to

-- a frame with a number of 16 bits, with code or with data
abbrev pub IsOfKernel : ℕ × ℕ → Type 0
IsOfKernel p = (p.0 < 2 ^ 16) × ((p.1 ≡ code_rights) ⊎ (p.1 ≡ data_rights))

rights_of_frame : (f : ℕ) → (frame_rights f ≡ code_rights) ⊎ (frame_rights f ≡ data_rights)
rights_of_frame f = elim (cases_eq f 0) [
  | inl e ↦ inl (rw (eq-eqb f 0 e) refl)
  | inr ne ↦ inr (rw (ne_eqb f 0 ne) refl)
]

module _ (z : Scheme) (frames : ℕ) (stacks : List ℕ) (page : ℕ) (few : frames ≤ 1024) where
  pub page_low : (p : ℕ × ℕ) → kernel_page z frames stacks page ≡ Some p → page ≤ trampoline_page z
  page_low p is = elim (cases_lt (trampoline_page z) page) [
    | inl high ↦ absurd (let none = above_none z frames stacks page few high in cc)
    | inr low ↦ low
  ]

  pub of_kernel : ((slot f : ℕ) → slice_get stacks slot ≡ Some f → f < 2 ^ 16) → (p : ℕ × ℕ) → kernel_page z frames stacks page ≡ Some p → IsOfKernel p
  of_kernel small =
      let on = nat_lt page (trampoline_page z) && (((trampoline_page z) - page) % 2 == 0) in
      chosen IsOfKernel (page == (trampoline_page z)) (Some (0, code_rights)) _ (λ _ p is. subst IsOfKernel (same_Some (0, code_rights) p is) (omega arith, inl refl))
      (chosen IsOfKernel (is_direct frames page) (Some (page - first_direct, frame_rights (page - first_direct))) _ (λ test p is.
      let less = ltb-true page (first_direct + frames) (and_parts (nat_le first_direct page) (nat_lt page (first_direct + frames)) test).1 in
      subst IsOfKernel (same_Some (page - first_direct, frame_rights (page - first_direct)) p is) (omega (arith, less, few), rights_of_frame (page - first_direct)))
      (chosen IsOfKernel on (on_stack z stacks page) None (λ _ p is.
      let from = mapped_from (λ (frame : ℕ). (frame, data_rights)) (slice_get stacks (((trampoline_page z) - page) / 2 - 1)) p is in
      subst IsOfKernel (sym from.2) (small _ from.0 from.1, inr refl)) (λ p is. absurd (cc))))
