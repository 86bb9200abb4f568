-- Lemmas for `xv6vm_permits`: an access has one outcome now (`one_translation`), and equal outcomes compare as equal (`all_equal`).
use Rattle.std.proofs.Common.{◌≡◌, ℕ, Option, None, Some, Bool, true, false, refl, ap, sym, ◌∙◌}
use Rattle.std.specs.Prelude.{◌==◌, ◌&&◌, is_some, not}
use Rattle.std.proofs.lemmas.Bool.{eq-eqb}
use Rattle.lent_memory.specs.Memory.{Lent, lent_extent, lent_memory}
use Rattle.sv39_entry.specs.Satp.{root_ppn, scheme_of}
use Rattle.sv39_entry.specs.declared.access.Access.{Access}
use Rattle.sv39_entry.specs.declared.access.Mode.{Mode}
use Rattle.sv39_entry.specs.declared.scheme.Scheme.{Scheme}
use Rattle.table_walk.specs.Memory.{Extent, Memory}
use Rattle.table_walk.specs.Walk.{Translates}
use Rattle.table_walk.specs.declared.walk.Walk.{Walk}
use Rattle.xv6vm_c.specs.Answers.{IsTranslation}
use Rattle.xv6vm_c.specs.Codes.{access_of, is_bare, mode_of, outcome_of}
use Rattle.xv6vm_c.specs.declared.codes.Outcome.{Outcome}

-- the law that a walk has one outcome
abbrev pub OneOutcome : Type 0
OneOutcome = (s : Scheme) (m : Memory) (there : Extent) (root address : ℕ) (access : Access) (mode : Mode) (x y : Walk)
    → Translates s m there root address access mode x → Translates s m there root address access mode y → x ≡ y

module _ (law : OneOutcome) (m : Lent) (satp address access mode : ℕ) (o q : Outcome) (f : IsTranslation m satp address access mode o) (g : IsTranslation m satp address access mode q) where
  walks : (a : Access) (p : Mode) → access_of access ≡ Some a → mode_of mode ≡ Some p → (s : Option Scheme) → scheme_of satp ≡ s → is_bare satp ≡ false → o ≡ q
  walks a p is_a is_p None is_s bare = f.unknown_satp a p is_a is_p bare is_s ∙ sym (g.unknown_satp a p is_a is_p bare is_s)
  walks a p is_a is_p (Some s) is_s bare =
      let x = f.walked s a p is_s is_a is_p in
      let y = g.walked s a p is_s is_a is_p in
      x.1 ∙ ap outcome_of (law s (lent_memory m) (lent_extent m) (root_ppn satp) address a p x.0 y.0 x.2 y.2) ∙ sym y.1

  by_bare : (a : Access) (p : Mode) → access_of access ≡ Some a → mode_of mode ≡ Some p → (b : Bool) → is_bare satp ≡ b → o ≡ q
  by_bare a p is_a is_p true bare = f.bare a p bare is_a is_p ∙ sym (g.bare a p bare is_a is_p)
  by_bare a p is_a is_p false bare = walks a p is_a is_p (scheme_of satp) refl bare

  by_mode : (a : Access) → access_of access ≡ Some a → (p : Option Mode) → mode_of mode ≡ p → o ≡ q
  by_mode a is_a None is_p = f.unknown_mode a is_a is_p ∙ sym (g.unknown_mode a is_a is_p)
  by_mode a is_a (Some p) is_p = by_bare a p is_a is_p (is_bare satp) refl

  by_access : (a : Option Access) → access_of access ≡ a → o ≡ q
  by_access None is_a = f.unknown_access is_a ∙ sym (g.unknown_access is_a)
  by_access (Some a) is_a = by_mode a is_a (mode_of mode) refl

  pub one_translation : o ≡ q
  one_translation = by_access (access_of access) refl

-- equal outcomes are equal field by field
pub all_equal : (o q : Outcome) → o ≡ q
    → ((o.status == q.status) && ((o.level == q.level) && ((o.word == q.word) && ((o.address == q.address) && (o.cause == q.cause))))) ≡ true
all_equal o q same =
    let status = eq-eqb o.status q.status (ap (λ (x : Outcome). x.status) same) in
    let level = eq-eqb o.level q.level (ap (λ (x : Outcome). x.level) same) in
    let word = eq-eqb o.word q.word (ap (λ (x : Outcome). x.word) same) in
    let address = eq-eqb o.address q.address (ap (λ (x : Outcome). x.address) same) in
    let cause = eq-eqb o.cause q.cause (ap (λ (x : Outcome). x.cause) same) in
    rw (status, level, word, address, cause) refl

-- a satp whose scheme is not None has one
pub some_scheme : (o : Option Scheme) (b : Bool) → is_some o ≡ not b → b ≡ false → (s : Scheme) × (o ≡ Some s)
some_scheme (Some s) b is none = (s, refl)
some_scheme None b is none = let off : false ≡ true = is ∙ ap not none in absurd cc
