-- With SUM and MXR clear and no Svnapot, rights, addresses and canonical addresses are those of `sv39_entry`.
use Rattle.std.proofs.Common.{◌≡◌, ℕ, zero, suc, ◌+◌, ◌*◌, ◌%◌, ◌^◌, ◌≤◌, ◌==◌, ◌&&◌, ◌||◌, not, Bool, true, false, refl, sym, ◌∙◌, ap, arith}
use Rattle.std.proofs.lemmas.Bool.{eq-eqb}
use Rattle.sv39_entry.specs.Address.{has}
use Rattle.sv39_entry.specs.Schemes.{is_canonical}
use Rattle.sv39_entry.specs.Word.{permits, ppn}
use Rattle.sv39_entry.specs.declared.access.Access.{Access}
use Rattle.sv39_entry.specs.declared.access.Access.TheVariants.{Fetch, Load, Store}
use Rattle.sv39_entry.specs.declared.access.Mode.{Mode}
use Rattle.sv39_entry.specs.declared.access.Mode.TheVariants.{User, Supervisor}
use Rattle.sv39_entry.specs.declared.scheme.Scheme.TheVariants.{Sv39, Sv48}
use Rattle.walk_rules.specs.Addresses.{leads_to}
use Rattle.walk_rules.specs.Addresses as addresses
use Rattle.walk_rules.specs.Rights.{allows, has_ad}
use Rattle.walk_rules.specs.declared.status.Status.{Status}

-- u: the mode may use the page; r: it has the right; p: it is aligned; a: A, and D at a store
same_tests : (u r p a : Bool) → p ≡ true → (((u && r) && p) && a) ≡ (u && (r && a))
same_tests false r p a aligned = refl
same_tests true false p a aligned = refl
same_tests true true true a aligned = refl
same_tests true true false a aligned = sym (ap (λ (b : Bool). b && a) (sym aligned)) ∙ refl

or_false : (a : Bool) → (a || false) ≡ a
or_false true = refl
or_false false = refl

and_assoc : (a b c : Bool) → ((a && b) && c) ≡ (a && (b && c))
and_assoc true b c = refl
and_assoc false b c = refl

module _ (s : Status) (sum : s.sum ≡ false) (mxr : s.mxr ≡ false) where
  pub plain_rights : (mode : Mode) (kind : Access) (level w : ℕ) → ppn w % 2 ^ (9 * level) ≡ 0
      → (allows s mode kind level w && has_ad kind w) ≡ permits mode kind w
  plain_rights User Fetch level w aligned = same_tests (has w 4) (has w 3) (ppn w % 2 ^ (9 * level) == 0) (has w 6) (eq-eqb _ 0 aligned)
  plain_rights User Load level w aligned =
      rw (mxr, or_false (has w 1)) (same_tests (has w 4) (has w 1) (ppn w % 2 ^ (9 * level) == 0) (has w 6) (eq-eqb _ 0 aligned))
  plain_rights User Store level w aligned =
      same_tests (has w 4) (has w 2) (ppn w % 2 ^ (9 * level) == 0) (has w 6 && has w 7) (eq-eqb _ 0 aligned)
      ∙ ap (λ (b : Bool). has w 4 && b) (sym (and_assoc (has w 2) (has w 6) (has w 7)))
  plain_rights Supervisor Fetch level w aligned =
      same_tests (not (has w 4)) (has w 3) (ppn w % 2 ^ (9 * level) == 0) (has w 6) (eq-eqb _ 0 aligned)
  plain_rights Supervisor Load level w aligned =
      rw (sum, mxr, or_false (has w 1), or_false (not (has w 4)))
      (same_tests (not (has w 4)) (has w 1) (ppn w % 2 ^ (9 * level) == 0) (has w 6) (eq-eqb _ 0 aligned))
  plain_rights Supervisor Store level w aligned =
      rw (sum, or_false (not (has w 4))) (same_tests (not (has w 4)) (has w 2) (ppn w % 2 ^ (9 * level) == 0) (has w 6 && has w 7) (eq-eqb _ 0 aligned)
      ∙ ap (λ (b : Bool). not (has w 4) && b) (sym (and_assoc (has w 2) (has w 6) (has w 7))))

pub plain_canonical : (a : ℕ) → (addresses.is_canonical 2 a ≡ is_canonical Sv39 a) × (addresses.is_canonical 3 a ≡ is_canonical Sv48 a)
plain_canonical a = (refl, refl)

pub plain_place : (level w va : ℕ) → level ≤ 4 → has w 63 ≡ false → ppn w % 2 ^ (9 * level) ≡ 0
    → leads_to level w va ≡ ppn w * 4096 + va % 2 ^ (12 + 9 * level)
plain_place zero w va low none aligned = rw none (omega (arith, aligned))
plain_place (suc zero) w va low none aligned = rw none (omega (arith, aligned))
plain_place (suc (suc zero)) w va low none aligned = rw none (omega (arith, aligned))
plain_place (suc (suc (suc zero))) w va low none aligned = rw none (omega (arith, aligned))
plain_place (suc (suc (suc (suc zero)))) w va low none aligned = rw none (omega (arith, aligned))
plain_place (suc (suc (suc (suc (suc n))))) w va low none aligned = absurd (omega (arith, low))
