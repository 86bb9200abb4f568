-- Lemmas: a user access, sbrk, mmap and munmap leave a process its scheme of translation (Sv39 or Sv48).
use Rattle.std.proofs.Common.{◌≡◌, ℕ, ℤ, Bool, true, false, Option, None, Some, List, Result, Ok, refl, ap, sym}
use Rattle.process_model.specs.Files.{File}
use Rattle.process_model.specs.Heap.{resized_unless, sbrk_result}
use Rattle.process_model.specs.Mappings.{Mapped, mapped, mapped_unless, Unmapped, unmapped, unmapped_if, unmapped_in, unmapped_unless}
use Rattle.process_model.specs.Process.{Page, Process, regions}
use Rattle.process_model.specs.Regions.{first_rule, Region}
use Rattle.process_model.specs.Service.{AccessRequest, if_resident, if_settled, unless_denied, user_access}
use Rattle.process_model.specs.declared.reply.Refusal.{Refusal}
use Rattle.sv39_entry.specs.declared.rule.Rule.{Rule}

module _ (p : Process) (a : AccessRequest) where
  resident_scheme : (s : Page) (b : Bool) → ((if_resident p a s b).process).scheme ≡ p.scheme
  resident_scheme s true = refl
  resident_scheme s false = refl

  settled_scheme : (o : Option Page) → ((if_settled p a o).process).scheme ≡ p.scheme
  settled_scheme None = refl
  settled_scheme (Some s) = resident_scheme s _

  denied_scheme : (o : Option Rule) → ((unless_denied p a o).process).scheme ≡ p.scheme
  denied_scheme (Some r) = refl
  denied_scheme None = settled_scheme _

  pub access_scheme : ((user_access p a).process).scheme ≡ p.scheme
  access_scheme = denied_scheme (first_rule p.scheme (regions p) a.access a.address a.width)

same_done : {A : Type 0} (x y : A) → ◌≡◌ {A = Result A Refusal} (Ok x) (Ok y) → x ≡ y
same_done x y same = cc

resized_scheme : (p : Process) (size : ℕ) (o : Option Refusal) (q : Process) → resized_unless p size o ≡ Ok q → q.scheme ≡ p.scheme
resized_scheme p size None q same = ap (λ (r : Process). r.scheme) (sym (same_done _ q same))
resized_scheme p size (Some r) q same = absurd cc

pub sbrk_scheme : (p : Process) (delta : ℤ) (q : Process) → sbrk_result p delta ≡ Ok q → q.scheme ≡ p.scheme
unfolding sbrk_result
sbrk_scheme p delta q same = resized_scheme p _ _ q same

added_scheme : (p : Process) (r : Region) (o : Option Refusal) (u : Mapped) → mapped_unless p r o ≡ Ok u → (u.process).scheme ≡ p.scheme
added_scheme p r None u same = ap (λ (v : Mapped). (v.process).scheme) (sym (same_done _ u same))
added_scheme p r (Some e) u same = absurd cc

pub mapped_scheme : (files : List File) (p : Process) (len protection flags n : ℕ) (u : Mapped) → mapped files p len protection flags n ≡ Ok u → (u.process).scheme ≡ p.scheme
unfolding mapped
mapped_scheme files p len protection flags n u same = added_scheme p _ _ u same

module _ (files : List File) (p : Process) (first end : ℕ) (u : Unmapped) where
  unless_scheme : (m : Region) (b : Bool) → unmapped_unless files p m first end b ≡ Ok u → (u.process).scheme ≡ p.scheme
  unless_scheme m true same = absurd cc
  unless_scheme m false same = ap (λ (v : Unmapped). (v.process).scheme) (sym (same_done _ u same))

  in_scheme : (o : Option Region) → unmapped_in files p first end o ≡ Ok u → (u.process).scheme ≡ p.scheme
  in_scheme None same = absurd cc
  in_scheme (Some m) same = unless_scheme m _ same

  if_scheme : (b : Bool) → unmapped_if files p first end b ≡ Ok u → (u.process).scheme ≡ p.scheme
  if_scheme false same = absurd cc
  if_scheme true same = in_scheme _ same

pub unmapped_scheme : (files : List File) (p : Process) (address len : ℕ) (u : Unmapped) → unmapped files p address len ≡ Ok u → (u.process).scheme ≡ p.scheme
unfolding unmapped
unmapped_scheme files p address len u same = if_scheme files p _ _ u _ same
