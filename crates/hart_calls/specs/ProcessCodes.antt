-- Codings of the model's processes (`process_code`) and of their parts (accesses, page maps, pages, pending accesses), so
-- that a ghost field can have a process as its value; the code of a process (`code_of`), data whose equality can be tested.
-- Laws: an access is the one that its number codes (`access_back`), a process the one that its code codes (`same_process`).
use base.Stored.{coded_unit, coded_via, Gv}
use Rattle.std.proofs.Common.{◌≡◌, ℕ, zero, suc, Bool, List, Option, refl, ap}
use Rattle.std.specs.Coded.{Coded, code_by, coded×, coded_ℕ, coded_bool, coded_list, coded_option}
use Rattle.std.specs.FinMap.Entries.{find}
use Rattle.std.specs.Ordering.{nat_cmp}
use Rattle.address_space.specs.Layouts.{region_code, scheme_code}
use Rattle.process_model.specs.Insertion.{same_finds}
use Rattle.process_model.specs.PageMap.{NumberSet, PageMap}
use Rattle.process_model.specs.Process.{Page, Pending, Process}
use Rattle.process_model.specs.Regions.{Region}
use Rattle.sv39_entry.specs.declared.access.Access.{Access}
use Rattle.sv39_entry.specs.declared.access.Access.TheVariants as access
use Rattle.sv39_entry.specs.declared.scheme.Scheme.{Scheme}

abbrev pub access_number : Access → ℕ
access_number access.Fetch = 0
access_number access.Load = 1
access_number access.Store = 2

abbrev pub access_at : ℕ → Access
access_at zero = access.Fetch
access_at (suc zero) = access.Load
access_at (suc (suc n)) = access.Store

pub access_back : (a : Access) → access_at (access_number a) ≡ a
access_back access.Fetch = refl
access_back access.Load = refl
access_back access.Store = refl

abbrev pub access_code : Coded Access
access_code = code_by ℕ coded_ℕ access_number access_at access_back

abbrev pub pages_code : {X : Type 0} → Coded X → Coded (PageMap X)
pages_code x = coded_via (coded_list (coded× coded_ℕ x)) (λ m. m.entries) (λ m n same. same_finds m n (λ q. ap (λ es. find nat_cmp q es) same))

abbrev pub page_code : Coded Page
page_code = code_by (List ℕ × (ℕ × (Bool × Bool))) (coded× (coded_list coded_ℕ) (coded× coded_ℕ (coded× coded_bool coded_bool)))
    (λ p. (p.bytes, (p.copy, (p.cow, p.dirty))))
    (λ c. record { bytes = c.0; copy = c.1.0; cow = c.1.1.0; dirty = c.1.1.1 })
    (λ _. refl)

abbrev pub pending_code : Coded Pending
pending_code = code_by (Access × (ℕ × (ℕ × Bool))) (coded× access_code (coded× coded_ℕ (coded× coded_ℕ coded_bool)))
    (λ p. (p.access, (p.address, (p.width, p.served))))
    (λ c. record { access = c.0; address = c.1.0; width = c.1.1.0; served = c.1.1.1 })
    (λ _. refl)

abbrev pub process_code : Coded Process
process_code = code_by (Scheme × (List Region × (List Region × (ℕ × (ℕ × (PageMap Page × (NumberSet × Option Pending)))))))
    (coded× scheme_code (coded× (coded_list region_code)
    (coded× (coded_list region_code)
    (coded× coded_ℕ (coded× coded_ℕ (coded× (pages_code page_code) (coded× (pages_code coded_unit) (coded_option pending_code))))))))
    (λ p. (p.scheme, (p.parts, (p.mappings, (p.heap_base, (p.size, (p.settled, (p.tabled, p.pending))))))))
    (λ c. record {
      scheme = c.0;
      parts = c.1.0;
      mappings = c.1.1.0;
      heap_base = c.1.1.1.0;
      size = c.1.1.1.1.0;
      settled = c.1.1.1.1.1.0;
      tabled = c.1.1.1.1.1.1.0;
      pending = c.1.1.1.1.1.1.1;
    })
    (λ _. refl)

-- the code of a process; processes with one code are one
pub code_of : Process → Gv
code_of p = process_code.code p

pub same_process : (p q : Process) → code_of p ≡ code_of q → p ≡ q
unfolding code_of
same_process p q same = process_code.inj p q same
