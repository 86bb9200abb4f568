-- Lemmas: a page that sbrk or munmap releases is not settled afterwards; and a page that is not settled has its initial bytes
-- after it is made resident.
use Rattle.std.proofs.Common.{◌≡◌, ℕ, ℤ, Bool, true, false, ◌+◌, ◌≤◌, ◌<◌, ap, subst, List, Option, None, Some}
use Rattle.std.specs.Prelude.{Ok, option_map}
use Rattle.process_model.specs.Bytes.{pages_for}
use Rattle.process_model.specs.Files.{File}
use Rattle.process_model.specs.Heap.{resized, resized_unless, sbrk_result}
use Rattle.process_model.specs.Mappings.{Unmapped, unmapped, unmapped_from, unmapped_if, unmapped_in, unmapped_unless}
use Rattle.process_model.specs.PageMap.{get}
use Rattle.process_model.specs.Process.{Page, Process}
use Rattle.process_model.specs.Regions.{Region}
use Rattle.process_model.proofs.ReleaseLaws.{run_goes}
use Rattle.process_model.specs.Residence.{initial_page, made_resident, made_resident_from}
use Rattle.process_model.specs.declared.reply.Refusal.{Refusal}
use Rattle.process_laws.proofs.Standing.{put_is_there}
use Rattle.sv39_entry.specs.Address.{page_of}
use Rattle.sv39_entry.specs.declared.access.Access.{Access}

shrunk_to : (p q : Process) (size page : ℕ) (o : Option Refusal) → resized_unless p size o ≡ Ok q → pages_for q.size ≤ page → page < pages_for p.size → get q.settled page ≡ None
shrunk_to p q size page (Some r) e low high = absurd cc
shrunk_to p q size page None e low high =
    let same : resized p size ≡ q = cc in
    subst (λ (x : Process). pages_for x.size ≤ page → get x.settled page ≡ None) same (λ l. run_goes p (pages_for size) (pages_for p.size) page l high) low

-- a page above the new size is not settled
pub shrunk_goes : (p q : Process) (delta : ℤ) (page : ℕ) → sbrk_result p delta ≡ Ok q → pages_for q.size ≤ page → page < pages_for p.size → get q.settled page ≡ None
unfolding sbrk_result
shrunk_goes p q delta page e low high = shrunk_to p q _ page _ e low high

unmapped_one : (files : List File) (p : Process) (u : Unmapped) (m : Region) (first end page : ℕ) (b : Bool) → unmapped_unless files p m first end b ≡ Ok u → first ≤ page → page < end → get u.process.settled page ≡ None
unmapped_one files p u m first end page true e low high = absurd cc
unmapped_one files p u m first end page false e low high =
    let same : unmapped_from files p m first end ≡ u = cc in
    subst (λ (x : Unmapped). get x.process.settled page ≡ None) same (run_goes p first end page low high)

unmapped_of : (files : List File) (p : Process) (u : Unmapped) (first end page : ℕ) (o : Option Region) → unmapped_in files p first end o ≡ Ok u → first ≤ page → page < end → get u.process.settled page ≡ None
unmapped_of files p u first end page None e low high = absurd cc
unmapped_of files p u first end page (Some m) e low high = unmapped_one files p u m first end page _ e low high

unmapped_when : (files : List File) (p : Process) (u : Unmapped) (first end page : ℕ) (b : Bool) → unmapped_if files p first end b ≡ Ok u → first ≤ page → page < end → get u.process.settled page ≡ None
unmapped_when files p u first end page false e low high = absurd cc
unmapped_when files p u first end page true e low high = unmapped_of files p u first end page _ e low high

-- a page that munmap took away is not settled
pub unmapped_goes : (files : List File) (p : Process) (u : Unmapped) (address len page : ℕ) → unmapped files p address len ≡ Ok u
    → page_of address ≤ page → page < page_of address + pages_for len → get u.process.settled page ≡ None
unfolding unmapped
unmapped_goes files p u address len page e low high = unmapped_when files p u _ _ page _ e low high

settled_from : (files : List File) (fresh : ℕ) (shared : Bool) (p : Process) (access : Access) (page : ℕ) (o : Option Page) → o ≡ None
    → option_map (λ (x : Page). x.bytes) (get (made_resident_from files fresh shared p access page o).settled page) ≡ Some (initial_page files p page)
settled_from files fresh shared p access page (Some s) e = absurd cc
settled_from files fresh shared p access page None e = ap (option_map (λ (x : Page). x.bytes)) (put_is_there p.settled page _)

-- a page that was not settled gets its initial bytes
pub settled_is_initial : (files : List File) (fresh : ℕ) (shared : Bool) (p : Process) (access : Access) (page : ℕ) → get p.settled page ≡ None
    → option_map (λ (x : Page). x.bytes) (get (made_resident files fresh shared p access page).settled page) ≡ Some (initial_page files p page)
settled_is_initial files fresh shared p access page e = settled_from files fresh shared p access page _ e
