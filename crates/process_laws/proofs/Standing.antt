-- Lemma: a page made resident for an access (`made_resident`: settled, or taken over, with its marks) is resident for it.
use Rattle.std.proofs.Common.{◌≡◌, ℕ, Bool, true, false, cond, not, ◌||◌, refl, ap, ◌∙◌, List, Option, None, Some}
use Rattle.std.specs.Ordering.{nat_cmp}
use Rattle.std.specs.Cmp.{eq_by_cmp_equiv, nat_cmp_total}
use Rattle.std.specs.FinMap.Entries.{find-put}
use Rattle.process_model.specs.Files.{File}
use Rattle.process_model.specs.PageMap.{PageMap, get, insert}
use Rattle.process_model.specs.Process.{Process, Page}
use Rattle.process_model.specs.Regions.{Region, keeps_stores}
use Rattle.process_model.specs.Residence.{can_complete, initial_page, is_resident, is_resident_page, leaves_mark, made_resident, made_resident_from, region_on, taken_over, taken_over_unless}
use Rattle.sv39_entry.specs.declared.access.Access.{Access}
use Rattle.sv39_entry.specs.declared.access.Access.TheVariants.{Fetch, Load, Store}

-- a key that was put is there
pub put_is_there : {X : Type 0} (m : PageMap X) (k : ℕ) (v : X) → get (insert m k v) k ≡ Some v
put_is_there m k v = find-put nat_cmp nat_cmp_total k k v m.entries ∙ ap (λ b. cond b (Some v) (get m k)) ((eq_by_cmp_equiv nat_cmp_total).refl k)

-- every access goes through a page that was just settled for it

either : (m : Bool) → (m || not m) ≡ true
either true = refl
either false = refl

new_serves : (access : Access) (r : Option Region) (bytes : List ℕ) (copy : ℕ) → can_complete access r (record { bytes = bytes; copy = copy; cow = false; dirty = leaves_mark access r }) ≡ true
new_serves Fetch r bytes copy = refl
new_serves Load r bytes copy = refl
new_serves Store r bytes copy = either (keeps_stores r)

-- and through one that was taken over

marked_either : (s m : Bool) → ((s || m) || not m) ≡ true
marked_either true m = refl
marked_either false m = either m

taken_serves : (access : Access) (fresh : ℕ) (shared : Bool) (r : Option Region) (s : Page) → can_complete access r (taken_over fresh shared r s) ≡ true
taken_serves Fetch fresh shared r s = refl
taken_serves Load fresh shared r s = refl
taken_serves Store fresh shared r s = marked_either s.dirty (keeps_stores r)

made_there : (files : List File) (fresh : ℕ) (shared : Bool) (p : Process) (access : Access) (page : ℕ) (o : Option Page) → get p.settled page ≡ o → is_resident (made_resident_from files fresh shared p access page o) access page ≡ true
made_there files fresh shared p access page None e = ap (is_resident_page access (region_on p page)) (put_is_there p.settled page _) ∙ new_serves access (region_on p page) (initial_page files p page) fresh
made_there files fresh shared p access page (Some s) e =
    elim (can_complete access (region_on p page) s) as (λ b. can_complete access (region_on p page) s ≡ b → is_resident (taken_over_unless fresh shared p page s b) access page ≡ true) [
      | true ↦ λ t. ap (is_resident_page access (region_on p page)) e ∙ t
      | false ↦ λ _. ap (is_resident_page access (region_on p page)) (put_is_there p.settled page _) ∙ taken_serves access fresh shared (region_on p page) s
    ] refl

-- an access whose page was made resident is resident
pub made_stands : (files : List File) (fresh : ℕ) (shared : Bool) (p : Process) (access : Access) (page : ℕ) → is_resident (made_resident files fresh shared p access page) access page ≡ true
made_stands files fresh shared p access page = made_there files fresh shared p access page (get p.settled page) refl
