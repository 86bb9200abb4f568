-- Lemmas on a page that a kernel copy (copyin, copyout) has made resident (`Reaches`): its address is below MAXVA, it may be
-- read (`may_load`), or after a store written (`may_store`). With or without success the space is still a process
-- (`still_reaches`).
use Rattle.std.proofs.Common.{◌≡◌, ℕ, Bool, false, true, not, ◌||◌, refl, ap, sym, subst, ◌∙◌, ◌<◌, List, Option, None, Some, Result, Ok, Err}
use Rattle.std.proofs.lemmas.Bool.{and_parts, leb-false}
use Rattle.address_space.specs.Agreement.{IsSpace, same_body}
use Rattle.address_space.specs.Steps.{CanRead, CanWrite}
use Rattle.fault_rules.proofs.Allowed.{can_reside}
use Rattle.fault_rules.specs.MadeResident.{CanMakeResident}
use Rattle.fault_rules.specs.PageService.{body_at, Moment, StoreModel}
use Rattle.fault_rules.specs.Serves.{IsEnd}
use Rattle.fault_rules.specs.declared.service.Served.TheVariants as served
use Rattle.process_model.proofs.GrantLaws.{none_true}
use Rattle.process_model.specs.PageMap.{get}
use Rattle.process_model.specs.Process.{Page, Process, regions}
use Rattle.process_model.proofs.ResidenceLaws.{made_settles, no_alignment}
use Rattle.process_model.specs.Regions.{copy_rule, copy_tests, keeps_stores, Region, region_at}
use Rattle.process_model.specs.Residence.{is_resident, is_resident_page, made_resident, region_on}
use Rattle.sv39_entry.specs.Address.{page_of}
use Rattle.sv39_entry.specs.Schemes.{maxva}
use Rattle.sv39_entry.specs.declared.access.Access.{Access}
use Rattle.sv39_entry.specs.declared.access.Access.TheVariants as access
use Rattle.sv39_entry.specs.declared.rule.Rule.{Rule}
use Rattle.sv39_entry.specs.declared.scheme.Scheme.{Scheme}
use Rattle.table_walk.specs.Tables.{Tables}
use Rattle.user_copy.specs.ReachedPage.{Reaches, StillStands}
use Rattle.user_copy.specs.declared.short.Stop.{Stop}
use Rattle.user_copy.specs.declared.short.Stop.TheVariants.{Denied, Unpromised}

-- an address that no rule denies is low
low : (z : Scheme) (rs : List Region) (access : Access) (address : ℕ) → copy_rule z rs access address ≡ None → address < maxva z
low z rs access address none = let tests = none_true (copy_tests z rs access address) none in leb-false (maxva z) address tests.0

module _ {Seat Frames Cabinet : Type 0} (l : StoreModel Seat Frames Cabinet) (a b : Moment Seat Frames Cabinet) (access : Access) (address : ℕ) where
  module _ (e : Reaches l a b access address (Ok tt)) (t : Tables) (p : Process) (space : IsSpace (body_at l a) t p) where
    -- no rule denies an address that was reached
    pub allowed : copy_rule p.scheme (regions p) access address ≡ None
    allowed = by (copy_rule p.scheme (regions p) access address) (e.ended t p space)
      where
        by : (o : Option Rule) → IsEnd o served.Ready → o ≡ None
        by None is = refl
        by (Some rule) is = absurd (cc)

    pub can : CanMakeResident (body_at l a) t p access (page_of address)
    can = can_reside (body_at l a) t p access address 1 space (no_alignment p.scheme (regions p) access address ∙ allowed)

    -- so it is low
    pub reached_low : address < maxva a.space.layout.scheme
    reached_low = subst (λ z. address < maxva z) space.lays.scheme (low p.scheme (regions p) access address allowed)

    -- and its page may be read
    pub may_load : (u : Tables) × (q : Process) × (s : Page) × CanRead (body_at l b) u q (page_of address) s
    may_load =
        let made = e.ready refl t p can in
        let there = (made_settles (l.files a.files) 0 _ access (page_of address) p).settled in
        (made.0, _, there.0, record { agrees = made.2.agrees 0; settled = there.1 })

  -- a process stands there still
  pub still_reaches : (r : Result (Unit {0}) Stop) → Reaches l a b access address r → StillStands (body_at l a) (body_at l b)
  still_reaches (Ok tt) e t p space = let made = e.ready refl t p (can e t p space) in (made.0, _, made.2.agrees 0)
  still_reaches (Err (Denied rule)) e t p space = (t, p, e.whole rule refl t p space)
  still_reaches (Err (Unpromised refusal)) e t p space =
      (t, p, subst (λ x. IsSpace x t p) (same_body l.view a.space b.space (sym (e.stays (λ is. cc, λ is. cc)).view) (sym e.place.root) (sym e.place.trapframe) (sym e.place.layout)) space)

module _ {Seat Frames Cabinet : Type 0} (l : StoreModel Seat Frames Cabinet) (a b : Moment Seat Frames Cabinet) (address : ℕ) where
  -- a page that was reached for a store is the process's own
  pub may_store : Reaches l a b access.Store address (Ok tt) → (t : Tables) (p : Process) → IsSpace (body_at l a) t p
      → (u : Tables) × (q : Process) × (s : Page) × CanWrite (body_at l b) u q (page_of address) s
  may_store e t p space =
      let granted = can l a b access.Store address e t p space in
      let made = e.ready refl t p granted in
      let there = made_settles (l.files a.files) 0 _ access.Store (page_of address) p in (
        made.0,
        _,
        (there.settled).0,
        record {
          read = record { agrees = made.2.agrees 0; settled = (there.settled).1 };
          unmarked = own (made_resident (l.files a.files) 0 _ p access.Store (page_of address)) (there.settled).0 (there.settled).1 there.resident;
          region = granted.region;
          in_region = ap (λ rs. region_at rs (page_of address)) there.regions ∙ granted.in_region;
          writes = may (granted.region).writes granted.right;
        },
      )
    where
      may : (w : Bool) → not w ≡ false → w ≡ true
      may true is = refl
      may false is = absurd (cc)

      unmarked : (mark : Bool) → not mark ≡ true → mark ≡ false
      unmarked true is = absurd (cc)
      unmarked false is = refl

      own : (q : Process) (s : Page) → get q.settled (page_of address) ≡ Some s → is_resident q access.Store (page_of address) ≡ true → s.cow ≡ false
      own q s settled resident =
          let goes = ap (is_resident_page access.Store (region_on q (page_of address))) (sym settled) ∙ resident in
          unmarked s.cow (and_parts (not s.cow) (s.dirty || not (keeps_stores (region_on q (page_of address)))) goes).0
