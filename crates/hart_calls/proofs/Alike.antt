-- Lemmas: copy numbers (each identifies one copy of a page in memory) mean nothing to a space: it agrees with the process if
-- a page has another copy number too (`another_copy`), and so whether or not another process has a page that is made
-- resident (`made_alike`).
use Rattle.std.proofs.Common.{◌≡◌, ℕ, Bool, true, false, Option, None, Some, List, refl, ap, sym, subst, ◌∙◌, inl, inr}
use Rattle.std.proofs.lemmas.Bool.{cases_eq}
use Rattle.std.proofs.lemmas.Option.{same_Some}
use Rattle.address_space.specs.Agreement.{Body, IsShown, IsSpace}
use Rattle.process_model.specs.Files.{File}
use Rattle.process_model.specs.Insertion.{inserted_here, inserted_other}
use Rattle.process_model.proofs.OrderLaws.{same_order}
use Rattle.process_model.specs.PageMap.{get}
use Rattle.process_model.specs.Process.{Page, Process}
use Rattle.process_model.specs.Residence.{can_complete, made_resident, made_resident_from, region_on, taken_over, taken_over_unless, with_page}
use Rattle.sv39_entry.specs.declared.access.Access.{Access}
use Rattle.table_walk.specs.Tables.{Tables}

module _ (p : Process) (page : ℕ) (a : Page) (copy : ℕ) where
  abbrev before : Process
  before = with_page p page a

  abbrev other : Page
  other = record a { copy = copy }

  abbrev after : Process
  after = with_page p page other

  -- a page that is there afterwards was there before, but for its copy number
  was : (n : ℕ) (s : Page) → get after.settled n ≡ Some s → (z : Page) × (get before.settled n ≡ Some z) × (s ≡ record z { copy = s.copy })
  was n s there = elim (cases_eq n page) [
    | inl same ↦
        let is : other ≡ s = same_Some other s (sym (inserted_here page other p.settled n same) ∙ there) in
        (a, inserted_here page a p.settled n same, sym is ∙ ap (λ (c : ℕ). let z : Page = record a { copy = c } in z) (ap (λ (z : Page). z.copy) is))
    | inr apart ↦ (s, inserted_other page a p.settled n apart ∙ (sym (inserted_other page other p.settled n apart) ∙ there), refl)
  ]

  still : (n : ℕ) (s : Page) → get before.settled n ≡ Some s → (z : Page) × (get after.settled n ≡ Some z)
  still n s there = elim (cases_eq n page) [
    | inl same ↦ (other, inserted_here page other p.settled n same)
    | inr apart ↦ (s, inserted_other page other p.settled n apart ∙ (sym (inserted_other page a p.settled n apart) ∙ there))
  ]

  pub another_copy : (x : Body) (t : Tables) → IsSpace x t before → IsSpace x t after
  another_copy x t space = record {
    sound = record {
      order = same_order 0 before after.settled after.tabled after.pending space.sound.order;
      tabled = λ n s there. let old = was n s there in space.sound.tabled n old.0 old.1;
    };
    lays = record { parts = space.lays.parts; mappings = space.lays.mappings; heap_base = space.lays.heap_base; size = space.lays.size; scheme = space.lays.scheme };
    stands = record {
      tables = space.stands.tables;
      owns = space.stands.owns;
      shows = record {
        on_trampoline = space.stands.shows.on_trampoline;
        on_trapframe = space.stands.shows.on_trapframe;
        settled = λ n s there.
            let old = was n s there in
            let shown = space.stands.shows.settled n old.0 old.1 in
            let here : IsShown x.view t after n (record (old.0) { copy = s.copy }) = record {
              region = shown.region;
              frame = shown.frame;
              leaf = shown.leaf;
              in_region = shown.in_region;
              mapped = shown.mapped;
              made = shown.made;
              bytes = shown.bytes;
            } in
            subst (λ (z : Page). IsShown x.view t after n z) (sym old.2) here;
        only = λ k w found. elim (space.stands.shows.only k w found) [
          | inl same ↦ inl same
          | inr more ↦ elim more [
            | inl same ↦ inr (inl same)
            | inr leaf ↦ let z = still leaf.0 leaf.1 leaf.3 in inr (inr (leaf.0, z.0, leaf.2, z.1))
          ]
        ];
        low = λ n s there. let old = was n s there in space.stands.shows.low n old.0 old.1;
      };
      tabled = space.stands.tabled;
      tabled_low = space.stands.tabled_low;
    };
    credits = space.credits;
  }

-- so whether another process has a page that is made resident does not matter
module _ (x : Body) (t : Tables) (files : List File) (fresh : ℕ) (c d : Bool) (p : Process) (access : Access) (page : ℕ) where
  taken_alike : (s : Page) (b : Bool) → IsSpace x t (taken_over_unless fresh c p page s b)
      → IsSpace x t (taken_over_unless fresh d p page s b)
  taken_alike s true space = space
  taken_alike s false space = another_copy p page (taken_over fresh c (region_on p page) s) (taken_over fresh d (region_on p page) s).copy x t space

  from_alike : (o : Option Page) → IsSpace x t (made_resident_from files fresh c p access page o) → IsSpace x t (made_resident_from files fresh d p access page o)
  from_alike None space = space
  from_alike (Some s) space = taken_alike s (can_complete access (region_on p page) s) space

  pub made_alike : IsSpace x t (made_resident files fresh c p access page) → IsSpace x t (made_resident files fresh d p access page)
  made_alike space = from_alike (get p.settled page) space
