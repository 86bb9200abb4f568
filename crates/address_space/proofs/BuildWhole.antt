-- Lemmas on a whole build of a space on a seat: all frames that the build needs are reserved and one is claimed for the
-- trapframe, the first tables are made, all parts (regions with their first bytes) are filled. The credits suffice for each
-- step; at the end the space is the process (`agrees_whole`), and the seat's tally of claimed frames has grown by all of them
-- (`takes_all`).
use Rattle.std.proofs.Common.{◌≡◌, ℕ, ◌+◌, ◌*◌, ◌<◌, ◌≤◌, refl, ap, sym, ◌∙◌, arith, List, []}
use Rattle.frame_store.specs.Holds.{hold_of-frames}
use Rattle.frame_store.specs.Tallies.{spent_is, spent_on, spent_taken, taken_on}
use Rattle.frame_store.specs.View.{hold_of, IsHeld, spent, taken, View, references, with_credits}
use Rattle.table_walk.specs.Tables.{Tables}
use Rattle.address_space.specs.Agreement.{body, IsSpace, HoldsTrampoline, HoldsTrapframe, no_extra}
use Rattle.address_space.specs.Layouts.{last_page, Layout}
use Rattle.address_space.specs.Parts.{AreParts, bare_process, build_need, CanOpen, FillsPages, OpensSpace, pages_need, pages_of, process_of_parts, regions_in, StandsAlone, tree_need, with_pages}
use Rattle.address_space.specs.Steps.{TakesFrames}
use Rattle.address_space.specs.declared.part.Part.{Part}
use Rattle.address_space.proofs.AddingFrames.{Comes, not_held_before}
use Rattle.address_space.proofs.BuildOrder.{sound_whole}
use Rattle.address_space.proofs.BuildPages.{tables_up_to}
use Rattle.address_space.proofs.BuildProcess.{bare_tables, stands_like, whole_process, whole_tables}
use Rattle.address_space.proofs.Owned.{same_references}
use Rattle.sv39_entry.specs.declared.scheme.Scheme.{Scheme}
use Rattle.sv39_entry.specs.Schemes.{top_level}

module _ (z : Scheme) (ps : List Part) where
  need_pages : pages_need (bare_process z ps) (pages_of ps) + (1 + top_level z) ≡ tree_need z ps
  need_pages =
      let bare = bare_tables z ps in
      let whole = whole_tables z ps in
      let up = tables_up_to (pages_of ps) (bare_process z ps) in
      omega (arith, bare, whole, up)

  module _ (v : View) (saved : ℕ) (holds : HoldsTrapframe v saved) (credits : v.credits ≡ tree_need z ps) where
    pub can_open : CanOpen z v saved
    can_open = record { holds = holds; credits = let pages = need_pages in omega (arith, credits, pages) }

    module _ (x : View) (root : ℕ) (t : Tables) (opens : OpensSpace z v x root saved t) where
      pub stands_bare : StandsAlone x root saved t (bare_process z ps)
      stands_bare = record { stands = opens.stands (bare_process z ps) refl refl refl; alone = opens.alone }

      pub credits_left : pages_need (bare_process z ps) (pages_of ps) ≤ x.credits
      credits_left = let pages = need_pages in let spent = opens.spends.credits in omega (arith, credits, pages, spent)

      module _ (y : View) (u : Tables) (fills : FillsPages x y root saved u (bare_process z ps) (pages_of ps)) where
        pub agrees_whole : AreParts z ps → (l : Layout) → l.scheme ≡ z → l.parts ≡ regions_in ps → l.mappings ≡ [] → l.heap_base ≡ 4096 * last_page 0 (regions_in ps) → l.size ≡ l.heap_base
            → (fresh : ℕ) → IsSpace (body y root saved l) u (process_of_parts z fresh ps)
        agrees_whole are l scheme parts mappings base size fresh = record {
          sound = sound_whole z ps are fresh;
          lays = record { scheme = sym scheme; parts = sym parts; mappings = sym mappings; heap_base = sym base; size = sym (size ∙ base) };
          stands = stands_like (with_pages (bare_process z ps) (pages_of ps)) (process_of_parts z fresh ps) (whole_process z ps are.ascending fresh) y root saved no_extra u fills.after.stands;
          credits =
              let pages = need_pages in
              let first = opens.spends.credits in
              let second = fills.spends.credits in
              omega (arith, credits, pages, first, second);
        }

        pub saved_whole : hold_of y saved ≡ hold_of v saved
        saved_whole = fills.saved ∙ opens.saved

        pub takes_whole : TakesFrames v y (tree_need z ps) []
        takes_whole =
            let pages = need_pages in
            let whole = spent_on v.tallies x.tallies y.tallies (1 + top_level z) (pages_need (bare_process z ps) (pages_of ps)) opens.spends.tallies fills.spends.tallies in
            record { tallies = spent_taken v.tallies y.tallies (tree_need z ps) (spent_is v.tallies y.tallies _ (tree_need z ps) (omega (arith, pages)) whole) }

  -- frames are reserved, and the first of them is the trapframe's
  module _ (v w : View) (n : ℕ) (holds : HoldsTrampoline v) (reserved : w ≡ with_credits n v) (need : n ≡ build_need z ps) where
    same : (f : ℕ) → references w f ≡ references v f
    same f = ap (λ (u : View). references u f) reserved ∙ same_references v (with_credits n v) f (hold_of-frames (with_credits n v) v refl f)

    credits_is : w.credits ≡ build_need z ps
    credits_is = let credits = ap (λ (u : View). u.credits) reserved in let none = holds.credits in omega (arith, credits, none, need)

    pub may_claim : 0 < w.credits
    may_claim = let credits = credits_is in omega (arith, credits)

    pub zero_held : IsHeld w 0
    zero_held = let one = same 0 ∙ holds.once in omega (arith, one)

    module _ (r : View) (f : ℕ) (come : Comes w r f) where
      apart : f ≡ 0 → ⊥
      apart zero = not_held_before w r f come 0 zero_held (sym zero)

      other : (g : ℕ) → (g ≡ f → ⊥) → references r g ≡ references v g
      other g ne = same_references w r g (come.others g ne) ∙ same g

      pub holds_trapframe : HoldsTrapframe r f
      holds_trapframe = record {
        code = other 0 (λ zero. apart (sym zero)) ∙ holds.once;
        saved = come.one;
        sole = come.sole;
        apart = apart;
        others = λ g some ne. other g ne ∙ holds.others g some;
      }

      pub credits_then : r.credits ≡ tree_need z ps
      credits_then = let credits = credits_is in let spent = come.spends.credits in omega (arith, credits, spent)

      pub takes_all : (y : View) → TakesFrames r y (tree_need z ps) [] → TakesFrames v y (build_need z ps) []
      takes_all y takes =
          let first : TakesFrames v r 1 [] = record { tallies = spent_taken v.tallies r.tallies 1 (come.spends.tallies ∙ ap (λ (u : View). spent 1 u.tallies) reserved) } in
          let all = taken_on v.tallies r.tallies y.tallies 1 (tree_need z ps) [] [] first.tallies takes.tallies in
          record { tallies = all ∙ ap (λ n. taken n [] v.tallies) (omega arith) }
