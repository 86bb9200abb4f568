-- Lemma: the page numbers of an accepted image, its segments' pages and then guard and stack, ascend, each above the one
-- before it (`Rises`); so no two are the same.
use Rattle.std.proofs.Common.{◌≡◌, ℕ, zero, suc, ◌+◌, ◌≤◌, arith, append_assoc, List, [], ◌∷◌, ◌++◌}
use Rattle.std.specs.Prelude.{Ok, flat_map}
use Rattle.sv39_entry.specs.declared.scheme.Scheme.{Scheme}
use Rattle.process_model.specs.Bytes.{pages_for}
use Rattle.process_model.specs.Images.{LoadSegment, end_page, end_of_loads, image_loads}
use Rattle.process_model.specs.ImageProcess.{page_run, load_pages, image_pages}
use Rattle.process_model.specs.Order.{InRow}
use Rattle.process_laws.proofs.ImageOrder.{accepted_is_placed}
use Rattle.sv39_entry.specs.Address.{page_of}
use Rattle.process_model.specs.declared.image.Image.{Image}

-- pages with their bytes, from a page on, each above the one before it
abbrev pub Rises : ℕ → List (ℕ × List ℕ) → Type 0
Rises low [] = Unit {0}
Rises low (e ∷ es) = (low ≤ e.0) × Rises (e.0 + 1) es

rises_from : (low high : ℕ) (es : List (ℕ × List ℕ)) → low ≤ high → Rises high es → Rises low es
rises_from low high [] h r = tt
rises_from low high (e ∷ es) h r = let above : high ≤ e.0 = r.0 in (omega (h, above, arith), r.1)

run_rises : (low first end : ℕ) (bytes : List ℕ) (n : ℕ) (es : List (ℕ × List ℕ)) → low ≤ first → first + n ≡ end → Rises end es → Rises low (page_run first bytes n ++ es)
run_rises low first end bytes zero es h is r = rises_from low end es (omega (h, is, arith)) r
run_rises low first end bytes (suc n) es h is r = (h, run_rises (first + 1) (first + 1) end _ n es (omega arith) (omega (is, arith)) r)

-- the pages of segments in a row, and the two pages after them
row_rises : (low : ℕ) (ls : List LoadSegment) → InRow low ls → Rises low (flat_map load_pages ls ++ page_run (end_of_loads low ls) [] 2)
row_rises low [] row = (omega arith, (omega arith, tt))
row_rises low (l ∷ ls) row = rw append_assoc (run_rises low (page_of l.address) (end_page l) l.bytes (pages_for l.memory_size) _ row.0.above row.0.end (row_rises (end_page l) ls row.1))

pub image_rises : (z : Scheme) (image : Image) (ls : List LoadSegment) → image_loads z image ≡ Ok ls → Rises 0 (image_pages ls)
image_rises z image ls is = row_rises 0 ls (accepted_is_placed z image ls is).row
