-- Lemmas on the pages of a process that starts: their copy numbers (each names one copy of a page in memory) are at least
-- the counter and all different, and each page is on a frame of its own, not on frame 0.
use Rattle.std.proofs.Common.{◌≡◌, ℕ, suc, ◌+◌, ◌<◌, ◌≤◌, ◌⊎◌, cond, false, ap, sym, subst, ◌∙◌, arith, inl, inr, List, [], ◌∷◌, map, length, Some, refl}
use Rattle.std.specs.Prelude.{slice_get}
use Rattle.std.specs.Cmp.{nat_cmp_total, unsigned_tied}
use Rattle.std.specs.FinMap as finite
use Rattle.std.specs.FinMap.Entries.{find-put}
use Rattle.std.specs.Ordering.{nat_cmp}
use Rattle.std.proofs.lemmas.Bool.{cases_eq, eq-eqb, ne_eqb}
use Rattle.std.proofs.lemmas.List.{length-map}
use Rattle.std.proofs.lemmas.Option.{same_Some, slice_get_within}
use Rattle.address_space.specs.Agreement.{IsFrameOfPage, NamesFrame, no_extra, IsInMemory}
use Rattle.frame_store.specs.View.{View}
use Rattle.process_model.specs.Images.{LoadSegment}
use Rattle.process_model.specs.ImageProcess.{image_pages, numbered, process_of}
use Rattle.process_model.specs.PageMap.{PageMap, from_list, get, insert}
use Rattle.process_model.specs.Process.{Page, Process}
use Rattle.sv39_entry.specs.Frame.{ppn_of}
use Rattle.sv39_entry.specs.Word.{ppn}
use Rattle.sv39_entry.specs.Schemes.{trampoline_page, of_scheme}
use Rattle.sv39_entry.specs.declared.scheme.Scheme.{Scheme}
use Rattle.table_walk.specs.Tables.{Tables, leaf_node}

-- copy numbers

-- what is found is the new page, or what was there
found_inserted : (m : PageMap Page) (k q : ℕ) (v x : Page) → get (insert m k v) q ≡ Some x → ((q ≡ k) × (v ≡ x)) ⊎ (get m q ≡ Some x)
found_inserted m k q v x at = elim (cases_eq q k) [
  | inl same ↦ inl (same, same_Some v x (sym (find-put nat_cmp nat_cmp_total q k v m.entries ∙ ap (λ b. cond b (Some v) (get m q)) (unsigned_tied q k ∙ eq-eqb q k same)) ∙ at))
  | inr apart ↦ inr (sym (find-put nat_cmp nat_cmp_total q k v m.entries ∙ ap (λ b. cond b (Some v) (get m q)) (unsigned_tied q k ∙ ne_eqb q k apart)) ∙ at)
]

abbrev number_of : ℕ × List ℕ → ℕ
number_of e = e.0

-- a page's copy number tells which page of the list it is
numbered_by : (fresh : ℕ) (es : List (ℕ × List ℕ)) (n : ℕ) (a : Page) → get (from_list (numbered fresh es)) n ≡ Some a
    → (i : ℕ) × (a.copy ≡ fresh + i) × (slice_get (map number_of es) i ≡ Some n)
numbered_by fresh [] n a at = absurd (cc)
numbered_by fresh (e ∷ es) n a at = elim (found_inserted (from_list (numbered (fresh + 1) es)) e.0 n (record { bytes = e.1; copy = fresh; cow = false; dirty = false }) a at) [
  | inl is ↦ (0, (let c : fresh ≡ a.copy = ap (λ (x : Page). x.copy) is.1 in omega (arith, c)), ap Some (sym is.0))
  | inr there ↦ (let r = numbered_by (fresh + 1) es n a there in (suc r.0, omega (arith, r.1), r.2))
]

-- a process that starts has the scheme that its image was read by
pub loaded_scheme : (scheme : Scheme) (fresh : ℕ) (ls : List LoadSegment) → (process_of scheme fresh ls).scheme ≡ scheme
unfolding process_of
loaded_scheme scheme fresh ls = refl

module _ (scheme : Scheme) (fresh : ℕ) (ls : List LoadSegment) where
  numbered_page : (n : ℕ) (a : Page) → get (process_of scheme fresh ls).settled n ≡ Some a → (i : ℕ) × (a.copy ≡ fresh + i) × (slice_get (map number_of (image_pages ls)) i ≡ Some n)
  unfolding process_of
  numbered_page n a at = numbered_by fresh (image_pages ls) n a at

  pub copies_above : (n : ℕ) (a : Page) → get (process_of scheme fresh ls).settled n ≡ Some a → fresh ≤ a.copy
  copies_above n a at = let r = numbered_page n a at in omega (arith, r.1)

  pub copies_below : (n : ℕ) (a : Page) → get (process_of scheme fresh ls).settled n ≡ Some a → a.copy < fresh + length (image_pages ls)
  copies_below n a at =
      let r = numbered_page n a at in
      let within = slice_get_within (map number_of (image_pages ls)) r.0 n r.2 in
      let long = length-map (image_pages ls) number_of in
      omega (arith, r.1, within, long)

  -- no copy number is at two pages
  pub copies_once : (m n : ℕ) (a b : Page) → get (process_of scheme fresh ls).settled m ≡ Some a → get (process_of scheme fresh ls).settled n ≡ Some b → a.copy ≡ b.copy → m ≡ n
  copies_once m n a b at also same =
      let r = numbered_page m a at in
      let q = numbered_page n b also in
      let index : r.0 ≡ q.0 = omega (arith, r.1, q.1, same) in
      same_Some m n (sym r.2 ∙ ap (slice_get (map number_of (image_pages ls))) index ∙ q.2)

-- frames

module _ (v : View) (root trapframe : ℕ) (t : Tables) (p : Process) (stands : IsInMemory v root trapframe no_extra t p) where
  on_names : (n f : ℕ) → IsFrameOfPage t n f → NamesFrame t f (leaf_node n)
  on_names n f on = inr (on.0, on.1, on.2)

  -- a frame is one page's alone
  pub one_page : (m n f g : ℕ) (a b : Page) → get p.settled m ≡ Some a → get p.settled n ≡ Some b → IsFrameOfPage t m f → IsFrameOfPage t n g → f ≡ g → m ≡ n
  one_page m n f g a b at also on upon same =
      let one = stands.owns.once f (leaf_node m) (leaf_node n) (on_names m f on) (subst (λ h. NamesFrame t h (leaf_node n)) (sym same) (on_names n g upon)) in
      let low = stands.shows.low m a at in
      let lower = stands.shows.low n b also in
      omega (arith, one, low, lower)

  -- and not that of the trampoline
  pub page_no_code : (n f : ℕ) (a : Page) → get p.settled n ≡ Some a → IsFrameOfPage t n f → f ≡ 0 → ⊥
  page_no_code n f a at on code_frame =
      let code = stands.shows.on_trampoline in
      let one = stands.owns.once f (leaf_node n) (leaf_node (trampoline_page p.scheme)) (on_names n f on) (inr (code.0, code.1, code.2.names ∙ ap ppn_of (sym code_frame))) in
      let low = stands.shows.low n a at in
      omega (arith, one, low, of_scheme p.scheme)

  -- a page is on one frame
  pub one_frame : (m n f g : ℕ) → IsFrameOfPage t m f → IsFrameOfPage t n g → m ≡ n → f ≡ g
  one_frame m n f g on upon same =
      let word : on.0 ≡ upon.0 = same_Some _ _ (sym on.1 ∙ ap (λ k. finite.get t.leaves (leaf_node k)) same ∙ upon.1) in
      let number : ppn_of f ≡ ppn_of g = sym on.2 ∙ ap ppn word ∙ upon.2 in
      omega (arith, number)
