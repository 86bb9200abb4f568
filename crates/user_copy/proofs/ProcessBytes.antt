-- Lemmas on the bytes of a process (`process_byte`): those of a run in a settled page (one in memory), of two runs in a row;
-- making a page resident (ready for an access) changes none, and a store into a page only those of its run.
use Rattle.std.proofs.Common.{◌≡◌, inl, inr, ◌⊎◌, ℕ, zero, suc, Bool, true, false, ◌+◌, ◌*◌, ◌%◌, ◌<◌, ◌≤◌, refl, ap, ap₂, sym, ◌∙◌, arith, List, ◌∷◌, ◌++◌, append_assoc, length, map, take, drop, get_or, Option, None, Some}
use Rattle.std.proofs.lemmas.Bool.{cases_eq}
use Rattle.std.proofs.lemmas.Grind.{common_steps}
use Rattle.std.proofs.lemmas.List.{drop_at, drop_more, length-take-le, map-append, take_at}
use Rattle.process_model.specs.Bytes.{numbers_from, write_bytes}
use Rattle.process_model.proofs.CopyRuns.{length-write_bytes}
use Rattle.process_model.proofs.CopySplits.{numbers_split}
use Rattle.process_model.specs.Files.{File}
use Rattle.process_model.specs.Insertion.{inserted_here, inserted_other}
use Rattle.process_model.specs.PageMap.{get}
use Rattle.process_model.specs.Process.{Page, Process, regions}
use Rattle.process_model.specs.Regions.{region_at}
use Rattle.process_model.proofs.ResidenceLaws.{made_settles}
use Rattle.process_model.specs.Residence.{can_complete, initial_page, leaves_mark, made_resident, made_resident_from, region_on, region_page, stored, taken_over, taken_over_unless, with_page}
use Rattle.sv39_entry.specs.Address.{page_of}
use Rattle.sv39_entry.specs.declared.access.Access.{Access}
use Rattle.user_copy.specs.CopyOfProcess.{page_bytes, process_byte, process_bytes}

-- two runs in a row
pub bytes_split : (files : List File) (p : Process) (address m n : ℕ) → process_bytes files p address (m + n) ≡ process_bytes files p address m ++ process_bytes files p (address + m) n
bytes_split files p address m n = ap (map (process_byte files p)) (numbers_split address m n) ∙ map-append (process_byte files p) (numbers_from address m) (numbers_from (address + m) n)

pub length_bytes : (files : List File) (p : Process) (address n : ℕ) → length (process_bytes files p address n) ≡ n
length_bytes files p address zero = refl
length_bytes files p address (suc n) = ap suc (length_bytes files p (address + 1) n)

-- the same bytes, one by one
pub bytes_same : (files : List File) (p q : Process) (n address : ℕ) → ((at : ℕ) → at < address + n → process_byte files q at ≡ process_byte files p at) → process_bytes files q address n ≡ process_bytes files p address n
bytes_same files p q zero address same = refl
bytes_same files p q (suc n) address same =
    ap₂ (λ b bs. b ∷ bs) (same address (omega arith)) (bytes_same files p q n (address + 1) (λ at less. same at (omega (arith, less))))

-- a run in a settled page

module _ (files : List File) (q : Process) (page : ℕ) (s : Page) (there : get q.settled page ≡ Some s) (whole : length s.bytes ≡ 4096) where
  one_byte : (offset : ℕ) → offset < 4096 → process_byte files q (4096 * page + offset) ≡ get_or s.bytes offset 0
  one_byte offset less =
      let here : page_of (4096 * page + offset) ≡ page = omega (arith, less) in
      let inside : (4096 * page + offset) % 4096 ≡ offset = omega (arith, less) in
      ap₂ (λ n o. get_or (page_bytes files q n (get q.settled n)) o 0) here inside ∙ ap (λ o. get_or (page_bytes files q page o) offset 0) there

  run_at : (n offset : ℕ) → offset + n ≤ 4096 → take n (drop offset s.bytes) ≡ process_bytes files q (4096 * page + offset) n
  run_at zero offset fits = refl
  run_at (suc n) offset fits =
      let next : 4096 * page + offset + 1 ≡ 4096 * page + (offset + 1) = omega arith in
      ap (take (suc n)) (drop_more s.bytes offset 0 (omega (arith, whole, fits)))
      ∙ ap₂ (λ b bs. b ∷ bs) (sym (one_byte offset (omega (arith, fits)))) (run_at n (offset + 1) (omega (arith, fits)) ∙ ap (λ at. process_bytes files q at n) (sym next))

pub run_bytes : (files : List File) (q : Process) (address n : ℕ) (s : Page) → get q.settled (page_of address) ≡ Some s → length s.bytes ≡ 4096 → address % 4096 + n ≤ 4096
    → take n (drop (address % 4096) s.bytes) ≡ process_bytes files q address n
run_bytes files q address n s there whole fits =
    let place : 4096 * page_of address + address % 4096 ≡ address = omega arith in
    run_at files q (page_of address) s there whole n (address % 4096) fits ∙ ap (λ at. process_bytes files q at n) place

-- a page with the same bytes in two processes

page_same : (files : List File) (p q : Process) (page : ℕ) (o : Option Page) → regions q ≡ regions p → page_bytes files q page o ≡ page_bytes files p page o
page_same files p q page None same = ap (λ rs. region_page files (region_at rs page) page) same
page_same files p q page (Some s) same = refl

byte_kept : (files : List File) (p q : Process) (at : ℕ) → regions q ≡ regions p → get q.settled (page_of at) ≡ get p.settled (page_of at) → process_byte files q at ≡ process_byte files p at
byte_kept files p q at same settled =
    ap (λ o. get_or (page_bytes files q (page_of at) o) (at % 4096) 0) settled ∙ ap (λ bs. get_or bs (at % 4096) 0) (page_same files p q (page_of at) (get p.settled (page_of at)) same)

-- making a page resident changes no byte

module _ (files : List File) (fresh : ℕ) (shared : Bool) (access : Access) (page : ℕ) (p : Process) where
  abbrev page_after : Process → List ℕ
  page_after q = page_bytes files q page (get q.settled page)

  taken_page : (s : Page) (b : Bool) → get p.settled page ≡ Some s → page_after (taken_over_unless fresh shared p page s b) ≡ s.bytes
  taken_page s true there = ap (page_bytes files p page) there
  taken_page s false there =
      let after = taken_over fresh shared (region_on p page) s in
      ap (page_bytes files (with_page p page after) page) (inserted_here page after p.settled page refl)

  made_page : (o : Option Page) → get p.settled page ≡ o → page_after (made_resident_from files fresh shared p access page o) ≡ page_bytes files p page o
  made_page None there =
      let s : Page = record { bytes = initial_page files p page; copy = fresh; cow = false; dirty = leaves_mark access (region_on p page) } in
      ap (page_bytes files (made_resident_from files fresh shared p access page None) page) (inserted_here page s p.settled page refl)
  made_page (Some s) there = taken_page s (can_complete access (region_on p page) s) there

  pub made_byte : (at : ℕ) → process_byte files (made_resident files fresh shared p access page) at ≡ process_byte files p at
  made_byte at = elim (cases_eq (page_of at) page) [
    | inl same ↦
        ap (λ n. get_or (page_bytes files (made_resident files fresh shared p access page) n (get (made_resident files fresh shared p access page).settled n)) (at % 4096) 0) same
        ∙ ap (λ bs. get_or bs (at % 4096) 0) (made_page (get p.settled page) refl)
        ∙ ap (λ n. get_or (page_bytes files p n (get p.settled n)) (at % 4096) 0) (sym same)
    | inr apart ↦
        let settles = made_settles files fresh shared access page p in
        byte_kept files p (made_resident files fresh shared p access page) at settles.regions (settles.others (page_of at) apart)
  ]

-- a store into a settled page

written_run : (bs vs : List ℕ) (o : ℕ) → o + length vs ≤ length bs → take (length vs) (drop o (write_bytes bs o vs)) ≡ vs
written_run bs vs o room =
    let rest = drop (o + length vs) bs in
    ap (λ xs. take (length vs) (drop o xs)) (append_assoc (take o bs) vs rest)
    ∙ ap (take (length vs)) (drop_at (take o bs) (vs ++ rest) o (length-take-le o bs (omega (arith, room)))) ∙ take_at vs rest (length vs) refl

module _ (bs vs : List ℕ) (o : ℕ) (room : o + length vs ≤ length bs) where
  written_before : (k : ℕ) → k < o → get_or (write_bytes bs o vs) k 0 ≡ get_or bs k 0
  written_before k less = grind (arith, common_steps)

  written_after : (k : ℕ) → o + length vs ≤ k → get_or (write_bytes bs o vs) k 0 ≡ get_or bs k 0
  written_after k past = grind (arith, common_steps)

module _ (files : List File) (q : Process) (address : ℕ) (s : Page) (there : get q.settled (page_of address) ≡ Some s) (whole : length s.bytes ≡ 4096) (given : List ℕ) (fits : address % 4096 + length given ≤ 4096) where
  abbrev page : ℕ
  page = page_of address

  abbrev after : Process
  after = with_page q page (stored s (address % 4096) given)

  here : get after.settled page ≡ Some (stored s (address % 4096) given)
  here = inserted_here page (stored s (address % 4096) given) q.settled page refl

  room : address % 4096 + length given ≤ length s.bytes
  room = omega (arith, whole, fits)

  pub put_run : process_bytes files after address (length given) ≡ given
  put_run =
      sym (run_bytes files after address (length given) (stored s (address % 4096) given) here (length-write_bytes s.bytes given (address % 4096) room ∙ whole) fits)
      ∙ written_run s.bytes given (address % 4096) room

  same_offset : (at : ℕ) → page_of at ≡ page → (at < address) ⊎ (address + length given ≤ at) → get_or (write_bytes s.bytes (address % 4096) given) (at % 4096) 0 ≡ get_or s.bytes (at % 4096) 0
  same_offset at same (inl less) = written_before s.bytes given (address % 4096) room (at % 4096) (omega (arith, same, less))
  same_offset at same (inr past) = written_after s.bytes given (address % 4096) room (at % 4096) (omega (arith, same, past))

  pub put_other : (at : ℕ) → (at < address) ⊎ (address + length given ≤ at) → process_byte files after at ≡ process_byte files q at
  put_other at aside = elim (cases_eq (page_of at) page) [
    | inl same ↦
        ap (λ n. get_or (page_bytes files after n (get after.settled n)) (at % 4096) 0) same
        ∙ ap (λ o. get_or (page_bytes files after page o) (at % 4096) 0) here
        ∙ same_offset at same aside
        ∙ sym (ap (λ n. get_or (page_bytes files q n (get q.settled n)) (at % 4096) 0) same ∙ ap (λ o. get_or (page_bytes files q page o) (at % 4096) 0) there)
    | inr apart ↦ byte_kept files q after at refl (inserted_other page (stored s (address % 4096) given) q.settled (page_of at) apart)
  ]
