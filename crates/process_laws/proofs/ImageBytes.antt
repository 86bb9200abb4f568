-- Lemma: the byte that an image has at an address is one and the same by its segments (`loads_byte`) and by the pages that
-- are made of it (`image_pages`).
use Rattle.std.proofs.Common.{◌≡◌, ℕ, zero, suc, Bool, true, false, cond, ◌==◌, ◌+◌, ◌-◌, ◌*◌, ◌%◌, refl, sym, ap, ◌∙◌, arith, List, [], ◌∷◌, ◌++◌, drop, Option, Some}
use Rattle.std.specs.Prelude.{flat_map, nat_le, nat_lt}
use Rattle.std.proofs.lemmas.Bool.{and_parts, eqb-true, leb-true}
use Rattle.std.proofs.lemmas.Bool.Decides.{nat_tests}
use Rattle.std.proofs.lemmas.List.{get_or-drop}
use Rattle.process_laws.proofs.InitialBytes.{padded_byte}
use Rattle.process_laws.proofs.PageBytes.{byte_in_pages}
use Rattle.process_laws.specs.Latest.{byte_at, loads_byte}
use Rattle.process_laws.specs.Pages.{is_between}
use Rattle.process_model.specs.Bytes.{padded, pages_for}
use Rattle.process_model.specs.Images.{end_of_loads, end_page, LoadSegment}
use Rattle.process_model.specs.ImageProcess.{image_pages, load_pages, page_run}
use Rattle.sv39_entry.specs.Address.{page_of}

append_again : (xs ys zs : List (ℕ × List ℕ)) → (xs ++ ys) ++ zs ≡ xs ++ (ys ++ zs)
append_again [] ys zs = refl
append_again (x ∷ xs) ys zs = ap (λ es. x ∷ es) (append_again xs ys zs)

module _ (a : ℕ) where
  abbrev in_run : Bool → List ℕ → ℕ → Option ℕ → Option ℕ
  in_run b bs first other = cond b (Some (byte_at bs (a - 4096 * first))) other

  none_in : (first : ℕ) → false ≡ is_between first (first + 0) (page_of a)
  none_in first = grind (arith, nat_tests)

  first_in : (first n : ℕ) → first ≡ page_of a → true ≡ is_between first (first + suc n) (page_of a)
  first_in first n e = grind (arith, nat_tests, e)

  later_in : (first n : ℕ) → (first == page_of a) ≡ false → is_between (first + 1) (first + 1 + n) (page_of a) ≡ is_between first (first + suc n) (page_of a)
  later_in first n e = grind (arith, nat_tests, e)

  dropped : (first n : ℕ) (bs : List ℕ) (other : Option ℕ) → in_run (is_between (first + 1) (first + 1 + n) (page_of a)) (drop 4096 bs) (first + 1) other ≡ in_run (is_between (first + 1) (first + 1 + n) (page_of a)) bs first other
  dropped first n bs other = elim (is_between (first + 1) (first + 1 + n) (page_of a)) as (λ b. is_between (first + 1) (first + 1 + n) (page_of a) ≡ b → in_run b (drop 4096 bs) (first + 1) other ≡ in_run b bs first other) [
    | true ↦ λ e.
        let parts = and_parts (nat_le (first + 1) (page_of a)) (nat_lt (page_of a) (first + 1 + n)) e in
        let from = leb-true (first + 1) (page_of a) parts.0 in
        ap Some (get_or-drop 4096 bs (a - 4096 * (first + 1)) 0 ∙ ap (byte_at bs) (omega (arith, from)))
    | false ↦ λ e. refl
  ] refl

  run_byte : (n first : ℕ) (bs : List ℕ) (rest : List (ℕ × List ℕ)) → byte_in_pages (page_run first bs n ++ rest) a ≡ in_run (is_between first (first + n) (page_of a)) bs first (byte_in_pages rest a)
  run_byte zero first bs rest = ap (λ b. in_run b bs first (byte_in_pages rest a)) (none_in first)
  run_byte (suc n) first bs rest = elim (first == page_of a) as (λ b. (first == page_of a) ≡ b
      → cond b (Some (byte_at (padded 4096 bs) (a % 4096))) (byte_in_pages (page_run (first + 1) (drop 4096 bs) n ++ rest) a) ≡ in_run (is_between first (first + suc n) (page_of a)) bs first (byte_in_pages rest a)) [
        | true ↦ λ e.
            let same = eqb-true first (page_of a) e in
            ap Some (padded_byte 4096 bs (a % 4096) (omega arith) ∙ ap (byte_at bs) (omega (arith, same))) ∙ ap (λ b. in_run b bs first (byte_in_pages rest a)) (first_in first n same)
        | false ↦ λ e.
            run_byte n (first + 1) (drop 4096 bs) rest ∙ dropped first n bs (byte_in_pages rest a) ∙ ap (λ b. in_run b bs first (byte_in_pages rest a)) (later_in first n e)
      ] refl

  -- the guard and the stack are zeros
  last_byte : (end : ℕ) → byte_in_pages (page_run end [] 2) a ≡ loads_byte end [] a
  last_byte end = ap (λ es. byte_in_pages es a) (sym (none_behind (page_run end [] 2))) ∙ run_byte 2 end [] []
    where
      none_behind : (es : List (ℕ × List ℕ)) → es ++ [] ≡ es
      none_behind [] = refl
      none_behind (e ∷ es) = ap (λ fs. e ∷ fs) (none_behind es)

  all_bytes : (ls : List LoadSegment) (end : ℕ) → byte_in_pages (flat_map load_pages ls ++ page_run (end_of_loads end ls) [] 2) a ≡ loads_byte end ls a
  all_bytes [] end = last_byte end
  all_bytes (l ∷ ls) end =
      ap (λ es. byte_in_pages es a) (append_again (load_pages l) (flat_map load_pages ls) (page_run (end_of_loads (end_page l) ls) [] 2))
      ∙ run_byte (pages_for l.memory_size) (page_of l.address) l.bytes (flat_map load_pages ls ++ page_run (end_of_loads (end_page l) ls) [] 2)
      ∙ ap (in_run (is_between (page_of l.address) (page_of l.address + pages_for l.memory_size) (page_of a)) l.bytes (page_of l.address)) (all_bytes ls (end_page l))

pub loads_byte_is : (ls : List LoadSegment) (a : ℕ) → byte_in_pages (image_pages ls) a ≡ loads_byte 0 ls a
loads_byte_is ls a = all_bytes a ls 0
