-- Laws of kernel copies (copyin, copyout) within one page: such a copy makes the page resident once and copies the whole run
-- of bytes, or stops at its first byte. Also: a copy continued over more addresses (`more_in`, `more_out`), which does
-- nothing once stopped; and laws of bytes written over others.
use Rattle.std.proofs.Common.{◌≡◌, ℕ, zero, suc, true, ◌+◌, ◌*◌, ◌%◌, ◌<◌, ◌≤◌, refl, ap, ap₂, sym, ◌∙◌, arith, List, [], ◌∷◌, ◌++◌, length}
use Rattle.std.proofs.Common.{take, drop, get_or, append_assoc, append-nil, length-append, length-drop, drop-cons, Option, None, Some, Ok}
use Rattle.std.proofs.Common.{Err}
use Rattle.std.specs.Prelude.{fold, zip}
use Rattle.std.proofs.lemmas.List.{length-take}
use Rattle.process_model.specs.Environment.{Environment, Progress}
use Rattle.process_model.specs.Bytes.{number, numbers_from, write_bytes}
use Rattle.process_model.specs.Copies.{Copied, byte_of, byte_of_page, next_in, next_out, one_in, one_out, reached_in, with_byte_on}
use Rattle.process_model.specs.Insertion.{inserted_here, put_again, put_back}
use Rattle.process_model.specs.PageMap.{PageMap, get}
use Rattle.process_model.specs.Process.{Page, Process, regions}
use Rattle.process_model.proofs.ResidenceLaws.{granted_again, reached_again, reached_at_once, reached_serves, resident_again, stays_resident}
use Rattle.process_model.specs.Regions.{copy_rule}
use Rattle.process_model.specs.Residence.{is_resident, stored, with_page}
use Rattle.sv39_entry.specs.Address.{page_of}
use Rattle.sv39_entry.specs.declared.access.Access.TheVariants as access
use Rattle.sv39_entry.specs.declared.rule.Rule.{Rule}

-- a copy with this progress, these bytes and this stop
abbrev pub so_far : Progress → List ℕ → Option Rule → Copied
so_far g bytes stop = record { progress = g; bytes = bytes; stop = stop }

-- a copy continued over more addresses

abbrev pub more_in : Environment → Copied → List ℕ → Copied
more_in a c addresses = fold (λ d at. next_in a d at d.stop) c addresses

abbrev pub more_out : Environment → Copied → List (ℕ × ℕ) → Copied
more_out a c places = fold (λ d x. next_out a d x d.stop) c places

-- ---- a stopped copy does not change

module _ (a : Environment) (r : Rule) (g : Progress) (bytes : List ℕ) where
  pub stopped_in : (addresses : List ℕ) → more_in a (so_far g bytes (Some r)) addresses ≡ so_far g bytes (Some r)
  stopped_in [] = refl
  stopped_in (x ∷ xs) = stopped_in xs

  pub stopped_out : (places : List (ℕ × ℕ)) → more_out a (so_far g bytes (Some r)) places ≡ so_far g bytes (Some r)
  stopped_out [] = refl
  stopped_out (x ∷ xs) = stopped_out xs

-- ---- places in a page

at_page : (page offset : ℕ) → offset < 4096 → page_of (4096 * page + offset) ≡ page
at_page page offset less = omega arith

at_offset : (page offset : ℕ) → offset < 4096 → (4096 * page + offset) % 4096 ≡ offset
at_offset page offset less = omega arith

in_its_page : (address : ℕ) → 4096 * page_of address + address % 4096 ≡ address
in_its_page address = omega arith

-- ---- bytes of a process

first_number : (b : ℕ) (bs : List ℕ) → number (b ∷ bs) 1 ≡ b
unfolding number
first_number b bs = omega arith

byte_there : (p : Process) (address : ℕ) (s : Page) → get p.settled (page_of address) ≡ Some s → address % 4096 < length s.bytes
    → byte_of p address ≡ get_or s.bytes (address % 4096) 0
byte_there p address s there less =
    ap (λ o. byte_of_page o address) there
    ∙ ap (λ bs. number bs 1) (drop-cons s.bytes (address % 4096) 0 less)
    ∙ first_number (get_or s.bytes (address % 4096) 0) (drop (suc (address % 4096)) s.bytes)

first_taken : (bs : List ℕ) (o n : ℕ) → o < length bs → take (suc n) (drop o bs) ≡ get_or bs o 0 ∷ take n (drop (o + 1) bs)
first_taken bs o n less = let next : o + 1 ≡ suc o = omega arith in rw next (ap (take (suc n)) (drop-cons bs o 0 less))

-- ---- bytes written over others

-- bytes written inside a list leave its length
pub length-write_bytes : (bs vs : List ℕ) (o : ℕ) → o + length vs ≤ length bs → length (write_bytes bs o vs) ≡ length bs
length-write_bytes bs vs o h =
    omega (arith, length-append (take o bs ++ vs) (drop (o + length vs) bs), length-append (take o bs) vs, length-take o bs, length-drop (o + length vs) bs)

behind_first : (x : ℕ) (bs vs : List ℕ) (o : ℕ) → write_bytes (x ∷ bs) (suc o) vs ≡ x ∷ write_bytes bs o vs
behind_first x bs vs o = let place : suc o + length vs ≡ suc (o + length vs) = omega arith in rw place refl

-- writing no bytes changes nothing
pub none_written : (bs : List ℕ) (o : ℕ) → write_bytes bs o [] ≡ bs
none_written bs zero = refl
none_written [] (suc o) = let place : suc o + 0 ≡ suc o = omega arith in rw place refl
none_written (x ∷ bs) (suc o) = behind_first x bs [] o ∙ ap (λ xs. x ∷ xs) (none_written bs o)

-- writing one byte and then the rest after it writes them all
pub next_written : (bs : List ℕ) (o v : ℕ) (vs : List ℕ) → o < length bs → write_bytes (write_bytes bs o (v ∷ [])) (o + 1) vs ≡ write_bytes bs o (v ∷ vs)
next_written [] o v vs less = absurd (omega (arith, less))
next_written (x ∷ bs) zero v vs less =
    let one : 1 + length vs ≡ suc (length vs) = omega arith in
    let none : 0 + suc (length vs) ≡ suc (length vs) = omega arith in
    rw (one, none) refl
next_written (x ∷ bs) (suc o) v vs less =
    let place : suc o + 1 ≡ suc (o + 1) = omega arith in
    ap (λ xs. write_bytes xs (suc o + 1) vs) (behind_first x bs (v ∷ []) o)
    ∙ ap (λ k. write_bytes (x ∷ write_bytes bs o (v ∷ [])) k vs) place
    ∙ behind_first x (write_bytes bs o (v ∷ [])) vs (o + 1)
    ∙ ap (λ xs. x ∷ xs) (next_written bs o v vs (omega (arith, less)))
    ∙ sym (behind_first x bs (v ∷ vs) o)

-- ---- copyin from a resident page copies the whole run

module _ (a : Environment) (h : Progress) (page : ℕ) (s : Page) (there : get h.process.settled page ≡ Some s) (whole : length s.bytes ≡ 4096)
    (still : (y : ℕ) → page_of y ≡ page → reached_in a access.Load h y ≡ Ok h) where
  one_taken : (offset : ℕ) (bytes : List ℕ) → offset < 4096
      → one_in (so_far h bytes None) (4096 * page + offset) (reached_in a access.Load h (4096 * page + offset)) ≡ so_far h (bytes
      ++ get_or s.bytes offset 0 ∷ []) None
  one_taken offset bytes less =
      let here = at_page page offset less in
      let inside = at_offset page offset less in
      let byte = byte_there h.process (4096 * page + offset) s (ap (get h.process.settled) here ∙ there) (omega (arith, inside, whole, less)) in
      ap (one_in (so_far h bytes None) (4096 * page + offset)) (still (4096 * page + offset) here)
      ∙ ap (λ b. so_far h (bytes ++ b ∷ []) None) (byte ∙ ap (λ o. get_or s.bytes o 0) inside)

  all_taken : (n offset : ℕ) (bytes : List ℕ) → offset + n ≤ 4096
      → more_in a (so_far h bytes None) (numbers_from (4096 * page + offset) n) ≡ so_far h (bytes ++ take n (drop offset s.bytes)) None
  all_taken zero offset bytes fits = ap (λ bs. so_far h bs None) (sym (append-nil bytes))
  all_taken (suc n) offset bytes fits =
      let next : 4096 * page + offset + 1 ≡ 4096 * page + (offset + 1) = omega arith in
      ap (λ c. more_in a c (numbers_from (4096 * page + offset + 1) n)) (one_taken offset bytes (omega (arith, fits)))
      ∙ ap (λ at. more_in a (so_far h (bytes ++ get_or s.bytes offset 0 ∷ []) None) (numbers_from at n)) next
      ∙ all_taken n (offset + 1) (bytes ++ get_or s.bytes offset 0 ∷ []) (omega (arith, fits))
      ∙ ap (λ bs. so_far h bs None) (append_assoc bytes (get_or s.bytes offset 0 ∷ []) (take n (drop (offset + 1) s.bytes)))
      ∙ ap (λ bs. so_far h (bytes ++ bs) None) (sym (first_taken s.bytes offset n (omega (arith, fits, whole))))

-- ---- copyout to a resident page copies the whole run

module _ (a : Environment) (page : ℕ) where
  -- what holds of the process from the first byte on: the page is settled with 4,096 bytes, stores to it are granted, and it
  -- is resident for a store
  record Stands (h : Progress) (s : Page) : Type 0 where
    there : get h.process.settled page ≡ Some s
    whole : length s.bytes ≡ 4096
    granted : (y : ℕ) → page_of y ≡ page → copy_rule h.process.scheme (regions h.process) access.Store y ≡ None
    resident : is_resident h.process access.Store page ≡ true

  -- the progress after `given` is stored into the page at `offset`
  abbrev put_at : Progress → Page → ℕ → List ℕ → Progress
  put_at h s offset given = record h { process = with_page h.process page (stored s offset given) }

  still_out : (h : Progress) (s : Page) (y : ℕ) → Stands h s → page_of y ≡ page → reached_in a access.Store h y ≡ Ok h
  still_out h s y stands same =
      reached_at_once a access.Store h y (stands.granted y same)
      (resident_again a access.Store (page_of y) h (ap (is_resident h.process access.Store) same ∙ stands.resident))

  still_stands : (h : Progress) (s : Page) (offset : ℕ) (given : List ℕ) → Stands h s → offset + length given ≤ 4096
      → Stands (put_at h s offset given) (stored s offset given)
  still_stands h s offset given stands fits = record {
    there = inserted_here page (stored s offset given) h.process.settled page refl;
    whole = length-write_bytes s.bytes given offset (omega (arith, fits, stands.whole)) ∙ stands.whole;
    granted = stands.granted;
    resident = stays_resident access.Store page s (write_bytes s.bytes offset given) h.process stands.there stands.resident;
  }

  one_put : (h : Progress) (s : Page) (offset b : ℕ) (bytes : List ℕ) → Stands h s → offset < 4096
      → one_out (so_far h bytes None) (4096 * page + offset) b (reached_in a access.Store h (4096 * page + offset)) ≡ so_far
      (put_at h s offset (b ∷ [])) (bytes ++ b ∷ []) None
  one_put h s offset b bytes stands less =
      let here = at_page page offset less in
      let inside = at_offset page offset less in
      ap (one_out (so_far h bytes None) (4096 * page + offset) b) (still_out h s (4096 * page + offset) stands here)
      ∙ ap (λ o. so_far (record h { process = with_byte_on h.process (4096 * page + offset) b o }) (bytes ++ b
      ∷ []) None) (ap (get h.process.settled) here ∙ stands.there)
      ∙ ap₂ (λ n o. so_far (record h { process = with_page h.process n (stored s o (b ∷ [])) }) (bytes ++ b ∷ []) None) here inside

  put_none : (h : Progress) (s : Page) (offset : ℕ) → Stands h s → h ≡ put_at h s offset []
  put_none h s offset stands =
      sym (ap (λ bs. record h { process = with_page h.process page (record s { bytes = bs }) }) (none_written s.bytes offset)
      ∙ ap (λ (m : PageMap Page). record h { process = record h.process { settled = m } }) (put_back h.process.settled page s stands.there))

  put_more : (h : Progress) (s : Page) (offset b : ℕ) (given : List ℕ) → offset < length s.bytes
      → put_at (put_at h s offset (b ∷ [])) (stored s offset (b ∷ [])) (offset + 1) given ≡ put_at h s offset (b ∷ given)
  put_more h s offset b given less =
      let first = stored s offset (b ∷ []) in
      ap (λ (m : PageMap Page).
      record h { process = record h.process { settled = m } }) (put_again h.process.settled page first (stored first (offset + 1) given))
      ∙ ap (λ bs. record h { process = with_page h.process page (record s { bytes = bs }) }) (next_written s.bytes offset b given less)

  all_put : (given : List ℕ) (h : Progress) (s : Page) (offset : ℕ) (bytes : List ℕ) → Stands h s → offset + length given ≤ 4096
      → more_out a (so_far h bytes None) (zip (numbers_from (4096 * page + offset) (length given)) given) ≡ so_far (put_at h s offset given)
      (bytes ++ given) None
  all_put [] h s offset bytes stands fits = ap₂ (λ g bs. so_far g bs None) (put_none h s offset stands) (sym (append-nil bytes))
  all_put (b ∷ given) h s offset bytes stands fits =
      let next : 4096 * page + offset + 1 ≡ 4096 * page + (offset + 1) = omega arith in
      let one = still_stands h s offset (b ∷ []) stands (omega (arith, fits)) in
      ap (λ c. more_out a c (zip (numbers_from (4096 * page + offset + 1) (length given)) given)) (one_put h s offset b bytes stands (omega (arith, fits)))
      ∙ ap (λ at. more_out a (so_far (put_at h s offset (b ∷ [])) (bytes ++ b ∷ []) None) (zip (numbers_from at (length given)) given)) next
      ∙ all_put given (put_at h s offset (b ∷ [])) (stored s offset (b ∷ [])) (offset + 1) (bytes ++ b ∷ []) one (omega (arith, fits))
      ∙ ap₂ (λ g bs. so_far g bs None) (put_more h s offset b given (omega (arith, fits, stands.whole))) (append_assoc bytes (b ∷ []) given)

-- ---- the whole run, from before its page is made resident

module _ (a : Environment) (g h : Progress) (bytes : List ℕ) (address : ℕ) where
  -- copyin: n bytes of the page, from the address's offset on
  pub run_in : (n : ℕ) (s : Page) → 0 < n → address % 4096 + n ≤ 4096 → reached_in a access.Load g address ≡ Ok h
      → get h.process.settled (page_of address) ≡ Some s → length s.bytes ≡ 4096
      → more_in a (so_far g bytes None) (numbers_from address n) ≡ so_far h (bytes ++ take n (drop (address % 4096) s.bytes)) None
  run_in zero s some fits is there whole = absurd (omega (arith, some))
  run_in (suc n) s some fits is there whole =
      let again = reached_again a access.Load g h address address is refl in
      let taken = all_taken a h (page_of address) s there whole (λ y same.
      reached_again a access.Load g h address y is same) (suc n) (address % 4096) bytes fits in
      ap (λ o. more_in a (one_in (so_far g bytes None) address o) (numbers_from (address + 1) n)) is
      ∙ sym (ap (λ o. more_in a (one_in (so_far h bytes None) address o) (numbers_from (address + 1) n)) again)
      ∙ ap (λ at. more_in a (so_far h bytes None) (numbers_from at (suc n))) (sym (in_its_page address))
      ∙ taken

  -- copyout: all the given bytes, stored into the page at the address's offset
  pub run_out : (s : Page) (given : List ℕ) → 0 < length given → address % 4096 + length given ≤ 4096 → reached_in a access.Store g address ≡ Ok h
      → get h.process.settled (page_of address) ≡ Some s → length s.bytes ≡ 4096
      → more_out a (so_far g bytes None) (zip (numbers_from address (length given)) given)
      ≡ so_far (record h { process = with_page h.process (page_of address) (stored s (address % 4096) given) }) (bytes ++ given) None
  run_out s [] some fits is there whole = absurd (omega (arith, some))
  run_out s (b ∷ given) some fits is there whole =
      let again = reached_again a access.Store g h address address is refl in
      let stands : Stands a (page_of address) h s = record {
        there = there;
        whole = whole;
        granted = λ y same. granted_again a access.Store g h address y is same;
        resident = (reached_serves a access.Store g h address is).resident;
      } in
      ap (λ o. more_out a (one_out (so_far g bytes None) address b o) (zip (numbers_from (address + 1) (length given)) given)) is
      ∙ sym (ap (λ o. more_out a (one_out (so_far h bytes None) address b o) (zip (numbers_from (address + 1) (length given)) given)) again)
      ∙ ap (λ at. more_out a (so_far h bytes None) (zip (numbers_from at (suc (length given))) (b ∷ given))) (sym (in_its_page address))
      ∙ all_put a (page_of address) (b ∷ given) h s (address % 4096) bytes stands fits

-- the first address is refused with rule r: the copy stops there
module _ (a : Environment) (g : Progress) (bytes : List ℕ) (address : ℕ) (r : Rule) where
  pub run_in_stops : (n : ℕ) → 0 < n → reached_in a access.Load g address ≡ Err r
      → more_in a (so_far g bytes None) (numbers_from address n) ≡ so_far g bytes (Some r)
  run_in_stops zero some is = absurd (omega (arith, some))
  run_in_stops (suc n) some is =
      ap (λ o. more_in a (one_in (so_far g bytes None) address o) (numbers_from (address + 1) n)) is ∙ stopped_in a r g bytes (numbers_from (address + 1) n)

  pub run_out_stops : (given : List ℕ) → 0 < length given → reached_in a access.Store g address ≡ Err r
      → more_out a (so_far g bytes None) (zip (numbers_from address (length given)) given) ≡ so_far g bytes (Some r)
  run_out_stops [] some is = absurd (omega (arith, some))
  run_out_stops (b ∷ given) some is =
      let places = zip (numbers_from (address + 1) (length given)) given in
      ap (λ o. more_out a (one_out (so_far g bytes None) address b o) places) is ∙ stopped_out a r g bytes places
