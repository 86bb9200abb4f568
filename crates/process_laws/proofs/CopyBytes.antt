-- Lemmas about the bytes of kernel copies, one byte at a time: a copyin settles (puts in memory) the pages of the bytes that
-- it copied, and brings the bytes that are there; a copyout settles the pages too, and leaves its bytes there. Neither
-- changes any other byte of the process.
use Rattle.std.proofs.Common.{◌≡◌, ℕ, zero, suc, Bool, true, false, cond, ◌&&◌, ◌||◌, ◌==◌, ◌+◌, ◌-◌, ◌%◌, ◌<◌, ◌≤◌, refl, sym, ap, ◌∙◌, arith, inl, inr, List, [], ◌∷◌, ◌++◌, drop, length, Option, None, Some}
use Rattle.std.specs.Prelude.{nat_le, nat_lt, fold, zip, Result, Ok, Err}
use Rattle.std.proofs.lemmas.Bool.{cases_eq, cases_lt, eq-eqb, eqb-true, leb-true, ltb-true, le-leb, lt-ltb, and_parts, and_from, or_left, or_right, or_cases, false≢true, false_from_ne_true}
use Rattle.std.proofs.lemmas.List.{length_push, get_or_push, get_or_append_left}
use Rattle.std.proofs.lemmas.Option.{same_Some}
use Rattle.sv39_entry.specs.Address.{page_of}
use Rattle.sv39_entry.specs.declared.access.Access.{Access}
use Rattle.sv39_entry.specs.declared.access.Access.TheVariants as access
use Rattle.sv39_entry.specs.declared.rule.Rule.{Rule}
use Rattle.process_model.specs.Bytes.{number, numbers_from}
use Rattle.process_model.specs.PageMap.{get}
use Rattle.process_model.specs.Files.{File}
use Rattle.process_model.specs.Regions.{region_at, copy_rule}
use Rattle.process_model.specs.Process.{Process, Page, regions}
use Rattle.process_model.specs.Residence.{region_page}
use Rattle.process_model.specs.Environment.{Environment, Progress}
use Rattle.process_model.specs.Copies.{Copied, copy_begun, reached_in, byte_of_page, byte_of, with_byte_on, with_byte, one_in, next_in, one_out, next_out, copied_in, copied_out}
use Rattle.process_laws.specs.Latest.{byte_at, is_among, is_in_their_pages}
use Rattle.process_laws.proofs.PageBytes.{bytes_on, AllSized, byte_in, byte_from, or_start, among_true, is_among-true, byte_in-stored, stored_sized}
use Rattle.process_laws.proofs.HeldBytes.{Reaches, stopped, came, reached_reaches}

-- pages and addresses of a run that is one longer

their_true : (first n a : ℕ) → is_in_their_pages first n a ≡ true → (0 < n) × (page_of first ≤ page_of a) × (page_of a ≤ page_of (first + n - 1))
their_true first n a e =
    let outer = and_parts (nat_lt 0 n && nat_le (page_of first) (page_of a)) (nat_le (page_of a) (page_of (first + n - 1))) e in
    let inner = and_parts (nat_lt 0 n) (nat_le (page_of first) (page_of a)) outer.0 in
    (ltb-true 0 n inner.0, leb-true (page_of first) (page_of a) inner.1, leb-true (page_of a) (page_of (first + n - 1)) outer.1)

is_their-true : (first n a : ℕ) → 0 < n → page_of first ≤ page_of a → page_of a ≤ page_of (first + n - 1) → is_in_their_pages first n a ≡ true
is_their-true first n a l g h = and_from _ _ (and_from _ _ (lt-ltb 0 n l) (le-leb (page_of first) (page_of a) g)) (le-leb (page_of a) (page_of (first + n - 1)) h)

same_tests : (b c : Bool) → (b ≡ true → c ≡ true) → (c ≡ true → b ≡ true) → b ≡ c
same_tests true c f g = sym (f refl)
same_tests false c f g = sym (false_from_ne_true c (λ e. false≢true (g e)))

their_more : (first k at a : ℕ) → at ≡ first + k → is_in_their_pages first (k + 1) a ≡ (is_in_their_pages first k a || page_of at == page_of a)
their_more first k at a is = same_tests _ _
    (λ e. let r = their_true first (k + 1) a e in
    elim (cases_eq (page_of at) (page_of a)) [
      | inl same ↦ or_right _ _ (eq-eqb (page_of at) (page_of a) same)
      | inr ne ↦ or_left _ _ (is_their-true first k a (omega arith) r.1 (omega arith))
    ])
    (λ e. elim (or_cases _ _ e) [
      | inl t ↦ let r = their_true first k a t in is_their-true first (k + 1) a (omega arith) r.1 (omega arith)
      | inr t ↦ let same = eqb-true (page_of at) (page_of a) t in is_their-true first (k + 1) a (omega arith) (omega arith) (omega arith)
    ])

among_more : (first k at a : ℕ) → at ≡ first + k → (a ≡ at → ⊥) → is_among first (k + 1) a ≡ is_among first k a
among_more first k at a is ne = same_tests _ _
    (λ e. let r = among_true first (k + 1) a e in is_among-true first k a r.0 (omega arith))
    (λ e. let r = among_true first k a e in is_among-true first (k + 1) a r.0 (omega arith))

-- a page that is settled twice

module _ (files : List File) (p : Process) (a : ℕ) where
  started_again : (x : Option ℕ) → or_start files p a (or_start files p a x) ≡ or_start files p a x
  started_again None = refl
  started_again (Some b) = refl

  settled_again : (before now : Bool) (x : Option ℕ) → cond now (or_start files p a (cond before (or_start files p a x) x)) (cond before (or_start files p a x) x) ≡ cond (before || now) (or_start files p a x) x
  settled_again true true x = started_again x
  settled_again true false x = refl
  settled_again false true x = refl
  settled_again false false x = refl

  put_kept : (put before now : Bool) (b : ℕ) (x : Option ℕ)
      → cond now (or_start files p a (cond put (Some b) (cond before (or_start files p a x) x))) (cond put (Some b) (cond before (or_start files p a x) x)) ≡ cond put (Some b) (cond (before || now) (or_start files p a x) x)
  put_kept true before true b x = refl
  put_kept true before false b x = refl
  put_kept false before now b x = settled_again before now x

  some_start : (x : Option ℕ) → (b : ℕ) × (or_start files p a x ≡ Some b)
  some_start None = (_, refl)
  some_start (Some b) = (b, refl)

same_start : (files others : List File) (p q : Process) (a : ℕ) (x : Option ℕ) → others ≡ files → regions q ≡ regions p → or_start others q a x ≡ or_start files p a x
same_start files others p q a (Some b) e f = refl
same_start files others p q a None e f = ap (λ fs. Some (byte_at (region_page fs (region_at (regions q) (page_of a)) (page_of a)) (a % 4096))) e ∙ ap (λ rs. Some (byte_at (region_page files (region_at rs (page_of a)) (page_of a)) (a % 4096))) f

some_none : {A : Type 0} {x : A} → Some x ≡ None → ⊥
some_none e = cc

-- one byte that is read

number_one : (bs : List ℕ) (o : ℕ) → number (drop o bs) 1 ≡ byte_at bs o
unfolding number
number_one [] zero = refl
number_one [] (suc o) = refl
number_one (b ∷ bs) zero = omega arith
number_one (b ∷ bs) (suc o) = number_one bs o

read_page : (o : Option Page) (a b : ℕ) → byte_from (bytes_on o) (a % 4096) ≡ Some b → byte_of_page o a ≡ b
read_page None a b e = cc
read_page (Some x) a b e = number_one x.bytes (a % 4096) ∙ same_Some _ b e

byte_read : (q : Process) (a b : ℕ) → byte_in q.settled a ≡ Some b → byte_of q a ≡ b
byte_read q a b f = read_page (get q.settled (page_of a)) a b f

-- an address of the process is reached

reaches_in : (x : Environment) (access : Access) (g : Progress) (address : ℕ) → AllSized (g.process).settled → Reaches x.files (page_of address) g.process (reached_in x access g address)
reaches_in x access g address sized = reached_reaches x access address g (copy_rule g.process.scheme (regions g.process) access address) sized

-- how far a copy from a process came: its addresses so far are settled, and were read
pub record CameIn (files : List File) (p : Process) (address at : ℕ) (c : Copied) : Type 0 where
  pub same_regions : regions ((c.progress).process) ≡ regions p
  pub sized : AllSized ((c.progress).process).settled
  pub next : c.stop ≡ None → at ≡ address + length c.bytes
  pub told : (a : ℕ) → byte_in ((c.progress).process).settled a ≡ cond (is_in_their_pages address (length c.bytes) a) (or_start files p a (byte_in p.settled a)) (byte_in p.settled a)
  pub read : (i : ℕ) → i < length c.bytes → byte_in ((c.progress).process).settled (address + i) ≡ Some (byte_at c.bytes i)

module _ (x : Environment) (p : Process) (address : ℕ) where
  -- what is held is kept
  some_kept : (files : List File) (q : Process) (a b : ℕ) (now : Bool) (o : Option ℕ) → o ≡ Some b → cond now (or_start files q a o) o ≡ Some b
  some_kept files q a b true o e = ap (or_start files q a) e
  some_kept files q a b false o e = e

  one_came_in : (at : ℕ) (c : Copied) (r : Result Progress Rule) (i : CameIn x.files p address at c) → c.stop ≡ None → Reaches x.files (page_of at) ((c.progress).process) r → CameIn x.files p address (at + 1) (one_in c at r)
  one_came_in at c (Err r) i e stopped = record { same_regions = i.same_regions; sized = i.sized; next = λ h. cc; told = i.told; read = i.read }
  one_came_in at c (Ok v) i e (came g) =
      let q = v.process in
      let held = (c.progress).process in
      let k = length c.bytes in
      let here : at ≡ address + k = i.next e in
      let more : length (c.bytes ++ byte_of q at ∷ []) ≡ k + 1 = length_push c.bytes (byte_of q at) in
      let now : (a : ℕ) → byte_in q.settled a ≡ cond (page_of at == page_of a) (or_start x.files p a (byte_in held.settled a)) (byte_in held.settled a) =
      λ a. g.told a ∙ ap (λ o. cond (page_of at == page_of a) o (byte_in held.settled a)) (same_start x.files x.files p held a (byte_in held.settled a) refl i.same_regions) in
      let last = some_start x.files p at (byte_in held.settled at) in
      let last_is : byte_in q.settled at ≡ Some last.0 = now at ∙ ap (λ b. cond b (or_start x.files p at (byte_in held.settled at)) (byte_in held.settled at)) (eq-eqb (page_of at) (page_of at) refl) ∙ last.1 in
      record {
        same_regions = g.same_regions ∙ i.same_regions;
        sized = g.sized;
        next = λ h. omega arith;
        told = λ a. now a
            ∙ ap (λ o. cond (page_of at == page_of a) (or_start x.files p a o) o) (i.told a)
            ∙ settled_again x.files p a (is_in_their_pages address k a) (page_of at == page_of a) (byte_in p.settled a)
            ∙ ap (λ b. cond b (or_start x.files p a (byte_in p.settled a)) (byte_in p.settled a)) (sym (their_more address k at a here))
            ∙ ap (λ n. cond (is_in_their_pages address n a) (or_start x.files p a (byte_in p.settled a)) (byte_in p.settled a)) (sym more);
        read = λ n l. elim (cases_lt n k) [
          | inl l ↦ now (address + n) ∙ some_kept x.files p (address + n) (byte_at c.bytes n) _ _ (i.read n l) ∙ ap Some (sym (get_or_append_left c.bytes (byte_of q at ∷ []) 0 n l))
          | inr g ↦
              let same : n ≡ k = omega arith in
              let there : address + n ≡ at = omega arith in
              ap (byte_in q.settled) there ∙ last_is ∙ ap Some (sym (byte_read q at last.0 last_is) ∙ sym (get_or_push c.bytes (byte_of q at) 0 n (sym same)))
        ];
      }

  next_came_in : (at : ℕ) (c : Copied) (o : Option Rule) → c.stop ≡ o → CameIn x.files p address at c → CameIn x.files p address (at + 1) (next_in x c at o)
  next_came_in at c (Some r) e i = record { same_regions = i.same_regions; sized = i.sized; next = λ h. absurd (some_none (sym e ∙ h)); told = i.told; read = i.read }
  next_came_in at c None e i = one_came_in at c _ i e (reaches_in x access.Load c.progress at i.sized)

  all_came_in : (n at : ℕ) (c : Copied) → CameIn x.files p address at c → (end : ℕ) × CameIn x.files p address end (fold (λ c a. next_in x c a c.stop) c (numbers_from at n))
  all_came_in zero at c i = (at, i)
  all_came_in (suc n) at c i = all_came_in n (at + 1) (next_in x c at c.stop) (next_came_in at c c.stop refl i)

-- a copy from the process
pub copy_came_in : (x : Environment) (g : Progress) (p : Process) (address n : ℕ) → regions g.process ≡ regions p → ((a : ℕ) → byte_in (g.process).settled a ≡ byte_in p.settled a) → AllSized (g.process).settled
    → (end : ℕ) × CameIn x.files p address end (copied_in x g address n)
unfolding copied_in
copy_came_in x g p address n same begins sized = all_came_in x p address n address (copy_begun g)
    (record {
      same_regions = same;
      sized = sized;
      next = λ h. omega arith;
      told = begins;
      read = λ i l. absurd (omega arith);
    })

-- how far a copy to a process came: its addresses so far are settled, and have the bytes; `rest` are those to come
pub record CameOut (files : List File) (p : Process) (address : ℕ) (bytes : List ℕ) (at : ℕ) (rest : List ℕ) (c : Copied) : Type 0 where
  pub same_regions : regions ((c.progress).process) ≡ regions p
  pub sized : AllSized ((c.progress).process).settled
  pub next : c.stop ≡ None → (at ≡ address + length c.bytes) × ((i : ℕ) → byte_at rest i ≡ byte_at bytes (length c.bytes + i))
  pub told : (a : ℕ) → byte_in ((c.progress).process).settled a
      ≡ cond (is_among address (length c.bytes) a) (Some (byte_at bytes (a - address))) (cond (is_in_their_pages address (length c.bytes) a) (or_start files p a (byte_in p.settled a)) (byte_in p.settled a))

-- one byte that is put
pub record PutsByte (at b : ℕ) (q r : Process) : Type 0 where
  pub same_regions : regions r ≡ regions q
  pub sized : AllSized r.settled
  pub told : (a : ℕ) → byte_in r.settled a ≡ cond (is_among at 1 a) (Some (byte_at (b ∷ []) (a - at))) (byte_in q.settled a)

none_here : (o : Option Page) (i : ℕ) → o ≡ None → byte_from (bytes_on o) i ≡ None
none_here o i e = ap (λ u. byte_from (bytes_on u) i) e

puts_on : (at b : ℕ) (q : Process) (o : Option Page) (x : ℕ) → AllSized q.settled → get q.settled (page_of at) ≡ o → byte_in q.settled at ≡ Some x → PutsByte at b q (with_byte_on q at b o)
puts_on at b q None x sized e some = absurd (some_none (sym some ∙ none_here (get q.settled (page_of at)) (at % 4096) e))
puts_on at b q (Some page) x sized e some =
    let long : length page.bytes ≡ 4096 = sized.size (page_of at) page.bytes (ap bytes_on e) in
    let fits : at % 4096 + 1 ≤ 4096 = omega arith in
    record {
      same_regions = refl;
      sized = stored_sized q.settled (page_of at) page (at % 4096) (b ∷ []) long fits sized;
      told = byte_in-stored q.settled at page (b ∷ []) e long fits;
    }

puts_byte : (at b : ℕ) (q : Process) (x : ℕ) → AllSized q.settled → byte_in q.settled at ≡ Some x → PutsByte at b q (with_byte q at b)
puts_byte at b q x sized some = puts_on at b q (get q.settled (page_of at)) x sized refl some

module _ (w : Environment) (p : Process) (address : ℕ) (bytes : List ℕ) where
  -- the byte at an address after one more
  put_next : (k at a b : ℕ) (x : Option ℕ) → at ≡ address + k → b ≡ byte_at bytes k
      → cond (is_among at 1 a) (Some (byte_at (b ∷ []) (a - at))) (cond (is_among address k a) (Some (byte_at bytes (a - address))) x) ≡ cond (is_among address (k + 1) a) (Some (byte_at bytes (a - address))) x
  put_next k at a b x here is = elim (cases_eq a at) [
    | inl same ↦
        let first : a - at ≡ 0 = omega arith in
        let place : a - address ≡ k = omega arith in
        ap (λ t. cond t (Some (byte_at (b ∷ []) (a - at))) (cond (is_among address k a) (Some (byte_at bytes (a - address))) x)) (is_among-true at 1 a (omega arith) (omega arith))
        ∙ ap (λ n. Some (byte_at (b ∷ []) n)) first ∙ ap Some is ∙ ap (λ n. Some (byte_at bytes n)) (sym place)
        ∙ sym (ap (λ t. cond t (Some (byte_at bytes (a - address))) x) (is_among-true address (k + 1) a (omega arith) (omega arith)))
    | inr ne ↦
        ap (λ t. cond t (Some (byte_at (b ∷ []) (a - at))) (cond (is_among address k a) (Some (byte_at bytes (a - address))) x)) (false_from_ne_true (is_among at 1 a) (λ e. let r = among_true at 1 a e in ne (omega arith)))
        ∙ ap (λ t. cond t (Some (byte_at bytes (a - address))) x) (sym (among_more address k at a here ne))
  ]

  one_came_out : (at b : ℕ) (rest : List ℕ) (c : Copied) (r : Result Progress Rule) (i : CameOut w.files p address bytes at (b ∷ rest) c) → c.stop ≡ None → Reaches w.files (page_of at) ((c.progress).process) r
      → CameOut w.files p address bytes (at + 1) rest (one_out c at b r)
  one_came_out at b rest c (Err r) i e stopped = record { same_regions = i.same_regions; sized = i.sized; next = λ h. absurd (some_none h); told = i.told }
  one_came_out at b rest c (Ok v) i e (came g) =
      let q = v.process in
      let held = (c.progress).process in
      let k = length c.bytes in
      let here : at ≡ address + k = (i.next e).0 in
      let more : length (c.bytes ++ b ∷ []) ≡ k + 1 = length_push c.bytes b in
      let head : b ≡ byte_at bytes k = (i.next e).1 0 ∙ ap (byte_at bytes) (omega arith) in
      let now : (a : ℕ) → byte_in q.settled a ≡ cond (page_of at == page_of a) (or_start w.files p a (byte_in held.settled a)) (byte_in held.settled a) =
      λ a. g.told a ∙ ap (λ o. cond (page_of at == page_of a) o (byte_in held.settled a)) (same_start w.files w.files p held a (byte_in held.settled a) refl i.same_regions) in
      let last = some_start w.files p at (byte_in held.settled at) in
      let last_is : byte_in q.settled at ≡ Some last.0 = now at ∙ ap (λ b. cond b (or_start w.files p at (byte_in held.settled at)) (byte_in held.settled at)) (eq-eqb (page_of at) (page_of at) refl) ∙ last.1 in
      let put : PutsByte at b q (with_byte q at b) = puts_byte at b q last.0 g.sized last_is in
      record {
        same_regions = put.same_regions ∙ g.same_regions ∙ i.same_regions;
        sized = put.sized;
        next = λ h. (omega arith, λ n. let place : k + suc n ≡ length (c.bytes ++ b ∷ []) + n = omega arith in (i.next e).1 (suc n) ∙ ap (byte_at bytes) place);
        told = λ a. put.told a
            ∙ ap (cond (is_among at 1 a) (Some (byte_at (b ∷ []) (a - at)))) (now a
            ∙ ap (λ o. cond (page_of at == page_of a) (or_start w.files p a o) o) (i.told a)
            ∙ put_kept w.files p a (is_among address k a) (is_in_their_pages address k a) (page_of at == page_of a) (byte_at bytes (a - address)) (byte_in p.settled a)
            ∙ ap (λ b. cond (is_among address k a) (Some (byte_at bytes (a - address))) (cond b (or_start w.files p a (byte_in p.settled a)) (byte_in p.settled a))) (sym (their_more address k at a here)))
            ∙ put_next k at a b _ here head
            ∙ ap (λ n. cond (is_among address n a) (Some (byte_at bytes (a - address))) (cond (is_in_their_pages address n a) (or_start w.files p a (byte_in p.settled a)) (byte_in p.settled a))) (sym more);
      }

  next_came_out : (at b : ℕ) (rest : List ℕ) (c : Copied) (o : Option Rule) → c.stop ≡ o → CameOut w.files p address bytes at (b ∷ rest) c → CameOut w.files p address bytes (at + 1) rest (next_out w c (at, b) o)
  next_came_out at b rest c (Some r) e i = record { same_regions = i.same_regions; sized = i.sized; next = λ h. absurd (some_none (sym e ∙ h)); told = i.told }
  next_came_out at b rest c None e i = one_came_out at b rest c _ i e (reaches_in w access.Store c.progress at i.sized)

  all_came_out : (rest : List ℕ) (at : ℕ) (c : Copied) → CameOut w.files p address bytes at rest c → (end : ℕ) × CameOut w.files p address bytes end [] (fold (λ c x. next_out w c x c.stop) c (zip (numbers_from at (length rest)) rest))
  all_came_out [] at c i = (at, i)
  all_came_out (b ∷ rest) at c i = all_came_out rest (at + 1) (next_out w c (at, b) c.stop) (next_came_out at b rest c c.stop refl i)

-- a copy to the process
pub copy_came_out : (x : Environment) (g : Progress) (p : Process) (address : ℕ) (bytes : List ℕ) → regions g.process ≡ regions p → ((a : ℕ) → byte_in (g.process).settled a ≡ byte_in p.settled a) → AllSized (g.process).settled
    → (end : ℕ) × CameOut x.files p address bytes end [] (copied_out x g address bytes)
unfolding copied_out
copy_came_out x g p address bytes same begins sized = all_came_out x p address bytes bytes address (copy_begun g)
    (record {
      same_regions = same;
      sized = sized;
      next = λ h. (omega arith, λ i. ap (byte_at bytes) (omega arith));
      told = λ a. begins a ∙ sym (ap (λ b. cond b (Some (byte_at bytes (a - address))) (byte_in p.settled a)) (false_from_ne_true (is_among address 0 a) (λ e. let r = among_true address 0 a e in absurd (omega arith))));
    })
