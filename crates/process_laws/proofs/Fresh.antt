-- `IsFresh`: the copy numbers (each names one copy of a page in memory) of a process are below a number, and none is at two
-- pages; and the lemma that each kind of change of a process keeps this.
use Rattle.std.proofs.Common.{◌≡◌, ℕ, Bool, true, false, cond, ◌+◌, ◌<◌, ◌≤◌, inl, inr, refl, sym, ap, subst, ◌∙◌, arith, List, [], ◌∷◌, Some, length}
use Rattle.sv39_entry.specs.declared.scheme.Scheme.{Scheme}
use Rattle.process_model.specs.PageMap.{PageMap, get, insert, only, from_list, with_values}
use Rattle.process_model.specs.Process.{Process, Page}
use Rattle.process_model.specs.Residence.{child_page, marked_page, parts_from}
use Rattle.process_model.specs.ImageProcess.{process_of, numbered, image_pages}
use Rattle.process_model.specs.Images.{LoadSegment}
use Rattle.process_laws.proofs.EveryChange.{IsKept}
use Rattle.process_laws.proofs.LookUps.{found_inserted, found_only}
use Rattle.process_model.proofs.EachValue.{found_each}

-- the numbers are below n, and none is at two pages
pub record IsFresh (n : ℕ) (m : PageMap Page) : Type 0 where
  pub below : (page : ℕ) (x : Page) → get m page ≡ Some x → x.copy < n
  pub once : (a b : ℕ) (x y : Page) → get m a ≡ Some x → get m b ≡ Some y → x.copy ≡ y.copy → a ≡ b

-- changes of a map

rises : (n k : ℕ) (m : PageMap Page) → n ≤ k → IsFresh n m → IsFresh k m
rises n k m le f = record { below = λ page x e. let h : x.copy < n = f.below page x e in omega arith; once = f.once }

-- a page whose number is at no other page
insert_fresh : (n : ℕ) (m : PageMap Page) (k : ℕ) (v : Page) → v.copy < n → ((q : ℕ) (y : Page) → get m q ≡ Some y → y.copy ≡ v.copy → q ≡ k) → IsFresh n m → IsFresh n (insert m k v)
insert_fresh n m k v lt own f = record {
  below = λ page x e. elim (found_inserted m k page v x e) [
    | inl is ↦ subst (λ (z : Page). z.copy < n) is.1 lt
    | inr is ↦ f.below page x is
  ];
  once = λ a b x y e g same. elim (found_inserted m k a v x e) [
    | inl is ↦ elim (found_inserted m k b v y g) [
      | inl so ↦ is.0 ∙ sym so.0
      | inr so ↦ is.0 ∙ sym (own b y so (sym same ∙ sym (ap (λ (z : Page). z.copy) is.1)))
    ]
    | inr is ↦ elim (found_inserted m k b v y g) [
      | inl so ↦ own a x is (same ∙ sym (ap (λ (z : Page). z.copy) so.1)) ∙ sym so.0
      | inr so ↦ f.once a b x y is so same
    ]
  ];
}

-- a page with a new number
insert_new : (n : ℕ) (m : PageMap Page) (k : ℕ) (v : Page) → v.copy ≡ n → IsFresh n m → IsFresh (n + 1) (insert m k v)
insert_new n m k v is f = insert_fresh (n + 1) m k v (omega arith) (λ q y e same. let h : y.copy < n = f.below q y e in absurd (omega arith)) (rises n (n + 1) m (omega arith) f)

-- a page with the number that was there
insert_same : (n : ℕ) (m : PageMap Page) (k : ℕ) (x v : Page) → get m k ≡ Some x → v.copy ≡ x.copy → IsFresh n m → IsFresh n (insert m k v)
insert_same n m k x v e same f =
    insert_fresh n m k v (let h : x.copy < n = f.below k x e in omega arith) (λ q y g is. f.once q k y x g e (is ∙ same)) f

only_fresh : (n : ℕ) (p : ℕ → Bool) (m : PageMap Page) → IsFresh n m → IsFresh n (only p m)
only_fresh n p m f = record {
  below = λ page x e. f.below page x (found_only p m page x e);
  once = λ a b x y e g same. f.once a b x y (found_only p m a x e) (found_only p m b y g) same;
}

each_fresh : (n : ℕ) (f : ℕ → Page → Page) → ((k : ℕ) (x : Page) → (f k x).copy ≡ x.copy) → (m : PageMap Page) → IsFresh n m → IsFresh n (with_values f m)
each_fresh n f same m fresh = record {
  below = λ page x e. let y = found_each f m page x e in subst (λ (z : Page). z.copy < n) y.2 (subst (λ c. c < n) (sym (same page y.0)) (fresh.below page y.0 y.1));
  once = λ a b x y e g copy.
      let v = found_each f m a x e in
      let w = found_each f m b y g in
      fresh.once a b v.0 w.0 v.1 w.1 (sym (same a v.0) ∙ ap (λ (z : Page). z.copy) v.2 ∙ copy ∙ sym (ap (λ (z : Page). z.copy) w.2) ∙ same b w.0);
}

-- numbers in a row

pub record IsRow (first n : ℕ) (m : PageMap Page) : Type 0 where
  pub fresh : IsFresh n m
  pub above : (page : ℕ) (x : Page) → get m page ≡ Some x → first ≤ x.copy

pub row_of : (first n : ℕ) (es : List (ℕ × List ℕ)) → n ≡ first + length es → IsRow first n (from_list (numbered first es))
row_of first n [] e = record { fresh = record { below = λ page x e. cc; once = λ a b x y e. cc }; above = λ page x e. cc }
row_of first n (e ∷ es) is =
    let v : Page = record { bytes = e.1; copy = first; cow = false; dirty = false } in
    let rest = row_of (first + 1) n es (omega arith) in
    let m = from_list (numbered (first + 1) es) in
    record {
      fresh = insert_fresh n m e.0 v (omega arith) (λ q y g same. let h : first + 1 ≤ y.copy = rest.above q y g in absurd (omega arith)) rest.fresh;
      above = λ page x g. elim (found_inserted m e.0 page v x g) [
        | inl so ↦ subst (λ (z : Page). first ≤ z.copy) so.1 (omega arith)
        | inr so ↦ let h : first + 1 ≤ x.copy = rest.above page x so in omega arith
      ];
    }

made_fresh : (z : Scheme) (n : ℕ) (ls : List LoadSegment) → IsFresh (n + length (image_pages ls)) (process_of z n ls).settled
unfolding process_of
made_fresh z n ls = (row_of n (n + length (image_pages ls)) (image_pages ls) refl).fresh

-- a page is made resident

-- with a number of its own, or the one that it had
taken_fresh : (n : ℕ) (parts : Bool) (p : Process) (page : ℕ) (x y : Page) → y.copy ≡ cond parts n x.copy → get p.settled page ≡ Some x → IsFresh n p.settled → IsFresh (n + 1) (insert p.settled page y)
taken_fresh n true p page x y is e f = insert_new n p.settled page y is f
taken_fresh n false p page x y is e f = rises n (n + 1) _ (omega arith) (insert_same n p.settled page x y e is f)

pub fresh_is_kept : (scheme : Scheme) → IsKept scheme (λ n p. IsFresh n p.settled)
fresh_is_kept scheme = record {
  later = λ n m p le f. rises n m p.settled le f;
  made = λ z same n image ls e. made_fresh z n ls;
  settled = λ n files p access address granted none f. insert_new n p.settled _ _ refl f;
  taken = λ n shared p page x e f. taken_fresh n (parts_from shared x) p page x _ refl e f;
  written = λ n p page x bytes e long f. insert_same n p.settled page x _ e refl f;
  awaiting = λ n p a f. f;
  sized = λ n p wanted none f. only_fresh n _ p.settled f;
  mapping = λ n files p len protection flags file first none place f. f;
  unmapping = λ n p m first end le around one f. only_fresh n _ p.settled f;
  parent = λ n p f. each_fresh n (marked_page p) (λ k x. refl) p.settled f;
  child = λ n p f. each_fresh n (child_page p) (λ k x. refl) p.settled f;
}
