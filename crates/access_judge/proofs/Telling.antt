-- What the parts of the search say, put together.
use Rattle.std.proofs.Common.{◌≡◌, ◌≤◌, ◌<◌, ℕ, suc, zero, List, [], ◌∷◌, ◌++◌, Bool, true, false, ◌&&◌, ◌==◌, ◌-◌, ◌+◌, ◌*◌, ◌/◌, refl, ap, sym, ◌∙◌, arith, append_assoc}
use Rattle.std.specs.List.{flat_map, range_with_len}
use Rattle.std.proofs.lemmas.Bool.{and_parts}
use Rattle.std.proofs.lemmas.Bool.Decides.{nat_tests}
use Rattle.std.proofs.lemmas.List.{append-nil}
use Rattle.sv39_entry.specs.Address.{page_of, vpn}
use Rattle.access_history.specs.History.{Memory}
use Rattle.access_history.specs.Permits.{Past}
use Rattle.access_history.specs.declared.event.Event.{Event}
use Rattle.access_history.specs.declared.outcome.Outcome.{Outcome}
use Rattle.access_judge.specs.Judging.{counts, entries_say, group_says, index_at, item_says, pointer_says, step_says, table_says, versions_of, word_says, words_say}
use Rattle.access_judge.specs.Log.{versions_before}
use Rattle.access_judge.specs.Search.{Found, Stand, Version, below_of, ended, found_by, is_pointer, until, versions}
use Rattle.access_judge.specs.declared.question.Question.{Question}

pub pointer_goes : (a : Question) (p : Past) (s : Stand) (c : Found) (t : Stand) → below_of p.events s c.read ≡ t → table_says a p t ≡ pointer_says a p s c
unfolding pointer_says
pointer_goes a p s c t e = ap (table_says a p) (sym e)

pub step_goes : (a : Question) (p : Past) (s : Stand) (c : Found) → is_pointer a.extensions c ≡ true → pointer_says a p s c ≡ step_says a p s c
unfolding step_says
step_goes a p s c e = rw e refl

pub step_ends : (a : Question) (p : Past) (s : Stand) (c : Found) → is_pointer a.extensions c ≡ false → item_says a p (ended c) ≡ step_says a p s c
unfolding step_says
step_ends a p s c e = rw e refl

pub word_at_found : (a : Question) (p : Past) (s : Stand) (napot : Bool) (v : Version) → counts a s napot (found_by s v) ≡ true
    → step_says a p s (found_by s v) ≡ word_says a p s napot v
unfolding word_says
word_at_found a p s napot v e = rw e refl

pub word_not_found : (a : Question) (p : Past) (s : Stand) (napot : Bool) (v : Version) → counts a s napot (found_by s v) ≡ false → [] ≡ word_says a p s napot v
unfolding word_says
word_not_found a p s napot v e = rw e refl

pub word_goes : (a : Question) (p : Past) (s : Stand) (napot : Bool) (v : Version) (c : Found) → c ≡ found_by s v → counts a s napot c ≡ true
    → step_says a p s c ≡ word_says a p s napot v
word_goes a p s napot v c is e =
    ap (step_says a p s) is ∙ word_at_found a p s napot v (sym (ap (counts a s napot) is) ∙ e)

pub word_skips : (a : Question) (p : Past) (s : Stand) (napot : Bool) (v : Version) (c : Found) → c ≡ found_by s v → counts a s napot c ≡ false
    → [] ≡ word_says a p s napot v
word_skips a p s napot v c is e = word_not_found a p s napot v (sym (ap (counts a s napot) is) ∙ e)

words_none : (a : Question) (p : Past) (s : Stand) (napot : Bool) (vs : List Version) → vs ≡ [] → words_say a p s napot vs ≡ []
unfolding words_say
words_none a p s napot vs e = ap (flat_map (word_says a p s napot)) e

words_more : (a : Question) (p : Past) (s : Stand) (napot : Bool) (v : Version) (vs before : List Version) → vs ≡ v ∷ before
    → words_say a p s napot vs ≡ word_says a p s napot v ++ words_say a p s napot before
unfolding words_say
words_more a p s napot v vs before e = ap (flat_map (word_says a p s napot)) e

pub words_stop : (a : Question) (p : Past) (s : Stand) (napot : Bool) (vs : List Version) (done all : List Outcome) → vs ≡ []
    → done ++ words_say a p s napot vs ≡ all → done ≡ all
words_stop a p s napot vs done all e total = sym (append-nil done) ∙ sym (ap (λ (os : List Outcome). done ++ os) (words_none a p s napot vs e)) ∙ total

pub before_none : (m : Memory) (h : List Event) (table index since : ℕ) → since ≡ 0 → versions_before m h table index since ≡ []
before_none m h table index zero e = refl
before_none m h table index (suc n) e = absurd (omega arith)

pub before_some : (m : Memory) (h : List Event) (table index since : ℕ) → 0 < since → versions_before m h table index since ≡ versions m (until h (since - 1)) table index
before_some m h table index zero e = absurd (omega arith)
before_some m h table index (suc n) e = let same : n ≡ suc n - 1 = omega arith in ap (λ (k : ℕ). versions m (until h k) table index) same

pub words_go : (a : Question) (p : Past) (s : Stand) (napot : Bool) (v : Version) (vs : List Version) (m : Memory) (h : List Event) (table index since : ℕ)
    (done all : List Outcome) → vs ≡ v ∷ versions_before m h table index since → 0 < since → done ++ words_say a p s napot vs ≡ all
    → (done ++ word_says a p s napot v) ++ words_say a p s napot (versions m (until h (since - 1)) table index) ≡ all
words_go a p s napot v vs m h table index since done all e some total =
    append_assoc done (word_says a p s napot v) (words_say a p s napot (versions m (until h (since - 1)) table index))
    ∙ ap (λ (os : List Outcome). done ++ os) (sym (words_more a p s napot v vs (versions m (until h (since - 1)) table index)
    (e ∙ ap (λ (ws : List Version). v ∷ ws) (before_some m h table index since some)))) ∙ total

pub words_end : (a : Question) (p : Past) (s : Stand) (napot : Bool) (v : Version) (vs : List Version) (m : Memory) (h : List Event) (table index since : ℕ)
    (done all : List Outcome) → vs ≡ v ∷ versions_before m h table index since → since ≡ 0 → done ++ words_say a p s napot vs ≡ all
    → done ++ word_says a p s napot v ≡ all
words_end a p s napot v vs m h table index since done all e none total =
    let last = words_more a p s napot v vs [] (e ∙ ap (λ (ws : List Version). v ∷ ws) (before_none m h table index since none)) in
    let empty = words_none a p s napot [] refl in
    ap (λ (os : List Outcome). done ++ os) (sym (append-nil (word_says a p s napot v)) ∙ sym (ap (λ (os : List Outcome). word_says a p s napot v ++ os) empty) ∙ sym last) ∙ total

pub range_more : (f : ℕ → List Outcome) (n : ℕ) (done all : List Outcome) → n < 16 → done ++ flat_map f (range_with_len n (16 - n)) ≡ all
    → (done ++ f n) ++ flat_map f (range_with_len (n + 1) (16 - (n + 1))) ≡ all
range_more f n done all low total =
    let left : 16 - n ≡ suc (16 - (n + 1)) = omega arith in
    append_assoc done (f n) (flat_map f (range_with_len (n + 1) (16 - (n + 1))))
    ∙ ap (λ (os : List Outcome). done ++ os) (sym (ap (λ (k : ℕ). flat_map f (range_with_len n k)) left)) ∙ total

pub group_all : (a : Question) (p : Past) (s : Stand) (first n : ℕ) (done : List Outcome) → 16 ≤ n
    → done ++ flat_map (λ n. words_say a p s true (versions_of p s (first + n))) (range_with_len n (16 - n))
    ≡ flat_map (λ n. words_say a p s true (versions_of p s (first + n))) (range_with_len 0 16) → done ≡ group_says a p s first
unfolding group_says
group_all a p s first n done all total =
    let says = λ (n : ℕ). words_say a p s true (versions_of p s (first + n)) in
    let none : 16 - n ≡ 0 = omega arith in
    sym (append-nil done) ∙ sym (ap (λ (k : ℕ). done ++ flat_map says (range_with_len n k)) none) ∙ total

is_zero : (n : ℕ) → (n == 0) ≡ true → n ≡ 0
is_zero n e = grind (arith, nat_tests)

pub entries_with : (a : Question) (p : Past) (s : Stand) (index : ℕ) → (a.extensions.svnapot && s.level == 0) ≡ true → index ≡ index_at a s
    → words_say a p s false (versions_of p s index) ++ group_says a p s (index / 16 * 16) ≡ entries_say a p s
unfolding entries_say
entries_with a p s index e is =
    let level = is_zero s.level (and_parts a.extensions.svnapot (s.level == 0) e).1 in
    let low : index ≡ vpn (page_of a.request.va.0) 0 = is ∙ ap (vpn (page_of a.request.va.0)) level in
    rw e (ap (λ (i : ℕ). words_say a p s false (versions_of p s i) ++ group_says a p s (index / 16 * 16)) is
    ∙ ap (λ (i : ℕ). words_say a p s false (versions_of p s (index_at a s)) ++ group_says a p s (i / 16 * 16)) low)

pub entries_without : (a : Question) (p : Past) (s : Stand) (index : ℕ) → (a.extensions.svnapot && s.level == 0) ≡ false → index ≡ index_at a s
    → words_say a p s false (versions_of p s index) ≡ entries_say a p s
unfolding entries_say
entries_without a p s index e is =
    rw e (ap (λ (i : ℕ). words_say a p s false (versions_of p s i)) is ∙ sym (append-nil (words_say a p s false (versions_of p s (index_at a s)))))
