-- What the search asks of a history, by what the scans return.
use Rattle.std.proofs.Common.{◌≡◌, ℕ, zero, suc, ◌-◌, ◌<◌, ◌≤◌, Bool, true, false, ◌==◌, ◌&&◌, List, [], ◌∷◌, length, map, Option, None, Some, refl, ap, ap₂, sym, ◌∙◌, subst, arith, inl, inr}
use Rattle.std.specs.Prelude.{not, slice_get, if◌then◌else◌}
use Rattle.std.specs.List.{list_any}
use Rattle.std.proofs.lemmas.Bool.{cases_eq, eq-eqb}
use Rattle.std.proofs.lemmas.Grind.{common_steps}
use Rattle.std.proofs.lemmas.Option.{slice_get-map}
use Rattle.std.specs.Option.{option_map}
use Rattle.access_history.specs.History.{Memory, memory_at, pmps_at}
use Rattle.access_history.specs.Permits.{memory_of}
use Rattle.access_history.specs.declared.event.Event.{Event}
use Rattle.access_history.specs.declared.event.Event.TheVariants.{Store, WriteSatp, WritePmp, Fence}
use Rattle.access_judge.specs.Log.{IsPastWord, versions_before}
use Rattle.access_judge.specs.Search.{Use, Version, first_version, may_fail, may_pass, until, versions, versions_until}
use Rattle.access_judge.specs.declared.log.PastWord.{PastWord}
use Rattle.lent_history.specs.Events.{event_at, history}
use Rattle.lent_history.specs.Laws.{history_length, history_until}
use Rattle.lent_history.specs.Lent.{Lent, first_memory, past_of, pmp_of, used, uses_of}
use Rattle.lent_history.specs.Protecting.{permits_checked}
use Rattle.lent_history.specs.Scans.{ends, from_first, use_at, word_after, word_at, word_in}
use Rattle.lent_history.specs.declared.event.LentEvent.{LentEvent}
use Rattle.lent_history.specs.declared.pmp.Checked.{Checked}

low : (l : Lent) (moment : ℕ) → moment ≤ length (past_of l).events → moment ≤ used l
low l moment le = omega (arith, le, history_length l.events (used l))

pub until_moment : (l : Lent) (moment : ℕ) → moment ≤ length (past_of l).events → until (past_of l).events moment ≡ history l.events moment
until_moment l moment le = history_until l.events (used l) moment (low l moment le)

-- ---- PMP

pub passes_then : (v l : Lent) (moment : ℕ) (c : Checked) → v ≡ l → moment ≤ length (past_of l).events
    → list_any (permits_checked c) (pmps_at (pmp_of v.hart) (history v.events moment))
    ≡ may_pass (past_of l).first (until (past_of l).events moment) c.privilege c.access c.pa c.width
passes_then v l moment c same le =
    ap (λ (l : Lent). list_any (permits_checked c) (pmps_at (pmp_of l.hart) (history l.events moment))) same
    ∙ ap (λ (h : List Event). list_any (permits_checked c) (pmps_at (pmp_of l.hart) h)) (sym (until_moment l moment le))

pub fails_then : (v l : Lent) (moment : ℕ) (c : Checked) → v ≡ l → moment ≤ length (past_of l).events
    → list_any (λ es. not (permits_checked c es)) (pmps_at (pmp_of v.hart) (history v.events moment))
    ≡ may_fail (past_of l).first (until (past_of l).events moment) c.privilege c.access c.pa c.width
fails_then v l moment c same le =
    ap (λ (l : Lent). list_any (λ es. not (permits_checked c es)) (pmps_at (pmp_of l.hart) (history l.events moment))) same
    ∙ ap (λ (h : List Event). list_any (λ es. not (permits_checked c es)) (pmps_at (pmp_of l.hart) h)) (sym (until_moment l moment le))

-- ---- words

eqb_sym : (a b : ℕ) → (a == b) ≡ (b == a)
eqb_sym a b = elim (cases_eq a b) [
  | inl same ↦ eq-eqb a b same ∙ sym (eq-eqb b a (sym same))
  | inr other ↦ grind (arith, common_steps)
]

module _ (es : List LentEvent) (n : ℕ) (m : Memory) (p i : ℕ) where
  abbrev at : ℕ → Option PastWord
  at k = word_at es p i (m p i) k

  -- as memory says
  pub memory_is : (k : ℕ) → word_in (at k) ≡ memory_at m (history es k) p i
  memory_is zero = begin (m p i)
    where
      begin : (o : Option ℕ) → word_in (from_first o) ≡ o
      begin None = refl
      begin (Some w) = refl
  memory_is (suc k) = more (event_at es k) (memory_is k)
    where
      here : (b : Bool) (w : ℕ) (o : Option PastWord) (r : Option ℕ) → word_in o ≡ r
          → word_in (if b then Some (record { word = w; since = suc k }) else o) ≡ (if b then Some w else r)
      here true w o r is = refl
      here false w o r is = is

      more : (e : Event) → word_in (at k) ≡ memory_at m (history es k) p i → word_in (word_after e (suc k) p i (at k)) ≡ memory_at m (e ∷ history es k) p i
      more (Store q j w) is =
          here (q == p && j == i) w (at k) _ is
          ∙ ap₂ (λ (a b : Bool). if a && b then Some w else memory_at m (history es k) p i) (eqb_sym q p) (eqb_sym j i)
      more (WriteSatp w) is = is
      more (WritePmp x e) is = is
      more (Fence a s) is = is

  -- as the versions say, of which the newest has a last moment
  abbrev listed : ℕ → Option PastWord → List Version
  listed last None = []
  listed last (Some v) = record { word = v.word; last = last } ∷ versions_before m (history es n) p i v.since

  pub versions_are : (last k : ℕ) → k ≤ n → versions_until last m (history es k) p i ≡ listed last (at k)
  versions_are last zero le = begin (m p i)
    where
      begin : (o : Option ℕ) → first_version last o ≡ listed last (from_first o)
      begin None = refl
      begin (Some w) = refl
  versions_are last (suc k) le = more (event_at es k) (versions_are last k (omega (arith, le)))
    where
      here : (b : Bool) (w : ℕ) → versions_until last m (history es k) p i ≡ listed last (at k)
          → (if b then record { word = w; last = last } ∷ versions m (history es k) p i else versions_until last m (history es k) p i)
          ≡ listed last (if b then Some (record { word = w; since = suc k }) else at k)
      here true w is =
          ap (λ (h : List Event). record { word = w; last = last } ∷ versions m h p i) (sym (history_until es n k (omega (arith, le))))
      here false w is = is

      more : (e : Event) → versions_until last m (history es k) p i ≡ listed last (at k)
          → versions_until last m (e ∷ history es k) p i ≡ listed last (word_after e (suc k) p i (at k))
      more (Store q j w) is = here (q == p && j == i) w is
      more (WriteSatp w) is = is
      more (WritePmp x e) is = is
      more (Fence a s) is = is

  abbrev IsSince : ℕ → Option PastWord → Type 0
  IsSince k None = Unit {0}
  IsSince k (Some v) = v.since ≤ k

  pub since_is : (k : ℕ) → IsSince k (at k)
  since_is zero = begin (m p i)
    where
      begin : (o : Option ℕ) → IsSince 0 (from_first o)
      begin None = tt
      begin (Some w) = omega arith
  since_is (suc k) = more (event_at es k) (since_is k)
    where
      later : (o : Option PastWord) → IsSince k o → IsSince (suc k) o
      later None is = tt
      later (Some v) is = omega (arith, is)

      here : (b : Bool) (w : ℕ) → IsSince k (at k) → IsSince (suc k) (if b then Some (record { word = w; since = suc k }) else at k)
      here true w is = omega arith
      here false w is = later (at k) is

      more : (e : Event) → IsSince k (at k) → IsSince (suc k) (word_after e (suc k) p i (at k))
      more (Store q j w) is = here (q == p && j == i) w is
      more (WriteSatp w) is = later (at k) is
      more (WritePmp x e) is = later (at k) is
      more (Fence a s) is = later (at k) is

pub word_then : (l : Lent) (p i moment : ℕ) → moment ≤ length (past_of l).events
    → IsPastWord (past_of l) p i moment (word_at l.events p i (first_memory l p i) moment)
word_then l p i moment le =
    go (word_at l.events p i (first_memory l p i) moment) (since_is l.events (used l) (first_memory l) p i moment)
    (ap (λ (h : List Event). versions (first_memory l) h p i) (until_moment l moment le)
    ∙ ap (λ (k : ℕ). versions_until k (first_memory l) (history l.events moment) p i) (history_length l.events moment)
    ∙ versions_are l.events (used l) (first_memory l) p i moment moment (low l moment le))
  where
    go : (o : Option PastWord) → IsSince l.events (used l) (first_memory l) p i moment o
        → versions (first_memory l) (until (past_of l).events moment) p i ≡ listed l.events (used l) (first_memory l) p i moment o
        → IsPastWord (past_of l) p i moment o
    go None since is = is
    go (Some v) since is = (since, is)

pub word_result : (v l : Lent) (p i moment : ℕ) (first : Option ℕ) (result : Option PastWord) → v ≡ l → moment ≤ length (past_of l).events
    → first ≡ first_memory l p i → result ≡ word_at v.events p i first moment → IsPastWord (past_of l) p i moment result
word_result v l p i moment first result same le begin is =
    let whole : word_at l.events p i (first_memory l p i) moment ≡ result =
    sym (is ∙ ap (λ (o : Option ℕ). word_at v.events p i o moment) begin ∙ ap (λ (v : Lent). word_at v.events p i (first_memory l p i) moment) same) in
    subst (IsPastWord (past_of l) p i moment) whole (word_then l p i moment le)

pub word_now : (v l : Lent) (p i n : ℕ) (first : Option ℕ) (past : Option PastWord) (result : Option ℕ) → v ≡ l → n ≡ used l → first ≡ first_memory l p i
    → past ≡ word_at v.events p i first n → result ≡ word_in past → result ≡ memory_of (past_of l) p i
word_now v l p i n first past result same all begin at is =
    is ∙ ap word_in (at ∙ ap (λ (o : Option ℕ). word_at v.events p i o n) begin ∙ ap (λ (v : Lent). word_at v.events p i (first_memory l p i) n) same
    ∙ ap (word_at l.events p i (first_memory l p i)) all)
    ∙ memory_is l.events 0 (first_memory l) p i (used l)

-- ---- uses of satp

get : {A B : Type 0} (f : A → B) (k : A) (ks : List A) (n : ℕ) → slice_get ks n ≡ Some k → slice_get (map f ks) n ≡ Some (f k)
get f k ks n is = slice_get-map f ks n ∙ ap (option_map f) is

get_later : {A B : Type 0} (f : A → B) (x : A) (ks : List A) (number : ℕ) (k : A) → 0 < number → slice_get ks (number - 1) ≡ Some k
    → slice_get (map f (x ∷ ks)) number ≡ Some (f k)
get_later f x ks zero k some is = absurd (omega (arith, some))
get_later f x ks (suc n) k some is =
    let less : n ≡ suc n - 1 = omega arith in
    get f k ks n (ap (slice_get ks) less ∙ is)

pub later_use : (v l : Lent) (n number moment satp : ℕ) (u : Use) → v ≡ l → n ≡ used l → 0 < number → slice_get (ends v.events n) (number - 1) ≡ Some moment
    → satp ≡ v.hart.satp → u ≡ use_at satp v.events n moment → slice_get (uses_of l) number ≡ Some u
later_use v l n number moment satp u same all some at word is =
    let whole : use_at l.hart.satp l.events (used l) moment ≡ u =
    sym (is ∙ ap (λ (w : ℕ). use_at w v.events n moment) word ∙ ap (λ (v : Lent). use_at v.hart.satp v.events n moment) same
    ∙ ap (λ (n : ℕ). use_at l.hart.satp l.events n moment) all) in
    let there : slice_get (ends l.events (used l)) (number - 1) ≡ Some moment =
    sym (ap (λ (v : Lent). slice_get (ends v.events n) (number - 1)) same ∙ ap (λ (n : ℕ). slice_get (ends l.events n) (number - 1)) all) ∙ at in
    get_later (use_at l.hart.satp l.events (used l)) (used l) (ends l.events (used l)) number moment some there ∙ ap Some whole
