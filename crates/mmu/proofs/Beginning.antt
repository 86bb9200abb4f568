-- A history without events (`begun_true`, `begun_past`), and one whose memory gets more words (`widened_stores`).
use Rattle.std.proofs.Common.{◌≡◌, inl, inr, ℕ, Bool, true, false, ◌&&◌, ◌||◌, nat_eq, Option, None, Some, List, [], ◌∷◌, length, leb, ltb, if◌then◌else◌, refl, ap, sym, ◌∙◌, subst, arith}
use Rattle.std.proofs.Math.Path.{fun_ext}
use Rattle.std.specs.List.{list_any}
use Rattle.std.proofs.lemmas.Bool.{cases_Bool, cond-false, cond-true, or_left}
use Rattle.walk_rules.specs.declared.pmp.PmpEntry.{PmpEntry}
use Rattle.access_history.specs.History.{Memory, memory_at, pmps_at, satp_at}
use Rattle.access_history.specs.Permits.{memory_of, satp_of}
use Rattle.access_history.specs.declared.event.Event.{Event}
use Rattle.access_history.specs.declared.event.Event.TheVariants.{Store, WriteSatp, WritePmp, Fence}
use Rattle.access_judge.specs.Search.{restarted, space_fence, until}
use Rattle.sv39_entry.specs.Satp.{asid}
use Rattle.mmu.specs.Changing.{AreInOrder, after_by, changes_at, since_by, word_before, word_by}
use Rattle.mmu.specs.Fencing.{ended, of_end, of_key, of_space}
use Rattle.mmu.specs.Protecting.{entries_of, is_by, off_entries}
use Rattle.mmu.specs.Recorded.{AreEnds, AreSatps, AreStores, AreWrites, IsSound, IsTrueOf, covers, events_of, first_of, is_place, last_store, number_at, past_of, word_when}
use Rattle.mmu.specs.Sparse.{is_zeroed, word_of}
use Rattle.mmu.specs.Units.{begun, fresh}
use Rattle.mmu.specs.Words.{added, or_zero}
use Rattle.mmu.specs.declared.changes.Change.{Change}
use Rattle.mmu.specs.declared.changes.Changes.{Changes}
use Rattle.mmu.specs.declared.fences.Fences.{Fences}
use Rattle.mmu.specs.declared.history.History.{History}
use Rattle.mmu.specs.declared.memory.SparseMemory.{SparseMemory}
use Rattle.mmu.specs.declared.protection.PmpEntries.{PmpEntries}
use Rattle.mmu.specs.declared.protection.PmpWrite.{PmpWrite}
use Rattle.mmu.specs.declared.protection.Protection.{Protection}
use Rattle.mmu.proofs.Going.{covers_by}
use Rattle.mmu.proofs.Moments.{until_now}
use Rattle.mmu.proofs.Recording.{past}
use Rattle.mmu.proofs.Searching.{after_none}

nothing_yet : (k : ℕ) → until [] k ≡ []
nothing_yet k = until_now [] k (omega arith)

in_order : AreInOrder []
in_order i j d le less = absurd (omega (arith, less))

module _ (m : SparseMemory) (c : Changes) (none : (n : ℕ) → changes_at c n ≡ []) where
  plain : (k p i : ℕ) → word_when m c k p i ≡ (if is_place p i then word_of m (number_at p i) else None)
  plain k p i = ap (λ (cs : List Change). if is_place p i then word_by cs (word_of m (number_at p i)) (is_zeroed m (number_at p i)) k else None) (none (number_at p i))

  pub no_stores : AreStores m c []
  no_stores = record {
    order = λ n. subst AreInOrder (sym (none n)) in_order;
    bound = λ n k d less. absurd (let len = ap length (none n) in omega (arith, less, len));
    words = λ p i k. plain k p i ∙ sym (plain 0 p i) ∙ ap (λ (g : List Event). memory_at (first_of m c) g p i) (sym (nothing_yet k));
    since = λ p i k inside. ap (λ (cs : List Change). since_by 0 cs k) (none (number_at p i)) ∙ ap (λ (g : List Event). last_store g p i) (sym (nothing_yet k));
  }

  pub plain_first : first_of m c ≡ (λ p i. if is_place p i then word_of m (number_at p i) else None)
  plain_first = fun_ext (λ p. fun_ext (λ i. plain 0 p i))

or_none : (a : Bool) → (a || false) ≡ a
or_none true = refl
or_none false = refl

no_writes : (p : Protection) → p.first ≡ p.present → p.writes.items ≡ [] → AreWrites p []
no_writes p same none = record {
  now = ap entries_of (sym same);
  any = λ test k. ap (λ (ws : List PmpWrite). test (entries_of p.first) || list_any (is_by test k) ws) none
      ∙ ap (λ (g : List Event). list_any test (pmps_at (entries_of p.first) g)) (sym (nothing_yet k));
}

no_satps : (first satp epoch : ℕ) → first ≡ satp → epoch ≡ 0 → AreSatps first satp epoch [] []
no_satps first satp epoch same none = record {
  now = sym same;
  epoch_now = none;
  only = λ k d less. absurd (omega (arith, less));
  each = λ k le. or_left (covers first [] k (record { satp = satp; epoch = epoch })) false
      (covers_by first [] k (record { satp = satp; epoch = epoch }) (sym same ∙ ap (satp_at first) (sym (nothing_yet k)))
      (none ∙ ap (λ (g : List Event). space_fence g (asid satp)) (sym (nothing_yet k))));
}

no_ends : (f : Fences) → ((s epoch : ℕ) → of_end f s epoch ≡ None) → AreEnds f []
no_ends f none = record {
  each = λ s k le. none s (space_fence (until [] k) s)
      ∙ subst (λ (g : List Event). None ≡ ended [] s (space_fence g s)) (sym (nothing_yet k)) refl;
  none = λ s epoch late. none s epoch;
}

pub begun_true : (h : History) → ((n : ℕ) → changes_at h.changes n ≡ []) → ((s : ℕ) → of_space h.fences s ≡ 0)
    → ((s epoch : ℕ) → of_end h.fences s epoch ≡ None) → ((b page : ℕ) (s : Option ℕ) → of_key h.fences b page s ≡ 0) → h.uses.past.items ≡ [] → h.protection.first ≡ h.protection.present
    → h.protection.writes.items ≡ [] → h.first_satp ≡ h.satp → h.epoch ≡ 0 → IsTrueOf h []
begun_true h changes spaces ends addresses uses present writes satp epoch = record {
  stores = no_stores h.memory h.changes changes;
  fences = record { spaces = spaces; ends = no_ends h.fences ends; addresses = λ b page s reach. addresses b page s };
  writes = no_writes h.protection present writes;
  satps = subst (λ (us : List _). AreSatps h.first_satp h.satp h.epoch us []) (sym uses) (no_satps h.first_satp h.satp h.epoch satp epoch);
  unfenced = refl;
}

pub begun_past : (h : History) → ((n : ℕ) → changes_at h.changes n ≡ []) → events_of h ≡ [] → h.protection.first ≡ h.protection.present → h.first_satp ≡ h.satp
    → past_of h ≡ begun h
begun_past h changes events present satp =
    ap (λ (m : Memory). past m h.first_satp (entries_of h.protection.first) (events_of h)) (plain_first h.memory h.changes changes)
    ∙ ap (λ (s : ℕ). past (begun h).first.memory s (entries_of h.protection.first) (events_of h)) satp
    ∙ ap (λ (es : PmpEntries). past (begun h).first.memory h.satp (entries_of es) (events_of h)) present
    ∙ ap (past (begun h).first.memory h.satp (entries_of h.protection.present)) events

-- a history that has begun with nothing
pub begun_fresh : (h : History) (count : ℕ) → ((n : ℕ) → word_of h.memory n ≡ None) → h.satp ≡ 0 → entries_of h.protection.present ≡ off_entries count → begun h ≡ fresh count
begun_fresh h count none satp pmp =
    ap (λ (m : Memory). past m h.satp (entries_of h.protection.present) []) (fun_ext (λ p. fun_ext (λ i. empty p i)))
    ∙ ap (λ (s : ℕ). past (λ p i. None) s (entries_of h.protection.present) []) satp
    ∙ ap (λ (es : List PmpEntry). past (λ p i. None) 0 es []) pmp
  where
    empty : (p i : ℕ) → (if is_place p i then word_of h.memory (number_at p i) else None) ≡ None
    empty p i = elim (cases_Bool (is_place p i)) [
      | inl inside ↦ cond-true _ _ _ inside ∙ none (number_at p i)
      | inr outside ↦ cond-false _ _ _ outside
    ]

-- ---- more words

zero_twice : (b z : Bool) (o : Option ℕ) → or_zero (b || z) o ≡ or_zero b (or_zero z o)
zero_twice true true None = refl
zero_twice true false None = refl
zero_twice false z None = not_b z
  where
    not_b : (z : Bool) → or_zero (false || z) None ≡ or_zero false (or_zero z None)
    not_b true = refl
    not_b false = refl
zero_twice b z (Some w) = refl

module _ (m m' : SparseMemory) (c : Changes) (first end : ℕ) (words : (n : ℕ) → word_of m' n ≡ added (word_of m) first end n)
    (zeroed : (n : ℕ) → is_zeroed m' n ≡ ((leb first n && ltb n end) || is_zeroed m n)) where
  abbrev is_new : ℕ → ℕ → Bool
  is_new p i = is_place p i && (leb first (number_at p i) && ltb (number_at p i) end)

  by_change : (o : Option Change) (b z : Bool) (w : Option ℕ) → word_before o (or_zero b w) (b || z) ≡ or_zero b (word_before o w z)
  by_change None b z w = refl
  by_change (Some x) b z w = zero_twice b z x.before

  widened : (k p i : ℕ) → word_when m' c k p i ≡ or_zero (is_new p i) (word_when m c k p i)
  widened k p i = elim (cases_Bool (is_place p i)) [
    | inr outside ↦ cond-false _ _ _ outside
        ∙ sym (ap (λ (b : Bool). or_zero (b && (leb first (number_at p i) && ltb (number_at p i) end)) (word_when m c k p i)) outside ∙ ap (or_zero false) (cond-false _ _ _ outside))
    | inl inside ↦ cond-true _ _ _ inside
        ∙ ap (λ (o : Option ℕ). word_by (changes_at c (number_at p i)) o (is_zeroed m' (number_at p i)) k) (words (number_at p i))
        ∙ ap (λ (z : Bool). word_by (changes_at c (number_at p i)) (added (word_of m) first end (number_at p i)) z k) (zeroed (number_at p i))
        ∙ by_change (after_by (changes_at c (number_at p i)) k) (leb first (number_at p i) && ltb (number_at p i) end) (is_zeroed m (number_at p i)) (word_of m (number_at p i))
        ∙ sym (ap (λ (b : Bool). or_zero (b && (leb first (number_at p i) && ltb (number_at p i) end)) (word_when m c k p i)) inside
        ∙ ap (or_zero (leb first (number_at p i) && ltb (number_at p i) end)) (cond-true _ _ _ inside))
  ]

  abbrev more : Memory → Memory
  more f p i = or_zero (is_new p i) (f p i)

  pub widened_first : first_of m' c ≡ more (first_of m c)
  widened_first = fun_ext (λ p. fun_ext (λ i. widened 0 p i))

  through : (b z : Bool) (w : ℕ) (o : Option ℕ) → or_zero z (if b then Some w else o) ≡ (if b then Some w else or_zero z o)
  through true z w o = refl
  through false z w o = refl

  later : (f : Memory) (h : List Event) (p i : ℕ) → or_zero (is_new p i) (memory_at f h p i) ≡ memory_at (more f) h p i
  later f [] p i = refl
  later f (WriteSatp w ∷ h) p i = later f h p i
  later f (WritePmp n e ∷ h) p i = later f h p i
  later f (Fence a s ∷ h) p i = later f h p i
  later f (Store q j w ∷ h) p i =
      through (nat_eq p q && nat_eq i j) (is_new p i) w (memory_at f h p i) ∙ ap (λ (o : Option ℕ). if nat_eq p q && nat_eq i j then Some w else o) (later f h p i)

  pub widened_stores : (h : List Event) → AreStores m c h → AreStores m' c h
  widened_stores h s = record {
    order = s.order;
    bound = s.bound;
    words = λ p i k. widened k p i ∙ ap (or_zero (is_new p i)) (s.words p i k) ∙ later (first_of m c) (until h k) p i
        ∙ ap (λ (f : Memory). memory_at f (until h k) p i) (sym widened_first);
    since = s.since;
  }

-- what a history begins anew with is what it has come to
pub begun_restarted : (h : History) → IsSound h → begun h ≡ restarted (past_of h)
begun_restarted h s =
    ap (λ (m : Memory). past m h.satp (entries_of h.protection.present) []) (fun_ext (λ p. fun_ext (λ i. come_to p i)))
    ∙ ap (λ (satp : ℕ). past (memory_of (past_of h)) satp (entries_of h.protection.present) []) s.satps.now
    ∙ ap (λ (es : List PmpEntry). past (memory_of (past_of h)) (satp_of (past_of h)) es []) s.writes.now
  where
    come_to : (p i : ℕ) → (if is_place p i then word_of h.memory (number_at p i) else None) ≡ memory_of (past_of h) p i
    come_to p i =
        ap (λ (o : Option Change). if is_place p i then word_before o (word_of h.memory (number_at p i)) (is_zeroed h.memory (number_at p i)) else None)
        (sym (after_none (changes_at h.changes (number_at p i)) (length (events_of h)) (s.stores.bound (number_at p i))))
        ∙ s.stores.words p i (length (events_of h))
        ∙ ap (λ (g : List Event). memory_at (first_of h.memory h.changes) g p i) (until_now (events_of h) (length (events_of h)) (omega arith))
