-- What one more event leaves of satp, fences and PMP: nothing changes (`satps_on`, `ends_on`, `writes_on`), satp or its epoch changes (`satps_new`), or
-- an entry of PMP (`written_pmp`).
use Rattle.std.proofs.Common.{◌≡◌, inl, inr, ℕ, suc, ◌+◌, ◌<◌, ◌≤◌, Bool, true, false, ◌&&◌, ◌||◌, nat_eq, List, [], ◌∷◌, ◌++◌, length, get_or, set, leb, None, Some, if◌then◌else◌, refl, ap, sym, ◌∙◌, subst, arith}
use Rattle.std.specs.List.{list_any}
use Rattle.std.proofs.lemmas.Bool.{and_from, and_parts, cases_lt, eq-eqb, le-leb, lt-leb, lt-ltb, le-ltb, or_cases, or_left, or_right, cond-true, cond-false}
use Rattle.std.proofs.lemmas.List.{get_or_append_left, get_or_at, length-append}
use Rattle.std.proofs.lemmas.List.Folds.{list_any-append, list_any_at}
use Rattle.sv39_entry.specs.Satp.{asid}
use Rattle.walk_rules.specs.declared.pmp.PmpEntry.{PmpEntry}
use Rattle.access_history.specs.History.{pmp_at, pmps_at, satp_at}
use Rattle.access_history.specs.declared.event.Event.{Event}
use Rattle.access_history.specs.declared.event.Event.TheVariants.{WritePmp}
use Rattle.access_judge.specs.Search.{epoch_end, space_fence, until}
use Rattle.mmu.specs.Fencing.{ended, of_end}
use Rattle.mmu.specs.Protecting.{any_by, entries_of}
use Rattle.mmu.specs.Recorded.{AreEnds, AreSatps, AreWrites, covers, is_used, was_used}
use Rattle.mmu.specs.Using.{Extends}
use Rattle.mmu.specs.declared.protection.PmpWrite.{PmpWrite}
use Rattle.mmu.specs.declared.protection.Protection.{Protection}
use Rattle.mmu.specs.declared.fences.Fences.{Fences}
use Rattle.mmu.specs.declared.uses.Used.{Used}
use Rattle.mmu.proofs.Moments.{until_more, until_now}

used_more : (first : ℕ) (e : Event) (h : List Event) (u : Used) → was_used first h u ≡ true → was_used first (e ∷ h) u ≡ true
used_more first e h u used = or_right (is_used first (e ∷ h) u) (was_used first h u) used

used_now : (first : ℕ) (h : List Event) (u : Used) → is_used first h u ≡ true → was_used first h u ≡ true
used_now first [] u is = is
used_now first (e ∷ h) u is = or_left (is_used first (e ∷ h) u) (was_used first h u) is

pub covers_more : (first : ℕ) (e : Event) (h : List Event) (k : ℕ) (u : Used) → k ≤ length h → covers first (e ∷ h) k u ≡ covers first h k u
covers_more first e h k u le =
    ap (λ (g : List Event). nat_eq u.satp (satp_at first g) && nat_eq u.epoch (space_fence g (asid (satp_at first g)))) (until_more e h k le)

-- a word that satp had covers a moment, by its parts
pub covers_by : (first : ℕ) (h : List Event) (k : ℕ) (u : Used) → u.satp ≡ satp_at first (until h k) → u.epoch ≡ space_fence (until h k) (asid u.satp)
    → covers first h k u ≡ true
covers_by first h k u same epoch =
    and_from _ _ (eq-eqb u.satp _ same) (eq-eqb u.epoch _ (epoch ∙ ap (λ (s : ℕ). space_fence (until h k) (asid s)) same))

-- the same word with the same epoch covers it
covers_as : (first : ℕ) (h : List Event) (k : ℕ) (u v : Used) → u.satp ≡ v.satp → u.epoch ≡ v.epoch → covers first h k u ≡ true → covers first h k v ≡ true
covers_as first h k u v satp epoch is =
    let parts = and_parts _ _ is in
    and_from _ _ (ap (λ (s : ℕ). nat_eq s (satp_at first (until h k))) (sym satp) ∙ parts.0)
    (ap (λ (n : ℕ). nat_eq n (space_fence (until h k) (asid (satp_at first (until h k))))) (sym epoch) ∙ parts.1)

abbrev pub used_at : ℕ → ℕ → Used
used_at satp epoch = record { satp = satp; epoch = epoch }

-- the present word covers the moment after one more event
covers_last : (first satp epoch : ℕ) (e : Event) (h : List Event) (k : ℕ) → length h < k → satp ≡ satp_at first (e ∷ h)
    → epoch ≡ space_fence (e ∷ h) (asid satp) → covers first (e ∷ h) k (used_at satp epoch) ≡ true
covers_last first satp epoch e h k late now epoch_now =
    let here : until (e ∷ h) k ≡ e ∷ h = until_now (e ∷ h) k (omega (arith, late)) in
    covers_by first (e ∷ h) k (used_at satp epoch) (now ∙ ap (satp_at first) (sym here)) (epoch_now ∙ ap (λ (g : List Event). space_fence g (asid satp)) (sym here))

any_more : (first : ℕ) (e : Event) (h : List Event) (k : ℕ) → k ≤ length h → (us : List Used) → list_any (covers first h k) us ≡ true
    → list_any (covers first (e ∷ h) k) us ≡ true
any_more first e h k low [] is = is
any_more first e h k low (u ∷ us) is = elim (or_cases _ _ is) [
  | inl one ↦ or_left _ _ (covers_more first e h k u low ∙ one)
  | inr rest ↦ or_right _ _ (any_more first e h k low us rest)
]

-- satp and its epoch stay
pub satps_on : (first satp epoch : ℕ) (past : List Used) (e : Event) (h : List Event) → satp_at first (e ∷ h) ≡ satp_at first h
    → space_fence (e ∷ h) (asid satp) ≡ space_fence h (asid satp) → AreSatps first satp epoch past h → AreSatps first satp epoch past (e ∷ h)
satps_on first satp epoch past e h same same_epoch s = record {
  now = s.now ∙ sym same;
  epoch_now = s.epoch_now ∙ sym same_epoch;
  only = λ k d less. used_more first e h (get_or past k d) (s.only k d less);
  each = λ k le. elim (cases_lt (length h) k) [
    | inl late ↦ or_left _ _ (covers_last first satp epoch e h k late (s.now ∙ sym same) (s.epoch_now ∙ sym same_epoch))
    | inr low ↦ any_more first e h k low (used_at satp epoch ∷ past) (s.each k low)
  ];
}

-- until when each fence of an ASID was the last one, after an event that is none
pub ends_on : (f : Fences) (e : Event) (h : List Event) → ((s : ℕ) → space_fence (e ∷ h) s ≡ space_fence h s) → AreEnds f h → AreEnds f (e ∷ h)
ends_on f e h same s = record {
  each = λ space k le. elim (cases_lt (length h) k) [
    | inl late ↦
        let now = ap (λ (g : List Event). space_fence g space) (until_now (e ∷ h) k (omega (arith, late))) ∙ same space in
        let before = ap (λ (g : List Event). space_fence g space) (until_now h (length h) (omega arith)) in
        subst (λ (n : ℕ). of_end f space n ≡ ended (e ∷ h) space n) (before ∙ sym now) (s.each space (length h) (omega arith) ∙ still space (space_fence (until h (length h)) space))
    | inr low ↦
        let before = ap (λ (g : List Event). space_fence g space) (until_more e h k low) in
        subst (λ (n : ℕ). of_end f space n ≡ ended (e ∷ h) space n) (sym before) (s.each space k low ∙ still space (space_fence (until h k) space))
  ];
  none = λ space epoch late. s.none space epoch (omega (arith, late));
}
  where
    still : (space epoch : ℕ) → ended h space epoch ≡ ended (e ∷ h) space epoch
    still space epoch =
        ap (λ (b : Bool). if b then None else Some (epoch_end h space epoch)) (ap (λ (n : ℕ). nat_eq n epoch) (sym (same space))) ∙ choose (nat_eq (space_fence (e ∷ h) space) epoch)
      where
        choose : (b : Bool) → (if b then None else Some (epoch_end h space epoch)) ≡ (if b then None else Some (if b then suc (length h) else epoch_end h space epoch))
        choose true = refl
        choose false = refl

-- PMP stays
pub writes_on : (p : Protection) (e : Event) (h : List Event) → ((first : List PmpEntry) → pmp_at first (e ∷ h) ≡ pmp_at first h)
    → ((first : List PmpEntry) → pmps_at first (e ∷ h) ≡ pmps_at first h) → AreWrites p h → AreWrites p (e ∷ h)
writes_on p e h same all s = record {
  now = s.now ∙ sym (same (entries_of p.first));
  any = λ test k. s.any test k ∙ elim (cases_lt (length h) k) [
    | inl late ↦ ap (λ (g : List Event). list_any test (pmps_at (entries_of p.first) g)) (until_now h k (omega (arith, late)))
        ∙ ap (list_any test) (sym (all (entries_of p.first)))
        ∙ ap (λ (g : List Event). list_any test (pmps_at (entries_of p.first) g)) (sym (until_now (e ∷ h) k (omega (arith, late))))
    | inr low ↦ ap (λ (g : List Event). list_any test (pmps_at (entries_of p.first) g)) (sym (until_more e h k low))
  ];
}

-- satp, or its epoch, changes: `used` is satp as it was
module _ (first satp epoch : ℕ) (us vs : List Used) (h : List Event) (s : AreSatps first satp epoch us h) (more : Extends us (used_at satp epoch) vs) where
  abbrev used : Used
  used = used_at satp epoch

  used_then : was_used first h used ≡ true
  used_then = used_now first h used (and_from _ _ (eq-eqb _ satp (sym s.now)) (eq-eqb _ epoch (sym s.epoch_now)))

  -- it is there with this epoch, or comes behind all
  same_list : more.0 < length us → vs ≡ us
  same_list l = more.2 ∙ cond-true _ _ _ (lt-ltb more.0 (length us) l)

  longer : length us ≤ more.0 → vs ≡ us ++ used ∷ []
  longer le = more.2 ∙ cond-false _ _ _ (le-ltb more.0 (length us) le)

  -- each of them was had
  push_used : (k : ℕ) (d : Used) → k < length us + 1 → was_used first h (get_or (us ++ used ∷ []) k d) ≡ true
  push_used k d less = elim (cases_lt k (length us)) [
    | inl l ↦ subst (λ (u : Used). was_used first h u ≡ true) (sym (get_or_append_left us (used ∷ []) d k l)) (s.only k d l)
    | inr le ↦ subst (λ (u : Used). was_used first h u ≡ true) (sym (get_or_at us used [] d k (omega (arith, le, less)))) used_then
  ]

  all_used : (k : ℕ) (d : Used) → k < length vs → was_used first h (get_or vs k d) ≡ true
  all_used k d less = elim (cases_lt more.0 (length us)) [
    | inl l ↦
        let is = same_list l in
        let less' : k < length us = omega (arith, less, ap length is) in
        subst (λ (ws : List Used). was_used first h (get_or ws k d) ≡ true) (sym is) (s.only k d less')
    | inr le ↦
        let is = longer le in
        let less' : k < length us + 1 = omega (arith, less, ap length is, length-append us (used ∷ [])) in
        subst (λ (ws : List Used). was_used first h (get_or ws k d) ≡ true) (sym is) (push_used k d less')
  ]

  -- what one of the old ones covers, one of the new ones does
  any_old : (k : ℕ) → list_any (covers first h k) us ≡ true → list_any (covers first h k) vs ≡ true
  any_old k is = elim (cases_lt more.0 (length us)) [
    | inl l ↦ subst (λ (ws : List Used). list_any (covers first h k) ws ≡ true) (sym (same_list l)) is
    | inr le ↦ subst (λ (ws : List Used). list_any (covers first h k) ws ≡ true) (sym (longer le))
        (list_any-append (covers first h k) us (used ∷ []) ∙ or_left _ _ is)
  ]

  any_used : (k : ℕ) → covers first h k used ≡ true → list_any (covers first h k) vs ≡ true
  any_used k is = elim (cases_lt more.0 (length us)) [
    | inl l ↦
        let alike = more.1 used l in
        subst (λ (ws : List Used). list_any (covers first h k) ws ≡ true) (sym (same_list l))
        (list_any_at (covers first h k) us more.0 used l (covers_as first h k used (get_or us more.0 used) (sym alike.0) (sym alike.1) is))
    | inr le ↦ subst (λ (ws : List Used). list_any (covers first h k) ws ≡ true) (sym (longer le))
        (list_any-append (covers first h k) us (used ∷ []) ∙ or_right _ _ (or_left _ _ is))
  ]

  pub satps_new : (e : Event) (now since : ℕ) → now ≡ satp_at first (e ∷ h) → since ≡ space_fence (e ∷ h) (asid now) → AreSatps first now since vs (e ∷ h)
  satps_new e now since is epoch_is = record {
    now = is;
    epoch_now = epoch_is;
    only = λ k d less. used_more first e h (get_or vs k d) (all_used k d less);
    each = λ k le. elim (cases_lt (length h) k) [
      | inl late ↦ or_left _ _ (covers_last first now since e h k late is epoch_is)
      | inr low ↦ or_right _ _ (any_more first e h k low vs (elim (or_cases _ _ (s.each k low)) [
        | inl one ↦ any_used k one
        | inr old ↦ any_old k old
      ]))
    ];
  }

-- an entry of PMP is written
pub written_pmp : (p p' : Protection) (n : ℕ) (e : PmpEntry) (h : List Event) (w : PmpWrite) → p'.first ≡ p.first
    → entries_of p'.present ≡ set (entries_of p.present) n e → p'.writes.items ≡ p.writes.items ++ w ∷ [] → w.number ≡ suc (length h) → w.entries ≡ p'.present
    → AreWrites p h → AreWrites p' (WritePmp n e ∷ h)
written_pmp p p' n e h w first now writes number entries s = record {
  now = is_now;
  any = λ test k. any_now test k ∙ elim (cases_lt (length h) k) [
    | inl late ↦ ap (λ (b : Bool). b || (leb w.number k && test (entries_of w.entries))) (s.any test k ∙ ap (λ (g : List Event). list_any test (pmps_at (entries_of p.first) g)) (until_now h k (omega (arith, late))))
        ∙ ap (λ (b : Bool). list_any test (pmps_at (entries_of p.first) h) || (b && test (entries_of w.entries))) (le-leb w.number k (omega (arith, number, late)))
        ∙ or_flip (list_any test (pmps_at (entries_of p.first) h)) (test (entries_of w.entries))
        ∙ ap (λ (es : List PmpEntry). test es || list_any test (pmps_at (entries_of p.first) h)) (ap entries_of entries ∙ is_now ∙ same_first (WritePmp n e ∷ h))
        ∙ ap (λ (g : List Event). list_any test (pmps_at (entries_of p.first) g)) (sym (until_now (WritePmp n e ∷ h) k (omega (arith, late))))
        ∙ ap (λ (f : List PmpEntry). list_any test (pmps_at f (until (WritePmp n e ∷ h) k))) (sym (ap entries_of first))
    | inr low ↦ ap (λ (b : Bool). any_by test p k || (b && test (entries_of w.entries))) (lt-leb w.number k (omega (arith, number, low)))
        ∙ or_none (any_by test p k) ∙ s.any test k
        ∙ ap (λ (g : List Event). list_any test (pmps_at (entries_of p.first) g)) (sym (until_more (WritePmp n e) h k low))
        ∙ ap (λ (f : List PmpEntry). list_any test (pmps_at f (until (WritePmp n e ∷ h) k))) (sym (ap entries_of first))
  ];
}
  where
    same_first : (g : List Event) → pmp_at (entries_of p'.first) g ≡ pmp_at (entries_of p.first) g
    same_first g = ap (λ f. pmp_at (entries_of f) g) first

    is_now : entries_of p'.present ≡ pmp_at (entries_of p'.first) (WritePmp n e ∷ h)
    is_now = now ∙ ap (λ (es : List PmpEntry). set es n e) (s.now ∙ sym (same_first h))

    or_flip : (a b : Bool) → (a || b) ≡ (b || a)
    or_flip true true = refl
    or_flip true false = refl
    or_flip false true = refl
    or_flip false false = refl

    or_none : (a : Bool) → (a || false) ≡ a
    or_none true = refl
    or_none false = refl

    or_assoc : (a b c : Bool) → (a || (b || c)) ≡ (a || b || c)
    or_assoc true b c = refl
    or_assoc false b c = refl

    any_now : (test : List PmpEntry → Bool) (k : ℕ) → any_by test p' k ≡ (any_by test p k || (leb w.number k && test (entries_of w.entries)))
    any_now test k =
        ap (λ f. test (entries_of f) || list_any (λ (x : PmpWrite). leb x.number k && test (entries_of x.entries)) p'.writes.items) first
        ∙ ap (λ (ws : List PmpWrite). test (entries_of p.first) || list_any (λ (x : PmpWrite). leb x.number k && test (entries_of x.entries)) ws) writes
        ∙ ap (λ (b : Bool). test (entries_of p.first) || b) (list_any-append (λ (x : PmpWrite). leb x.number k && test (entries_of x.entries)) p.writes.items (w ∷ [])
        ∙ ap (λ (b : Bool). list_any (λ (x : PmpWrite). leb x.number k && test (entries_of x.entries)) p.writes.items || b) (or_none (leb w.number k && test (entries_of w.entries))))
        ∙ or_assoc (test (entries_of p.first)) _ _
