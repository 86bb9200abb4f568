-- `Shares`: in every run since boot, if two processes have a page on one frame (one copy number), then it is the same page,
-- with the same bytes, and with the copy-on-write mark if it may be written. Used for this: how a process's pages become those
-- after its step (`OwnFrames`), and that each settled page has a grant (`GrantedPages`).
use Rattle.std.proofs.Common.{◌≡◌, ◌≢◌, ◌⊎◌, ℕ, zero, suc, Bool, true, false, cond, not, ◌||◌, ◌==◌, ◌≤◌, inl, inr, refl, sym, ap, subst, ◌∙◌, arith, List, [], ◌∷◌, ◌++◌, Option, None, Some}
use Rattle.std.specs.List.{list_any}
use Rattle.std.specs.Ordering.{eq_by_cmp, nat_cmp}
use Rattle.std.specs.FinMap.Entries.{find}
use Rattle.std.specs.Prelude.{option_map, Result, Ok, Err, slice_get, slice_set}
use Rattle.std.proofs.lemmas.List.{append-nil, append_assoc}
use Rattle.std.proofs.lemmas.Bool.{cases_eq, eq-eqb, false≢true}
use Rattle.std.proofs.lemmas.Option.{same_Some}
use Rattle.process_laws.proofs.Children.{child_put}
use Rattle.process_laws.proofs.CopyFrames.{are_new, New}
use Rattle.process_laws.proofs.EveryChange.{always_holds, none_in_empty}
use Rattle.process_laws.proofs.Fresh.{fresh_is_kept}
use Rattle.process_laws.proofs.GrantedPages.{always_granted, Granted}
use Rattle.process_laws.proofs.Granting.{always_sound, IsSound}
use Rattle.process_laws.proofs.HeldBytes.{free_there, in_range, none_some, set_puts}
use Rattle.process_laws.proofs.OwnFrames.{as_step, Housed, own}
use Rattle.process_laws.proofs.PageOrigins.{Came, image_anew, Lone}
use Rattle.process_laws.proofs.Kept.{step_keeps}
use Rattle.process_laws.proofs.KnownRuns.{run_one_more}
use Rattle.process_laws.proofs.OnHarts.{kernel_good, on_hart_good}
use Rattle.process_laws.proofs.Others.{kept_by}
use Rattle.process_laws.proofs.OwnSteps.{Own, owns, told_as}
use Rattle.process_laws.proofs.PageCopies.{among_found, any_copy, copies, one_of}
use Rattle.process_laws.proofs.Refused.{refused_same}
use Rattle.process_laws.proofs.Replies.{step_hosted}
use Rattle.process_laws.proofs.Running.{step_process}
use Rattle.process_laws.proofs.SetSizes.{Among}
use Rattle.process_laws.proofs.SlotSums.{full_slot}
use Rattle.process_laws.proofs.StepReplies.{step_suits}
use Rattle.process_laws.proofs.Untouched.{get_set_other}
use Rattle.process_laws.specs.CopyNumbers.{HasNewCopies}
use Rattle.process_laws.specs.Headline.{Becomes}
use Rattle.process_laws.specs.Moments.{Moment, slot_on}
use Rattle.process_laws.specs.Latest.{byte_at, page_byte}
use Rattle.process_laws.specs.FrameNeeds.{copy_on, IsSharedPage}
use Rattle.process_laws.specs.Pages.{Grant, grant, grant_in, has_mark, is_remapped}
use Rattle.process_laws.specs.Words.{hart_of_step, is_reply, IsMade, IsOnHart, starts_in_slot}
use Rattle.process_model.specs.Calls.{forked, forked_unless, started, started_unless}
use Rattle.process_model.proofs.EachValue.{found_each}
use Rattle.process_model.specs.Files.{File}
use Rattle.process_model.specs.Frames.{copies_of, has_copy, live}
use Rattle.process_model.specs.ImageProcess.{process_of}
use Rattle.process_model.specs.Images.{image_loads, LoadSegment}
use Rattle.process_model.specs.PageMap.{get}
use Rattle.process_model.specs.Process.{grants_write, Page, Process, regions}
use Rattle.process_model.specs.Regions.{lacks_right, Region, region_at}
use Rattle.process_model.specs.Residence.{child_of, child_page, marked, marked_page}
use Rattle.process_model.specs.Steps.{plain_step, run, step}
use Rattle.process_model.specs.World.{booted, flat, free_slot, others_have, StepOutcome, process_in, with_process, World}
use Rattle.process_model.specs.declared.image.BadImage.{BadImage}
use Rattle.process_model.specs.declared.image.Image.{Image}
use Rattle.process_model.specs.declared.config.Config.{Config}
use Rattle.process_model.specs.declared.reply.Refusal.{Refusal}
use Rattle.process_model.specs.declared.reply.Reply.{Reply}
use Rattle.process_model.specs.declared.reply.ScalarReply.TheVariants.{Done, Forked, Refused, Started}
use Rattle.process_model.specs.declared.reply.Reply.TheVariants.{Scalar}
use Rattle.process_model.specs.declared.step.Step.{Step}
use Rattle.process_model.specs.declared.step.Step.TheVariants as step_of
use Rattle.sv39_entry.specs.declared.access.Access.TheVariants as access

-- ---- the invariant

pub record IsOnePage (p : Process) (one two : ℕ) (x y : Page) : Type 0 where
  pub same : one ≡ two
  pub bytes : x.bytes ≡ y.bytes
  pub marked : grants_write p one ≡ true → x.cow ≡ true

pub record Shares (w : World) : Type 0 where
  pub pages : (s t one two : ℕ) (p q : Process) (x y : Page) → s ≢ t → process_in w s ≡ Some p → process_in w t ≡ Some q → get p.settled one ≡ Some x → get q.settled two ≡ Some y → x.copy ≡ y.copy → IsOnePage p one two x y

-- ---- which processes have a number

has_number : (c : ℕ) (q : Process) → has_copy c q ≡ true → (k : ℕ) × (x : Page) × (get q.settled k ≡ Some x) × (c ≡ x.copy)
has_number c q e = among_found q.settled.entries q.settled.sorted c (any_copy c (copies_of q) e)

some_has : (c : ℕ) (slots : List (Option Process)) → list_any (has_copy c) (live slots) ≡ true → (t : ℕ) × (q : Process) × (slice_get slots t ≡ Some (Some q)) × (has_copy c q ≡ true)
some_has c [] e = absurd cc
some_has c (None ∷ slots) e = let rest = some_has c slots e in (suc rest.0, rest.1, rest.2, rest.3)
some_has c (Some q ∷ slots) e = elim (one_of (has_copy c q) (list_any (has_copy c) (live slots)) e) [
  | inl here ↦ (0, q, refl, here)
  | inr there ↦ let rest = some_has c slots there in (suc rest.0, rest.1, rest.2, rest.3)
]

or_right : (a b : Bool) → b ≡ true → (a || b) ≡ true
or_right true b e = refl
or_right false b e = e

or_left : (a b : Bool) → a ≡ true → (a || b) ≡ true
or_left true b e = refl
or_left false b e = absurd cc

any_has : (c t : ℕ) (q : Process) (slots : List (Option Process)) → slice_get slots t ≡ Some (Some q) → has_copy c q ≡ true → list_any (has_copy c) (live slots) ≡ true
any_has c t q [] there e = absurd cc
any_has c zero q (None ∷ slots) there e = absurd cc
any_has c (suc t) q (None ∷ slots) there e = any_has c t q slots there e
any_has c zero q (Some r ∷ slots) there e = let same : r ≡ q = cc in or_left (has_copy c r) (list_any (has_copy c) (live slots)) (ap (has_copy c) same ∙ e)
any_has c (suc t) q (Some r ∷ slots) there e = or_right (has_copy c r) (list_any (has_copy c) (live slots)) (any_has c t q slots there e)

set_there : {A : Type 0} (xs : List A) (i : ℕ) (x y : A) → slice_get xs i ≡ Some x → slice_get (slice_set xs i y) i ≡ Some y
set_there [] i x y e = absurd cc
set_there (z ∷ zs) zero x y e = refl
set_there (z ∷ zs) (suc i) x y e = set_there zs i x y e

number_in : (c k : ℕ) (x : Page) (es : List (ℕ × Page)) → Among c (copies es) → list_any (λ n. n == c) (copies es) ≡ true
number_in c k x [] i = absurd i
number_in c k x (e ∷ es) (inl same) = or_left ((e.1).copy == c) (list_any (λ n. n == c) (copies es)) (eq-eqb (e.1).copy c (sym same))
number_in c k x (e ∷ es) (inr i) = or_right ((e.1).copy == c) (list_any (λ n. n == c) (copies es)) (number_in c k x es i)

module _ (w : World) (s : ℕ) (p : Process) (lives : process_in w s ≡ Some p) where
  -- a process in another slot that has the number
  other_has : (c : ℕ) → others_have w s c ≡ true → (t : ℕ) × (q : Process) × (s ≢ t) × (process_in w t ≡ Some q) × (has_copy c q ≡ true)
  other_has c e =
      let it = some_has c (slice_set w.slots s None) e in
      let apart : s ≢ it.0 = λ same. let none = set_there w.slots s (Some p) None (full_slot (slice_get w.slots s) p lives) in let no = sym none ∙ ap (slice_get (slice_set w.slots s None)) same ∙ it.2 in absurd cc in
      (it.0, it.1, apart, ap flat (sym (get_set_other w.slots s it.0 None apart) ∙ it.2), it.3)

  pub lone_of : Shares w → (page : ℕ) (x : Page) → get p.settled page ≡ Some x → grants_write p page ≡ true → x.cow ≡ false → others_have w s x.copy ≡ false
  lone_of f page x there grants none = by (others_have w s x.copy) refl
    where
      by : (b : Bool) → others_have w s x.copy ≡ b → b ≡ false
      by false e = refl
      by true e =
          let t = other_has x.copy e in
          let y = has_number x.copy t.1 t.4 in
          absurd (false≢true (sym none ∙ (f.pages s t.0 page y.0 p t.1 x y.1 t.2 lives t.3 there y.2 y.3).marked grants))

number_among : (k : ℕ) (x : Page) (es : List (ℕ × Page)) → find nat_cmp k es ≡ Some x → Among x.copy (copies es)
number_among k x [] e = absurd cc
number_among k x (d ∷ es) e = elim (eq_by_cmp nat_cmp k d.0) as (λ b. cond b (Some d.1) (find nat_cmp k es) ≡ Some x → Among x.copy (copies (d ∷ es))) [
  | true ↦ λ is. inl (ap (λ (z : Page). z.copy) (sym (same_Some d.1 x is)))
  | false ↦ λ is. inr (number_among k x es is)
] e

others_true : (w : World) (s t k : ℕ) (q : Process) (x : Page) → s ≢ t → process_in w t ≡ Some q → get q.settled k ≡ Some x → others_have w s x.copy ≡ true
others_true w s t k q x apart lives there =
    any_has x.copy t q (slice_set w.slots s None) (get_set_other w.slots s t None apart ∙ full_slot (slice_get w.slots t) q lives) (number_in x.copy k x q.settled.entries (number_among k x q.settled.entries there))

-- ---- one process changes

-- where page y of the process in slot s, now q, came from
data KeptPage (w : World) (s : ℕ) (q : Process) (page : ℕ) (y : Page) : Type 0 where
  later : w.counter ≤ y.copy → KeptPage w s q page y
  lone : (p : Process) (x : Page) → process_in w s ≡ Some p → get p.settled page ≡ Some x → y.copy ≡ x.copy → others_have w s x.copy ≡ false → KeptPage w s q page y
  held : (p : Process) (x : Page) → process_in w s ≡ Some p → get p.settled page ≡ Some x → y.copy ≡ x.copy → y.bytes ≡ x.bytes → (grants_write q page ≡ true → (grants_write p page ≡ true → x.cow ≡ true) → y.cow ≡ true) → KeptPage w s q page y

abbrev Origin : World → World → ℕ → Process → Type 0
Origin w v s q = (t : ℕ) (r : Process) → process_in v t ≡ Some r → ((t ≡ s) × (r ≡ q)) ⊎ ((s ≢ t) × (process_in w t ≡ Some r))

module _ (w v : World) (s : ℕ) (q : Process) (new : HasNewCopies w) (f : Shares w) (origin : Origin w v s q) (kept : (page : ℕ) (y : Page) → get q.settled page ≡ Some y → KeptPage w s q page y) where
  one_side : (t one two : ℕ) (r : Process) (y z : Page) → s ≢ t → process_in w t ≡ Some r → get r.settled two ≡ Some z → y.copy ≡ z.copy → KeptPage w s q one y → IsOnePage q one two y z × IsOnePage r two one z y
  one_side t one two r y z apart lives there e (KeptPage.later le) = let low = new.below t two r z lives there in absurd (omega (arith, low, le, e))
  one_side t one two r y z apart lives there e (KeptPage.lone p x was at copy alone) =
      absurd (false≢true (sym alone ∙ ap (others_have w s) (sym copy ∙ e) ∙ others_true w s t two r z apart lives there))
  one_side t one two r y z apart lives there e (KeptPage.held p x was at copy bytes mark) =
      let a = f.pages s t one two p r x z apart was lives at there (sym copy ∙ e) in
      let b = f.pages t s two one r p z x (λ is. apart (sym is)) lives was there at (sym e ∙ copy) in (
        record { same = a.same; bytes = bytes ∙ a.bytes; marked = λ g. mark g a.marked },
        record { same = b.same; bytes = b.bytes ∙ sym bytes; marked = b.marked },
      )

  moved : Shares v
  moved = record {
    pages = λ one_slot two_slot one two a b x y apart lives others at there e. elim (origin one_slot a lives) [
      | inl here ↦ elim (origin two_slot b others) [
        | inl so ↦ absurd (apart (here.0 ∙ sym so.0))
        | inr so ↦ subst (λ (z : Process). IsOnePage z one two x y) (sym here.1) (let mine = ap (λ (z : Process). get z.settled one) (sym here.1) ∙ at in (one_side two_slot one two b x y so.0 so.1 there e (kept one x mine)).0)
      ]
      | inr here ↦ elim (origin two_slot b others) [
        | inl so ↦ let mine = ap (λ (z : Process). get z.settled two) (sym so.1) ∙ there in (one_side one_slot two one a y x here.0 here.1 at (sym e) (kept two y mine)).1
        | inr so ↦ f.pages one_slot two_slot one two a b x y apart here.1 so.1 at there e
      ]
    ];
  }

-- no process comes or changes
fewer : (w v : World) → ((t : ℕ) (r : Process) → process_in v t ≡ Some r → process_in w t ≡ Some r) → Shares w → Shares v
fewer w v sub f = record { pages = λ s t one two p q x y apart lives others. f.pages s t one two p q x y apart (sub s p lives) (sub t q others) }

-- it has p's pages, marked
abbrev Mine : Process → Process → Type 0
Mine p a = (a ≡ marked p) ⊎ (a ≡ child_of p)

-- ---- a start

module _ (w : World) (new : HasNewCopies w) (f : Shares w) where
  start_unless : (slot : ℕ) (ls : List LoadSegment) (b : Bool) → free_slot w ≡ Some slot → Shares (started_unless w slot ls b).world
  start_unless slot ls true free = f
  start_unless slot ls false free =
      let q = process_of w.scheme w.counter ls in
      let v = (started_unless w slot ls false).world in
      let puts = set_puts w v slot (Some q) (let room = free_there w.slots 0 slot free in omega (arith, room)) refl in
      moved w v slot q new f (λ t r lives. elim (cases_eq slot t) [
        | inl same ↦ inl (sym same, same_Some r q (sym lives ∙ ap (process_in v) (sym same) ∙ puts.here))
        | inr apart ↦ inr (apart, sym (puts.others t apart) ∙ lives)
      ]) (λ page y there. KeptPage.later ((image_anew w.scheme w.counter ls).above page y there))

  start_as : (r : Result (List LoadSegment) BadImage) (o : Option ℕ) → free_slot w ≡ o → Shares (started w r o).world
  start_as r None free = f
  start_as (Err e) (Some slot) free = f
  start_as (Ok ls) (Some slot) free = start_unless slot ls _ free

  -- ---- a fork

  module _ (s : ℕ) (p : Process) (lives : process_in w s ≡ Some p) where
    abbrev w1 : World
    w1 = with_process w s (marked p)

    or_true : (a : Bool) → (a || true) ≡ true
    or_true true = refl
    or_true false = refl

    parent_page : (page : ℕ) (y : Page) → get (marked p).settled page ≡ Some y → KeptPage w s (marked p) page y
    parent_page page y there =
        let x = found_each (marked_page p) p.settled page y there in
        KeptPage.held p x.0 lives x.1 (ap (λ (z : Page). z.copy) (sym x.2)) (ap (λ (z : Page). z.bytes) (sym x.2)) (λ g h. ap (λ (z : Page). z.cow) (sym x.2) ∙ ap (λ b. x.0.cow || b) g ∙ or_true x.0.cow)

    parent_shares : Shares w1
    parent_shares =
        let puts = set_puts w w1 s (Some (marked p)) (in_range w s p lives) refl in
        moved w w1 s (marked p) new f (λ t r there. elim (cases_eq s t) [
          | inl same ↦ inl (sym same, same_Some r (marked p) (sym there ∙ ap (process_in w1) (sym same) ∙ puts.here))
          | inr apart ↦ inr (apart, sym (puts.others t apart) ∙ there)
        ]) parent_page

    fork_unless : (child : ℕ) (b : Bool) → free_slot w ≡ Some child → Shares (forked_unless w s p child b).world
    fork_unless child true free = f
    fork_unless child false free = record {
      pages = λ one_slot two_slot one two a b x y apart there others at near e. elim (holder one_slot a there) [
        | inl mine ↦ elim (holder two_slot b others) [
          | inl theirs ↦ both one two a b x y mine theirs at near e
          | inr so ↦
              let u = origin one a x mine at in
              let k = f.pages s two_slot one two p b u.0 y so.0 lives so.1 u.1 near (sym u.2 ∙ e) in
              record { same = k.same; bytes = u.3 ∙ k.bytes; marked = u.4 }
        ]
        | inr here ↦ elim (holder two_slot b others) [
          | inl theirs ↦
              let u = origin two b y theirs near in
              let k = f.pages one_slot s one two a p x u.0 (λ is. here.0 (sym is)) here.1 lives at u.1 (e ∙ u.2) in
              record { same = k.same; bytes = k.bytes ∙ sym u.3; marked = k.marked }
          | inr so ↦ f.pages one_slot two_slot one two a b x y apart here.1 so.1 at near e
        ]
      ];
    }
      where
        holder : (t : ℕ) (a : Process) → process_in (with_process w1 child (child_of p)) t ≡ Some a → Mine p a ⊎ ((s ≢ t) × (process_in w t ≡ Some a))
        holder t a there = elim (cases_eq child t) [
          | inl same ↦ inl (inr (same_Some a (child_of p) (sym there ∙ ap (process_in (with_process w1 child (child_of p))) (sym same) ∙ (child_put w s p child free).here)))
          | inr apart ↦
              let was : process_in w1 t ≡ Some a = sym ((child_put w s p child free).others t apart) ∙ there in
              let puts = set_puts w w1 s (Some (marked p)) (in_range w s p lives) refl in
              elim (cases_eq s t) [
                | inl same ↦ inl (inl (same_Some a (marked p) (sym was ∙ ap (process_in w1) (sym same) ∙ puts.here)))
                | inr far ↦ inr (far, sym (puts.others t far) ∙ was)
              ]
        ]

        from_marked : (one : ℕ) (x : Page) → get (marked p).settled one ≡ Some x → (u : Page) × (get p.settled one ≡ Some u) × (x.copy ≡ u.copy) × (x.bytes ≡ u.bytes) × (grants_write p one ≡ true → x.cow ≡ true)
        from_marked one x at =
            let u = found_each (marked_page p) p.settled one x at in
            (u.0, u.1, ap (λ (z : Page). z.copy) (sym u.2), ap (λ (z : Page). z.bytes) (sym u.2), λ g. ap (λ (z : Page). z.cow) (sym u.2) ∙ ap (λ b. u.0.cow || b) g ∙ or_true u.0.cow)

        from_child : (one : ℕ) (x : Page) → get (child_of p).settled one ≡ Some x → (u : Page) × (get p.settled one ≡ Some u) × (x.copy ≡ u.copy) × (x.bytes ≡ u.bytes) × (grants_write p one ≡ true → x.cow ≡ true)
        from_child one x at =
            let u = found_each (child_page p) p.settled one x at in
            (u.0, u.1, ap (λ (z : Page). z.copy) (sym u.2), ap (λ (z : Page). z.bytes) (sym u.2), λ g. ap (λ (z : Page). z.cow) (sym u.2) ∙ ap (λ b. u.0.cow || b) g ∙ or_true u.0.cow)

        origin : (one : ℕ) (a : Process) (x : Page) → Mine p a → get a.settled one ≡ Some x → (u : Page) × (get p.settled one ≡ Some u) × (x.copy ≡ u.copy) × (x.bytes ≡ u.bytes) × (grants_write a one ≡ true → x.cow ≡ true)
        origin one a x (inl is) at =
            let u = from_marked one x (ap (λ (z : Process). get z.settled one) (sym is) ∙ at) in
            (u.0, u.1, u.2, u.3, λ g. u.4 (ap (λ (z : Process). grants_write z one) (sym is) ∙ g))
        origin one a x (inr is) at =
            let u = from_child one x (ap (λ (z : Process). get z.settled one) (sym is) ∙ at) in
            (u.0, u.1, u.2, u.3, λ g. u.4 (ap (λ (z : Process). grants_write z one) (sym is) ∙ g))

        both : (one two : ℕ) (a b : Process) (x y : Page) → Mine p a → Mine p b → get a.settled one ≡ Some x → get b.settled two ≡ Some y → x.copy ≡ y.copy → IsOnePage a one two x y
        both one two a b x y mine theirs at near e =
            let u = origin one a x mine at in
            let z = origin two b y theirs near in
            let same : one ≡ two = new.once s one two p u.0 z.0 lives u.1 z.1 (sym u.2 ∙ e ∙ z.2) in
            let alike : u.0 ≡ z.0 = same_Some u.0 z.0 (sym u.1 ∙ ap (get p.settled) same ∙ z.1) in
            record { same = same; bytes = u.3 ∙ ap (λ (r : Page). r.bytes) alike ∙ sym z.3; marked = u.4 }

    fork_as : (o : Option ℕ) → free_slot w ≡ o → Shares (forked w s p o).world
    fork_as None free = f
    fork_as (Some child) free = fork_unless child _ free

-- ---- a process's own step

writes_of : Option Grant → Bool
writes_of None = false
writes_of (Some g) = g.writes

writes_at : (o : Option Region) (page : ℕ) → not (lacks_right access.Store o) ≡ writes_of (grant_in o page)
unfolding writes_of
writes_at None page = refl
writes_at (Some r) page = elim r.writes as (λ b. not (not b) ≡ b) [ true ↦ refl | false ↦ refl ]

writes_is : (p : Process) (page : ℕ) → grants_write p page ≡ writes_of (grant p page)
writes_is p page = writes_at (region_at (regions p) page) page

exec_done : (h : ℕ) (image : Image) (r : Reply) (page : ℕ) → is_remapped (step_of.Exec h image) r page ≡ true → r ≡ Scalar Done
exec_done h image (Scalar Done) page e = refl
exec_done h image r page e = absurd cc

module _ (w : World) (h s : ℕ) (p : Process) (on : IsOnHart w h s p) (new : HasNewCopies w) (f : Shares w) (granted : Granted p) (sound : IsSound p) (x : Step) (makes : hart_of_step x ≡ Some h) where
  lone_here : Lone w.counter (others_have w s) p
  lone_here = lone_of w s p on.lives f

  -- a page that is still settled may be written only if it could be
  writes_still : (m : Moment) (q : Process) (page : ℕ) (y : Page) → get p.settled page ≡ Some y → Becomes m h p q → (is_remapped m.step m.reply page ≡ true → (image : Image) → m.step ≢ step_of.Exec h image) → grants_write q page ≡ true → grants_write p page ≡ true
  unfolding writes_of
  writes_still m q page y there k other may = by (is_remapped m.step m.reply page) refl
    where
      by : (b : Bool) → is_remapped m.step m.reply page ≡ b → grants_write p page ≡ true
      by false e = writes_is p page ∙ ap writes_of (sym (k.stays page e).0) ∙ sym (writes_is q page) ∙ may
      by true e = elim (k.vacant page e (other e)) [
        | inl none ↦ absurd (granted.grants page y there none)
        | inr none ↦ absurd (false≢true (sym (writes_is q page ∙ ap writes_of none) ∙ may))
      ]

  came_kept : (q : Process) (page : ℕ) (y : Page) → ((u : Page) → get p.settled page ≡ Some u → grants_write q page ≡ true → grants_write p page ≡ true) → Came w.counter (others_have w s) (get p.settled page) y → KeptPage w s q page y
  came_kept q page y grants (Came.fresh le parted) = KeptPage.later le
  came_kept q page y grants (Came.kept u is copy mark bytes) = elim bytes [
    | inr alone ↦ KeptPage.lone p u on.lives is copy alone
    | inl same ↦ by u.cow refl same
  ]
    where
      by : (b : Bool) → u.cow ≡ b → y.bytes ≡ u.bytes → KeptPage w s q page y
      by true e same = elim (mark e) [
        | inl now ↦ KeptPage.held p u on.lives is copy same (λ g k. now)
        | inr alone ↦ KeptPage.lone p u on.lives is copy alone
      ]
      by false e same = KeptPage.held p u on.lives is copy same (λ g k. absurd (false≢true (sym e ∙ k (grants u is g))))

  -- no process comes
  no_starts : (r : Reply) → ((t : ℕ) → r ≢ Scalar (Started t)) → ((t : ℕ) → r ≢ Scalar (Forked t)) → (t : ℕ) → starts_in_slot r t ≡ false
  no_starts (Scalar (Started u)) a b t = absurd (a u refl)
  no_starts (Scalar (Forked u)) a b t = absurd (b u refl)
  no_starts r a b t = refl

  others_were : ((t : ℕ) → (step w x).reply ≢ Scalar (Started t)) → ((t : ℕ) → (step w x).reply ≢ Scalar (Forked t)) → (t : ℕ) (r : Process) → s ≢ t → process_in (step w x).world t ≡ Some r → process_in w t ≡ Some r
  others_were a b t r apart there = by (process_in w t) refl
    where
      by : (o : Option Process) → process_in w t ≡ o → process_in w t ≡ Some r
      by None e = absurd (none_some (sym ((step_keeps w x).empty t e (no_starts (step w x).reply a b t)) ∙ there))
      by (Some z) e =
          let still : process_in (step w x).world t ≡ Some z = kept_by t z w x (λ k is on_it. apart (same_Some s t (sym on.there ∙ ap (slot_on w) (same_Some h k (sym makes ∙ is)) ∙ on_it))) e in
          e ∙ ap Some (same_Some z r (sym still ∙ there))

  origin_by : ((t : ℕ) → (step w x).reply ≢ Scalar (Started t)) → ((t : ℕ) → (step w x).reply ≢ Scalar (Forked t)) → (q : Process) → process_in (step w x).world s ≡ Some q → Origin w (step w x).world s q
  origin_by a b q here t r there = elim (cases_eq s t) [
    | inl same ↦ inl (sym same, same_Some r q (sym there ∙ ap (process_in (step w x).world) (sym same) ∙ here))
    | inr apart ↦ inr (apart, others_were a b t r apart there)
  ]

  becomes_there : (q : Process) → process_in (step w x).world s ≡ Some q → Own w h s x p (step w x) → Becomes (told_as w x (step w x).reply) h p q
  becomes_there q there (Own.alive r e lives k) = subst (Becomes (told_as w x (step w x).reply) h p) (same_Some r q (sym e ∙ there)) k
  becomes_there q there (Own.gone e is at written) = absurd (none_some (sym e ∙ there))

  housed_shares : ((t : ℕ) → (step w x).reply ≢ Scalar (Started t)) → ((t : ℕ) → (step w x).reply ≢ Scalar (Forked t)) → Housed w h s p on lone_here x (step w x) → Shares (step w x).world
  housed_shares a b (Housed.alive q there k other) =
      let become = becomes_there q there (owns w h s p on sound x makes) in
      moved w (step w x).world s q new f (origin_by a b q there) (λ page y at. came_kept q page y
      (λ u is. writes_still (told_as w x (step w x).reply) q page u is become (λ e image so. other image so (exec_done h image (step w x).reply page (sym (ap (λ z. is_remapped z (step w x).reply page) so) ∙ e))))
      (k.copies page y at))
  housed_shares a b (Housed.anew q there k image is done) = moved w (step w x).world s q new f (origin_by a b q there) (λ page y at. KeptPage.later (k.above page y at))
  housed_shares a b (Housed.gone none) = fewer w (step w x).world (λ t r there. elim (cases_eq s t) [
    | inl same ↦ absurd (none_some (sym none ∙ ap (process_in (step w x).world) same ∙ there))
    | inr apart ↦ others_were a b t r apart there
  ]) f

  own_shares : ((t : ℕ) → (step w x).reply ≢ Scalar (Started t)) → ((t : ℕ) → (step w x).reply ≢ Scalar (Forked t)) → Shares (step w x).world
  own_shares a b = housed_shares a b (as_step w h s p on lone_here x (own w h s p on lone_here x makes))

-- ---- each step

made_or : (r : Reply) → ((e : Refusal) × (r ≡ Scalar (Refused e))) ⊎ IsMade r
made_or (Scalar (Refused e)) = inl (e, refl)
made_or r = inr (λ e is. absurd cc)

forked_or : (r : Reply) → ((t : ℕ) × (r ≡ Scalar (Forked t))) ⊎ ((t : ℕ) → r ≢ Scalar (Forked t))
forked_or (Scalar (Forked t)) = inl (t, refl)
forked_or r = inr (λ t is. absurd cc)

started_only : (x : Step) (t h : ℕ) → is_reply x (Scalar (Started t)) ≡ true → hart_of_step x ≡ Some h → ⊥
started_only (step_of.Start image) t h e makes = absurd cc
started_only x t h e makes = absurd cc

fork_only : (x : Step) (t : ℕ) → is_reply x (Scalar (Forked t)) ≡ true → (k : ℕ) × (x ≡ step_of.Fork k)
fork_only (step_of.Fork k) t e = (k, refl)
fork_only x t e = absurd cc

module _ (w : World) (new : HasNewCopies w) (f : Shares w) (granted : (s : ℕ) (p : Process) → process_in w s ≡ Some p → Granted p) (sound : (s : ℕ) (p : Process) → process_in w s ≡ Some p → IsSound p) where
  abbrev Good : StepOutcome → Type 0
  Good o = Shares o.world

  still_shares : (v : World) → v.slots ≡ w.slots → Shares v
  still_shares v same = fewer w v (λ t r e. ap (λ slots. flat (slice_get slots t)) (sym same) ∙ e) f

  plain_shares : (x : Step) → hart_of_step x ≡ None → Shares (plain_step w x).world
  plain_shares (step_of.Start image) none = start_as w new f (image_loads w.scheme image) (free_slot w) refl
  plain_shares (step_of.Switch h slot) none = on_hart_good w Good (λ r. f) h _ _ _ _ (λ hart is _. still_shares _ refl)
  plain_shares (step_of.Next h) none = on_hart_good w Good (λ r. f) h _ _ _ _ (λ hart is _. still_shares _ refl)
  plain_shares (step_of.Fill h address) none = on_hart_good w Good (λ r. f) h _ _ _ _ (λ hart is _. still_shares _ refl)
  plain_shares (step_of.Evict h n) none = on_hart_good w Good (λ r. f) h _ _ _ _ (λ hart is _. still_shares _ refl)
  plain_shares (step_of.TrampolineFetch h offset via) none = on_hart_good w Good (λ r. f) h _ _ _ _ (λ hart is _. still_shares _ refl)
  plain_shares x none = absurd cc

  fork_shares : (k : ℕ) → Shares (plain_step w (step_of.Fork k)).world
  fork_shares k = kernel_good w Good (λ r. f) k true _ (λ hart t q at here. fork_as w new f t q here (free_slot w) refl)

  to_step : (x : Step) → Shares (plain_step w x).world → Shares (step w x).world
  to_step x = fewer (plain_step w x).world (step w x).world (λ t r e. sym (step_process w x t) ∙ e)

  made_shares : (x : Step) (h : ℕ) → hart_of_step x ≡ Some h → IsMade (step w x).reply → Shares (step w x).world
  made_shares x h makes made = elim (forked_or (step w x).reply) [
    | inl forked ↦ let k = fork_only x forked.0 (ap (is_reply x) (sym forked.1) ∙ (step_suits w x).replies) in to_step x (subst (λ (y : Step). Shares (plain_step w y).world) (sym k.1) (fork_shares k.0))
    | inr other ↦
        let it = step_hosted w h x makes made in
        own_shares w h it.0 it.1 it.2 new f (granted it.0 it.1 it.2.lives) (sound it.0 it.1 it.2.lives) x makes (λ t is. started_only x t h (ap (is_reply x) (sym is) ∙ (step_suits w x).replies) makes) other
  ]

  own_or : (x : Step) (h : ℕ) → hart_of_step x ≡ Some h → Shares (step w x).world
  own_or x h makes = elim (made_or (step w x).reply) [
    | inl was ↦ subst Shares (sym (refused_same w x was.0 was.1)) f
    | inr made ↦ made_shares x h makes made
  ]

  pub step_shares : (x : Step) → Shares (step w x).world
  step_shares x = by (hart_of_step x) refl
    where
      by : (o : Option ℕ) → hart_of_step x ≡ o → Shares (step w x).world
      by None e = to_step x (plain_shares x e)
      by (Some h) e = own_or x h e

-- ---- every run

module _ (c : Config) (files : List File) where
  abbrev after : List Step → World
  after done = (run (booted c files) done).world

  more_shares : (xs done : List Step) → Shares (after done) → Shares (after (done ++ xs))
  more_shares [] done f = subst (λ ys. Shares (after ys)) (sym (append-nil done)) f
  more_shares (x ∷ xs) done f =
      let w = after done in
      let next = step_shares w (are_new w (always_holds New c files done (fresh_is_kept c.scheme))) f (always_granted c files done) (always_sound c files done) x in
      subst (λ ys. Shares (after ys)) (append_assoc done (x ∷ []) xs) (more_shares xs (done ++ x ∷ []) (subst Shares (sym (run_one_more done (booted c files) x)) next))

  pub always_shares : (xs : List Step) → Shares (after xs)
  always_shares xs = more_shares xs [] (record { pages = λ s t one two p q x y apart lives. absurd (none_in_empty c.slots s p lives) })

-- in the words of the headline
pub shared_page : (v : World) → Shares v → (s t one two copy : ℕ) (p q : Process) → s ≢ t → process_in v s ≡ Some p → process_in v t ≡ Some q → copy_on p one ≡ Some copy → copy_on q two ≡ Some copy → IsSharedPage p q one two
unfolding writes_of
shared_page v f s t one two copy p q apart lives others e g = by (get p.settled one) (get q.settled two) refl refl e g
  where
    by : (o u : Option Page) → get p.settled one ≡ o → get q.settled two ≡ u → option_map (λ (z : Page). z.copy) o ≡ Some copy → option_map (λ (z : Page). z.copy) u ≡ Some copy → IsSharedPage p q one two
    by None u at near e g = absurd cc
    by (Some x) None at near e g = absurd cc
    by (Some x) (Some y) at near e g =
        let k = f.pages s t one two p q x y apart lives others at near (same_Some x.copy copy e ∙ sym (same_Some y.copy copy g)) in
        record {
          same = k.same;
          bytes = λ i. ap (λ o. page_byte o i) at ∙ ap (λ bs. Some (byte_at bs i)) k.bytes ∙ sym (ap (λ o. page_byte o i) near);
          marked = λ z has may. ap (has_mark (λ r. r.cow)) at ∙ k.marked (writes_is p one ∙ ap writes_of has ∙ may);
        }
