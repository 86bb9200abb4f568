-- Lemmas for steps on one hart: when the model refuses them; a machine's harts and processes found by number; and that reply
-- and world (the model's state) are the model's after one hart changed, after `Switch` (`switches`) and after `Next`
-- (`goes_on`), with their refusals.
use Rattle.std.proofs.Common.{◌≡◌, ℕ, zero, suc, ◌+◌, ◌==◌, ◌<◌, get_or, filter, ◌⊎◌, inl, inr, Bool, true, false, Option, None, Some, option_map, is_some, List, [], ◌∷◌, map, not, ◌||◌, ◌&&◌, refl, ap, sym, subst, ◌∙◌, arith, if◌then◌else◌}
use Rattle.std.specs.Prelude.{Contains, option_and_then, slice_get, slice_set, unwrap_or}
use Rattle.std.specs.List.{list_any}
use Rattle.std.specs.Vec.{vec_len, with_item}
use Rattle.std.proofs.lemmas.Bool.{cases_eq, eq-eqb, ne_eqb}
use Rattle.std.proofs.lemmas.List.{map-set}
use Rattle.std.proofs.lemmas.Option.{get_or_from_slice_get, same_Some, slice_get-map, slice_get_within}
use Rattle.std.proofs.Math.Path.{fun_ext}
use Rattle.frame_store.specs.Seats.{place_set_other, place_set_same}
use Rattle.hart_tlb.specs.Entries.{is_fenced}
use Rattle.hart_tlb.specs.declared.entry.TlbEntry.{TlbEntry}
use Rattle.process_model.specs.Harts as model
use Rattle.process_model.specs.Process.{Process}
use Rattle.process_model.specs.Steps.{plain_step}
use Rattle.process_model.specs.declared.step.Step.TheVariants as step
use Rattle.process_model.specs.World.{World, StepOutcome, always, answers, can_go_on, can_run, flat, has_slot, on_hart, on_hart_at, process_in, refuses, with_hart, with_its_process, with_process_of, with_slot_of}
use Rattle.process_model.specs.declared.config.Policy.{Policy}
use Rattle.process_model.specs.declared.config.Policy.TheVariants.{Asid, Full}
use Rattle.process_model.specs.declared.phase.Phase.{Phase}
use Rattle.process_model.specs.declared.phase.Phase.TheVariants as phase
use Rattle.process_model.specs.declared.reply.Refusal.TheVariants.{BadArgument, Impossible, NoEntry}
use Rattle.process_model.specs.declared.reply.Reply.{Reply}
use Rattle.process_model.specs.declared.reply.ScalarReply.TheVariants.{Done, Refused}
use Rattle.process_model.specs.declared.reply.Reply.TheVariants.{Scalar}
use Rattle.process_model.specs.declared.reply.Refusal.{Refusal}
use Rattle.hart_machine.specs.Harts.{advanced, cleaned, cleaned_for, cleaned_if, emptied, fenced, hart_of, is_before_user, key_of}
use Rattle.hart_machine.specs.Slots.{marks_of}
use Rattle.hart_machine.specs.SlotProcesses.{IsSlotProcess}
use Rattle.hart_machine.specs.Worlds.{IsSlotContent, IsWorldButBuffers, IsModelOutcome}
use Rattle.hart_machine.specs.declared.hart.Hart.{Hart}
use Rattle.hart_machine.specs.declared.machine.Machine.{Machine}
use Rattle.hart_machine.specs.declared.slot_process.SlotProcess.{SlotProcess}
use Rattle.hart_machine.proofs.Filtered.{in_filter, later}
use Rattle.process_model.specs.declared.limits.TheConstants.{MOST_SLOTS}

-- refusals

module _ (w : World) (h : ℕ) (proper : Bool) (possible entry : model.Hart → Bool) (run : model.Hart → StepOutcome) where
  pub without_hart : slice_get w.harts h ≡ None → on_hart w h proper possible entry run ≡ refuses w BadArgument
  unfolding on_hart
  without_hart is = ap (on_hart_at w proper possible entry run) is

  pub improper : proper ≡ false → on_hart w h proper possible entry run ≡ refuses w BadArgument
  unfolding on_hart
  improper fails = go (slice_get w.harts h) where
    go : (o : Option model.Hart) → on_hart_at w proper possible entry run o ≡ refuses w BadArgument
    go None = refl
    go (Some x) = rw fails refl

  module _ (x : model.Hart) (is : slice_get w.harts h ≡ Some x) (well : proper ≡ true) where
    pub impossible : possible x ≡ false → on_hart w h proper possible entry run ≡ refuses w (Impossible x.phase)
    unfolding on_hart
    impossible fails = ap (on_hart_at w proper possible entry run) is ∙ rw (well, fails) refl

    pub without_entry : possible x ≡ true → entry x ≡ false → on_hart w h proper possible entry run ≡ refuses w NoEntry
    unfolding on_hart
    without_entry can fails = ap (on_hart_at w proper possible entry run) is ∙ rw (well, can, fails) refl

    pub runs : possible x ≡ true → entry x ≡ true → on_hart w h proper possible entry run ≡ run x
    unfolding on_hart
    runs can serves = ap (on_hart_at w proper possible entry run) is ∙ rw (well, can, serves) refl

-- the process of a hart

module _ (w : World) (x : model.Hart) (run : ℕ → Process → StepOutcome) where
  pub its_process : (s : ℕ) (p : Process) → x.slot ≡ Some s → slice_get w.slots s ≡ Some (Some p) → with_its_process w x run ≡ run s p
  unfolding with_its_process
  its_process s p on at = ap (with_slot_of w x.phase run) on ∙ ap (λ o. with_process_of w x.phase run s (flat o)) at

-- what is answered

pub refused : (m : Machine) (w : World) → IsWorldButBuffers m w → (r : Refusal) (o : StepOutcome) → o ≡ refuses w r → IsModelOutcome m (Scalar (Refused r)) o
refused m w is r o e = subst (λ (x : StepOutcome). IsModelOutcome m (Scalar (Refused r)) x) (sym e) (refl, is)

pub makes : (m : Machine) (reply : Reply) (w : World) (o : StepOutcome) → IsWorldButBuffers m w → o ≡ answers w reply → IsModelOutcome m reply o
makes m reply w o is e = subst (λ (x : StepOutcome). IsModelOutcome m reply x) (sym e) (refl, is)

-- harts and processes of a machine

-- the hart with a number, with its phase
pub record HasHart (m : Machine) (w : World) (h : ℕ) (p : Phase) : Type 0 where
  pub hart : Hart
  pub there : slice_get m.harts.items h ≡ Some hart
  pub phased : hart.phase ≡ p
  pub in_model : slice_get w.harts h ≡ Some (hart_of hart)
  pub within : h < vec_len m.harts

-- phase and slot of the hart that is there

abbrev placed : Option Hart → Option (Phase × Option ℕ)
placed = option_map (λ x. (x.phase, x.slot))

pub no_place : (harts : List Hart) (h : ℕ) → None ≡ placed (slice_get harts h) → None ≡ option_map (λ x. x.phase) (slice_get harts h)
no_place harts h none = go (slice_get harts h) none where
  go : (o : Option Hart) → None ≡ placed o → None ≡ option_map (λ x. x.phase) o
  go None e = refl
  go (Some x) e = absurd (cc)

pub phase_placed : (o : Option Hart) (p : Phase) (s : Option ℕ) → Some (p, s) ≡ placed o → Some p ≡ option_map (λ x. x.phase) o
phase_placed None p s e = absurd (cc)
phase_placed (Some x) p s e = ap Some (ap (λ q. q.0) (same_Some (p, s) (x.phase, x.slot) e))

pub slot_placed : (o : Option Hart) (p : Phase) (s : Option ℕ) → Some (p, s) ≡ placed o → s ≡ option_and_then (λ x. x.slot) o
slot_placed None p s e = absurd (cc)
slot_placed (Some x) p s e = ap (λ q. q.1) (same_Some (p, s) (x.phase, x.slot) e)

module _ (m : Machine) (w : World) (is : IsWorldButBuffers m w) where
  hart_in : (h : ℕ) → slice_get w.harts h ≡ option_map hart_of (slice_get m.harts.items h)
  hart_in h = ap (λ hs. slice_get hs h) (sym is.harts) ∙ slice_get-map hart_of m.harts.items h

  pub no_hart : (h : ℕ) → None ≡ option_map (λ x. x.phase) (slice_get m.harts.items h) → slice_get w.harts h ≡ None
  no_hart h none = hart_in h ∙ go (slice_get m.harts.items h) none where
    go : (o : Option Hart) → None ≡ option_map (λ x. x.phase) o → option_map hart_of o ≡ None
    go None e = refl
    go (Some x) e = absurd (cc)

  pub has_hart : (h : ℕ) (p : Phase) → Some p ≡ option_map (λ x. x.phase) (slice_get m.harts.items h) → HasHart m w h p
  has_hart h p some = go (slice_get m.harts.items h) refl some where
    go : (o : Option Hart) → slice_get m.harts.items h ≡ o → Some p ≡ option_map (λ x. x.phase) o → HasHart m w h p
    go None at e = absurd (cc)
    go (Some x) at e = record {
      hart = x;
      there = at;
      phased = same_Some x.phase p (sym e);
      in_model = hart_in h ∙ ap (option_map hart_of) at;
      within = subst (λ n. h < n) (sym m.harts.ok.0) (slice_get_within m.harts.items h x at);
    }

  pub process_at : (s : ℕ) (x : SlotProcess) → slice_get m.slots.items s ≡ Some (Some x) → (p : Process) × (slice_get w.slots s ≡ Some (Some p)) × IsSlotProcess x (is.tables s) p
  process_at s x at = go (slice_get m.slots.items s) (slice_get w.slots s) refl (is.places s) at where
    go : (a : Option (Option SlotProcess)) (b : Option (Option Process)) → slice_get w.slots s ≡ b → IsSlotContent a b (is.tables s) → a ≡ Some (Some x)
        → (p : Process) × (slice_get w.slots s ≡ Some (Some p)) × IsSlotProcess x (is.tables s) p
    go None b there place e = absurd (cc)
    go (Some None) b there place e = absurd (let same = same_Some _ _ e in cc)
    go (Some (Some y)) None there place e = absurd place
    go (Some (Some y)) (Some None) there place e = absurd place
    go (Some (Some y)) (Some (Some p)) there place e = (p, there, subst (λ z. IsSlotProcess z (is.tables s) p) (same_Some y x (same_Some _ _ e)) place)

  pub tenant_at : (s : ℕ) → is_some (process_in w s) ≡ true → (x : SlotProcess) × (slice_get m.slots.items s ≡ Some (Some x))
  tenant_at s some = go (slice_get m.slots.items s) refl (slice_get w.slots s) (is.places s) some where
    go : (a : Option (Option SlotProcess)) → slice_get m.slots.items s ≡ a → (b : Option (Option Process)) → IsSlotContent a b (is.tables s) → is_some (flat b) ≡ true
        → (x : SlotProcess) × (slice_get m.slots.items s ≡ Some (Some x))
    go a there None place e = absurd (cc)
    go a there (Some None) place e = absurd (cc)
    go None there (Some (Some p)) place e = absurd place
    go (Some None) there (Some (Some p)) place e = absurd place
    go (Some (Some x)) there (Some (Some p)) place e = (x, there)

  -- the process that is in a slot is that of the model
  pub tenant_is : (s : ℕ) (x : SlotProcess) (p : Process) → slice_get m.slots.items s ≡ Some (Some x) → slice_get w.slots s ≡ Some (Some p) → IsSlotProcess x (is.tables s) p
  tenant_is s x p place at = let found = process_at s x place in subst (λ (q : Process). IsSlotProcess x (is.tables s) q) (same_Some found.0 p (same_Some _ _ (sym found.1 ∙ at))) found.2

  pub can_run_is : (slot : Option ℕ) (s : ℕ) → slot ≡ Some s → true ≡ is_some (process_in w s) → (b : Bool) → b ≡ list_any (λ x. has_slot s x.slot) m.harts.items → not b ≡ can_run w slot
  can_run_is slot s e there b any =
      rw (e, ← there) (ap not (any ∙ sym (on_any m.harts.items) ∙ ap (list_any (λ x. has_slot s x.slot)) is.harts)) where
        on_any : (hs : List Hart) → list_any (λ x. has_slot s x.slot) (map hart_of hs) ≡ list_any (λ x. has_slot s x.slot) hs
        on_any [] = refl
        on_any (x ∷ hs) = ap (λ b. has_slot s x.slot || b) (on_any hs)

  -- the slot of a hart is one of those that there may be
  pub slot_low : (h : ℕ) (x : Hart) → slice_get m.harts.items h ≡ Some x → (s : ℕ) → x.slot ≡ Some s → s < MOST_SLOTS
  slot_low h x at s on =
      let t = is.hosted h s x at on in
      let p = process_at s t.0 t.1 in
      let low = slice_get_within w.slots s (Some p.0) p.1 in
      let few = is.few in
      omega (arith, low, few)

  -- the hart that is read
  pub hart_read : (h : ℕ) (p : Phase) (has : HasHart m w h p) (x : Hart) → x ≡ get_or m.harts.items h x → x ≡ has.hart
  hart_read h p has x e = e ∙ get_or_from_slice_get m.harts.items h has.hart x has.there

  -- a hart is another one
  module _ (h : ℕ) (x y : Hart) (there : slice_get m.harts.items h ≡ Some x) where
    -- no other hart has a process
    abbrev IsAlone : Type 0
    IsAlone = (s : ℕ) → y.slot ≡ Some s → (k : ℕ) (z : Hart) → slice_get m.harts.items k ≡ Some z → z.slot ≡ Some s → k ≡ h

    pub hart_changes : ((s : ℕ) → y.slot ≡ Some s → (t : SlotProcess) × (slice_get m.slots.items s ≡ Some (Some t))) → IsAlone → (y.slot ≡ None → y.phase ≡ phase.Idle)
        → ((e : TlbEntry) → Contains y.buffer e → e.global ≡ false) → IsWorldButBuffers (record m { harts = with_item m.harts h y }) (with_hart w h (hart_of y))
    hart_changes hosted alone idle local = record {
      tables = is.tables;
      kernel = is.kernel;
      stacks = is.stacks;
      policy = is.policy;
      scheme = is.scheme;
      schemes = is.schemes;
      few = is.few;
      frames = is.frames;
      invariant = is.invariant;
      of_kernel = is.of_kernel;
      places = is.places;
      copies = is.copies;
      counted = is.counted;
      files = is.files;
      harts = map-set hart_of m.harts.items h y ∙ ap (λ hs. slice_set hs h (hart_of y)) is.harts;
      hosted = λ k s z at. at_each k z at (λ (u : Hart). u.slot ≡ Some s → (t : SlotProcess) × (slice_get m.slots.items s ≡ Some (Some t))) (hosted s) (λ old. is.hosted k s z old);
      alone = λ s k l z u at also on upon. elim (new_or_old k z at) [
        | inl new ↦ elim (new_or_old l u also) [
          | inl more ↦ new.0 ∙ sym more.0
          | inr old ↦ new.0 ∙ sym (alone s (ap (λ (v : Hart). v.slot) new.1 ∙ on) l u old upon)
        ]
        | inr old ↦ elim (new_or_old l u also) [
          | inl new ↦ alone s (ap (λ (v : Hart). v.slot) new.1 ∙ upon) k z old on ∙ sym new.0
          | inr more ↦ is.alone s k l z u old more on upon
        ]
      ];
      idle = λ k z at. at_each k z at (λ (u : Hart). u.slot ≡ None → u.phase ≡ phase.Idle) idle (λ old. is.idle k z old);
      local = λ k z e at. at_each k z at (λ (u : Hart). Contains u.buffer e → e.global ≡ false) (local e) (λ old. is.local k z e old);
    } where
      new_or_old : (k : ℕ) (z : Hart) → slice_get (slice_set m.harts.items h y) k ≡ Some z → ((k ≡ h) × (y ≡ z)) ⊎ (slice_get m.harts.items k ≡ Some z)
      new_or_old k z at = elim (cases_eq k h) [
        | inl same ↦ inl (same, same_Some y z (sym (place_set_same m.harts.items h y (slice_get_within m.harts.items h x there)) ∙ ap (slice_get (slice_set m.harts.items h y)) (sym same) ∙ at))
        | inr apart ↦ inr (sym (place_set_other m.harts.items h k y apart) ∙ at)
      ]

      -- what holds of the new hart and of each old one
      at_each : (k : ℕ) (z : Hart) → slice_get (slice_set m.harts.items h y) k ≡ Some z → (P : Hart → Type 0) → P y → (slice_get m.harts.items k ≡ Some z → P z) → P z
      at_each k z at P new old = elim (new_or_old k z at) [ inl here ↦ subst P here.1 new | inr there ↦ old there ]

-- a process comes on a hart

and_right : (a b : Bool) → (a && b) ≡ true → b ≡ true
and_right true b e = e
and_right false b e = absurd (cc)

-- a slot that one of the harts has
any_at : (s : ℕ) (hs : List model.Hart) (k : ℕ) (z : model.Hart) → slice_get hs k ≡ Some z → z.slot ≡ Some s → list_any (λ x. has_slot s x.slot) hs ≡ true
any_at s [] k z at on = absurd (cc)
any_at s (x ∷ hs) zero z at on = rw (ap (λ (y : model.Hart). y.slot) (same_Some x z at) ∙ on, eq-eqb s s refl) refl
any_at s (x ∷ hs) (suc k) z at on = or_true (has_slot s x.slot) (any_at s hs k z at on) where
  or_true : (a : Bool) → {b : Bool} → b ≡ true → (a || b) ≡ true
  or_true true e = refl
  or_true false e = e

and_left : (a b : Bool) → (a && b) ≡ true → a ≡ true
and_left true b e = refl
and_left false b e = absurd (cc)

not_both : (a b : Bool) → (a ≡ false) ⊎ (b ≡ false) → (a && b) ≡ false
not_both true b (inl e) = absurd (cc)
not_both true b (inr e) = e
not_both false b e = refl

abbrev switched : Hart → Option ℕ → Hart
switched x slot = record x { phase = model.phase_for slot; slot = slot }

module _ (m : Machine) (w : World) (is : IsWorldButBuffers m w) (h : ℕ) (slot : Option ℕ) where
  module _ (p : Phase) (has : HasHart m w h p) where
    pub switch_refused : (model.may_switch p ≡ false) ⊎ (can_run w slot ≡ false) → IsModelOutcome m (Scalar (Refused (Impossible p))) (plain_step w (step.Switch h slot))
    switch_refused fails = refused m w is (Impossible p) _
        (impossible w h true (λ x. model.may_switch x.phase && can_run w slot) always _ (hart_of has.hart) has.in_model refl
        (ap (λ q. model.may_switch q && can_run w slot) has.phased ∙ not_both (model.may_switch p) (can_run w slot) fails)
        ∙ ap (λ q. refuses w (Impossible q)) has.phased)

    pub switches : (x y : Hart) → x ≡ get_or m.harts.items h x → y ≡ switched x slot → model.may_switch p ≡ true → can_run w slot ≡ true
        → IsModelOutcome (record m { harts = with_item m.harts h y }) (Scalar Done) (plain_step w (step.Switch h slot))
    switches x y read made may can = subst (λ (z : Hart). IsModelOutcome (record m { harts = with_item m.harts h z }) (Scalar Done) (plain_step w (step.Switch h slot))) (sym (made ∙ ap (λ z. switched z slot) (hart_read m w is h p has x read))) (makes _ (Scalar Done) _ _ (hart_changes m w is h has.hart (switched has.hart slot) has.there (hosts slot can) (lone slot can) (idles slot) (λ e. is.local h has.hart e has.there))
        (runs w h true (λ x. model.may_switch x.phase && can_run w slot) always _ (hart_of has.hart) has.in_model refl (rw (has.phased, may, can) refl) refl)) where
          hosts : (o : Option ℕ) → can_run w o ≡ true → (s : ℕ) → o ≡ Some s → (t : SlotProcess) × (slice_get m.slots.items s ≡ Some (Some t))
          hosts None can s e = absurd (cc)
          hosts (Some r) can s e = tenant_at m w is s (ap (λ n. is_some (process_in w n)) (sym (same_Some r s e)) ∙ and_left _ _ can)

          lone : (o : Option ℕ) → can_run w o ≡ true → (s : ℕ) → o ≡ Some s → (k : ℕ) (z : Hart) → slice_get m.harts.items k ≡ Some z → z.slot ≡ Some s → k ≡ h
          lone None can s e k z at on = absurd (cc)
          lone (Some r) can s e k z at on = absurd (
              let in_world : slice_get w.harts k ≡ Some (hart_of z) = ap (λ hs. slice_get hs k) (sym is.harts) ∙ slice_get-map hart_of m.harts.items k ∙ ap (option_map hart_of) at in
              let some = any_at r w.harts k (hart_of z) in_world (on ∙ ap Some (sym (same_Some r s e))) in
              let both = sym (ap not some) ∙ and_right _ _ can in cc)

          idles : (o : Option ℕ) → o ≡ None → model.phase_for o ≡ phase.Idle
          idles None e = refl
          idles (Some r) e = absurd (cc)

-- a hart makes the next instruction of the trampoline

-- the entries that a fence of an identifier leaves have the keys that the model leaves
kept_keys : (asid : ℕ) (es : List TlbEntry) → ((e : TlbEntry) → Contains es e → e.global ≡ false)
    → map key_of (filter (λ e. not (is_fenced None (Some asid) e)) es) ≡ filter (λ k. not (k.asid == asid)) (map key_of es)
kept_keys asid [] local = refl
kept_keys asid (e ∷ es) local =
    let rest = kept_keys asid es (λ x there. local x (later e es x there)) in
    let same : is_fenced None (Some asid) e ≡ (e.asid == asid) = fenced_of (e.asid == asid) e.global (local e (zero, omega arith, refl)) in
    go (e.asid == asid) (is_fenced None (Some asid) e) same rest where
      fenced_of : (own global : Bool) → global ≡ false → (own && not global && true) ≡ own
      fenced_of true global is = rw is refl
      fenced_of false global is = refl

      go : (own taken : Bool) → taken ≡ own → map key_of (filter (λ x. not (is_fenced None (Some asid) x)) es) ≡ filter (λ k. not (k.asid == asid)) (map key_of es)
          → map key_of (if not taken then e ∷ filter (λ x. not (is_fenced None (Some asid) x)) es else filter (λ x. not (is_fenced None (Some asid) x)) es)
          ≡ (if not own then key_of e ∷ filter (λ k. not (k.asid == asid)) (map key_of es) else filter (λ k. not (k.asid == asid)) (map key_of es))
      go true true same rest = rest
      go true false same rest = absurd (cc)
      go false true same rest = absurd (cc)
      go false false same rest = ap (λ ks. key_of e ∷ ks) rest

-- a mark is taken off
without_mark : (bs : List Bool) (s : ℕ) → marks_of (slice_set bs s false) ≡ (λ n. not (n == s) && marks_of bs n)
without_mark bs s = fun_ext (λ n. elim (cases_eq n s) [
  | inl same ↦ rw (eq-eqb n s same) (taken n s bs same)
  | inr apart ↦ rw (ne_eqb n s apart) (ap (λ o. unwrap_or o false) (place_set_other bs s n false apart))
]) where
  past_set : (bs : List Bool) (s : ℕ) → slice_get bs s ≡ None → slice_get (slice_set bs s false) s ≡ None
  past_set [] s is = is
  past_set (b ∷ bs) zero is = absurd (cc)
  past_set (b ∷ bs) (suc s) is = past_set bs s is

  taken : (n s : ℕ) (bs : List Bool) → n ≡ s → marks_of (slice_set bs s false) n ≡ false
  taken n s bs same = go (slice_get bs s) refl where
    go : (o : Option Bool) → slice_get bs s ≡ o → marks_of (slice_set bs s false) n ≡ false
    go (Some b) at = ap (λ o. unwrap_or o false) (ap (slice_get (slice_set bs s false)) same ∙ place_set_same bs s false (slice_get_within bs s b at))
    go None past = ap (λ o. unwrap_or o false) (ap (slice_get (slice_set bs s false)) same ∙ past_set bs s past)

abbrev pub HasLocal : Hart → Type 0
HasLocal x = (e : TlbEntry) → Contains x.buffer e → e.global ≡ false

pub cleaned_is : (x : Hart) → HasLocal x → hart_of (cleaned x) ≡ model.fenced Asid (hart_of x)
cleaned_is x local = at_phase x.phase refl where
  if_marked : (s : ℕ) (b : Bool) → hart_of (cleaned_if x s b) ≡ model.cleaned_if (hart_of x) s b
  if_marked s true = λ i. let y : model.Hart = record (hart_of x) { keys = kept_keys (s + 1) x.buffer local i; stale = without_mark x.stale s i } in y
  if_marked s false = refl

  for_slot : (o : Option ℕ) → hart_of (cleaned_for x o) ≡ model.cleaned_for (hart_of x) o
  for_slot None = refl
  for_slot (Some s) = if_marked s (marks_of x.stale s)

  at_phase : (p : Phase) → x.phase ≡ p → hart_of (if is_before_user p then cleaned_for x x.slot else x) ≡ model.cleaned_at (hart_of x) p
  at_phase phase.Leave2 e = for_slot x.slot
  at_phase phase.Idle e = refl
  at_phase phase.User e = refl
  at_phase phase.Enter0 e = refl
  at_phase phase.Enter1 e = refl
  at_phase phase.Enter2 e = refl
  at_phase phase.Kernel e = refl
  at_phase phase.Leave1 e = refl

emptied_is : (x : Hart) → hart_of (emptied x) ≡ model.fenced Full (hart_of x)
emptied_is x = go (model.is_before_fence x.phase) where
  go : (b : Bool) → hart_of (record x { buffer = if b then [] else x.buffer }) ≡ model.emptied_if (hart_of x) b
  go true = refl
  go false = refl

pub advanced_is : (policy : Policy) (x : Hart) → HasLocal x → hart_of (advanced policy x) ≡ record (model.fenced policy (hart_of x)) { phase = unwrap_or (model.next_phase x.phase) x.phase }
advanced_is Full x local = ap (λ (y : model.Hart). let z : model.Hart = record y { phase = unwrap_or (model.next_phase x.phase) x.phase } in z) (emptied_is x)
advanced_is Asid x local = ap (λ (y : model.Hart). let z : model.Hart = record y { phase = unwrap_or (model.next_phase x.phase) x.phase } in z) (cleaned_is x local)

-- what a fence leaves was there
pub in_fenced : (policy : Policy) (x : Hart) (e : TlbEntry) → Contains (fenced policy x).buffer e → Contains x.buffer e
in_fenced Full x e = go (model.is_before_fence x.phase) where
  go : (b : Bool) → Contains (if b then [] else x.buffer) e → Contains x.buffer e
  go true there = absurd (omega (arith, there.1))
  go false there = there
in_fenced Asid x e = go (is_before_user x.phase) x.slot where
  if_marked : (s : ℕ) (b : Bool) → Contains (cleaned_if x s b).buffer e → Contains x.buffer e
  if_marked s true there = (in_filter (λ a. not (is_fenced None (Some (s + 1)) a)) x.buffer e there).0
  if_marked s false there = there

  go : (b : Bool) (o : Option ℕ) → Contains (if b then cleaned_for x o else x).buffer e → Contains x.buffer e
  go true None there = there
  go true (Some s) there = if_marked s (marks_of x.stale s) there
  go false o there = there

-- a fence changes neither the slot nor the phase
pub fenced_slot : (policy : Policy) (x : Hart) → (fenced policy x).slot ≡ x.slot
fenced_slot Full x = refl
fenced_slot Asid x = go (is_before_user x.phase) x.slot where
  if_marked : (s : ℕ) (b : Bool) → (cleaned_if x s b).slot ≡ x.slot
  if_marked s true = refl
  if_marked s false = refl

  go : (b : Bool) (o : Option ℕ) → (if b then cleaned_for x o else x).slot ≡ x.slot
  go true None = refl
  go true (Some s) = if_marked s (marks_of x.stale s)
  go false o = refl

module _ (m : Machine) (w : World) (is : IsWorldButBuffers m w) (h : ℕ) (p : Phase) (has : HasHart m w h p) where
  pub next_refused : can_go_on w (hart_of has.hart) ≡ false → IsModelOutcome m (Scalar (Refused (Impossible p))) (plain_step w (step.Next h))
  next_refused fails = refused m w is (Impossible p) _
      (impossible w h true (can_go_on w) always _ (hart_of has.hart) has.in_model refl fails ∙ ap (λ q. refuses w (Impossible q)) has.phased)

  pub goes_on : (x y : Hart) → x ≡ get_or m.harts.items h x → y ≡ advanced m.policy x → can_go_on w (hart_of has.hart) ≡ true
      → IsModelOutcome (record m { harts = with_item m.harts h y }) (Scalar Done) (plain_step w (step.Next h))
  goes_on x y read made can = subst (λ (z : Hart). IsModelOutcome (record m { harts = with_item m.harts h z }) (Scalar Done) (plain_step w (step.Next h))) (sym (made ∙ ap (advanced m.policy) (hart_read m w is h p has x read)))
      (makes _ (Scalar Done) _ _ (hart_changes m w is h has.hart (advanced m.policy has.hart) has.there (λ s on. is.hosted h s has.hart has.there (sym slot_is ∙ on))
      (λ s on k z at also. is.alone s k h z has.hart at has.there also (sym slot_is ∙ on)) idles (λ e there. local e (in_fenced m.policy has.hart e there)))
      (runs w h true (can_go_on w) always _ (hart_of has.hart) has.in_model refl can refl ∙ rw (← is.policy, ← advanced_is m.policy has.hart local) refl)) where
        local : HasLocal has.hart
        local e = is.local h has.hart e has.there

        slot_is : (advanced m.policy has.hart).slot ≡ has.hart.slot
        slot_is = fenced_slot m.policy has.hart

        goes : is_some (model.next_phase has.hart.phase) ≡ true
        goes = and_left _ _ can

        idles : (advanced m.policy has.hart).slot ≡ None → (advanced m.policy has.hart).phase ≡ phase.Idle
        idles none = absurd (let never : is_some (model.next_phase phase.Idle) ≡ true = ap (λ q. is_some (model.next_phase q)) (sym (is.idle h has.hart has.there (sym slot_is ∙ none))) ∙ goes in cc)
