-- Lemmas: if a step names the slots that it changed, the machine marked for these is in the model's world (state) with its
-- stale marks (`marks_follow`); the slots named are below 64.
use Rattle.std.proofs.Common.{◌≡◌, ℕ, ◌<◌, ◌≤◌, ◌||◌, Bool, true, false, map, length, None, Option, option_map, Some, List, [], ◌∷◌, refl, ap, sym, subst, ◌∙◌, arith}
use Rattle.std.specs.Prelude.{Contains, slice_get}
use Rattle.std.proofs.Math.Path.{fun_ext}
use Rattle.std.proofs.lemmas.Bool.{eq-eqb}
use Rattle.std.proofs.lemmas.Option.{same_Some, slice_get-map, slice_get_within}
use Rattle.hart_tlb.specs.declared.entry.TlbEntry.{TlbEntry}
use Rattle.process_model.specs.Harts as model
use Rattle.process_model.specs.Process.{Process}
use Rattle.process_model.specs.Stale.{changed_slots, with_stale, with_stale_slots}
use Rattle.process_model.specs.World.{has_slot, StepOutcome, World}
use Rattle.process_model.specs.declared.config.Policy.{Policy}
use Rattle.process_model.specs.declared.config.Policy.TheVariants.{Asid, Full}
use Rattle.hart_machine.specs.Buffers.{SameBuffers}
use Rattle.hart_machine.specs.Harts.{hart_of, marked, marked_harts}
use Rattle.hart_machine.specs.Marks.{AreMarked}
use Rattle.process_model.specs.declared.limits.TheConstants.{MOST_SLOTS}
use Rattle.hart_machine.specs.Worlds.{IsWorldButBuffers}
use Rattle.hart_machine.specs.declared.hart.Hart.{Hart}
use Rattle.hart_machine.specs.declared.machine.Machine.{Machine}
use Rattle.process_laws.proofs.ChangedSlots.{among_changed}
use Rattle.process_laws.specs.Words.{changed_at}
use Rattle.hart_machine.proofs.MapElements.{from_map}

-- a slot that is named is one of those that there are
named_there : (w : World) (o : StepOutcome) (s : ℕ) → changed_at (slice_get w.slots s) (slice_get (o.world).slots s) ≡ true → s < length w.slots
named_there w o s named = go (slice_get w.slots s) refl named where
  go : (c : Option (Option Process)) → slice_get w.slots s ≡ c → changed_at c (slice_get (o.world).slots s) ≡ true → s < length w.slots
  go None at named = absurd (cc)
  go (Some p) at named = slice_get_within w.slots s p at

or_true : (a b : Bool) → a ≡ true → (a || b) ≡ true
or_true true b e = refl
or_true false b e = absurd (cc)

or_right : (a b : Bool) → b ≡ true → (a || b) ≡ true
or_right true b e = refl
or_right false b e = e

module _ (w : World) (o : StepOutcome) (changed born : Option ℕ) (marks : AreMarked w o changed born) (few : length w.slots ≤ MOST_SLOTS) where
  pub changed_low : (s : ℕ) → changed ≡ Some s → s < MOST_SLOTS
  changed_low s is =
      let low = named_there w o s (marks s ∙ or_true (has_slot s changed) (has_slot s born) (ap (has_slot s) is ∙ eq-eqb s s refl)) in
      omega (arith, low, few)

  pub born_low : (s : ℕ) → born ≡ Some s → s < MOST_SLOTS
  born_low s is =
      let low = named_there w o s (marks s ∙ or_right (has_slot s changed) (has_slot s born) (ap (has_slot s) is ∙ eq-eqb s s refl)) in
      omega (arith, low, few)

-- marks of harts

abbrev with_both : Option ℕ → Option ℕ → model.Hart → model.Hart
with_both changed born x = record x { stale = λ n. has_slot n born || (has_slot n changed || x.stale n) }

both_marked : (changed born : Option ℕ) (xs : List model.Hart) → marked_harts Asid born (marked_harts Asid changed xs) ≡ map (with_both changed born) xs
both_marked None None [] = refl
both_marked None None (x ∷ xs) = ap (λ ys. x ∷ ys) (both_marked None None xs)
both_marked (Some s) None [] = refl
both_marked (Some s) None (x ∷ xs) = ap (λ ys. marked s x ∷ ys) (both_marked (Some s) None xs)
both_marked None (Some s) [] = refl
both_marked None (Some s) (x ∷ xs) = ap (λ ys. marked s x ∷ ys) (both_marked None (Some s) xs)
both_marked (Some s) (Some r) [] = refl
both_marked (Some s) (Some r) (x ∷ xs) = ap (λ ys. marked r (marked s x) ∷ ys) (both_marked (Some s) (Some r) xs)

same_marks : (a b c : Bool) → (b || (a || c)) ≡ ((a || b) || c)
same_marks true true c = refl
same_marks true false c = refl
same_marks false true c = refl
same_marks false false c = refl

map_same : {A B : Type 0} (f g : A → B) (xs : List A) → ((x : A) → f x ≡ g x) → map f xs ≡ map g xs
map_same f g [] same = refl
map_same f g (x ∷ xs) same = λ i. same x i ∷ map_same f g xs same i

module _ (w : World) (o : StepOutcome) (changed born : Option ℕ) (marks : AreMarked w o changed born) where
  as_model : (x : model.Hart) → with_both changed born x ≡ with_stale (changed_slots 0 w.slots (o.world).slots) x
  as_model x = ap (λ (f : ℕ → Bool). let y : model.Hart = record x { stale = f } in y) (fun_ext (λ n.
      same_marks (has_slot n changed) (has_slot n born) (x.stale n)
      ∙ ap (λ (b : Bool). b || x.stale n) (sym (marks n) ∙ sym (among_changed w.slots (o.world).slots n))))

  harts_are : (q : Policy) (xs : List model.Hart) → xs ≡ (o.world).harts → marked_harts q born (marked_harts q changed xs) ≡ (with_stale_slots q w o).world.harts
  harts_are Full xs same = same
  harts_are Asid xs same = both_marked changed born xs ∙ map_same (with_both changed born) (with_stale (changed_slots 0 w.slots (o.world).slots)) xs as_model ∙ ap (map (with_stale (changed_slots 0 w.slots (o.world).slots))) same

  -- a hart with marks is the one without them, but for the marks
  record Was (n : Machine) (h : ℕ) (y : Hart) : Type 0 where
    hart : Hart
    there : slice_get n.harts.items h ≡ Some hart
    phased : hart.phase ≡ y.phase
    slotted : hart.slot ≡ y.slot

  module _ (n k : Machine) (after : IsWorldButBuffers n o.world) (policy : n.policy ≡ w.policy)
      (harts : map hart_of k.harts.items ≡ marked_harts n.policy born (marked_harts n.policy changed (map hart_of n.harts.items))) (buffers : SameBuffers n k)
      (frames : k.frames ≡ n.frames) (kernel : k.kernel ≡ n.kernel) (slots : k.slots ≡ n.slots) (files : k.files ≡ n.files) (ruled : k.policy ≡ n.policy) where
    was : (h : ℕ) (y : Hart) → slice_get k.harts.items h ≡ Some y → Was n h y
    was h y at = go n.policy (sym (slice_get-map hart_of k.harts.items h) ∙ ap (λ hs. slice_get hs h) harts) where
      found : (f : model.Hart → model.Hart) → ((x : model.Hart) → (f x).phase ≡ x.phase) → ((x : model.Hart) → (f x).slot ≡ x.slot)
          → slice_get (map f (map hart_of n.harts.items)) h ≡ Some (hart_of y) → Was n h y
      found f phases slots is =
          let a = from_map f (map hart_of n.harts.items) h (hart_of y) is in
          let b = from_map hart_of n.harts.items h a.0 a.1 in
          record {
            hart = b.0;
            there = b.1;
            phased = ap (λ (z : model.Hart). z.phase) b.2 ∙ sym (phases a.0) ∙ ap (λ (z : model.Hart). z.phase) a.2;
            slotted = ap (λ (z : model.Hart). z.slot) b.2 ∙ sym (slots a.0) ∙ ap (λ (z : model.Hart). z.slot) a.2;
          }

      go : (q : Policy) → option_map hart_of (slice_get k.harts.items h) ≡ slice_get (marked_harts q born (marked_harts q changed (map hart_of n.harts.items))) h → Was n h y
      go Full is =
          let b = from_map hart_of n.harts.items h (hart_of y) (sym is ∙ ap (option_map hart_of) at) in
          record { hart = b.0; there = b.1; phased = ap (λ (z : model.Hart). z.phase) b.2; slotted = ap (λ (z : model.Hart). z.slot) b.2 }
      go Asid is = found (with_both changed born) (λ x. refl) (λ x. refl) (ap (λ hs. slice_get hs h) (sym (both_marked changed born (map hart_of n.harts.items))) ∙ sym is ∙ ap (option_map hart_of) at)

    -- where the harts are those with marks
    with_harts : (v : World) → v ≡ record o.world { harts = v.harts } → map hart_of k.harts.items ≡ v.harts → IsWorldButBuffers k v
    with_harts v same are = subst (λ (u : World). IsWorldButBuffers k u) (sym same) (record {
      tables = after.tables;
      kernel = after.kernel;
      stacks = after.stacks;
      policy = ruled ∙ after.policy;
      scheme = ap (λ z. z.scheme) kernel ∙ after.scheme;
      schemes = after.schemes;
      few = after.few;
      frames = ap (λ z. z.seat.size) kernel ∙ after.frames;
      invariant = rw (frames, kernel, slots) after.invariant;
      of_kernel = rw kernel after.of_kernel;
      places = rw slots after.places;
      copies = after.copies;
      counted = after.counted;
      files = files ∙ after.files;
      harts = are;
      hosted = λ h r y at on. let x = was h y at in rw slots (after.hosted h r x.hart x.there (x.slotted ∙ on));
      alone = λ r h j y z at also on upon. let a = was h y at in let b = was j z also in after.alone r h j a.hart b.hart a.there b.there (a.slotted ∙ on) (b.slotted ∙ upon);
      idle = λ h y at none. let x = was h y at in sym x.phased ∙ after.idle h x.hart x.there (x.slotted ∙ none);
      local = λ h y e at there.
          let x = was h y at in
          let same : x.hart.buffer ≡ y.buffer = same_Some _ _ (sym (ap (option_map (λ (z : Hart). z.buffer)) x.there) ∙ sym (buffers h) ∙ ap (option_map (λ (z : Hart). z.buffer)) at) in
          after.local h x.hart e x.there (subst (λ (es : List TlbEntry). Contains es e) (sym same) there);
    })

    pub marks_follow : IsWorldButBuffers k (with_stale_slots w.policy w o).world
    marks_follow = with_harts (with_stale_slots w.policy w o).world (same_but_harts w.policy) (harts ∙ ap (λ q. marked_harts q born (marked_harts q changed (map hart_of n.harts.items))) policy ∙ harts_are w.policy (map hart_of n.harts.items) after.harts) where
      same_but_harts : (q : Policy) → (with_stale_slots q w o).world ≡ record o.world { harts = (with_stale_slots q w o).world.harts }
      same_but_harts Full = refl
      same_but_harts Asid = refl
