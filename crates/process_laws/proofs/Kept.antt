-- `Keeps`, proved of every step: a hart that the step does not move keeps its process and phase; a process that a step puts
-- on a hart was on none; files change only by a step that writes back; an empty slot stays empty unless the reply says that a
-- process began in it; the number of slots stays; buffers change by fills, evictions and fences; and a hart is marked for the
-- slots that change.
use Rattle.std.proofs.Common.{◌≡◌, ◌≢◌, ◌⊎◌, ◌==◌, ◌&&◌, ◌||◌, not, ℕ, zero, suc, Bool, true, false, length, refl, sym, ap, subst, ◌∙◌, inl, inr, List, [], ◌∷◌, Option, None, Some}
use Rattle.std.specs.List.{list_any}
use Rattle.std.specs.Prelude.{is_some, option_map, Result, Ok, Err, slice_get, slice_set, if◌then◌else◌}
use Rattle.std.proofs.lemmas.Bool.{and_parts, cases_eq, eq-eqb, false≢true, ne_eqb}
use Rattle.std.proofs.lemmas.List.{length-set}
use Rattle.std.proofs.lemmas.Option.{same_Some, slice_get-map}
use Rattle.process_laws.proofs.ChangedSlots.{among_changed}
use Rattle.process_laws.proofs.Going.{fenced_slot, set_there}
use Rattle.process_laws.proofs.HeldBytes.{none_some}
use Rattle.process_laws.proofs.OnHarts.{access_there, its_good, kernel_good, on_hart_can, on_hart_good}
use Rattle.process_laws.proofs.Untouched.{get_set_other}
use Rattle.process_laws.specs.Moments.{slot_at, slot_on}
use Rattle.process_laws.specs.Words.{changed_at, hart_of, is_on_hart, IsMade, keys_after, keys_on, marks_slot, moved_hart, phase_on, stale_after, stale_on, starts_in_slot, writes_back}
use Rattle.process_model.specs.Environment.{Progress}
use Rattle.process_model.specs.Calls.{forked, forked_unless, mapped_to, replaced, replaced_unless, resized_to, started, started_unless, unmapped_to, with_image}
use Rattle.process_model.specs.Copies.{Copied, copied_in, copied_out, in_reply, out_reply}
use Rattle.process_model.specs.Harts.{Hart, may_switch}
use Rattle.process_model.specs.Images.{image_loads, LoadSegment}
use Rattle.process_model.specs.Mappings.{Mapped, Unmapped}
use Rattle.process_model.specs.Process.{Pending, Process, without_pending}
use Rattle.process_model.specs.Service.{environment_of, initial_progress, served, served_or_ended, with_progress}
use Rattle.process_model.specs.Stale.{changed_slots, with_stale, with_stale_slots}
use Rattle.process_model.specs.Steps.{plain_step, step}
use Rattle.process_model.specs.World.{answers, can_run, flat, free_slot, has_slot, StepOutcome, process_in, refuses, World}
use Rattle.process_model.specs.declared.config.Policy.{Policy}
use Rattle.process_model.specs.declared.config.Policy.TheVariants.{Full, Asid}
use Rattle.process_model.specs.declared.image.BadImage.{BadImage}
use Rattle.process_model.specs.declared.image.Image.{Image}
use Rattle.process_model.specs.declared.reply.Refusal.{Refusal}
use Rattle.process_model.specs.declared.reply.Reply.{Reply}
use Rattle.process_model.specs.declared.reply.ScalarReply.TheVariants.{Done, Refused, Started}
use Rattle.process_model.specs.declared.reply.Reply.TheVariants.{Scalar}
use Rattle.process_model.specs.declared.step.Step.{Step}
use Rattle.process_model.specs.declared.step.Step.TheVariants as step_of
use Rattle.sv39_entry.specs.declared.access.Access.TheVariants as access
use Rattle.sv39_entry.specs.declared.rule.Rule.{Rule}

abbrev SameHart : World → World → ℕ → Type 0
SameHart w v k = (slot_on v k ≡ slot_on w k) × (phase_on v k ≡ phase_on w k)

-- where no process was, none comes but one that is told of
abbrev StaysEmpty : World → StepOutcome → Type 0
StaysEmpty w o = (s : ℕ) → process_in w s ≡ None → starts_in_slot o.reply s ≡ false → process_in o.world s ≡ None

-- a hart has the process that it had, or one that was on no hart
abbrev pub Comes : World → ℕ → Option ℕ → Type 0
Comes w h o = (s : ℕ) → o ≡ Some s → (slot_on w h ≡ Some s) ⊎ ((k : ℕ) → slot_on w k ≢ Some s)

-- the buffers that it leaves
abbrev pub Buffers : World → Step → World → Type 0
Buffers w x v = (k : ℕ) (hart : Hart) → slice_get w.harts k ≡ Some hart → keys_on v k ≡ Some (if is_on_hart x k then keys_after w.policy hart x else hart.keys)

-- and the marks, of which the step adds some
abbrev pub Marks : World → Step → (ℕ → Bool) → World → Type 0
Marks w x added v = (k t : ℕ) (hart : Hart) → slice_get w.harts k ≡ Some hart → stale_on v k t ≡ Some (added t || (if is_on_hart x k then stale_after w.policy hart x t else hart.stale t))

-- a hart on which the step is made becomes another
abbrev Leaves : World → Step → Hart → Hart → Type 0
Leaves w x before after = (after.keys ≡ keys_after w.policy before x) × (after.stale ≡ stale_after w.policy before x)

abbrev IsStill : World → Step → Type 0
IsStill w x = (hart : Hart) → Leaves w x hart hart

pub record KeepsWith (w : World) (x : Step) (added : ℕ → Bool) (o : StepOutcome) : Type 0 where
  pub comes : (k : ℕ) → Comes w k (slot_on o.world k)
  pub harts : (k : ℕ) → moved_hart x o.reply ≢ Some k → SameHart w o.world k
  pub files : writes_back x o.reply ≡ false → (o.world).files ≡ w.files
  pub empty : StaysEmpty w o
  pub places : length (o.world).slots ≡ length w.slots
  pub buffers : IsMade o.reply → Buffers w x o.world
  pub marks : IsMade o.reply → Marks w x added o.world

-- before a step's marks
abbrev none_added : ℕ → Bool
none_added t = false

abbrev Keeps : World → Step → StepOutcome → Type 0
Keeps w x o = KeepsWith w x none_added o

-- the harts are as they were
same_harts : (w v : World) → v.harts ≡ w.harts → (k : ℕ) → SameHart w v k
same_harts w v e k = (ap (λ hs. slot_at (slice_get hs k)) e, ap (λ hs. option_map (λ (hart : Hart). hart.phase) (slice_get hs k)) e)

-- another one was set
other_hart : (w v : World) (h : ℕ) (after : Hart) → v.harts ≡ slice_set w.harts h after → (k : ℕ) → Some h ≢ Some k → SameHart w v k
other_hart w v h after e k apart =
    let is : slice_get v.harts k ≡ slice_get w.harts k = ap (λ hs. slice_get hs k) e ∙ get_set_other w.harts h k after (λ same. apart (ap Some same)) in
    (ap slot_at is, ap (option_map (λ (hart : Hart). hart.phase)) is)

-- one was set that has the same process and phase
like_hart : (w v : World) (h : ℕ) (before after : Hart) → slice_get w.harts h ≡ Some before → after.slot ≡ before.slot → after.phase ≡ before.phase → v.harts ≡ slice_set w.harts h after → (k : ℕ) → SameHart w v k
like_hart w v h before after there slot phase e k = elim (cases_eq h k) [
  | inl same ↦
      let now : slice_get v.harts k ≡ Some after = ap (slice_get v.harts) (sym same) ∙ ap (λ hs. slice_get hs h) e ∙ set_there w.harts h before after there in
      let was : slice_get w.harts k ≡ Some before = ap (slice_get w.harts) (sym same) ∙ there in (
        ap slot_at now ∙ slot ∙ sym (ap slot_at was),
        ap (option_map (λ (hart : Hart). hart.phase)) now ∙ ap Some phase ∙ sym (ap (option_map (λ (hart : Hart). hart.phase)) was),
      )
  | inr apart ↦
      let is : slice_get v.harts k ≡ slice_get w.harts k = ap (λ hs. slice_get hs k) e ∙ get_set_other w.harts h k after apart in
      (ap slot_at is, ap (option_map (λ (hart : Hart). hart.phase)) is)
]

-- what a hart has, if no hart was set, and if one was

module _ {A : Type 0} (had after_step : Hart → A) (w v : World) (x : Step) where
  same_has : v.harts ≡ w.harts → ((hart : Hart) → had hart ≡ after_step hart) → (k : ℕ) (hart : Hart) → slice_get w.harts k ≡ Some hart → option_map had (slice_get v.harts k) ≡ Some (if is_on_hart x k then after_step hart else had hart)
  same_has e still k hart there = ap (λ hs. option_map had (slice_get hs k)) e ∙ ap (option_map had) there ∙ ap Some (by (is_on_hart x k)) where
    by : (b : Bool) → had hart ≡ (if b then after_step hart else had hart)
    by true = still hart
    by false = refl

  set_has : (h : ℕ) (before after : Hart) → slice_get w.harts h ≡ Some before → hart_of x ≡ Some h → had after ≡ after_step before → v.harts ≡ slice_set w.harts h after
      → (k : ℕ) (hart : Hart) → slice_get w.harts k ≡ Some hart → option_map had (slice_get v.harts k) ≡ Some (if is_on_hart x k then after_step hart else had hart)
  set_has h before after was own has e k hart there = elim (cases_eq h k) [
    | inl same ↦
        let now : slice_get v.harts k ≡ Some after = ap (slice_get v.harts) (sym same) ∙ ap (λ hs. slice_get hs h) e ∙ set_there w.harts h before after was in
        let it : before ≡ hart = same_Some before hart (sym was ∙ ap (slice_get w.harts) same ∙ there) in
        let mine : is_on_hart x k ≡ true = ap (has_slot k) own ∙ eq-eqb h k same in
        ap (option_map had) now ∙ ap Some (has ∙ ap after_step it) ∙ ap (λ b. Some (if b then after_step hart else had hart)) (sym mine)
    | inr apart ↦
        let is : slice_get v.harts k ≡ Some hart = ap (λ hs. slice_get hs k) e ∙ get_set_other w.harts h k after apart ∙ there in
        let other : is_on_hart x k ≡ false = ap (has_slot k) own ∙ ne_eqb h k apart in
        ap (option_map had) is ∙ ap (λ b. Some (if b then after_step hart else had hart)) (sym other)
  ]

-- buffers, and marks

same_buffers : (w v : World) (x : Step) → v.harts ≡ w.harts → IsStill w x → Buffers w x v
same_buffers w v x e still k = same_has (λ (z : Hart). z.keys) (λ z. keys_after w.policy z x) w v x e (λ hart. (still hart).0) k

set_buffers : (w v : World) (x : Step) (h : ℕ) (before after : Hart) → slice_get w.harts h ≡ Some before → hart_of x ≡ Some h → Leaves w x before after → v.harts ≡ slice_set w.harts h after → Buffers w x v
set_buffers w v x h before after was own leaves e k = set_has (λ (z : Hart). z.keys) (λ z. keys_after w.policy z x) w v x h before after was own leaves.0 e k

same_marks : (w v : World) (x : Step) → v.harts ≡ w.harts → IsStill w x → Marks w x none_added v
same_marks w v x e still k t = same_has (λ (z : Hart). z.stale t) (λ z. stale_after w.policy z x t) w v x e (λ hart. ap (λ (f : ℕ → Bool). f t) (still hart).1) k

set_marks : (w v : World) (x : Step) (h : ℕ) (before after : Hart) → slice_get w.harts h ≡ Some before → hart_of x ≡ Some h → Leaves w x before after → v.harts ≡ slice_set w.harts h after → Marks w x none_added v
set_marks w v x h before after was own leaves e k t = set_has (λ (z : Hart). z.stale t) (λ z. stale_after w.policy z x t) w v x h before after was own (ap (λ (f : ℕ → Bool). f t) leaves.1) e k

-- a hart that has the process that it had
came : (w v : World) (k : ℕ) → slot_on v k ≡ slot_on w k → Comes w k (slot_on v k)
came w v k same s is = inl (sym same ∙ is)

came_there : (w : World) (h : ℕ) (hart : Hart) (o : Option ℕ) → slice_get w.harts h ≡ Some hart → o ≡ hart.slot → Comes w h o
came_there w h hart o there same s is = inl (ap slot_at there ∙ sym same ∙ is)

-- a hart was set
set_slot : (harts : List Hart) (h : ℕ) (after : Hart) (s : ℕ) → slot_at (slice_get (slice_set harts h after) h) ≡ Some s → after.slot ≡ Some s
set_slot [] h after s e = absurd cc
set_slot (z ∷ zs) zero after s e = e
set_slot (z ∷ zs) (suc h) after s e = set_slot zs h after s e

set_comes : (w v : World) (h : ℕ) (after : Hart) → v.harts ≡ slice_set w.harts h after → Comes w h after.slot → (k : ℕ) → Comes w k (slot_on v k)
set_comes w v h after e comes k s is = elim (cases_eq h k) [
  | inl same ↦ subst (λ j. (slot_on w j ≡ Some s) ⊎ ((i : ℕ) → slot_on w i ≢ Some s)) same (comes s (set_slot w.harts h after s (sym (ap (λ hs. slot_at (slice_get hs h)) e) ∙ ap (slot_on v) same ∙ is)))
  | inr apart ↦ inl (sym (other_hart w v h after e k (λ f. apart (same_Some h k f))).0 ∙ is)
]

-- no hart has a process that can be put on one
pub none_on : (harts : List Hart) (s : ℕ) → list_any (λ (hart : Hart). has_slot s hart.slot) harts ≡ false → (k : ℕ) → slot_at (slice_get harts k) ≢ Some s
none_on [] s e k is = absurd cc
none_on (hart ∷ harts) s e zero is = absurd (let it : has_slot s hart.slot ≡ true = ap (has_slot s) is ∙ eq-eqb s s refl in let no : true ≡ false = sym (or_first it) ∙ e in cc)
  where
    or_first : has_slot s hart.slot ≡ true → (has_slot s hart.slot || list_any (λ (h : Hart). has_slot s h.slot) harts) ≡ true
    or_first it = ap (λ b. b || list_any (λ (h : Hart). has_slot s h.slot) harts) it
none_on (hart ∷ harts) s e (suc k) is = none_on harts s (or_second (has_slot s hart.slot) e) k is
  where
    or_second : (b : Bool) → (b || list_any (λ (h : Hart). has_slot s h.slot) harts) ≡ false → list_any (λ (h : Hart). has_slot s h.slot) harts ≡ false
    or_second true f = absurd cc
    or_second false f = f

switch_comes : (w : World) (h : ℕ) (slot : Option ℕ) (may : Bool) → (may && can_run w slot) ≡ true → Comes w h slot
switch_comes w h None may can s is = absurd cc
switch_comes w h (Some t) may can s is =
    let run : can_run w (Some t) ≡ true = (and_parts may (can_run w (Some t)) can).1 in
    let none : list_any (λ (hart : Hart). has_slot t hart.slot) w.harts ≡ false = not_true _ (and_parts (is_some (process_in w t)) _ run).1 in
    inr (subst (λ n. (k : ℕ) → slot_on w k ≢ Some n) (same_Some t s is) (none_on w.harts t none))
  where
    not_true : (b : Bool) → not b ≡ true → b ≡ false
    not_true true e = absurd cc
    not_true false e = refl

-- the slots are as they were
same_empty : (w v : World) (r : Reply) → v.slots ≡ w.slots → StaysEmpty w (answers v r)
same_empty w v r e s none calm = ap (λ slots. flat (slice_get slots s)) e ∙ none

-- one was set that had a process
set_empty : (w v : World) (r : Reply) (t : ℕ) (p : Process) (o : Option Process) → process_in w t ≡ Some p → v.slots ≡ slice_set w.slots t o → StaysEmpty w (answers v r)
set_empty w v r t p o lives e s none calm =
    ap (λ slots. flat (slice_get slots s)) e ∙ ap flat (get_set_other w.slots t s o (λ same. none_some (sym none ∙ ap (process_in w) (sym same) ∙ lives))) ∙ none

-- or one that is told of
born_empty : (w v : World) (r : Reply) (t : ℕ) (o : Option Process) → ((s : ℕ) → starts_in_slot r s ≡ (t == s)) → v.slots ≡ slice_set w.slots t o → StaysEmpty w (answers v r)
born_empty w v r t o born e s none calm =
    ap (λ slots. flat (slice_get slots s)) e ∙ ap flat (get_set_other w.slots t s o (λ same. let no : true ≡ false = sym (eq-eqb t s same) ∙ sym (born s) ∙ calm in false≢true (sym no))) ∙ none

-- what becomes of the slots
data Slots (w v : World) (r : Reply) : Type 0 where
  same : v.slots ≡ w.slots → Slots w v r
  set : (t : ℕ) (p : Process) (o : Option Process) → process_in w t ≡ Some p → v.slots ≡ slice_set w.slots t o → Slots w v r
  born : (t : ℕ) (o : Option Process) → ((s : ℕ) → starts_in_slot r s ≡ (t == s)) → v.slots ≡ slice_set w.slots t o → Slots w v r
  both : (t : ℕ) (p : Process) (o : Option Process) (child : ℕ) (u : Option Process) → process_in w t ≡ Some p → ((s : ℕ) → starts_in_slot r s ≡ (child == s)) → v.slots ≡ slice_set (slice_set w.slots t o) child u → Slots w v r

slots_empty : (w v : World) (r : Reply) → Slots w v r → StaysEmpty w (answers v r)
slots_empty w v r (same e) = same_empty w v r e
slots_empty w v r (set t p o lives e) = set_empty w v r t p o lives e
slots_empty w v r (born t o is e) = born_empty w v r t o is e
slots_empty w v r (both t p o child u lives is e) = λ s none calm.
    let middle : World = record w { slots = slice_set w.slots t o } in
    born_empty middle v r child u is e s (set_empty w middle (Scalar Done) t p o lives refl s none refl) calm

slots_long : (w v : World) (r : Reply) → Slots w v r → length v.slots ≡ length w.slots
slots_long w v r (same e) = ap length e
slots_long w v r (set t p o lives e) = ap length e ∙ length-set w.slots t o
slots_long w v r (born t o is e) = ap length e ∙ length-set w.slots t o
slots_long w v r (both t p o child u lives is e) = ap length e ∙ length-set (slice_set w.slots t o) child u ∙ length-set w.slots t o

module _ (w : World) where
  quiet : (x : Step) (r : Refusal) → Keeps w x (refuses w r)
  quiet x r = record { comes = λ k. came w w k refl; harts = λ k other. same_harts w w refl k; files = λ e. refl; empty = same_empty w w (Scalar (Refused r)) refl; places = refl; buffers = λ made. absurd (made r refl); marks = λ made. absurd (made r refl) }

  -- neither changes
  still : (x : Step) (v : World) (r : Reply) → IsStill w x → v.harts ≡ w.harts → v.files ≡ w.files → Slots w v r → Keeps w x (answers v r)
  still x v r calm harts files slots = record { buffers = λ made. same_buffers w v x harts calm; marks = λ made. same_marks w v x harts calm; comes = λ k. came w v k (same_harts w v harts k).0; harts = λ k other. same_harts w v harts k; files = λ e. files; empty = slots_empty w v r slots; places = slots_long w v r slots }

  -- the step writes back
  writing : (x : Step) (v : World) (r : Reply) → IsStill w x → v.harts ≡ w.harts → writes_back x r ≡ true → Slots w v r → Keeps w x (answers v r)
  writing x v r calm harts writes slots = record { buffers = λ made. same_buffers w v x harts calm; marks = λ made. same_marks w v x harts calm; comes = λ k. came w v k (same_harts w v harts k).0; empty = slots_empty w v r slots; places = slots_long w v r slots; harts = λ k other. same_harts w v harts k; files = λ e. absurd (let no : true ≡ false = sym writes ∙ e in cc) }

  -- the step moves a hart
  moving : (x : Step) (v : World) (r : Reply) (h : ℕ) (before after : Hart) → slice_get w.harts h ≡ Some before → hart_of x ≡ Some h → Leaves w x before after → v.harts ≡ slice_set w.harts h after → moved_hart x r ≡ Some h → Comes w h after.slot → (writes_back x r ≡ false → v.files ≡ w.files) → Slots w v r → Keeps w x (answers v r)
  moving x v r h before after there own leaves e moves comes files slots = record { buffers = λ made. set_buffers w v x h before after there own leaves e; marks = λ made. set_marks w v x h before after there own leaves e; comes = set_comes w v h after e comes; empty = slots_empty w v r slots; places = slots_long w v r slots; harts = λ k other. other_hart w v h after e k (λ same. other (moves ∙ same)); files = files }

  ending : (x : Step) (v : World) (r : Reply) (h : ℕ) (before after : Hart) → slice_get w.harts h ≡ Some before → hart_of x ≡ Some h → Leaves w x before after → v.harts ≡ slice_set w.harts h after → moved_hart x r ≡ Some h → after.slot ≡ None → writes_back x r ≡ true → Slots w v r → Keeps w x (answers v r)
  ending x v r h before after there own leaves e moves idle writes slots = moving x v r h before after there own leaves e moves (λ s is. absurd (let no = sym idle ∙ is in cc)) (λ f. absurd (let no : true ≡ false = sym writes ∙ f in cc)) slots

  -- a hart gets another buffer
  filling : (x : Step) (v : World) (r : Reply) (h : ℕ) (before after : Hart) → slice_get w.harts h ≡ Some before → hart_of x ≡ Some h → Leaves w x before after → after.slot ≡ before.slot → after.phase ≡ before.phase → v.harts ≡ slice_set w.harts h after
      → v.files ≡ w.files → Slots w v r → Keeps w x (answers v r)
  filling x v r h before after there own leaves slot phase e files slots = record { buffers = λ made. set_buffers w v x h before after there own leaves e; marks = λ made. set_marks w v x h before after there own leaves e; comes = λ k. came w v k (like_hart w v h before after there slot phase e k).0; empty = slots_empty w v r slots; places = slots_long w v r slots; harts = λ k other. like_hart w v h before after there slot phase e k; files = λ f. files }

  image_keeps : (x : Step) → IsStill w x → (s : ℕ) (ls : List LoadSegment) (b : Bool) → Keeps w x (started_unless w s ls b)
  image_keeps x calm s ls true = quiet x _
  image_keeps x calm s ls false = still x (with_image w s ls) (Scalar (Started s)) calm refl refl (born s _ (λ t. refl) refl)

  start_keeps : (x : Step) → IsStill w x → (loads : Result (List LoadSegment) BadImage) (o : Option ℕ) → Keeps w x (started w loads o)
  start_keeps x calm loads None = quiet x _
  start_keeps x calm (Err b) (Some s) = quiet x _
  start_keeps x calm (Ok ls) (Some s) = image_keeps x calm s ls _

  replace_keeps : (h : ℕ) (image : Image) (s : ℕ) (p : Process) (ls : List LoadSegment) (b : Bool) → process_in w s ≡ Some p → Keeps w (step_of.Exec h image) (replaced_unless w s p ls b)
  replace_keeps h image s p ls true lives = quiet _ _
  replace_keeps h image s p ls false lives = writing _ _ _ (λ hart. (refl, refl)) refl refl (set s p _ lives refl)

  exec_keeps : (h : ℕ) (image : Image) (s : ℕ) (p : Process) (loads : Result (List LoadSegment) BadImage) → process_in w s ≡ Some p → Keeps w (step_of.Exec h image) (replaced w s p loads)
  exec_keeps h image s p (Err b) lives = quiet _ _
  exec_keeps h image s p (Ok ls) lives = replace_keeps h image s p ls _ lives

  child_keeps : (x : Step) → IsStill w x → (s : ℕ) (p : Process) (child : ℕ) (b : Bool) → process_in w s ≡ Some p → Keeps w x (forked_unless w s p child b)
  child_keeps x calm s p child true lives = quiet x _
  child_keeps x calm s p child false lives = still x _ _ calm refl refl (both s p _ child _ lives (λ t. refl) refl)

  fork_keeps : (x : Step) → IsStill w x → (s : ℕ) (p : Process) (o : Option ℕ) → process_in w s ≡ Some p → Keeps w x (forked w s p o)
  fork_keeps x calm s p None lives = quiet x _
  fork_keeps x calm s p (Some child) lives = child_keeps x calm s p child _ lives

  size_keeps : (x : Step) → IsStill w x → (s : ℕ) (p : Process) (r : Result Process Refusal) → process_in w s ≡ Some p → Keeps w x (resized_to w s p r)
  size_keeps x calm s p (Err r) lives = quiet x r
  size_keeps x calm s p (Ok q) lives = still x _ _ calm refl refl (set s p _ lives refl)

  map_keeps : (x : Step) → IsStill w x → (s : ℕ) (p : Process) (r : Result Mapped Refusal) → process_in w s ≡ Some p → Keeps w x (mapped_to w s r)
  map_keeps x calm s p (Err r) lives = quiet x r
  map_keeps x calm s p (Ok m) lives = still x _ _ calm refl refl (set s p _ lives refl)

  unmap_keeps : (h address len s : ℕ) (p : Process) (r : Result Unmapped Refusal) → process_in w s ≡ Some p → Keeps w (step_of.Munmap h address len) (unmapped_to w s r)
  unmap_keeps h address len s p (Err r) lives = quiet _ r
  unmap_keeps h address len s p (Ok u) lives = writing _ _ _ (λ hart. (refl, refl)) refl refl (set s p _ lives refl)

  reach_keeps : (h : ℕ) (hart : Hart) → slice_get w.harts h ≡ Some hart → (s : ℕ) (p : Process) (a : Pending) (r : Result Progress Rule) → process_in w s ≡ Some p → Keeps w (step_of.Serve h) (served_or_ended w h hart s p a r)
  reach_keeps h hart is s p a (Err r) lives = ending _ _ _ h hart _ is refl (refl, refl) refl refl refl refl (set s p _ lives refl)
  reach_keeps h hart is s p a (Ok g) lives = still _ _ _ (λ hart. (refl, refl)) refl refl (set s p _ lives refl)

  serve_keeps : (h : ℕ) (hart : Hart) → slice_get w.harts h ≡ Some hart → (s : ℕ) (p : Process) (o : Option Pending) → process_in w s ≡ Some p → Keeps w (step_of.Serve h) (served w h hart s p o)
  serve_keeps h hart is s p None lives = quiet _ _
  serve_keeps h hart is s p (Some a) lives = reach_keeps h hart is s p a _ lives

  in_keeps : (x : Step) → IsStill w x → (s : ℕ) (p : Process) (c : Copied) (o : Option Rule) → process_in w s ≡ Some p → Keeps w x (answers (with_progress w s c.progress) (in_reply c.bytes o))
  in_keeps x calm s p c o lives = still x _ _ calm refl refl (set s p _ lives refl)

  out_keeps : (x : Step) → IsStill w x → (s : ℕ) (p : Process) (c : Copied) (o : Option Rule) → process_in w s ≡ Some p → Keeps w x (answers (with_progress w s c.progress) (out_reply c.bytes o))
  out_keeps x calm s p c o lives = still x _ _ calm refl refl (set s p _ lives refl)

  plain_keeps : (x : Step) → Keeps w x (plain_step w x)
  plain_keeps (step_of.Start image) = start_keeps _ (λ hart. (refl, refl)) (image_loads w.scheme image) (free_slot w)
  plain_keeps (step_of.Switch h slot) = on_hart_can w (Keeps w _) (quiet _) h _ _ _ (λ hart is can. moving _ _ _ h hart _ is refl (refl, refl) refl refl (switch_comes w h slot (may_switch hart.phase) can) (λ e. refl) (same refl))
  plain_keeps (step_of.Trap h) = on_hart_good w (Keeps w _) (quiet _) h true _ _ _ (λ hart is _. its_good w (Keeps w _) (quiet _) h hart _ is (λ t p on here. moving _ _ _ h hart _ is refl (refl, refl) refl refl (came_there w h hart _ is refl) (λ e. refl) (set t p _ here refl)))
  plain_keeps (step_of.Next h) = on_hart_good w (Keeps w _) (quiet _) h true _ _ _ (λ hart is _. moving _ _ _ h hart _ is refl (refl, refl) refl refl (came_there w h hart _ is (fenced_slot w.policy hart)) (λ e. refl) (same refl))
  plain_keeps (step_of.Fill h address) = on_hart_good w (Keeps w _) (quiet _) h true _ _ _ (λ hart is _. filling _ _ _ h hart _ is refl (refl, refl) refl refl refl refl (same refl))
  plain_keeps (step_of.Evict h n) = on_hart_good w (Keeps w _) (quiet _) h true _ _ _ (λ hart is _. filling _ _ _ h hart _ is refl (refl, refl) refl refl refl refl (same refl))
  plain_keeps (step_of.Fetch h address via) =
      access_there w (Keeps w _) (quiet _) h access.Fetch address 4 0 via (λ hart t p cause here on is. moving _ _ _ h hart _ is refl (refl, refl) refl refl (came_there w h hart _ is refl) (λ e. refl) (set t p _ here refl)) (λ hart t p page here on is fits. still _ _ _ (λ hart. (refl, refl)) refl refl (set t p _ here refl))
  plain_keeps (step_of.Load h address width via) =
      access_there w (Keeps w _) (quiet _) h access.Load address width 0 via (λ hart t p cause here on is. moving _ _ _ h hart _ is refl (refl, refl) refl refl (came_there w h hart _ is refl) (λ e. refl) (set t p _ here refl)) (λ hart t p page here on is fits. still _ _ _ (λ hart. (refl, refl)) refl refl (set t p _ here refl))
  plain_keeps (step_of.Store h address width value via) =
      access_there w (Keeps w _) (quiet _) h access.Store address width value via (λ hart t p cause here on is. moving _ _ _ h hart _ is refl (refl, refl) refl refl (came_there w h hart _ is refl) (λ e. refl) (set t p _ here refl)) (λ hart t p page here on is fits. still _ _ _ (λ hart. (refl, refl)) refl refl (set t p _ here refl))
  plain_keeps (step_of.TrampolineFetch h offset via) = on_hart_good w (Keeps w _) (quiet _) h _ _ _ _ (λ hart is _. still _ _ _ (λ hart. (refl, refl)) refl refl (same refl))
  plain_keeps (step_of.Serve h) = on_hart_good w (Keeps w _) (quiet _) h true _ _ _ (λ hart is _. its_good w (Keeps w _) (quiet _) h hart _ is (λ t p on here. serve_keeps h hart is t p p.pending here))
  plain_keeps (step_of.Fork h) = kernel_good w (Keeps w _) (quiet _) h true _ (λ hart t p on here. fork_keeps _ (λ hart. (refl, refl)) t p (free_slot w) here)
  plain_keeps (step_of.Exec h image) = kernel_good w (Keeps w _) (quiet _) h true _ (λ hart t p on here. exec_keeps h image t p (image_loads w.scheme image) here)
  plain_keeps (step_of.Sbrk h delta) = kernel_good w (Keeps w _) (quiet _) h true _ (λ hart t p on here. size_keeps _ (λ hart. (refl, refl)) t p _ here)
  plain_keeps (step_of.Mmap h len protection flags n) = kernel_good w (Keeps w _) (quiet _) h true _ (λ hart t p on here. map_keeps _ (λ hart. (refl, refl)) t p _ here)
  plain_keeps (step_of.Munmap h address len) = kernel_good w (Keeps w _) (quiet _) h true _ (λ hart t p on here. unmap_keeps h address len t p _ here)
  plain_keeps (step_of.CopyIn h address n) = kernel_good w (Keeps w _) (quiet _) h _ _ (λ hart t p on here. let c = copied_in (environment_of w t) (initial_progress w (without_pending p)) address n in in_keeps (step_of.CopyIn h address n) (λ hart. (refl, refl)) t p c c.stop here)
  plain_keeps (step_of.CopyOut h address bytes) = kernel_good w (Keeps w _) (quiet _) h _ _ (λ hart t p on here. let c = copied_out (environment_of w t) (initial_progress w (without_pending p)) address bytes.now in out_keeps (step_of.CopyOut h address bytes) (λ hart. (refl, refl)) t p c c.stop here)
  plain_keeps (step_of.Exit h status) = on_hart_good w (Keeps w _) (quiet _) h true _ _ _ (λ hart is _. its_good w (Keeps w _) (quiet _) h hart _ is (λ t p on here. ending _ _ _ h hart _ is refl (refl, refl) refl refl refl refl (set t p _ here refl)))

  -- marks move no hart

  stale_slot : (slots : List ℕ) (o : Option Hart) → slot_at (option_map (with_stale slots) o) ≡ slot_at o
  stale_slot slots None = refl
  stale_slot slots (Some hart) = refl

  stale_phase : (slots : List ℕ) (o : Option Hart) → option_map (λ (hart : Hart). hart.phase) (option_map (with_stale slots) o) ≡ option_map (λ (hart : Hart). hart.phase) o
  stale_phase slots None = refl
  stale_phase slots (Some hart) = refl

  stale_keys : (slots : List ℕ) (o : Option Hart) → option_map (λ (hart : Hart). hart.keys) (option_map (with_stale slots) o) ≡ option_map (λ (hart : Hart). hart.keys) o
  stale_keys slots None = refl
  stale_keys slots (Some hart) = refl

  stale_marks : (slots : List ℕ) (t : ℕ) (o : Option Hart) → option_map (λ (hart : Hart). hart.stale t) (option_map (with_stale slots) o) ≡ option_map (λ b. list_any (λ n. n == t) slots || b) (option_map (λ (hart : Hart). hart.stale t) o)
  stale_marks slots t None = refl
  stale_marks slots t (Some hart) = refl

  marks_keep : (policy : Policy) (x : Step) (o : StepOutcome) → Keeps w x o → KeepsWith w x (marks_slot policy w o.world) (with_stale_slots policy w o)
  marks_keep Full x o k = k
  marks_keep Asid x o k = record {
    comes = λ n s e.
        let slots = changed_slots 0 w.slots (o.world).slots in
        let is = slice_get-map (with_stale slots) (o.world).harts n in
        k.comes n s (sym (ap slot_at is ∙ stale_slot slots (slice_get (o.world).harts n)) ∙ e);
    harts = λ n other.
        let slots = changed_slots 0 w.slots (o.world).slots in
        let is = slice_get-map (with_stale slots) (o.world).harts n in
        let before = k.harts n other in
        (ap slot_at is ∙ stale_slot slots (slice_get (o.world).harts n) ∙ before.0, ap (option_map (λ (hart : Hart). hart.phase)) is ∙ stale_phase slots (slice_get (o.world).harts n) ∙ before.1);
    files = k.files;
    empty = k.empty;
    places = k.places;
    buffers = λ made n hart there.
        let slots = changed_slots 0 w.slots (o.world).slots in
        ap (option_map (λ (hart : Hart). hart.keys)) (slice_get-map (with_stale slots) (o.world).harts n) ∙ stale_keys slots (slice_get (o.world).harts n) ∙ k.buffers made n hart there;
    marks = λ made n t hart there.
        let slots = changed_slots 0 w.slots (o.world).slots in
        ap (option_map (λ (hart : Hart). hart.stale t)) (slice_get-map (with_stale slots) (o.world).harts n) ∙ stale_marks slots t (slice_get (o.world).harts n)
        ∙ ap (option_map (λ b. list_any (λ n. n == t) slots || b)) (k.marks made n t hart there)
        ∙ ap (λ b. Some (b || (if is_on_hart x n then stale_after w.policy hart x t else hart.stale t))) (among_changed w.slots (o.world).slots t);
  }

  slots_after : (policy : Policy) (o : StepOutcome) → ((with_stale_slots policy w o).world).slots ≡ (o.world).slots
  slots_after Full o = refl
  slots_after Asid o = refl

  same_slots : (policy : Policy) (u v : World) (t : ℕ) → u.slots ≡ v.slots → marks_slot policy w u t ≡ marks_slot policy w v t
  same_slots Full u v t e = refl
  same_slots Asid u v t e = ap (λ (slots : List (Option Process)). changed_at (slice_get w.slots t) (slice_get slots t)) e

  pub step_keeps : (x : Step) → KeepsWith w x (marks_slot w.policy w (step w x).world) (step w x)
  unfolding step
  step_keeps x =
      let keeps = marks_keep w.policy x (plain_step w x) (plain_keeps x) in
      record {
        comes = keeps.comes;
        harts = keeps.harts;
        files = keeps.files;
        empty = keeps.empty;
        places = keeps.places;
        buffers = keeps.buffers;
        marks = λ made k t hart there. keeps.marks made k t hart there
            ∙ ap (λ b. Some (b || (if is_on_hart x k then stale_after w.policy hart x t else hart.stale t))) (same_slots w.policy (plain_step w x).world (step w x).world t (sym (slots_after w.policy (plain_step w x))));
      }
