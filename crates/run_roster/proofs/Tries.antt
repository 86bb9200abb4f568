-- Lemmas on the tries of a start: what the kernel's seat (its capability at the frame store) has read (`HasRead`,
-- `HasReadFull`) after one step more, and why a start is refused, by the refusal.
use Rattle.std.proofs.Common.{◌≡◌, ℕ, Bool, true, false, List, [], ◌∷◌, ◌++◌, Ok, refl, sym, ap, ◌∙◌, arith}
use Rattle.std.specs.Prelude.{nat_lt}
use Rattle.std.proofs.lemmas.Bool.{ltb-false, ltb-true}
use Rattle.std.proofs.lemmas.List.{append-nil, append_assoc}
use Rattle.frame_store.specs.View.{IsHeld, read_full, View}
use Rattle.run_roster.specs.RosterState.{RefusesStart}
use Rattle.run_roster.specs.Slots.{FindsSlot, HasRead, HasReadFull, OnFull}
use Rattle.run_roster.specs.StartFrames.{OnNoFrame}
use Rattle.run_roster.specs.Starts.{IsRefusedStart, IsRefusedTry, Lends}
use Rattle.process_model.specs.Frames.{start_need}
use Rattle.process_model.specs.Images.{image_loads, LoadSegment}
use Rattle.process_model.specs.declared.call.ProcessEnd.TheVariants as outcome
use Rattle.process_model.specs.declared.image.Image.{Image}
use Rattle.process_model.specs.declared.reply.Refusal.{Refusal}
use Rattle.process_model.specs.declared.reply.Refusal.TheVariants as refusal
use Rattle.sv39_entry.specs.declared.scheme.Scheme.TheVariants.{Sv39}

-- what was read

pub held_still : (v w : View) → Lends v w → IsHeld v 0 → IsHeld w 0
held_still v w lends held = let same = lends.trampoline in omega (arith, same, held)

pub lends_none : (v : View) → Lends v v
lends_none v = record { size = refl; credits = refl; trampoline = refl; words = refl; others = λ f ne. refl }

pub reads_none : (v : View) → HasRead v v
reads_none v = ([], sym (append-nil v.tallies.looks))

pub reads_same : (v w : View) → w.tallies.looks ≡ v.tallies.looks → HasRead v w
reads_same v w same = ([], same ∙ sym (append-nil v.tallies.looks))

pub reads_still : (v w : View) → w ≡ v → HasRead v w
reads_still v w same = reads_same v w (ap (λ (x : View). x.tallies.looks) same)

pub reads_on : (u v w : View) → HasRead u v → HasRead v w → HasRead u w
reads_on u v w a b = (a.0 ++ b.0, b.1 ∙ (ap (λ (ls : List ℕ). ls ++ b.0) a.1 ∙ append_assoc u.tallies.looks a.0 b.0))

pub reads_one : (v w : View) → w ≡ read_full v → HasRead v w
reads_one v w is = (65535 ∷ [], ap (λ (x : View). x.tallies.looks) is)

pub full_now : (v w : View) → w ≡ read_full v → HasReadFull v w
full_now v w is = ([], [], ap (λ (x : View). x.tallies.looks) is ∙ ap (λ (ls : List ℕ). ls ++ 65535 ∷ []) (sym (append-nil v.tallies.looks)))

pub full_before : (u v w : View) → HasRead u v → HasReadFull v w → HasReadFull u w
full_before u v w a b = (a.0 ++ b.0, b.1, b.2 ∙ (ap (λ (ls : List ℕ). (ls ++ b.0) ++ 65535 ∷ b.1) a.1 ∙ ap (λ (ls : List ℕ). ls ++ 65535 ∷ b.1) (append_assoc u.tallies.looks a.0 b.0)))

pub full_after : (u v w : View) → HasReadFull u v → HasRead v w → HasReadFull u w
full_after u v w a b = (a.0, a.1 ++ b.0, b.1 ∙ (ap (λ (ls : List ℕ). ls ++ b.0) a.2 ∙ append_assoc (u.tallies.looks ++ a.0) (65535 ∷ a.1) b.0))

-- a refused start, by its refusal

module _ (slot alone enough : Bool) (image : Image) (v w u : View) where
  pub refused_start : (ls : List LoadSegment) (need : ℕ) (r : Refusal) → slot ≡ true → image_loads Sv39 image ≡ Ok ls → need ≡ start_need Sv39 ls → IsRefusedTry alone enough need v w u r → IsRefusedStart slot alone enough image v w r
  refused_start ls need refusal.SharersFull has loads is h = (has, h.0, h.1)
  refused_start ls need refusal.NoFrame has loads is h = (has, h.0)
  refused_start ls need r has loads is h = absurd h

  pub refused_why : (ls : List LoadSegment) (need : ℕ) (r : Refusal) → image_loads Sv39 image ≡ Ok ls → need ≡ start_need Sv39 ls → IsRefusedTry alone enough need v w u r → RefusesStart image u r
  refused_why ls need refusal.SharersFull loads is h = tt
  refused_why ls need refusal.NoFrame loads is h = let short = h.1.short in (ls, loads, record { zeros = h.1.zeros; short = omega (arith, short, is); claims = h.1.claims })
  refused_why ls need r loads is h = absurd h

  pub refused_full : (r : Refusal) → IsRefusedStart slot alone enough image v w r → OnFull ((alone ≡ false) × HasReadFull v w) (outcome.Refused r)
  refused_full refusal.SharersFull h = (h.1, h.2)
  refused_full r h = tt

  pub refused_frames : (r : Refusal) → IsRefusedStart slot alone enough image v w r → OnNoFrame (enough ≡ false) (outcome.Refused r)
  refused_frames refusal.NoFrame h = h.1
  refused_frames r h = tt

pub refused_slot : (taken slots : ℕ) (alone enough : Bool) (image : Image) (v w : View) (r : Refusal) → IsRefusedStart (nat_lt taken slots) alone enough image v w r → FindsSlot slots taken (outcome.Refused r)
refused_slot taken slots alone enough image v w refusal.NoSlot h = ltb-false taken slots h
refused_slot taken slots alone enough image v w (refusal.BadImage part) h = ltb-true taken slots h.0
refused_slot taken slots alone enough image v w refusal.SharersFull h = ltb-true taken slots h.0
refused_slot taken slots alone enough image v w refusal.NoFrame h = ltb-true taken slots h.0
refused_slot taken slots alone enough image v w r h = absurd h
