-- What the search left open of `make_all`.
use Rattle.std.proofs.Common.{◌≡◌, ◌-◌, ◌∷◌, [], false, true, Some, ap, arith, length, length-append, sym, subst, ◌∙◌, List, ℕ, slice_get}
use Rattle.std.proofs.lemmas.Option.{slice_get-get_or}
use Rattle.run_roster.specs.Slots.{count, HasReadFull}
use Rattle.run_roster.specs.StartEffects.{any_full, IsStartResult, slots_of}
use Rattle.run_roster.specs.declared.start_result.StartResult.{StartResult}
use Rattle.run_roster.proofs.Lending.{lends_on}
use Rattle.run_roster.proofs.Framing.{framed_next, left_next}
use Rattle.run_roster.proofs.Making.{full_push, if_full_weaker, made_push, one_slot, taken_push}
use Rattle.run_roster.proofs.Tries.{full_after, full_before, lends_none, reads_none, reads_on}
use Rattle.shared_frames.specs.SeatsOfTable.{view_of}
use Rattle.run_roster.proofs.start.StartContext.make_all.Goals as goal

pub starts-init : goal.starts-init
starts-init g c =
    let none = c.requires.none in
    let names = c.requires.names in
    record {
      fits = c.requires.fits;
      lends = lends_none (view_of c.args.kernel.now);
      reads = reads_none (view_of c.args.kernel.now);
      full = λ is. absurd (let no : false ≡ true = sym (ap any_full none) ∙ is in cc);
      left = omega arith;
      framed = rw none tt;
      made = rw none tt;
      number = ap length none;
      taken = sym (ap (λ (ms : List StartResult). count (slots_of ms)) none);
      few = omega arith;
      rooms = omega (arith, names);
      room = c.requires.room;
    }

pub starts-preserved : goal.starts-preserved
starts-preserved g c =
    let i = c.starts.invariant in
    let m = c.make-made.ensures in
    let table = c.args.self.now.frames.now.table in
    let made = c.make-made.result in
    let start = c.index-starts-number.result in
    let e = c.in-Ok.ensures.items in
    let at : slice_get c.args.starts.now c.starts.number ≡ Some start = slice_get-get_or c.args.starts.now c.starts.number start c.starts-test.true ∙ ap Some (sym c.index-starts-number.is) in
    let is : IsStartResult table c.args.slots c.starts.taken start (c.starts.number ∷ []) made = subst (λ (n : List ℕ). IsStartResult table c.args.slots c.starts.taken start n made) c.fill-name.ensures m.made in
    let numbered = i.number in
    let sum = i.taken in
    let long = ap length e in
    let more = length-append {A = StartResult} c.starts.all.items (made ∷ []) in
    let slots = c.slots-taken.ensures in
    let most = one_slot made in
    let popped = c.in-Some.ensures.cases in
    let both = taken_push c.starts.all.items made in
    let old = view_of c.args.kernel.now in
    let before = view_of c.starts.kernel in
    let after = view_of c.make-made.new.kernel in
    let p = (c.args.self.now.alone ≡ false) × HasReadFull old after in
    let free = c.args.self.now.free in
    let need = c.frames_for-need.result in
    let needed = c.frames_for-need.ensures in
    record {
      fits = m.fits;
      lends = lends_on (view_of c.args.kernel.now) (view_of c.starts.kernel) (view_of c.make-made.new.kernel) i.lends m.lends;
      reads = reads_on old before after i.reads m.reads;
      full = rw e (full_push p c.starts.all.items made (λ was. let h = i.full was in (h.0, full_after old before after h.1 m.reads)) (if_full_weaker ((c.args.self.now.alone ≡ false) × HasReadFull before after) p (λ h. (h.0, full_before old before after i.reads h.1)) made m.full));
      left = rw e (left_next free c.args.starts.now c.starts.all.items made c.starts.number c.starts.left need start i.number at needed i.left _ (c.saturating_sub-left.ensures ∙ ap (λ (n : ℕ). c.starts.left - n) c.frames.ensures));
      framed = rw e (framed_next free c.args.starts.now c.starts.all.items made c.starts.number c.starts.left need start i.number at needed i.left i.framed m.frames);
      made = rw e (made_push table c.args.slots c.args.starts.now 0 0 c.starts.all.items made c.starts.number c.starts.taken (omega (arith, numbered)) (omega (arith, sum)) i.made (start, at, is));
      number = omega (arith, long, more, numbered);
      taken = rw e (omega (arith, sum, slots, both));
      few = omega (arith, i.few, slots, most);
      rooms = omega (arith, popped, i.rooms);
      room = omega arith;
    }
