use Rattle.std.proofs.Common.{◌≡◌, ◌∙◌, ℕ, Err, [], ap, inl, refl, sym, subst}
use Rattle.address_space.specs.Agreement.{body, body_of, IsSpace}
use Rattle.hart_calls.specs.Replay.{forks}
use Rattle.hart_calls.specs.Track.{child_name, next_of, Track}
use Rattle.hart_calls.specs.declared.fork_slot.ForkSlot.TheVariants as slot
use Rattle.cow_fork.specs.Forks.{refusal_of}
use Rattle.frame_store.specs.View.{View}
use Rattle.hart_calls.specs.ShortageReports.{ReportsShortage}
use Rattle.hart_calls.proofs.Parting.{fork_by_slot, fork_goes, fork_lack, fork_leads, fork_may, fork_stays}
use Rattle.process_model.specs.declared.reply.Refusal.{Refusal}
use Rattle.hart_calls.proofs.There.{fork_boxed}
use Rattle.hart_calls.specs.Shortages.{nothing, refused}
use Rattle.process_model.specs.Process.{Process}
use Rattle.process_model.specs.Residence.{child_of}
use Rattle.address_space.specs.declared.space.Space.{Space}
use Rattle.shared_frames.specs.declared.seat.SharedSeat.{SharedSeat}
use Rattle.process_model.specs.declared.call.Call.TheVariants as call
use Rattle.process_model.specs.declared.reply.ScalarReply.TheVariants as scalar
use Rattle.process_model.specs.declared.reply.Reply.TheVariants as reply
use Rattle.shared_frames.specs.SeatsOfTable.{FitsIn, fits_parted, fits_still, may_step, view_of}
use Rattle.hart_calls.proofs.tracked.Tracked.fork_into.Goals as goal

pub fork_boxed-forked-requires-clause-fits : goal.fork_boxed-forked-requires-clause-fits
fork_boxed-forked-requires-clause-fits g c = may_step _ _ c.self.inside.parts.space.value.seat c.requires.store c.self.invariant.0

pub new-child-requires-clause-fits : goal.new-child-requires-clause-fits
new-child-requires-clause-fits g c =
    let keeps = c.in-Ok.ensures.keeps in
    let still = fits_still _ _ _ c.self.inside.parts.space.value.seat c.fork_boxed-forked.new.space.value.seat c.requires.store (λ others r. let k = keeps others r in (k.0, k.1.1)) c.self.invariant.0 in
    subst (λ (s : Space SharedSeat). FitsIn g.B.RunBrand.table s.seat) (sym c.fill-space.ensures)
    (fits_parted _ _ _ c.self.inside.parts.space.value.seat c.fork_boxed-forked.new.space.value.seat c.in-Ok.child.seat c.requires.store (still.0 ∙ sym c.requires.store) keeps c.self.invariant.0).1

pub new-child-requires-clause-agrees : goal.new-child-requires-clause-agrees
new-child-requires-clause-agrees g c =
    let p = c.self.invariant.1 in
    let f = c.in-Ok.ensures.forked p.0 c.self.inside.parts.present.state p.1 in
    let child = c.in-Ok.child in
    let next = child_of c.self.inside.parts.present.state in
    let same : c.copied-layout.result ≡ c.self.inside.parts.space.value.layout = c.copied-layout.ensures ∙ ap (λ (s : Space SharedSeat). s.layout) c.deref.ensures ∙ c.fork_boxed-forked.ensures.layout in
    let there = subst (λ l. IsSpace (body (view_of child.seat) child.root.0 child.trapframe.0 l) f.1 next) (sym same) f.2.child in (
      f.1,
      subst (λ (q : Process). IsSpace (body_of view_of c.fill-space.result.value) f.1 q) (sym c.of_child-opening.ensures)
          (subst (λ (s : Space SharedSeat). IsSpace (body_of view_of s) f.1 next) (sym c.fill-space.ensures) there),
    )

pub new-child-requires-clause-there : goal.new-child-requires-clause-there
new-child-requires-clause-there g c =
    fork_boxed c.self.inside.parts.lists.now c.self.inside.parts.list _ c.args.list c.self.invariant.3 (subst (λ (t : Track). next_of t ≡ call.Fork c.args.list) (sym c.self.view_is) c.requires.next)

pub append_entry-requires-clause-fits : goal.append_entry-requires-clause-fits
append_entry-requires-clause-fits g c =
    let keeps = c.in-Ok.ensures.keeps in
    (fits_still _ _ _ c.self.inside.parts.space.value.seat c.fork_boxed-forked.new.space.value.seat c.requires.store (λ others r. let k = keeps others r in (k.0, k.1.1)) c.self.invariant.0).1

pub append_entry-requires-clause-agrees : goal.append_entry-requires-clause-agrees
append_entry-requires-clause-agrees g c =
    let p = c.self.invariant.1 in
    let f = c.in-Ok.ensures.forked p.0 c.self.inside.parts.present.state p.1 in
    (f.0, subst (λ (q : Process). IsSpace (body_of view_of c.fork_boxed-forked.new.space.value) f.0 q) (sym c.after_fork-present.ensures) f.2.parent)

pub append_entry-requires-in-Err-clause-fits : goal.append_entry-requires-in-Err-clause-fits
append_entry-requires-in-Err-clause-fits g c = (fits_still _ _ _ c.self.inside.parts.space.value.seat c.fork_boxed-forked.new.space.value.seat c.requires.store c.in-Err.ensures.keeps_refused c.self.invariant.0).1

pub append_entry-requires-in-Err-clause-agrees : goal.append_entry-requires-in-Err-clause-agrees
append_entry-requires-in-Err-clause-agrees g c =
    let p = c.self.invariant.1 in
    (p.0, subst (λ (q : Process). IsSpace (body_of view_of c.fork_boxed-forked.new.space.value) p.0 q) (sym c.kept-present.ensures) (c.in-Err.ensures.whole p.0 _ p.1))

pub returns-in-Ok-clause-store : goal.returns-in-Ok-clause-store
returns-in-Ok-clause-store g c =
    let keeps = c.in-Ok.ensures.keeps in
    (fits_still _ _ _ c.self.inside.parts.space.value.seat c.fork_boxed-forked.new.space.value.seat c.requires.store (λ others r. let k = keeps others r in (k.0, k.1.1)) c.self.invariant.0).0

pub returns-in-Err-clause-store : goal.returns-in-Err-clause-store
returns-in-Err-clause-store g c = (fits_still _ _ _ c.self.inside.parts.space.value.seat c.fork_boxed-forked.new.space.value.seat c.requires.store c.in-Err.ensures.keeps_refused c.self.invariant.0).0

pub append_entry-requires-clause-leads : goal.append_entry-requires-clause-leads
append_entry-requires-clause-leads g c =
    let e = c.answer-entry.ensures in
    let number : c.children-number.result ≡ forks c.self.inside.parts.journal.items = c.children-number.ensures ∙ ap (λ (t : Track). forks t.journal) (sym c.self.view_is) in
    ([], fork_leads _ _ c.answer-entry.result c.args.list nothing (reply.Scalar (scalar.Forked (forks c.self.inside.parts.journal.items))) (record { call = e.call ∙ c.listed-listed.ensures ∙ c.requires.next; answer = e.reply ∙ ap (λ (n : ℕ). (reply.Scalar (scalar.Forked n))) number; pages = e.pages; file = e.file; before = e.before ∙ c.kept-before.ensures }) tt refl _ c.after_fork-present.ensures)

pub returns-in-Ok-clause-goes : goal.returns-in-Ok-clause-goes
returns-in-Ok-clause-goes g c =
    let e = c.answer-entry.ensures in
    let r = c.append_entry.ensures in
    let y = c.new-child.ensures in
    let number : c.children-number.result ≡ forks c.self.inside.parts.journal.items = c.children-number.ensures ∙ ap (λ (t : Track). forks t.journal) (sym c.self.view_is) in
    let next = subst (λ (t : Track). next_of t ≡ call.Fork c.args.list) (sym c.self.view_is) c.requires.next in
    let named = subst (λ (t : Track). c.args.name.items ≡ child_name t) (sym c.self.view_is) c.requires.named in
    rw (← c.self.view_is)
    (fork_goes _ c.append_entry.result c.new-child.result c.answer-entry.result c.args.list (slot.Free c.args.name c.args.room) (record { call = e.call ∙ c.listed-listed.ensures ∙ c.requires.next; answer = e.reply ∙ ap (λ (n : ℕ). (reply.Scalar (scalar.Forked n))) number; pages = e.pages; file = e.file; before = e.before ∙ c.kept-before.ensures })
    (record { name = r.name; lists = r.lists; list = r.list; opening = r.opening; journal = r.journal; next = e.call ∙ c.listed-listed.ensures ∙ c.requires.next ∙ sym next }) (r.state ∙ c.after_fork-present.ensures)
    (record { name = y.name ∙ named; lists = y.lists; list = y.list; opening = y.opening ∙ c.of_child-opening.ensures; state = y.state ∙ c.of_child-opening.ensures; journal = y.journal }) (inl refl))

pub append_entry-requires-in-Err-clause-leads : goal.append_entry-requires-in-Err-clause-leads
append_entry-requires-in-Err-clause-leads g c =
    let e = c.answer-entry-in-Err.ensures in
    let r = refusal_of c.in-Err.error in
    ([], fork_leads _ _ c.answer-entry-in-Err.result c.args.list (refused 0 r) (reply.Scalar (scalar.Refused r)) (record { call = e.call ∙ c.listed-listed.ensures ∙ c.requires.next; answer = e.reply ∙ ap (λ (z : Refusal). (reply.Scalar (scalar.Refused z))) c.into.ensures; pages = e.pages; file = e.file; before = e.before ∙ c.kept-before.ensures }) (fork_may c.in-Err.error) refl _ c.kept-present.ensures)

pub returns-in-Err-clause-goes : goal.returns-in-Err-clause-goes
returns-in-Err-clause-goes g c =
    let e = c.answer-entry-in-Err.ensures in
    let j = c.append_entry-in-Err.ensures in
    let r = refusal_of c.in-Err.error in
    let p = c.self.invariant.1 in
    let next = subst (λ (t : Track). next_of t ≡ call.Fork c.args.list) (sym c.self.view_is) c.requires.next in
    let lack = subst (λ (v : View). ReportsShortage (view_of c.self.inside.parts.space.value.seat) v [] c.self.inside.parts.present.state (call.Fork c.args.list) (refused 0 r)) (sym j.seat)
    (fork_lack (view_of c.self.inside.parts.space.value.seat) (view_of c.fork_boxed-forked.new.space.value.seat) c.self.inside.parts.present.state c.args.list c.in-Err.error (λ by. c.in-Err.ensures.dry (ap Err by) p.0 _ p.1) (λ by. c.in-Err.ensures.full (ap Err by))) in
    rw (← c.self.view_is)
    (fork_stays _ c.append_entry-in-Err.result c.answer-entry-in-Err.result c.args.list (slot.Free c.args.name c.args.room) r (record { call = e.call ∙ c.listed-listed.ensures ∙ c.requires.next; answer = e.reply ∙ ap (λ (z : Refusal). (reply.Scalar (scalar.Refused z))) c.into.ensures; pages = e.pages; file = e.file; before = e.before ∙ c.kept-before.ensures }) (fork_may c.in-Err.error)
    (record { name = j.name; lists = j.lists; list = j.list; opening = j.opening; journal = j.journal; next = e.call ∙ c.listed-listed.ensures ∙ c.requires.next ∙ sym next }) (j.state ∙ c.kept-present.ensures) (fork_by_slot c.in-Err.error) lack)
