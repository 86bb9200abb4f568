use Rattle.std.proofs.Common.{◌≡◌, ◌<◌, ◌-◌, ◌∙◌, ap, length, refl, Some, sym, subst}
use Rattle.std.specs.Prelude.{vec_capacity, vec_len}
use Rattle.address_space.specs.Agreement.{body_of, IsSpace}
use Rattle.file_shelf.specs.ShelfStates.{ShelfState}
use Rattle.hart_calls.specs.CallKinds.{IsAccessCall}
use Rattle.hart_calls.specs.ProcessEnd.{cause_of}
use Rattle.hart_calls.specs.CallResults.{address_of, at_stop, by_reply, shortage_of}
use Rattle.hart_calls.specs.CallOutcomes.{reads_of, call_outcome}
use Rattle.hart_calls.specs.Track.{AppendsEntry, next_of, Track}
use Rattle.hart_calls.specs.TurnCases.{IsCutFor, KeepsFilesByOutcome}
use Rattle.hart_calls.specs.Shortages.{nothing, refused, Shortage}
use Rattle.hart_calls.proofs.Ends.{could_still, cut_files, cut_for, cut_over, is_cause}
use Rattle.hart_calls.proofs.Full.{read_maps}
use Rattle.hart_calls.proofs.Filing.{ended_files}
use Rattle.hart_calls.proofs.Staying.{has_grown, pages_are}
use Rattle.hart_calls.proofs.Turning.{filed, filed_over, goes, IsEntryOf, leads, over}
use Rattle.process_model.specs.Process.{Process}
use Rattle.process_model.specs.declared.reply.Reply.{Reply}
use Rattle.process_model.specs.declared.reply.ScalarReply.TheVariants as scalar
use Rattle.process_model.specs.declared.reply.Reply.TheVariants as reply
use Rattle.shared_frames.specs.SeatsOfTable.{fits_still, may_step, view_of}
use Rattle.process_model.specs.declared.call.Call.{Call}
use Rattle.hart_calls.proofs.tracked.Tracked.plain_call.Goals as goal
use Rattle.process_model.specs.declared.limits.TheConstants.{MOST_ENTRIES}

pub make_boxed-call_result-requires-clause-fits : goal.make_boxed-call_result-requires-clause-fits
make_boxed-call_result-requires-clause-fits g c = may_step _ _ c.self.inside.parts.space.value.seat c.requires.store c.self.invariant.0

pub append_entry-requires-clause-fits : goal.append_entry-requires-clause-fits
append_entry-requires-clause-fits g c = (fits_still _ _ _ c.self.inside.parts.space.value.seat c.make_boxed-call_result.new.space.value.seat c.requires.store c.make_boxed-call_result.ensures.keeps c.self.invariant.0).1

pub returns-in-Answered-clause-store : goal.returns-in-Answered-clause-store
returns-in-Answered-clause-store g c = (fits_still _ _ _ c.self.inside.parts.space.value.seat c.make_boxed-call_result.new.space.value.seat c.requires.store c.make_boxed-call_result.ensures.keeps c.self.invariant.0).0

pub append_entry-requires-in-Unpromised-clause-fits : goal.append_entry-requires-in-Unpromised-clause-fits
append_entry-requires-in-Unpromised-clause-fits g c = (fits_still _ _ _ c.self.inside.parts.space.value.seat c.make_boxed-call_result.new.space.value.seat c.requires.store c.make_boxed-call_result.ensures.keeps c.self.invariant.0).1

pub returns-in-Unpromised-clause-store : goal.returns-in-Unpromised-clause-store
returns-in-Unpromised-clause-store g c = (fits_still _ _ _ c.self.inside.parts.space.value.seat c.make_boxed-call_result.new.space.value.seat c.requires.store c.make_boxed-call_result.ensures.keeps c.self.invariant.0).0

pub close-requires-clause-store : goal.close-requires-clause-store
close-requires-clause-store g c = (fits_still _ _ _ c.self.inside.parts.space.value.seat c.make_boxed-call_result.new.space.value.seat c.requires.store c.make_boxed-call_result.ensures.keeps c.self.invariant.0).0

pub close-requires-clause-fits : goal.close-requires-clause-fits
close-requires-clause-fits g c = (fits_still _ _ _ c.self.inside.parts.space.value.seat c.make_boxed-call_result.new.space.value.seat c.requires.store c.make_boxed-call_result.ensures.keeps c.self.invariant.0).1

pub cut-requires-clause-cause : goal.cut-requires-clause-cause
cut-requires-clause-cause g c = rw c.cause_of.ensures (is_cause c.in-Unserved.refusal)

pub cut-requires-clause-full : goal.cut-requires-clause-full
cut-requires-clause-full g c =
    let p = c.self.invariant.1 in
    let q = c.self.inside.parts.present.state in
    let k = c.args.call in
    let a = c.args.shelf.now in
    let journal = c.self.inside.parts.journal.items in
    let cut = c.in-Unserved.ensures.call_result p.0 q p.1 in
    let could = cut.1.could in
    let maps = read_maps q p.1.sound.order a.files k cut.0 cut.1.of_file in
    let few = subst (λ (z : Track). length z.journal < MOST_ENTRIES) (sym c.self.view_is) c.requires.few in
    let next = subst (λ (z : Track). k ≡ next_of z) (sym c.self.view_is) c.requires.next in
    rw c.cause_of.ensures (subst (λ (z : Call). IsCutFor q z journal (cause_of c.in-Unserved.refusal)) next (cut_for q k journal a c.in-Unserved.refusal could.1 few maps cut.0 cut.1.of_file (could_still a could.0 1 could.1 could.2 could.3) could.4))

pub cut-requires-clause-store : goal.cut-requires-clause-store
cut-requires-clause-store g c = (fits_still _ _ _ c.self.inside.parts.space.value.seat c.make_boxed-call_result.new.space.value.seat c.requires.store c.make_boxed-call_result.ensures.keeps c.self.invariant.0).0

pub pages_read-pages-requires-clause-mark : goal.pages_read-pages-requires-clause-mark
pages_read-pages-requires-clause-mark g c =
    let p = c.self.invariant.1 in
    let grew = has_grown _ _ _ _ _ _ _ c.args.call (c.args.shelf.now).history (c.make_boxed-call_result.new.files).history (λ ms became. became.history) c.make_boxed-call_result.result (c.make_boxed-call_result.ensures.call_result p.0 c.self.inside.parts.present.state p.1) in
    let longer = grew.longer in
    rw c.uses-mark.ensures longer

pub append_entry-requires-clause-agrees : goal.append_entry-requires-clause-agrees
append_entry-requires-clause-agrees g c =
    let t : Track = record {
      name = c.self.inside.parts.name.items;
      lists = c.self.inside.parts.lists.now;
      list = c.self.inside.parts.list;
      opening = c.self.inside.parts.opening.state;
      state = c.self.inside.parts.present.state;
      journal = c.self.inside.parts.journal.items;
      seat = view_of c.self.inside.parts.space.value.seat;
      room = vec_capacity c.self.inside.parts.journal - vec_len c.self.inside.parts.journal;
    } in
    let p = c.self.invariant.1 in
    let a = c.args.shelf.now in
    let b = c.make_boxed-call_result.new.files in
    let k = c.args.call in
    let x = body_of view_of c.self.inside.parts.space.value in
    let y = body_of view_of c.make_boxed-call_result.new.space.value in
    let state = c.self.inside.parts.present.state in
    let h = c.in-Answered.ensures.call_result p.0 state p.1 in
    let comes = h.1 in
    let r = c.in-Answered.reply in
    let w : Shortage = by_reply (address_of k) r in
    let moved : c.state_after-present.result.state ≡ (call_outcome a.files w 0 state k).process = c.state_after-present.ensures ∙ ap (λ (s : ShelfState). (call_outcome s.files w 0 state k).process) c.of-before.ensures in
    (comes.space.0, subst (λ (q : Process). IsSpace y comes.space.0 q) (sym moved) comes.space.1)

pub append_entry-requires-clause-leads : goal.append_entry-requires-clause-leads
append_entry-requires-clause-leads g c =
    let t : Track = record {
      name = c.self.inside.parts.name.items;
      lists = c.self.inside.parts.lists.now;
      list = c.self.inside.parts.list;
      opening = c.self.inside.parts.opening.state;
      state = c.self.inside.parts.present.state;
      journal = c.self.inside.parts.journal.items;
      seat = view_of c.self.inside.parts.space.value.seat;
      room = vec_capacity c.self.inside.parts.journal - vec_len c.self.inside.parts.journal;
    } in
    let p = c.self.invariant.1 in
    let a = c.args.shelf.now in
    let b = c.make_boxed-call_result.new.files in
    let k = c.args.call in
    let x = body_of view_of c.self.inside.parts.space.value in
    let y = body_of view_of c.make_boxed-call_result.new.space.value in
    let state = c.self.inside.parts.present.state in
    let h = c.in-Answered.ensures.call_result p.0 state p.1 in
    let comes = h.1 in
    let r = c.in-Answered.reply in
    let w : Shortage = by_reply (address_of k) r in
    let n = c.new-entry.ensures in
    let e = c.new-entry.result in
    let is : IsEntryOf t a w k r e = record {
      call = n.call ∙ c.listed-listed.ensures ∙ sym c.requires.next;
      answer = n.reply;
      pages = n.pages ∙ pages_are a.files w state k a.history b.history c.pages_read-pages.result c.uses-mark.result c.uses-mark.ensures c.pages_read-pages.ensures comes.moves.history;
      file = n.file ∙ c.mapped_file-file.ensures;
      before = n.before ∙ c.kept-was.ensures;
    } in
    let moved : c.state_after-present.result.state ≡ (call_outcome a.files w 0 state k).process = c.state_after-present.ensures ∙ ap (λ (s : ShelfState). (call_outcome s.files w 0 state k).process) c.of-before.ensures in
    (a.files, leads t k c.requires.plain a b w r e is x y refl comes _ moved)

pub returns-in-Answered-clause-turned : goal.returns-in-Answered-clause-turned
returns-in-Answered-clause-turned g c =
    let t : Track = record {
      name = c.self.inside.parts.name.items;
      lists = c.self.inside.parts.lists.now;
      list = c.self.inside.parts.list;
      opening = c.self.inside.parts.opening.state;
      state = c.self.inside.parts.present.state;
      journal = c.self.inside.parts.journal.items;
      seat = view_of c.self.inside.parts.space.value.seat;
      room = vec_capacity c.self.inside.parts.journal - vec_len c.self.inside.parts.journal;
    } in
    let p = c.self.invariant.1 in
    let a = c.args.shelf.now in
    let b = c.make_boxed-call_result.new.files in
    let k = c.args.call in
    let x = body_of view_of c.self.inside.parts.space.value in
    let y = body_of view_of c.make_boxed-call_result.new.space.value in
    let state = c.self.inside.parts.present.state in
    let h = c.in-Answered.ensures.call_result p.0 state p.1 in
    let comes = h.1 in
    let r = c.in-Answered.reply in
    let w : Shortage = by_reply (address_of k) r in
    let n = c.new-entry.ensures in
    let e = c.new-entry.result in
    let is : IsEntryOf t a w k r e = record {
      call = n.call ∙ c.listed-listed.ensures ∙ sym c.requires.next;
      answer = n.reply;
      pages = n.pages ∙ pages_are a.files w state k a.history b.history c.pages_read-pages.result c.uses-mark.result c.uses-mark.ensures c.pages_read-pages.ensures comes.moves.history;
      file = n.file ∙ c.mapped_file-file.ensures;
      before = n.before ∙ c.kept-was.ensures;
    } in
    let moved : c.state_after-present.result.state ≡ (call_outcome a.files w 0 state k).process = c.state_after-present.ensures ∙ ap (λ (s : ShelfState). (call_outcome s.files w 0 state k).process) c.of-before.ensures in
    let next = subst (λ (z : Track). k ≡ next_of z) (sym c.self.view_is) c.requires.next in
    let j = c.append_entry.ensures in
    let adds : AppendsEntry t c.append_entry.result e = record { name = j.name; lists = j.lists; list = j.list; opening = j.opening; journal = j.journal; next = is.call ∙ next } in
    rw (← c.self.view_is) (goes t k c.requires.plain a b w r e is x y refl comes c.append_entry.result adds j.seat (j.state ∙ moved) h.0 c.args.slot.now)

pub returns-in-Answered-clause-files : goal.returns-in-Answered-clause-files
returns-in-Answered-clause-files g c =
    let t : Track = record {
      name = c.self.inside.parts.name.items;
      lists = c.self.inside.parts.lists.now;
      list = c.self.inside.parts.list;
      opening = c.self.inside.parts.opening.state;
      state = c.self.inside.parts.present.state;
      journal = c.self.inside.parts.journal.items;
      seat = view_of c.self.inside.parts.space.value.seat;
      room = vec_capacity c.self.inside.parts.journal - vec_len c.self.inside.parts.journal;
    } in
    let p = c.self.invariant.1 in
    let a = c.args.shelf.now in
    let b = c.make_boxed-call_result.new.files in
    let k = c.args.call in
    let x = body_of view_of c.self.inside.parts.space.value in
    let y = body_of view_of c.make_boxed-call_result.new.space.value in
    let state = c.self.inside.parts.present.state in
    let h = c.in-Answered.ensures.call_result p.0 state p.1 in
    let comes = h.1 in
    let r = c.in-Answered.reply in
    let w : Shortage = by_reply (address_of k) r in
    let n = c.new-entry.ensures in
    let e = c.new-entry.result in
    let is : IsEntryOf t a w k r e = record {
      call = n.call ∙ c.listed-listed.ensures ∙ sym c.requires.next;
      answer = n.reply;
      pages = n.pages ∙ pages_are a.files w state k a.history b.history c.pages_read-pages.result c.uses-mark.result c.uses-mark.ensures c.pages_read-pages.ensures comes.moves.history;
      file = n.file ∙ c.mapped_file-file.ensures;
      before = n.before ∙ c.kept-was.ensures;
    } in
    let moved : c.state_after-present.result.state ≡ (call_outcome a.files w 0 state k).process = c.state_after-present.ensures ∙ ap (λ (s : ShelfState). (call_outcome s.files w 0 state k).process) c.of-before.ensures in
    let next = subst (λ (z : Track). k ≡ next_of z) (sym c.self.view_is) c.requires.next in
    let j = c.append_entry.ensures in
    let adds : AppendsEntry t c.append_entry.result e = record { name = j.name; lists = j.lists; list = j.list; opening = j.opening; journal = j.journal; next = is.call ∙ next } in
    rw (← c.self.view_is) (filed t k c.requires.plain a b w r e is x y refl comes c.append_entry.result adds j.seat (j.state ∙ moved) h.0)

pub append_entry-requires-in-Unpromised-clause-agrees : goal.append_entry-requires-in-Unpromised-clause-agrees
append_entry-requires-in-Unpromised-clause-agrees g c =
    let t : Track = record {
      name = c.self.inside.parts.name.items;
      lists = c.self.inside.parts.lists.now;
      list = c.self.inside.parts.list;
      opening = c.self.inside.parts.opening.state;
      state = c.self.inside.parts.present.state;
      journal = c.self.inside.parts.journal.items;
      seat = view_of c.self.inside.parts.space.value.seat;
      room = vec_capacity c.self.inside.parts.journal - vec_len c.self.inside.parts.journal;
    } in
    let p = c.self.invariant.1 in
    let a = c.args.shelf.now in
    let b = c.make_boxed-call_result.new.files in
    let k = c.args.call in
    let x = body_of view_of c.self.inside.parts.space.value in
    let y = body_of view_of c.make_boxed-call_result.new.space.value in
    let state = c.self.inside.parts.present.state in
    let comes = c.in-Unpromised.ensures.call_result p.0 state p.1 in
    let r : Reply = reply.Scalar (scalar.Refused c.in-Unpromised.refusal) in
    let w : Shortage = refused c.in-Unpromised.done c.in-Unpromised.refusal in
    let moved : c.state_after-present-in-Unpromised.result.state ≡ (call_outcome a.files w 0 state k).process = c.state_after-present-in-Unpromised.ensures ∙ ap (λ (z : Reply). (call_outcome (c.of-before.result.value).files (shortage_of (Some c.in-Unpromised.done) k z) 0 state k).process) c.scalar-reply.ensures ∙ ap (λ (s : ShelfState). (call_outcome s.files w 0 state k).process) c.of-before.ensures in
    (comes.space.0, subst (λ (q : Process). IsSpace y comes.space.0 q) (sym moved) comes.space.1)

pub append_entry-requires-in-Unpromised-clause-leads : goal.append_entry-requires-in-Unpromised-clause-leads
append_entry-requires-in-Unpromised-clause-leads g c =
    let t : Track = record {
      name = c.self.inside.parts.name.items;
      lists = c.self.inside.parts.lists.now;
      list = c.self.inside.parts.list;
      opening = c.self.inside.parts.opening.state;
      state = c.self.inside.parts.present.state;
      journal = c.self.inside.parts.journal.items;
      seat = view_of c.self.inside.parts.space.value.seat;
      room = vec_capacity c.self.inside.parts.journal - vec_len c.self.inside.parts.journal;
    } in
    let p = c.self.invariant.1 in
    let a = c.args.shelf.now in
    let b = c.make_boxed-call_result.new.files in
    let k = c.args.call in
    let x = body_of view_of c.self.inside.parts.space.value in
    let y = body_of view_of c.make_boxed-call_result.new.space.value in
    let state = c.self.inside.parts.present.state in
    let comes = c.in-Unpromised.ensures.call_result p.0 state p.1 in
    let r : Reply = reply.Scalar (scalar.Refused c.in-Unpromised.refusal) in
    let w : Shortage = refused c.in-Unpromised.done c.in-Unpromised.refusal in
    let n = c.new-entry-in-Unpromised.ensures in
    let e = c.new-entry-in-Unpromised.result in
    let is : IsEntryOf t a w k r e = record {
      call = n.call ∙ c.listed-listed.ensures ∙ sym c.requires.next;
      answer = n.reply ∙ c.scalar-reply.ensures;
      pages = n.pages ∙ pages_are a.files w state k a.history b.history c.pages_read-pages.result c.uses-mark.result c.uses-mark.ensures c.pages_read-pages.ensures comes.moves.history;
      file = n.file ∙ c.mapped_file-file.ensures;
      before = n.before ∙ c.kept-was.ensures;
    } in
    let moved : c.state_after-present-in-Unpromised.result.state ≡ (call_outcome a.files w 0 state k).process = c.state_after-present-in-Unpromised.ensures ∙ ap (λ (z : Reply). (call_outcome (c.of-before.result.value).files (shortage_of (Some c.in-Unpromised.done) k z) 0 state k).process) c.scalar-reply.ensures ∙ ap (λ (s : ShelfState). (call_outcome s.files w 0 state k).process) c.of-before.ensures in
    (a.files, leads t k c.requires.plain a b w r e is x y refl comes _ moved)

pub returns-in-Unpromised-clause-turned : goal.returns-in-Unpromised-clause-turned
returns-in-Unpromised-clause-turned g c =
    let t : Track = record {
      name = c.self.inside.parts.name.items;
      lists = c.self.inside.parts.lists.now;
      list = c.self.inside.parts.list;
      opening = c.self.inside.parts.opening.state;
      state = c.self.inside.parts.present.state;
      journal = c.self.inside.parts.journal.items;
      seat = view_of c.self.inside.parts.space.value.seat;
      room = vec_capacity c.self.inside.parts.journal - vec_len c.self.inside.parts.journal;
    } in
    let p = c.self.invariant.1 in
    let a = c.args.shelf.now in
    let b = c.make_boxed-call_result.new.files in
    let k = c.args.call in
    let x = body_of view_of c.self.inside.parts.space.value in
    let y = body_of view_of c.make_boxed-call_result.new.space.value in
    let state = c.self.inside.parts.present.state in
    let comes = c.in-Unpromised.ensures.call_result p.0 state p.1 in
    let r : Reply = reply.Scalar (scalar.Refused c.in-Unpromised.refusal) in
    let w : Shortage = refused c.in-Unpromised.done c.in-Unpromised.refusal in
    let n = c.new-entry-in-Unpromised.ensures in
    let e = c.new-entry-in-Unpromised.result in
    let is : IsEntryOf t a w k r e = record {
      call = n.call ∙ c.listed-listed.ensures ∙ sym c.requires.next;
      answer = n.reply ∙ c.scalar-reply.ensures;
      pages = n.pages ∙ pages_are a.files w state k a.history b.history c.pages_read-pages.result c.uses-mark.result c.uses-mark.ensures c.pages_read-pages.ensures comes.moves.history;
      file = n.file ∙ c.mapped_file-file.ensures;
      before = n.before ∙ c.kept-was.ensures;
    } in
    let moved : c.state_after-present-in-Unpromised.result.state ≡ (call_outcome a.files w 0 state k).process = c.state_after-present-in-Unpromised.ensures ∙ ap (λ (z : Reply). (call_outcome (c.of-before.result.value).files (shortage_of (Some c.in-Unpromised.done) k z) 0 state k).process) c.scalar-reply.ensures ∙ ap (λ (s : ShelfState). (call_outcome s.files w 0 state k).process) c.of-before.ensures in
    let next = subst (λ (z : Track). k ≡ next_of z) (sym c.self.view_is) c.requires.next in
    let j = c.append_entry-in-Unpromised.ensures in
    let adds : AppendsEntry t c.append_entry-in-Unpromised.result e = record { name = j.name; lists = j.lists; list = j.list; opening = j.opening; journal = j.journal; next = is.call ∙ next } in
    rw (← c.self.view_is) (goes t k c.requires.plain a b w r e is x y refl comes c.append_entry-in-Unpromised.result adds j.seat (j.state ∙ moved) tt c.args.slot.now)

pub returns-in-Unpromised-clause-files : goal.returns-in-Unpromised-clause-files
returns-in-Unpromised-clause-files g c =
    let t : Track = record {
      name = c.self.inside.parts.name.items;
      lists = c.self.inside.parts.lists.now;
      list = c.self.inside.parts.list;
      opening = c.self.inside.parts.opening.state;
      state = c.self.inside.parts.present.state;
      journal = c.self.inside.parts.journal.items;
      seat = view_of c.self.inside.parts.space.value.seat;
      room = vec_capacity c.self.inside.parts.journal - vec_len c.self.inside.parts.journal;
    } in
    let p = c.self.invariant.1 in
    let a = c.args.shelf.now in
    let b = c.make_boxed-call_result.new.files in
    let k = c.args.call in
    let x = body_of view_of c.self.inside.parts.space.value in
    let y = body_of view_of c.make_boxed-call_result.new.space.value in
    let state = c.self.inside.parts.present.state in
    let comes = c.in-Unpromised.ensures.call_result p.0 state p.1 in
    let r : Reply = reply.Scalar (scalar.Refused c.in-Unpromised.refusal) in
    let w : Shortage = refused c.in-Unpromised.done c.in-Unpromised.refusal in
    let n = c.new-entry-in-Unpromised.ensures in
    let e = c.new-entry-in-Unpromised.result in
    let is : IsEntryOf t a w k r e = record {
      call = n.call ∙ c.listed-listed.ensures ∙ sym c.requires.next;
      answer = n.reply ∙ c.scalar-reply.ensures;
      pages = n.pages ∙ pages_are a.files w state k a.history b.history c.pages_read-pages.result c.uses-mark.result c.uses-mark.ensures c.pages_read-pages.ensures comes.moves.history;
      file = n.file ∙ c.mapped_file-file.ensures;
      before = n.before ∙ c.kept-was.ensures;
    } in
    let moved : c.state_after-present-in-Unpromised.result.state ≡ (call_outcome a.files w 0 state k).process = c.state_after-present-in-Unpromised.ensures ∙ ap (λ (z : Reply). (call_outcome (c.of-before.result.value).files (shortage_of (Some c.in-Unpromised.done) k z) 0 state k).process) c.scalar-reply.ensures ∙ ap (λ (s : ShelfState). (call_outcome s.files w 0 state k).process) c.of-before.ensures in
    let next = subst (λ (z : Track). k ≡ next_of z) (sym c.self.view_is) c.requires.next in
    let j = c.append_entry-in-Unpromised.ensures in
    let adds : AppendsEntry t c.append_entry-in-Unpromised.result e = record { name = j.name; lists = j.lists; list = j.list; opening = j.opening; journal = j.journal; next = is.call ∙ next } in
    rw (← c.self.view_is) (filed t k c.requires.plain a b w r e is x y refl comes c.append_entry-in-Unpromised.result adds j.seat (j.state ∙ moved) tt)

pub close-requires-clause-ready : goal.close-requires-clause-ready
close-requires-clause-ready g c =
    let t : Track = record {
      name = c.self.inside.parts.name.items;
      lists = c.self.inside.parts.lists.now;
      list = c.self.inside.parts.list;
      opening = c.self.inside.parts.opening.state;
      state = c.self.inside.parts.present.state;
      journal = c.self.inside.parts.journal.items;
      seat = view_of c.self.inside.parts.space.value.seat;
      room = vec_capacity c.self.inside.parts.journal - vec_len c.self.inside.parts.journal;
    } in
    let p = c.self.invariant.1 in
    let a = c.args.shelf.now in
    let b = c.make_boxed-call_result.new.files in
    let k = c.args.call in
    let x = body_of view_of c.self.inside.parts.space.value in
    let y = body_of view_of c.make_boxed-call_result.new.space.value in
    let state = c.self.inside.parts.present.state in
    let comes = (c.in-Ended.ensures.call_result p.0 state p.1).0 in
    let r : Reply = reply.Scalar (scalar.Ended c.in-Ended.rule) in
    let w : Shortage = at_stop c.in-Ended.rule (address_of k) in
    let ended = ended_files a.files state w k c.in-Ended.rule c.requires.plain (sym comes.reply) in
    (comes.space.0, subst (λ (q : Process). IsSpace y comes.space.0 q) ended.2 comes.space.1)

pub returns-in-Ended-clause-turned : goal.returns-in-Ended-clause-turned
returns-in-Ended-clause-turned g c =
    let t : Track = record {
      name = c.self.inside.parts.name.items;
      lists = c.self.inside.parts.lists.now;
      list = c.self.inside.parts.list;
      opening = c.self.inside.parts.opening.state;
      state = c.self.inside.parts.present.state;
      journal = c.self.inside.parts.journal.items;
      seat = view_of c.self.inside.parts.space.value.seat;
      room = vec_capacity c.self.inside.parts.journal - vec_len c.self.inside.parts.journal;
    } in
    let p = c.self.invariant.1 in
    let a = c.args.shelf.now in
    let b = c.make_boxed-call_result.new.files in
    let k = c.args.call in
    let x = body_of view_of c.self.inside.parts.space.value in
    let y = body_of view_of c.make_boxed-call_result.new.space.value in
    let state = c.self.inside.parts.present.state in
    let comes = (c.in-Ended.ensures.call_result p.0 state p.1).0 in
    let r : Reply = reply.Scalar (scalar.Ended c.in-Ended.rule) in
    let w : Shortage = at_stop c.in-Ended.rule (address_of k) in
    let n = c.last_entry-entry.ensures in
    let e = c.last_entry-entry.result in
    let is : IsEntryOf t a w k r e = record {
      call = n.call ∙ c.listed-listed.ensures ∙ sym c.requires.next;
      answer = n.reply;
      pages = n.pages ∙ pages_are a.files w state k a.history b.history c.pages_read-pages.result c.uses-mark.result c.uses-mark.ensures c.pages_read-pages.ensures comes.moves.history;
      file = n.file ∙ c.mapped_file-file.ensures;
      before = n.before ∙ c.kept-was.ensures;
    } in
    let next = subst (λ (z : Track). k ≡ next_of z) (sym c.self.view_is) c.requires.next in
    let z = c.close.ensures in
    rw (← c.self.view_is) (over t k c.requires.plain a b w r e is x y refl comes c.in-Ended.rule refl refl next c.self.invariant.2 (subst (λ (z : Track). length z.journal < MOST_ENTRIES) (sym c.self.view_is) c.requires.few) c.close.result z.name g.B.RunBrand.table z.fits z.bare (c.in-Ended.ensures.call_result p.0 state p.1).1 z.tallies c.close.new.shelf z.closes)

pub returns-in-Ended-clause-files : goal.returns-in-Ended-clause-files
returns-in-Ended-clause-files g c =
    let t : Track = record {
      name = c.self.inside.parts.name.items;
      lists = c.self.inside.parts.lists.now;
      list = c.self.inside.parts.list;
      opening = c.self.inside.parts.opening.state;
      state = c.self.inside.parts.present.state;
      journal = c.self.inside.parts.journal.items;
      seat = view_of c.self.inside.parts.space.value.seat;
      room = vec_capacity c.self.inside.parts.journal - vec_len c.self.inside.parts.journal;
    } in
    let p = c.self.invariant.1 in
    let a = c.args.shelf.now in
    let b = c.make_boxed-call_result.new.files in
    let k = c.args.call in
    let x = body_of view_of c.self.inside.parts.space.value in
    let y = body_of view_of c.make_boxed-call_result.new.space.value in
    let state = c.self.inside.parts.present.state in
    let comes = (c.in-Ended.ensures.call_result p.0 state p.1).0 in
    let r : Reply = reply.Scalar (scalar.Ended c.in-Ended.rule) in
    let w : Shortage = at_stop c.in-Ended.rule (address_of k) in
    let n = c.last_entry-entry.ensures in
    let e = c.last_entry-entry.result in
    let is : IsEntryOf t a w k r e = record {
      call = n.call ∙ c.listed-listed.ensures ∙ sym c.requires.next;
      answer = n.reply;
      pages = n.pages ∙ pages_are a.files w state k a.history b.history c.pages_read-pages.result c.uses-mark.result c.uses-mark.ensures c.pages_read-pages.ensures comes.moves.history;
      file = n.file ∙ c.mapped_file-file.ensures;
      before = n.before ∙ c.kept-was.ensures;
    } in
    let next = subst (λ (z : Track). k ≡ next_of z) (sym c.self.view_is) c.requires.next in
    let z = c.close.ensures in
    subst (λ (z : Track). KeepsFilesByOutcome z c.close.result c.close.result.outcome a c.close.new.shelf) c.self.view_is (filed_over t k c.requires.plain a b w r e is x y refl comes c.in-Ended.rule refl refl next c.self.invariant.2 (subst (λ (z : Track). length z.journal < MOST_ENTRIES) (sym c.self.view_is) c.requires.few) c.close.result z.name g.B.RunBrand.table z.fits z.bare (c.in-Ended.ensures.call_result p.0 state p.1).1 z.tallies c.close.new.shelf z.closes)

pub pages_read-pages-requires-clause-few : goal.pages_read-pages-requires-clause-few
pages_read-pages-requires-clause-few g c =
    let p = c.self.invariant.1 in
    let grew = has_grown _ _ _ _ _ _ _ c.args.call (c.args.shelf.now).history (c.make_boxed-call_result.new.files).history (λ ms became. became.history) c.make_boxed-call_result.result (c.make_boxed-call_result.ensures.call_result p.0 c.self.inside.parts.present.state p.1) in
    let few = grew.few in
    rw c.uses-mark.ensures few

pub invariant_of-tracked : goal.invariant_of-tracked
invariant_of-tracked g c =
    let p = c.self.invariant.1 in
    let cut = c.in-Unserved.ensures.call_result p.0 c.self.inside.parts.present.state p.1 in (
      (fits_still _ _ _ c.self.inside.parts.space.value.seat c.make_boxed-call_result.new.space.value.seat c.requires.store c.make_boxed-call_result.ensures.keeps c.self.invariant.0).1,
      cut.1.space,
      c.self.invariant.2,
      c.self.invariant.3,
      c.self.invariant.4,
      c.self.invariant.5,
      c.self.invariant.6,
    )

pub returns-in-Unserved-clause-turned : goal.returns-in-Unserved-clause-turned
returns-in-Unserved-clause-turned g c =
    rw (← c.self.view_is) (cut_over _ _ _ _ (c.in-Unserved.ensures.call_result c.self.invariant.1.0 c.self.inside.parts.present.state c.self.invariant.1.1).1.claims c.cut.result (cause_of c.in-Unserved.refusal) (is_cause c.in-Unserved.refusal) (c.cut.ensures.outcome ∙ c.cause_of.ensures) c.cut.ensures.over)

pub returns-in-Unserved-clause-files : goal.returns-in-Unserved-clause-files
returns-in-Unserved-clause-files g c =
    let p = c.self.invariant.1 in
    let cut = c.in-Unserved.ensures.call_result p.0 c.self.inside.parts.present.state p.1 in
    let files = (c.args.shelf.now).files in
    let some = subst (λ (k : Call). 0 < length (reads_of files nothing c.args.self.state k)) c.requires.next (rw (← c.self.view_is) cut.1.of_file) in
    let could = cut.1.could in
    cut_files c.args.self c.cut.result c.args.shelf.now c.make_boxed-call_result.new.files c.in-Unserved.refusal could.1 (could_still c.args.shelf.now could.0 1 could.1 could.2 could.3) some could.4 cut.1.moves (subst IsAccessCall c.requires.next cut.0) (c.cut.ensures.outcome ∙ c.cause_of.ensures)
