-- In place, a served access leads the process on as a call of `next_call` does, over a shelf of no files.
use Rattle.std.proofs.Common.{◌≡◌, ◌-◌, ◌<◌, ◌∷◌, ◌++◌, [], ap, arith, length, refl, sym, subst, ◌∙◌}
use Rattle.std.proofs.lemmas.List.{length-append}
use Rattle.std.specs.Prelude.{vec_capacity, vec_len}
use Rattle.address_space.specs.Agreement.{body_of, IsSpace}
use Rattle.file_shelf.specs.ShelfStates.{ShelfState}
use Rattle.hart_calls.specs.CallOutcomes.{call_outcome}
use Rattle.hart_calls.specs.CallResults.{address_of, at_stop, by_reply}
use Rattle.hart_calls.specs.Replay.{call_of, forked}
use Rattle.hart_calls.specs.Shortages.{Shortage}
use Rattle.hart_calls.specs.Track.{next_of, Track}
use Rattle.hart_calls.specs.TurnCases.{HasMapping}
use Rattle.hart_calls.proofs.Filing.{ended_files}
use Rattle.hart_calls.proofs.Journals.{forks_more, one_longer, plain_forks}
use Rattle.hart_calls.proofs.Served.{is_plain_access, maps_none, needs_none, never_stops, reads_none, roomless}
use Rattle.hart_calls.proofs.Turning.{goes, IsEntryOf, leads}
use Rattle.process_model.specs.Process.{Process}
use Rattle.shared_frames.specs.SeatsOfTable.{fits_still, may_step, view_of}
use Rattle.hart_calls.proofs.tracked.Tracked.access_served.Goals as goal
use Rattle.process_model.specs.declared.limits.TheConstants.{MOST_ENTRIES}

pub make_boxed-call_result-requires-clause-fits : goal.make_boxed-call_result-requires-clause-fits
make_boxed-call_result-requires-clause-fits g c = may_step _ _ c.self.inside.parts.space.value.seat c.requires.store c.self.invariant.0

pub make_boxed-call_result-requires-clause-plain : goal.make_boxed-call_result-requires-clause-plain
make_boxed-call_result-requires-clause-plain g c = is_plain_access c.next-call.result (c.if-not-is_access.ensures refl)

pub make_boxed-call_result-requires-clause-room : goal.make_boxed-call_result-requires-clause-room
make_boxed-call_result-requires-clause-room g c = roomless c.next-call.result _ (c.if-not-is_access.ensures refl)

-- ---- it was made

pub invariant_of-self-in-Answered : goal.invariant_of-self-in-Answered
invariant_of-self-in-Answered g c =
    let t : Track = record {
      name = c.self.inside.parts.name.items;
      lists = c.self.inside.parts.lists.now;
      list = c.self.inside.parts.list;
      opening = c.self.inside.parts.opening.state;
      state = c.self.inside.parts.present.state;
      journal = c.self.inside.parts.journal.items;
      seat = view_of c.self.inside.parts.space.value.seat;
      room = vec_capacity c.self.inside.parts.journal - vec_len c.self.inside.parts.journal;
    } in
    let i = c.self.invariant in
    let k = c.next-call.result in
    let is = c.if-not-is_access.ensures refl in
    let a = c.new-shelf.result in
    let b = c.make_boxed-call_result.new.files in
    let state = c.self.inside.parts.present.state in
    let x = body_of view_of c.self.inside.parts.space.value in
    let y = body_of view_of c.make_boxed-call_result.new.space.value in
    let h = c.in-Answered.ensures.call_result i.1.0 state i.1.1 in
    let comes = h.1 in
    let r = c.in-Answered.reply in
    let w : Shortage = by_reply (address_of k) r in
    let n = c.new-entry.ensures in
    let e = c.new-entry.result in
    let unmapped : HasMapping state.mappings → ⊥ = λ maps. let yes = c.has_mapping.ensures.1 (subst (λ (z : Track). HasMapping z.state.mappings) c.self.view_is maps) in let no = c.if-has_mapping.false in cc in
    let of : IsEntryOf t a w k r e = record {
      call = n.call ∙ c.listed-listed.ensures ∙ sym c.next-call.ensures;
      answer = n.reply;
      pages = n.pages ∙ c.none.ensures ∙ sym (reads_none state i.1.1.sound.order a.files w k is unmapped);
      file = n.file ∙ maps_none k is a.files;
      before = n.before ∙ c.kept-was.ensures;
    } in
    let moved : c.state_after-present.result.state ≡ (call_outcome a.files w 0 state k).process = c.state_after-present.ensures ∙ ap (λ (s : ShelfState). (call_outcome s.files w 0 state k).process) c.of-before.ensures in
    let next : call_of e ≡ next_of t = subst (λ (z : Track). call_of e ≡ next_of z) (sym c.self.view_is) (n.call ∙ c.listed-listed.ensures) in
    let none : forked e.reply ≡ 0 = ap forked n.reply ∙ plain_forks _ h.0 in
    let few : length c.self.inside.parts.journal.items < MOST_ENTRIES = (let made : c.made.result ≡ length t.journal = subst (λ (z : Track). c.made.result ≡ length z.journal) (sym c.self.view_is) c.made.ensures in let not = c.if-made-eq-MOST_ENTRIES.false in let most = i.5 in omega (arith, made, not, most)) in
    let many = i.6 in
    rw (c.push_reserved.ensures.items ∙ ap (λ es. es ++ c.new-entry.result ∷ []) c.reserve.ensures.items) (
      (fits_still _ _ _ c.self.inside.parts.space.value.seat c.make_boxed-call_result.new.space.value.seat c.requires.store c.make_boxed-call_result.ensures.keeps i.0).1,
      (comes.space.0, subst (λ (q : Process). IsSpace y comes.space.0 q) (sym moved) comes.space.1),
      one_longer _ _ _ e _ _ i.2 next (a.files, leads t k (is_plain_access k is) a b w r e of x y refl comes _ moved),
      i.3,
      i.4,
      omega (arith, few, length-append c.self.inside.parts.journal.items (e ∷ [])),
      omega (arith, many, none, forks_more c.self.inside.parts.journal.items e),
    )

pub returns-in-Answered-clause-store : goal.returns-in-Answered-clause-store
returns-in-Answered-clause-store g c = (fits_still _ _ _ c.self.inside.parts.space.value.seat c.make_boxed-call_result.new.space.value.seat c.requires.store c.make_boxed-call_result.ensures.keeps c.self.invariant.0).0

pub returns-in-Answered-clause-made : goal.returns-in-Answered-clause-made
returns-in-Answered-clause-made g c =
    let t : Track = record {
      name = c.self.inside.parts.name.items;
      lists = c.self.inside.parts.lists.now;
      list = c.self.inside.parts.list;
      opening = c.self.inside.parts.opening.state;
      state = c.self.inside.parts.present.state;
      journal = c.self.inside.parts.journal.items;
      seat = view_of c.self.inside.parts.space.value.seat;
      room = vec_capacity c.self.inside.parts.journal - vec_len c.self.inside.parts.journal;
    } in
    let i = c.self.invariant in
    let k = c.next-call.result in
    let is = c.if-not-is_access.ensures refl in
    let a = c.new-shelf.result in
    let b = c.make_boxed-call_result.new.files in
    let state = c.self.inside.parts.present.state in
    let x = body_of view_of c.self.inside.parts.space.value in
    let y = body_of view_of c.make_boxed-call_result.new.space.value in
    let h = c.in-Answered.ensures.call_result i.1.0 state i.1.1 in
    let comes = h.1 in
    let r = c.in-Answered.reply in
    let w : Shortage = by_reply (address_of k) r in
    let n = c.new-entry.ensures in
    let e = c.new-entry.result in
    let unmapped : HasMapping state.mappings → ⊥ = λ maps. let yes = c.has_mapping.ensures.1 (subst (λ (z : Track). HasMapping z.state.mappings) c.self.view_is maps) in let no = c.if-has_mapping.false in cc in
    let of : IsEntryOf t a w k r e = record {
      call = n.call ∙ c.listed-listed.ensures ∙ sym c.next-call.ensures;
      answer = n.reply;
      pages = n.pages ∙ c.none.ensures ∙ sym (reads_none state i.1.1.sound.order a.files w k is unmapped);
      file = n.file ∙ maps_none k is a.files;
      before = n.before ∙ c.kept-was.ensures;
    } in
    let moved : c.state_after-present.result.state ≡ (call_outcome a.files w 0 state k).process = c.state_after-present.ensures ∙ ap (λ (s : ShelfState). (call_outcome s.files w 0 state k).process) c.of-before.ensures in
    let next : call_of e ≡ next_of t = subst (λ (z : Track). call_of e ≡ next_of z) (sym c.self.view_is) (n.call ∙ c.listed-listed.ensures) in
    λ yes slot. rw (← c.self.view_is) (goes t k (is_plain_access k is) a b w r e of x y refl comes _ (record { name = refl; lists = refl; list = refl; opening = refl; journal = (c.push_reserved.ensures.items ∙ ap (λ es. es ++ c.new-entry.result ∷ []) c.reserve.ensures.items); next = next }) refl moved h.0 slot)

pub returns-in-Answered-clause-files : goal.returns-in-Answered-clause-files
returns-in-Answered-clause-files g c =
    let t : Track = record {
      name = c.self.inside.parts.name.items;
      lists = c.self.inside.parts.lists.now;
      list = c.self.inside.parts.list;
      opening = c.self.inside.parts.opening.state;
      state = c.self.inside.parts.present.state;
      journal = c.self.inside.parts.journal.items;
      seat = view_of c.self.inside.parts.space.value.seat;
      room = vec_capacity c.self.inside.parts.journal - vec_len c.self.inside.parts.journal;
    } in
    let is = c.if-not-is_access.ensures refl in
    let unmapped : HasMapping t.state.mappings → ⊥ = λ maps. let yes = c.has_mapping.ensures.1 (subst (λ (z : Track). HasMapping z.state.mappings) c.self.view_is maps) in let no = c.if-has_mapping.false in cc in
    let next : c.next-call.result ≡ next_of t = subst (λ (z : Track). c.next-call.result ≡ next_of z) (sym c.self.view_is) c.next-call.ensures in
    λ yes. rw (← c.self.view_is) (needs_none t c.next-call.result next is unmapped)

-- ---- it was not made

pub invariant_of-self : goal.invariant_of-self
invariant_of-self g c = rw c.reserve.ensures.items c.self.invariant

pub unreachable-requires : goal.unreachable-requires
unreachable-requires g c =
    let i = c.self.invariant in
    let comes = c.in-Unpromised.ensures.call_result i.1.0 c.self.inside.parts.present.state i.1.1 in
    never_stops (c.new-shelf.result).files c.self.inside.parts.present.state c.next-call.result c.in-Unpromised.field-1 c.in-Unpromised.field-0 (c.if-not-is_access.ensures refl) comes.possible

pub invariant_of-self-in-Ended : goal.invariant_of-self-in-Ended
invariant_of-self-in-Ended g c =
    let i = c.self.invariant in
    let k = c.next-call.result in
    let a = c.new-shelf.result in
    let state = c.self.inside.parts.present.state in
    let y = body_of view_of c.make_boxed-call_result.new.space.value in
    let comes = (c.in-Ended.ensures.call_result i.1.0 state i.1.1).0 in
    let ended = ended_files a.files state (at_stop c.in-Ended.field-0 (address_of k)) k c.in-Ended.field-0 (is_plain_access k (c.if-not-is_access.ensures refl)) (sym comes.reply) in
    rw c.reserve.ensures.items (
      (fits_still _ _ _ c.self.inside.parts.space.value.seat c.make_boxed-call_result.new.space.value.seat c.requires.store c.make_boxed-call_result.ensures.keeps i.0).1,
      (comes.space.0, subst (λ (q : Process). IsSpace y comes.space.0 q) ended.2 comes.space.1),
      i.2,
      i.3,
      i.4,
      i.5,
      i.6,
    )

pub returns-in-Ended-clause-store : goal.returns-in-Ended-clause-store
returns-in-Ended-clause-store g c = (fits_still _ _ _ c.self.inside.parts.space.value.seat c.make_boxed-call_result.new.space.value.seat c.requires.store c.make_boxed-call_result.ensures.keeps c.self.invariant.0).0

pub invariant_of-self-in-Unserved : goal.invariant_of-self-in-Unserved
invariant_of-self-in-Unserved g c =
    let i = c.self.invariant in
    let cut = c.in-Unserved.ensures.call_result i.1.0 c.self.inside.parts.present.state i.1.1 in
    rw c.reserve.ensures.items (
      (fits_still _ _ _ c.self.inside.parts.space.value.seat c.make_boxed-call_result.new.space.value.seat c.requires.store c.make_boxed-call_result.ensures.keeps i.0).1,
      cut.1.space,
      i.2,
      i.3,
      i.4,
      i.5,
      i.6,
    )

pub returns-clause-store : goal.returns-clause-store
returns-clause-store g c = (fits_still _ _ _ c.self.inside.parts.space.value.seat c.make_boxed-call_result.new.space.value.seat c.requires.store c.make_boxed-call_result.ensures.keeps c.self.invariant.0).0
