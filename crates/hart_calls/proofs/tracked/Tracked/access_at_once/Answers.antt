use Rattle.std.proofs.Common.{◌≡◌, ◌-◌, ◌<◌, ◌∷◌, [], ap, arith, length, refl, sym, subst, ◌∙◌}
use Rattle.std.proofs.lemmas.List.{length-append}
use Rattle.std.specs.Prelude.{vec_capacity, vec_len}
use Rattle.address_space.specs.Accesses.{request_of}
use Rattle.address_space.specs.Agreement.{Body, body_of, IsSpace}
use Rattle.hart_calls.specs.Replay.{call_of, forked}
use Rattle.hart_calls.specs.Track.{next_of, Track}
use Rattle.process_model.specs.declared.limits.TheConstants.{MOST_ENTRIES}
use Rattle.hart_calls.proofs.AtOnce.{filed_at_once, goes_at_once, leads_at_once, no_shelf, space_at_once}
use Rattle.hart_calls.proofs.Journals.{forks_more, one_longer, plain_forks}
use Rattle.shared_frames.specs.SeatsOfTable.{fits_still, may_step, view_of}
use Rattle.hart_calls.proofs.tracked.Tracked.access_at_once.Goals as goal

pub permitted_boxed-requires-clause-fits : goal.permitted_boxed-requires-clause-fits
permitted_boxed-requires-clause-fits g c = may_step _ _ c.self.inside.parts.space.value.seat c.requires.store c.self.invariant.0

-- ---- it was not made

pub invariant_of-self : goal.invariant_of-self
invariant_of-self g c =
    let i = c.self.invariant in (
      (fits_still _ _ _ c.self.inside.parts.space.value.seat c.permitted_boxed.new.space.value.seat c.requires.store c.permitted_boxed.ensures.keeps i.0).1,
      (i.1.0, subst (λ (b : Body). IsSpace b i.1.0 c.self.inside.parts.present.state) (sym (c.in-None.ensures.none refl)) i.1.1),
      i.2,
      i.3,
      i.4,
      i.5,
      i.6,
    )

pub returns-in-None-clause-store : goal.returns-in-None-clause-store
returns-in-None-clause-store g c = (fits_still _ _ _ c.self.inside.parts.space.value.seat c.permitted_boxed.new.space.value.seat c.requires.store c.permitted_boxed.ensures.keeps c.self.invariant.0).0

-- ---- it was made

pub invariant_of-self-2 : goal.invariant_of-self-2
invariant_of-self-2 g c =
    let t : Track = record {
      name = c.self.inside.parts.name.items;
      lists = c.self.inside.parts.lists.now;
      list = c.self.inside.parts.list;
      opening = c.self.inside.parts.opening.state;
      state = c.self.inside.parts.present.state;
      journal = c.self.inside.parts.journal.items;
      seat = view_of c.self.inside.parts.space.value.seat;
      room = vec_capacity c.self.inside.parts.journal - vec_len c.self.inside.parts.journal;
    } in
    let i = c.self.invariant in
    let a = request_of c.in-Some.request in
    let x = body_of view_of c.self.inside.parts.space.value in
    let y = body_of view_of c.permitted_boxed.new.space.value in
    let m = c.in-Some-permitted_boxed.ensures.made c.next.result c.in-Some.ensures i.1.0 c.self.inside.parts.present.state i.1.1 in
    let e = c.new-entry.result in
    let n = c.new-entry.ensures in
    let called : call_of e ≡ c.next.result = n.call ∙ c.listed-listed.ensures ∙ sym c.next.ensures in
    let next : call_of e ≡ next_of t = subst (λ (z : Track). call_of e ≡ next_of z) (sym c.self.view_is) (n.call ∙ c.listed-listed.ensures) in
    let pages = n.pages ∙ c.none.ensures in
    let none : forked e.reply ≡ 0 = ap forked n.reply ∙ plain_forks _ m.plain in
    let few : length c.self.inside.parts.journal.items < MOST_ENTRIES = (let made = c.len-made.ensures in let not = c.if-made-eq-MOST_ENTRIES.false in let most = i.5 in omega (arith, made, not, most)) in
    let many = i.6 in
    rw c.push_reserved.ensures.items (
      (fits_still _ _ _ c.self.inside.parts.space.value.seat c.permitted_boxed.new.space.value.seat c.requires.store c.permitted_boxed.ensures.keeps i.0).1,
      space_at_once t a c.next.result c.in-Some.ensures x y refl _ m e called n.reply pages n.file (n.before ∙ c.kept-was.ensures) no_shelf _ c.after_access-present.ensures,
      one_longer _ _ _ e _ _ i.2 next ([], leads_at_once t a c.next.result c.in-Some.ensures x y refl _ m e called n.reply pages n.file (n.before ∙ c.kept-was.ensures) no_shelf _ c.after_access-present.ensures),
      i.3,
      i.4,
      omega (arith, few, length-append c.self.inside.parts.journal.items (e ∷ [])),
      omega (arith, many, none, forks_more c.self.inside.parts.journal.items e),
    )

pub returns-clause-store : goal.returns-clause-store
returns-clause-store g c = (fits_still _ _ _ c.self.inside.parts.space.value.seat c.permitted_boxed.new.space.value.seat c.requires.store c.permitted_boxed.ensures.keeps c.self.invariant.0).0

pub returns-clause-made : goal.returns-clause-made
returns-clause-made g c =
    let t : Track = record {
      name = c.self.inside.parts.name.items;
      lists = c.self.inside.parts.lists.now;
      list = c.self.inside.parts.list;
      opening = c.self.inside.parts.opening.state;
      state = c.self.inside.parts.present.state;
      journal = c.self.inside.parts.journal.items;
      seat = view_of c.self.inside.parts.space.value.seat;
      room = vec_capacity c.self.inside.parts.journal - vec_len c.self.inside.parts.journal;
    } in
    let i = c.self.invariant in
    let a = request_of c.in-Some.request in
    let x = body_of view_of c.self.inside.parts.space.value in
    let y = body_of view_of c.permitted_boxed.new.space.value in
    let m = c.in-Some-permitted_boxed.ensures.made c.next.result c.in-Some.ensures i.1.0 c.self.inside.parts.present.state i.1.1 in
    let e = c.new-entry.result in
    let n = c.new-entry.ensures in
    let called : call_of e ≡ c.next.result = n.call ∙ c.listed-listed.ensures ∙ sym c.next.ensures in
    let next : call_of e ≡ next_of t = subst (λ (z : Track). call_of e ≡ next_of z) (sym c.self.view_is) (n.call ∙ c.listed-listed.ensures) in
    let pages = n.pages ∙ c.none.ensures in
    λ yes slot. rw (← c.self.view_is) (goes_at_once t a c.next.result c.in-Some.ensures x y refl _ m e called n.reply pages n.file (n.before ∙ c.kept-was.ensures) _ (record { name = refl; lists = refl; list = refl; opening = refl; journal = c.push_reserved.ensures.items; next = next }) refl c.after_access-present.ensures slot)

pub returns-clause-files : goal.returns-clause-files
returns-clause-files g c =
    let t : Track = record {
      name = c.self.inside.parts.name.items;
      lists = c.self.inside.parts.lists.now;
      list = c.self.inside.parts.list;
      opening = c.self.inside.parts.opening.state;
      state = c.self.inside.parts.present.state;
      journal = c.self.inside.parts.journal.items;
      seat = view_of c.self.inside.parts.space.value.seat;
      room = vec_capacity c.self.inside.parts.journal - vec_len c.self.inside.parts.journal;
    } in
    let i = c.self.invariant in
    let a = request_of c.in-Some.request in
    let x = body_of view_of c.self.inside.parts.space.value in
    let y = body_of view_of c.permitted_boxed.new.space.value in
    let m = c.in-Some-permitted_boxed.ensures.made c.next.result c.in-Some.ensures i.1.0 c.self.inside.parts.present.state i.1.1 in
    let e = c.new-entry.result in
    let n = c.new-entry.ensures in
    let called : call_of e ≡ c.next.result = n.call ∙ c.listed-listed.ensures ∙ sym c.next.ensures in
    let next : call_of e ≡ next_of t = subst (λ (z : Track). call_of e ≡ next_of z) (sym c.self.view_is) (n.call ∙ c.listed-listed.ensures) in
    let pages = n.pages ∙ c.none.ensures in
    λ yes shelf. rw (← c.self.view_is) (filed_at_once t a c.next.result c.in-Some.ensures x y refl _ m e called n.reply pages n.file (n.before ∙ c.kept-was.ensures) _ (record { name = refl; lists = refl; list = refl; opening = refl; journal = c.push_reserved.ensures.items; next = next }) refl c.after_access-present.ensures shelf)
