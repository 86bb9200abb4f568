use Rattle.std.proofs.Common.{◌≡◌, ◌+◌, ◌-◌, ◌<◌, ap, refl, subst, ◌∙◌, arith, [], ◌∷◌, ◌++◌, length, List, sym}
use Rattle.std.proofs.lemmas.List.{append_assoc, append-nil, length-map, map-append}
use Rattle.address_space.specs.SettledLists.{AreSettled}
use Rattle.address_space.specs.declared.settled_pages.SettledPage.{SettledPage}
use Rattle.frame_store.specs.Laws.{fits_after}
use Rattle.address_space.specs.SpacesInCalls.{space_in_call}
use Rattle.cow_fork.specs.ForkReferences.{frames_of}
use Rattle.cow_fork.proofs.Going.{going_few, going_more, going_none}
use Rattle.cow_fork.proofs.pages.list_settled.Goals as goal
use Rattle.sv39_entry.specs.Schemes.{trapframe_page, edge_at}
use Rattle.address_space.specs.Agreement.{same_body}

pub pages-init : goal.pages-init
pages-init g c = record {
  near = omega arith;
  root = refl;
  trapframe = refl;
  layout = refl;
  view = refl;
  same = refl;
  keeps = λ others r. r;
  kept = λ t p space. tt;
  going = λ t p space. rw c.requires.empty (going_none _ t p space);
  settled = λ t p space more rest. rw c.requires.empty rest;
}

pub next_settled_with_last-requires-clause-fits : goal.next_settled_with_last-requires-clause-fits
next_settled_with_last-requires-clause-fits g c = fits_after g.F.FrameAccess.invariant c.pages.invariant.keeps c.requires.fits

pub next_settled_with_last-requires-clause-ready : goal.next_settled_with_last-requires-clause-ready
next_settled_with_last-requires-clause-ready g c =
    let r = c.requires.ready in
    let i = c.pages.invariant in
    let body = same_body g.S.FrameSeat.view c.pages.space c.args.space.now i.view i.root i.trapframe i.layout in
    (r.0, r.1, space_in_call (rw body r.2), i.kept r.0 r.1 r.2)

pub push-requires : goal.push-requires
push-requires g c =
    let r = c.requires.ready in
    let law = g.met.F.FrameAccess.within _ _ c.requires.fits.0 c.requires.fits.1 in
    let most = going_few _ r.0 r.1 r.2 c.pages.from (0 ∷ frames_of c.pages.pages.items) (c.pages.invariant.going r.0 r.1 r.2) (λ f held. let low = law.1 f held in omega (arith, low, law.0)) in
    let few : length c.pages.pages.items < 1024 = omega (arith, most, length-map c.pages.pages.items (λ (x : SettledPage). (x.frame).0)) in
    (omega arith, few)

pub pages-smaller : goal.pages-smaller
pages-smaller g c =
    let r = c.requires.ready in
    let i = c.pages.invariant in
    let body = same_body g.S.FrameSeat.view c.pages.space c.args.space.now i.view i.root i.trapframe i.layout in
    let next = rw (c.in-Some.is, edge_at (r.2.lays.scheme ∙ sym c.scheme-scheme.ensures) _ _ c.page-end.ensures.number c.trapframe.ensures) at c.next_settled_with_last.ensures.page r.0 r.1 (space_in_call (rw body r.2)) (i.kept r.0 r.1 r.2) in
    let edge = ap trapframe_page r.2.lays.scheme in
    let less : trapframe_page c.args.space.now.layout.scheme - (c.number-from.result + 1) < trapframe_page c.args.space.now.layout.scheme - c.pages.from =
    omega (arith, c.number-from.ensures.value, next.0, next.1, edge) in
    less

pub pages-preserved : goal.pages-preserved
pages-preserved g c =
    let r = c.requires.ready in
    let i = c.pages.invariant in
    let n = c.next_settled_with_last.ensures in
    let body = same_body g.S.FrameSeat.view c.pages.space c.args.space.now i.view i.root i.trapframe i.layout in
    let near_next = rw (c.in-Some.is, edge_at (r.2.lays.scheme ∙ sym c.scheme-scheme.ensures) _ _ c.page-end.ensures.number c.trapframe.ensures) at n.page r.0 r.1 (space_in_call (rw body r.2)) (i.kept r.0 r.1 r.2) in
    let items = c.push.ensures.items in
    record {
      near = omega (arith, c.number-from.ensures.value, near_next.1, ap trapframe_page r.2.lays.scheme);
      root = n.reads.root ∙ i.root;
      trapframe = n.reads.trapframe ∙ i.trapframe;
      layout = n.reads.layout ∙ i.layout;
      view = n.reads.view ∙ i.view;
      same = n.reads.same ∙ i.same;
      keeps = λ others s. n.keeps others (i.keeps others s);
      kept = λ t p space. n.kept t p (space_in_call (rw body space)) (i.kept t p space);
      going = λ t p space.
          let next = rw (c.in-Some.is, edge_at (space.lays.scheme ∙ sym c.scheme-scheme.ensures) _ _ c.page-end.ensures.number c.trapframe.ensures) at n.page t p (space_in_call (rw body space)) (i.kept t p space) in
          let longer : frames_of c.push.new.self.items ≡ frames_of c.pages.pages.items ++ (c.in-Some.found.frame).0 ∷ [] =
          ap frames_of items ∙ map-append (λ (x : SettledPage). (x.frame).0) c.pages.pages.items (c.in-Some.found ∷ []) in
          rw (c.number-from.ensures.value, longer) (going_more _ t p space c.pages.from (0 ∷ frames_of c.pages.pages.items) (i.going t p space) c.in-Some.found next);
      settled = λ t p space more rest.
          let next = rw (c.in-Some.is, edge_at (space.lays.scheme ∙ sym c.scheme-scheme.ensures) _ _ c.page-end.ensures.number c.trapframe.ensures) at n.page t p (space_in_call (rw body space)) (i.kept t p space) in
          let longer : c.push.new.self.items ++ more ≡ c.pages.pages.items ++ c.in-Some.found ∷ more =
          ap (λ (l : List SettledPage). l ++ more) items ∙ append_assoc c.pages.pages.items (c.in-Some.found ∷ []) more in
          rw longer (i.settled t p space (c.in-Some.found ∷ more) (next, rw c.number-from.ensures.value at rest));
    }

pub returns-clause-settled : goal.returns-clause-settled
returns-clause-settled g c t p space =
    let i = c.pages.invariant in
    let body = same_body g.S.FrameSeat.view c.pages.space c.args.space.now i.view i.root i.trapframe i.layout in
    let none = rw (c.in_default.is, edge_at (space.lays.scheme ∙ sym c.scheme-scheme.ensures) _ _ c.page-end.ensures.number c.trapframe.ensures) at c.next_settled_with_last.ensures.page t p (space_in_call (rw body space)) (i.kept t p space) in
    subst (AreSettled t p 0 (trapframe_page p.scheme)) (append-nil c.pages.pages.items) (i.settled t p space [] none)

pub returns-clause-keeps : goal.returns-clause-keeps
returns-clause-keeps g c others r = c.next_settled_with_last.ensures.keeps others (c.pages.invariant.keeps others r)
