use Rattle.std.proofs.Common.{◌∙◌, ap, refl}
use Rattle.cow_fork.proofs.Marking.{marking_all, marking_next, marking_none, marking_passed, marking_ready}
use Rattle.cow_fork.proofs.tree.mark_pages.Goals as goal
use Rattle.cow_fork.proofs.tree.mark_pages.Goals.{then-not-page, else-not-page}

pub pages-init : goal.pages-init
pages-init g c = record {
  marking = λ t p extra can are. marking_none _ t p extra c.args.settled.now can are;
  root = refl;
  trapframe = refl;
  layout = refl;
  keeps = λ others r. r;
  free = λ alone. refl;
}

pub mark_forked-requires-clause-fits : goal.mark_forked-requires-clause-fits
mark_forked-requires-clause-fits g c = let f = c.requires.fits in (f.0, c.pages.invariant.keeps f.0 f.1)

pub mark_forked-requires-clause-ready : goal.mark_forked-requires-clause-ready
mark_forked-requires-clause-ready g c =
    let r = c.requires.ready in
    marking_ready _ r.0 r.1 r.2 c.args.settled.now _ c.pages.page-index (c.pages.invariant.marking r.0 r.1 r.2 r.3 r.4) c.page-item.result c.pages-test.true c.page-item.is

pub pages-preserved : goal.pages-preserved
pages-preserved g c =
    let i = c.pages.invariant in
    elim c.if-not-page.branch [
      | then-not-page w ↦
          let e = w.mark_forked.ensures in
          record {
            marking = λ t p extra can are.
                rw w.space-is
                (marking_next _ t p extra c.args.settled.now _ c.pages.page-index (i.marking t p extra can are) c.page-item.result c.pages-test.true c.page-item.is _ e.marked);
            root = ap (λ s. s.root) w.space-is ∙ e.place.root ∙ i.root;
            trapframe = ap (λ s. s.trapframe) w.space-is ∙ e.place.trapframe ∙ i.trapframe;
            layout = ap (λ s. s.layout) w.space-is ∙ e.place.layout ∙ i.layout;
            keeps = λ others r. rw (w.space-is, w.store-is) (e.keeps others (i.keeps others r));
            free = λ alone. rw w.store-is (e.free alone ∙ i.free alone);
          }
      | else-not-page w ↦ record {
        marking = λ t p extra can are.
            rw w.space-is
            (marking_passed _ t p extra c.args.settled.now _ c.pages.page-index (i.marking t p extra can are) c.page-item.result c.pages-test.true c.page-item.is w.if-not-page.false);
        root = ap (λ s. s.root) w.space-is ∙ i.root;
        trapframe = ap (λ s. s.trapframe) w.space-is ∙ i.trapframe;
        layout = ap (λ s. s.layout) w.space-is ∙ i.layout;
        keeps = λ others r. rw (w.space-is, w.store-is) (i.keeps others r);
        free = λ alone. rw w.store-is (i.free alone);
      }
    ]

pub returns-clause-marked : goal.returns-clause-marked
returns-clause-marked g c t p extra can are =
    marking_all _ t p extra c.args.settled.now _ c.pages.page-index (c.pages.invariant.marking t p extra can are) can c.pages-test.false
