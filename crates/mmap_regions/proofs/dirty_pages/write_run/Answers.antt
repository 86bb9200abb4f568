use Rattle.std.proofs.Common.{◌≡◌, ◌+◌, ◌-◌, ◌<◌, ◌*◌, [], ◌∷◌, ap, sym, subst, refl, ◌∙◌, arith}
use Rattle.address_space.specs.Layouts.{region_of}
use Rattle.frame_store.specs.Laws.{fits_after}
use Rattle.mmap_regions.specs.Runs.{run_of}
use Rattle.mmap_regions.proofs.Moves.{none_written, run_begins}
use Rattle.process_model.specs.PageMoves.{page_write}
use Rattle.mmap_regions.proofs.Walking.{goes_on_clean, goes_on_dirty, has_more, in_reach, one_more, over, past_first}
use Rattle.mmap_regions.proofs.dirty_pages.write_run.Goals as goal
use Rattle.mmap_regions.proofs.dirty_pages.write_run.Goals.{then-settled, else-settled}
use Rattle.address_space.specs.Agreement.{same_body}

pub returns-in_default-clause-moves : goal.returns-in_default-clause-moves
returns-in_default-clause-moves g c t p space run =
    let none = none_written (region_of c.args.run.now.mapping) c.args.run.now.first (sym c.file.ensures ∙ c.in_default.is) c.args.run.now.end p.settled.entries in
    rw none (g.met.C.Files.stays c.args.files.now)

pub pages-init : goal.pages-init
pages-init g c =
    let from = c.number-from.ensures.value in
    let order = c.requires.ready.3.order in
    record {
      after = omega (arith, from);
      within = omega (arith, from, order);
      root = refl;
      trapframe = refl;
      layout = refl;
      view = refl;
      same = refl;
      keeps = λ others r. r;
      kept = λ t p space. tt;
      moves = λ t p space run. rw (from, run_begins p (region_of c.args.run.now.mapping) c.args.run.now.first) (g.met.C.Files.stays c.args.files.now);
      rest = λ t p space run. omega arith;
    }

pub next_settled_with_last-requires-clause-fits : goal.next_settled_with_last-requires-clause-fits
next_settled_with_last-requires-clause-fits g c = fits_after g.F.FrameAccess.invariant c.pages.invariant.keeps c.requires.fits

pub next_settled_with_last-requires-clause-ready : goal.next_settled_with_last-requires-clause-ready
next_settled_with_last-requires-clause-ready g c =
    let r = c.requires.ready in
    let i = c.pages.invariant in
    let body = same_body g.S.FrameSeat.view c.pages.space c.args.space.now i.view i.root i.trapframe i.layout in
    (r.0, r.1, rw body r.2, i.kept r.0 r.1 r.2)

pub page_bytes-requires-clause-fits : goal.page_bytes-requires-clause-fits
page_bytes-requires-clause-fits g c = fits_after g.F.FrameAccess.invariant c.next_settled_with_last.ensures.keeps (fits_after g.F.FrameAccess.invariant c.pages.invariant.keeps c.requires.fits)

pub page_bytes-requires-clause-ready : goal.page_bytes-requires-clause-ready
page_bytes-requires-clause-ready g c =
    let r = c.requires.ready in
    let i = c.pages.invariant in
    let n = c.next_settled_with_last.ensures in
    let body = same_body g.S.FrameSeat.view c.pages.space c.args.space.now i.view i.root i.trapframe i.layout in
    let again = same_body g.S.FrameSeat.view c.next_settled_with_last.new.self c.pages.space n.reads.view n.reads.root n.reads.trapframe n.reads.layout in
    let next = rw c.in-Some-next_settled_with_last.is at n.page r.0 r.1 (rw body r.2) (i.kept r.0 r.1 r.2) in (
      r.0,
      r.1,
      next.3.page,
      record { standing = rw (again, body) r.2; settled = next.3.settled },
    )

pub overflow_sub-at : goal.overflow_sub-at
overflow_sub-at g c =
    let r = c.requires.ready in
    let i = c.pages.invariant in
    let n = c.next_settled_with_last.ensures in
    let body = same_body g.S.FrameSeat.view c.pages.space c.args.space.now i.view i.root i.trapframe i.layout in
    let next = rw c.in-Some-next_settled_with_last.is at n.page r.0 r.1 (rw body r.2) (i.kept r.0 r.1 r.2) in
    let file = sym c.file.ensures ∙ c.in-Some.is in
    rw c.number.ensures.value (past_first r.0 r.1 (run_of c.args.run.now) r.3 c.pages.from c.in-Some-next_settled_with_last.settled next i.after c.in-Some.file c.in-Some.offset file)

pub overflow_add-offset : goal.overflow_add-offset
overflow_add-offset g c =
    let r = c.requires.ready in
    let i = c.pages.invariant in
    let n = c.next_settled_with_last.ensures in
    let body = same_body g.S.FrameSeat.view c.pages.space c.args.space.now i.view i.root i.trapframe i.layout in
    let next = rw c.in-Some-next_settled_with_last.is at n.page r.0 r.1 (rw body r.2) (i.kept r.0 r.1 r.2) in
    let file = sym c.file.ensures ∙ c.in-Some.is in
    let reach = in_reach r.0 r.1 (run_of c.args.run.now) r.3 c.pages.from c.in-Some-next_settled_with_last.settled next i.after c.in-Some.file c.in-Some.offset file in
    let number = c.number.ensures.value in
    omega (arith, reach, number)

pub write_page-requires : goal.write_page-requires
write_page-requires g c =
    let r = c.requires.ready in
    let i = c.pages.invariant in
    let n = c.next_settled_with_last.ensures in
    let body = same_body g.S.FrameSeat.view c.pages.space c.args.space.now i.view i.root i.trapframe i.layout in
    let next = rw c.in-Some-next_settled_with_last.is at n.page r.0 r.1 (rw body r.2) (i.kept r.0 r.1 r.2) in
    let file = sym c.file.ensures ∙ c.in-Some.is in
    let more = has_more r.0 r.1 (run_of c.args.run.now) r.3 c.pages.from c.in-Some-next_settled_with_last.settled next i.after c.in-Some.file c.in-Some.offset file c.if-settled.true in
    let rest = i.rest r.0 r.1 r.2 r.3 in
    let promised = r.4 in
    record { promised = omega (arith, more, rest, promised) }

pub pages-smaller : goal.pages-smaller
pages-smaller g c =
    let r = c.requires.ready in
    let i = c.pages.invariant in
    let body = same_body g.S.FrameSeat.view c.pages.space c.args.space.now i.view i.root i.trapframe i.layout in
    let next = rw c.in-Some-next_settled_with_last.is at c.next_settled_with_last.ensures.page r.0 r.1 (rw body r.2) (i.kept r.0 r.1 r.2) in
    let number = c.number-from-in-Some-next_settled_with_last.ensures.value in
    let less : c.args.run.now.end - (c.number-from-in-Some-next_settled_with_last.result + 1) < c.args.run.now.end - c.pages.from = omega (arith, next.0, next.1, number) in
    less

pub pages-preserved : goal.pages-preserved
pages-preserved g c =
    let r = c.requires.ready in
    let i = c.pages.invariant in
    let n = c.next_settled_with_last.ensures in
    let body = same_body g.S.FrameSeat.view c.pages.space c.args.space.now i.view i.root i.trapframe i.layout in
    let near = rw c.in-Some-next_settled_with_last.is at n.page r.0 r.1 (rw body r.2) (i.kept r.0 r.1 r.2) in
    let number = c.number-from-in-Some-next_settled_with_last.ensures.value in
    let after = i.after in
    record {
      after = omega (arith, after, near.0, number);
      within = omega (arith, near.1, number);
      root = elim c.if-settled.branch [
        | then-settled w ↦ ap (λ s. s.root) w.space-is ∙ w.page_bytes.ensures.reads.root ∙ n.reads.root ∙ i.root
        | else-settled w ↦ ap (λ s. s.root) w.space-is ∙ n.reads.root ∙ i.root
      ];
      trapframe = elim c.if-settled.branch [
        | then-settled w ↦ ap (λ s. s.trapframe) w.space-is ∙ w.page_bytes.ensures.reads.trapframe ∙ n.reads.trapframe ∙ i.trapframe
        | else-settled w ↦ ap (λ s. s.trapframe) w.space-is ∙ n.reads.trapframe ∙ i.trapframe
      ];
      layout = elim c.if-settled.branch [
        | then-settled w ↦ ap (λ s. s.layout) w.space-is ∙ w.page_bytes.ensures.reads.layout ∙ n.reads.layout ∙ i.layout
        | else-settled w ↦ ap (λ s. s.layout) w.space-is ∙ n.reads.layout ∙ i.layout
      ];
      view = elim c.if-settled.branch [
        | then-settled w ↦ ap (λ s. g.S.FrameSeat.view s.seat) w.space-is ∙ w.page_bytes.ensures.reads.view ∙ n.reads.view ∙ i.view
        | else-settled w ↦ ap (λ s. g.S.FrameSeat.view s.seat) w.space-is ∙ n.reads.view ∙ i.view
      ];
      same = elim c.if-settled.branch [
        | then-settled w ↦ w.store-is ∙ w.page_bytes.ensures.reads.same ∙ n.reads.same ∙ i.same
        | else-settled w ↦ w.store-is ∙ n.reads.same ∙ i.same
      ];
      keeps = λ others s. elim c.if-settled.branch [
        | then-settled w ↦ rw (w.store-is, w.space-is) (w.page_bytes.ensures.keeps others (n.keeps others (i.keeps others s)))
        | else-settled w ↦ rw (w.store-is, w.space-is) (n.keeps others (i.keeps others s))
      ];
      kept = λ t p space. n.kept t p (rw body space) (i.kept t p space);
      moves = λ t p space run.
          let next = rw c.in-Some-next_settled_with_last.is at n.page t p (rw body space) (i.kept t p space) in
          let file = sym c.file.ensures ∙ c.in-Some.is in
          let so_far = i.moves t p space run in
          rw number (elim c.if-settled.branch [
            | then-settled w ↦
                let again = same_body g.S.FrameSeat.view c.next_settled_with_last.new.self c.pages.space n.reads.view n.reads.root n.reads.trapframe n.reads.layout in
                let read = w.page_bytes.ensures.bytes t p next.3.page (record { standing = rw (again, body) space; settled = next.3.settled }) in
                let number = w.number.ensures.value in
                let at : c.in-Some.offset + (w.number.result - c.args.run.now.mapping.first) * 4096 ≡ c.in-Some.offset + 4096 * (c.in-Some-next_settled_with_last.settled.page - c.args.run.now.mapping.first) = omega (arith, number) in
                let one = subst (λ o. g.C.Files.becomes c.pages.files (page_write c.in-Some.file o next.3.page.bytes ∷ []) w.write_page.new.self) at
                (subst (λ bs. g.C.Files.becomes c.pages.files (page_write c.in-Some.file (c.in-Some.offset + (w.number.result - c.args.run.now.mapping.first) * 4096) bs ∷ []) w.write_page.new.self) read w.write_page.ensures.moves) in
                rw (w.files-is, goes_on_dirty t p (run_of c.args.run.now) run c.pages.from c.in-Some-next_settled_with_last.settled next i.after c.in-Some.file c.in-Some.offset file w.if-settled.true)
                (g.met.C.Files.goes_on c.args.files.now c.pages.files w.write_page.new.self _ _ so_far one)
            | else-settled w ↦
                rw (w.files-is, goes_on_clean t p (run_of c.args.run.now) run c.pages.from c.in-Some-next_settled_with_last.settled next i.after c.in-Some.file c.in-Some.offset file w.if-settled.false) so_far
          ]);
      rest = λ t p space run.
          let next = rw c.in-Some-next_settled_with_last.is at n.page t p (rw body space) (i.kept t p space) in
          let file = sym c.file.ensures ∙ c.in-Some.is in
          let so_far = i.rest t p space run in
          rw number (elim c.if-settled.branch [
            | then-settled w ↦
                let one = one_more t p (run_of c.args.run.now) run c.pages.from c.in-Some-next_settled_with_last.settled next i.after c.in-Some.file c.in-Some.offset file w.if-settled.true in
                let left = w.write_page.ensures.rest in
                rw w.files-is (omega (arith, one, left, so_far))
            | else-settled w ↦
                rw (w.files-is, goes_on_clean t p (run_of c.args.run.now) run c.pages.from c.in-Some-next_settled_with_last.settled next i.after c.in-Some.file c.in-Some.offset file w.if-settled.false) so_far
          ]);
    }

pub returns-clause-moves : goal.returns-clause-moves
returns-clause-moves g c t p space run =
    let i = c.pages.invariant in
    let body = same_body g.S.FrameSeat.view c.pages.space c.args.space.now i.view i.root i.trapframe i.layout in
    let next = rw c.in_default-next_settled_with_last.is at c.next_settled_with_last.ensures.page t p (rw body space) (i.kept t p space) in
    rw (over t p (run_of c.args.run.now) run c.pages.from next i.after i.within) (i.moves t p space run)

pub returns-clause-rest : goal.returns-clause-rest
returns-clause-rest g c t p space run =
    let i = c.pages.invariant in
    let body = same_body g.S.FrameSeat.view c.pages.space c.args.space.now i.view i.root i.trapframe i.layout in
    let next = rw c.in_default-next_settled_with_last.is at c.next_settled_with_last.ensures.page t p (rw body space) (i.kept t p space) in
    rw (over t p (run_of c.args.run.now) run c.pages.from next i.after i.within) (i.rest t p space run)

pub returns-clause-keeps : goal.returns-clause-keeps
returns-clause-keeps g c others r = c.next_settled_with_last.ensures.keeps others (c.pages.invariant.keeps others r)
