use Rattle.std.proofs.Common.{◌≡◌, ◌≤◌, ◌≤ℤ◌, pos, ap, sym, subst, ◌∙◌, w64, Err, Ok, Some, arith}
use Rattle.std.proofs.lemmas.Int.{to_z-of_z}
use Rattle.std.proofs.lemmas.Result.{err_from_is_err_and}
use Rattle.address_space.specs.Layouts.{LaysOut}
use Rattle.lazy_growth.proofs.SizeRefusals.{heap_low}
use Rattle.lazy_growth.proofs.Resizing.{granted, grows, refused, resized_low, resizes}
use Rattle.lazy_growth.specs.SbrkResults.{IsNewSize, answer_of, refusal_of, size_before}
use Rattle.process_model.specs.Bytes.{pages_for}
use Rattle.process_model.specs.Heap.{size_refusal, wanted_size}
use Rattle.process_model.specs.Process.{Process}
use Rattle.sv39_entry.specs.Schemes.{trapframe_page, of_scheme}
use Rattle.lazy_growth.proofs.heap_size.sbrk.Given.{Over}
use Rattle.lazy_growth.proofs.heap_size.sbrk.Goals as goal
use Rattle.lazy_growth.proofs.heap_size.sbrk.Goals.{After-set_size, In_ok-size}

-- the size is the one that is asked for
is_new_size : (g : Over) (c : In_ok-size g) (p : Process) → LaysOut c.args.space.now.layout p → IsNewSize p c.args.delta c.in_ok-size.size
is_new_size g c p lays = subst (λ z. IsNewSize p z c.in_ok-size.size) (to_z-of_z w64 c.args.delta c.ranges.delta) (c.in_ok-size.ensures.granted p lays)

pub returns-in_err-size-clause-answer : goal.returns-in_err-size-clause-answer
returns-in_err-size-clause-answer g c t p space =
    let told = err_from_is_err_and c.from_residual.result c.from_residual.ensures.1 in
    let why = c.in_err-size.ensures.refused p space.lays in
    let is = subst (λ z. size_refusal p (wanted_size p z) ≡ Some (refusal_of c.in_err-size.field-0.0)) (to_z-of_z w64 c.args.delta c.ranges.delta) why in
    ap answer_of told.1 ∙ ap (λ e. Err (refusal_of e)) told.2 ∙ ap (size_before p) (sym (refused p c.args.delta _ is))

pub end_page-requires : goal.end_page-requires
end_page-requires g c =
    let r = c.requires.ready in
    let low = resized_low r.1 c.args.delta c.in_ok-size.size (is_new_size g (goal.at.end_page-requires g c).In_ok-size r.1 r.2.lays) r.2.sound.order in
    record { low = omega (arith, low, of_scheme r.1.scheme) }

pub end_page-requires-2 : goal.end_page-requires-2
end_page-requires-2 g c =
    let r = c.requires.ready in
    let low = subst (λ n. pages_for n ≤ trapframe_page r.1.scheme) (r.2.lays.size ∙ sym c.size-before.ensures) (heap_low r.1 r.2.sound.order) in
    record { low = omega (arith, low, of_scheme r.1.scheme) }

pub release_pages-requires-clause-low : goal.release_pages-requires-clause-low
release_pages-requires-clause-low g c =
    let r = c.requires.ready in
    let low = subst (λ n. pages_for n ≤ trapframe_page r.1.scheme) (r.2.lays.size ∙ sym c.size-before.ensures) (heap_low r.1 r.2.sound.order) in
    subst (λ z. c.end_page-2.result ≤ trapframe_page z) r.2.lays.scheme (rw c.end_page-2.ensures low)

pub returns-clause-answer : goal.returns-clause-answer
returns-clause-answer g c t p space =
    let is = granted p c.args.delta c.in_ok-size.size (is_new_size g (goal.at.returns-clause-answer g c).In_ok-size p space.lays) in
    ap Ok (c.size-before.ensures ∙ sym space.lays.size) ∙ ap (size_before p) (sym is)

pub returns-clause-resized : goal.returns-clause-resized
returns-clause-resized g c t p space =
    let is = is_new_size g (goal.at.returns-clause-resized g c).In_ok-size p space.lays in
    let gone = c.release_pages.ensures.released t p space in
    let end = c.end_page-2.ensures ∙ ap pages_for (c.size-before.ensures ∙ sym space.lays.size) in
    resizes p c.args.delta c.in_ok-size.size is space.sound.order _ _ t gone.0 _ _ c.end_page.ensures end gone.1 gone.2 c.set_size.ensures.agrees

-- a heap that grows does not end lower
not_lower : (g : Over) (c : After-set_size g) → pos 0 ≤ℤ c.args.delta → c.end_page-2.result ≤ c.end_page.result
not_lower g c up =
    let r = c.requires.ready in
    let is = is_new_size g (goal.at.returns-clause-growing_keeps_view g c).In_ok-size r.1 r.2.lays in
    let le = grows r.1 c.args.delta c.in_ok-size.size is up in
    let end = c.end_page-2.ensures ∙ ap pages_for (c.size-before.ensures ∙ sym r.2.lays.size) in
    rw (end, c.end_page.ensures) le

pub returns-clause-growing_keeps_view : goal.returns-clause-growing_keeps_view
returns-clause-growing_keeps_view g c up = ap g.S.FrameSeat.view c.set_size.ensures.seat ∙ c.release_pages.ensures.kept_view (not_lower g c up)

pub returns-clause-growing_keeps_store : goal.returns-clause-growing_keeps_store
returns-clause-growing_keeps_store g c up = c.release_pages.ensures.kept_store (not_lower g c up)

pub returns-clause-keeps : goal.returns-clause-keeps
returns-clause-keeps g c others s = rw c.set_size.ensures.seat (c.release_pages.ensures.keeps others s)
