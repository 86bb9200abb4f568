use Rattle.std.proofs.Common.{◌≡◌, ◌-◌, ap, sym, subst, ◌∙◌, inl, arith}
use Rattle.address_space.specs.Agreement.{Body, body_of, IsSpace, no_extra, same_body}
use Rattle.address_space.specs.SeatExtras.{space_still, standing_still}
use Rattle.address_space.specs.Parts.{AreParts, build_need, process_of_parts, tree_need}
use Rattle.address_space.specs.SpacesInCalls.{IsSpaceInCall}
use Rattle.std.proofs.lemmas.Result.{err_from_is_err_and}
use Rattle.exec_segments.proofs.Reserved.{credits_reserved, never_no_frame, refused, runs_dry, takes_reserved, went_well}
use Rattle.exec_segments.specs.Loads.{JudgedLoads}
use Rattle.frame_store.specs.Holds.{hold_of-frames}
use Rattle.frame_store.specs.Laws.{fits_after}
use Rattle.frame_store.specs.View.{hold_of, View, with_credits}
use Rattle.process_model.specs.Frames.{exec_need, start_need}
use Rattle.process_model.specs.Mappings.{all_written_back}
use Rattle.process_model.specs.Process.{Process}
use Rattle.sv39_entry.specs.declared.frame.FrameNo.{FrameNo}
use Rattle.table_walk.specs.Tables.{Tables}
use Rattle.exec_segments.proofs.exec_image.exec.Given as given
use Rattle.exec_segments.proofs.exec_image.exec.Goals as goal
use Rattle.exec_segments.proofs.exec_image.exec.Goals.{After-frames_needed-need, After-promise_write_back, After-write_back, After-write_back-arg-3-1}

-- what the image needs beside the trapframe's frame

needs : (g : given.Over) (c : After-frames_needed-need g) → c.frames_needed-need.result - 1 ≡ exec_need c.args.image.now.scheme c.args.image.now.loads
needs g c =
    let same = ap (λ (i : JudgedLoads). i.scheme) c.image.view_is in
    let all : c.frames_needed-need.result ≡ start_need c.args.image.now.scheme c.args.image.now.loads =
    c.frames_needed-need.ensures ∙ ap (build_need c.image.inside.scheme) c.as_slice.ensures.value ∙ ap (λ z. build_need z c.parts_of-parts.result.items) same ∙ c.parts_of-parts.ensures.need in
    omega (arith, all)

-- which is what its tree takes
tree : (g : given.Over) (c : After-frames_needed-need g) → c.frames_needed-need.result - 1 ≡ tree_need c.image.inside.scheme c.parts_of-parts.result.items
tree g c =
    let all : c.frames_needed-need.result ≡ build_need c.image.inside.scheme c.parts_of-parts.result.items = c.frames_needed-need.ensures ∙ ap (build_need c.image.inside.scheme) c.as_slice.ensures.value in
    omega (arith, all)

-- the space after the pages of files were promised

still : (g : given.Over) (c : After-promise_write_back g) → body_of g.S.FrameSeat.view c.promise_write_back.new.space ≡ body_of g.S.FrameSeat.view c.args.space.now
still g c =
    let e = c.promise_write_back.ensures in
    same_body g.S.FrameSeat.view c.promise_write_back.new.space c.args.space.now e.reads.view e.reads.root e.reads.trapframe e.reads.layout

pub returns-in_err-promise_write_back-clause-promised : goal.returns-in_err-promise_write_back-clause-promised
returns-in_err-promise_write_back-clause-promised g c =
    let told = err_from_is_err_and c.from_residual.result c.from_residual.ensures.1 in
    rw told.1 (λ none t p space. absurd (never_no_frame _ (sym told.2 ∙ none)))

pub returns-in_err-promise_write_back-clause-refused : goal.returns-in_err-promise_write_back-clause-refused
returns-in_err-promise_write_back-clause-refused g c =
    let told = err_from_is_err_and c.from_residual.result c.from_residual.ensures.1 in
    rw told.1 (λ t p space. inl (c.in_err-promise_write_back.field-0.0, c.in_err-promise_write_back.ensures.refused t p space, told.2))

pub returns-in_err-promise_write_back-clause-whole : goal.returns-in_err-promise_write_back-clause-whole
returns-in_err-promise_write_back-clause-whole g c =
    let told = err_from_is_err_and c.from_residual.result c.from_residual.ensures.1 in
    let body = still g (goal.at.returns-in_err-promise_write_back-clause-whole g c).After-promise_write_back in
    rw told.1 (λ t p space. subst (λ (x : Body). IsSpace x t p) (sym body) space)

pub reserve-requires : goal.reserve-requires
reserve-requires g c = record { fits = fits_after g.F.FrameAccess.invariant c.promise_write_back.ensures.keeps c.requires.fits }

pub returns-then-is_err-clause-dry : goal.returns-then-is_err-clause-dry
returns-then-is_err-clause-dry g c _ =
    let v = g.S.FrameSeat.view in
    let r = c.requires.ready in
    let dry = (refused c.reserve.result _ (sym c.is_err.ensures.value ∙ c.if-is_err.true) c.reserve.ensures.err).1 in
    runs_dry (v c.args.space.now.seat) (v c.promise_write_back.new.space.seat) (v c.reserve.new.seat) (c.frames_needed-need.result - 1) (exec_need c.args.image.now.scheme c.args.image.now.loads) c.promise_write_back.ensures.reads.view
    (needs g (goal.at.returns-then-is_err-clause-dry g c).After-frames_needed-need) r.2.credits dry

pub returns-then-is_err-clause-whole : goal.returns-then-is_err-clause-whole
returns-then-is_err-clause-whole g c t p space =
    let v = g.S.FrameSeat.view in
    let body = still g (goal.at.returns-then-is_err-clause-whole g c).After-promise_write_back in
    let before : IsSpace (body_of v c.promise_write_back.new.space) t p = rw body space in
    let dry = (refused c.reserve.result _ (sym c.is_err.ensures.value ∙ c.if-is_err.true) c.reserve.ensures.err).1 in
    space_still (v c.promise_write_back.new.space.seat) (v c.reserve.new.seat) dry.frames _ _ _ t p before dry.credits

pub returns-then-is_err-clause-keeps : goal.returns-then-is_err-clause-keeps
returns-then-is_err-clause-keeps g c others rule = c.reserve.ensures.keeps others (c.promise_write_back.ensures.keeps others rule)

pub write_back-requires-clause-fits : goal.write_back-requires-clause-fits
write_back-requires-clause-fits g c = fits_after g.F.FrameAccess.invariant c.reserve.ensures.keeps (fits_after g.F.FrameAccess.invariant c.promise_write_back.ensures.keeps c.requires.fits)

reserved : (g : given.Over) (c : After-write_back-arg-3-1 g) → g.S.FrameSeat.view c.reserve.new.seat ≡ with_credits (c.frames_needed-need.result - 1) (g.S.FrameSeat.view c.promise_write_back.new.space.seat)
reserved g c = (went_well c.reserve.result _ (sym c.is_err.ensures.value ∙ c.if-is_err.false) c.reserve.ensures.ok).1

-- the space, with the credits
stands : (g : given.Over) (c : After-write_back-arg-3-1 g) (t : Tables) (p : Process) → IsSpace (body_of g.S.FrameSeat.view c.args.space.now) t p
    → IsSpaceInCall (record (body_of g.S.FrameSeat.view c.promise_write_back.new.space) { view = g.S.FrameSeat.view c.reserve.new.seat }) t p no_extra
stands g c t p space =
    let v = g.S.FrameSeat.view in
    let e = c.promise_write_back.ensures in
    let body = same_body v c.promise_write_back.new.space c.args.space.now e.reads.view e.reads.root e.reads.trapframe e.reads.layout in
    let before : IsSpace (body_of v c.promise_write_back.new.space) t p = rw body space in
    standing_still (v c.promise_write_back.new.space.seat) (v c.reserve.new.seat) (ap (λ (x : View). x.frames) (reserved g c)) _ _ _ t p before

pub write_back-requires-clause-ready : goal.write_back-requires-clause-ready
write_back-requires-clause-ready g c =
    let r = c.requires.ready in
    (r.0, r.1, stands g (goal.at.write_back-requires-clause-ready g c).After-write_back-arg-3-1 r.0 r.1 r.2, c.in_ok-promise_write_back.ensures.promised r.0 r.1 r.2)

pub rebuild-requires-clause-fits : goal.rebuild-requires-clause-fits
rebuild-requires-clause-fits g c = fits_after g.F.FrameAccess.invariant c.write_back.ensures.keeps
    (fits_after g.F.FrameAccess.invariant c.reserve.ensures.keeps (fits_after g.F.FrameAccess.invariant c.promise_write_back.ensures.keeps c.requires.fits))

-- the space was written back, and is of the scheme of the image

by_scheme : (g : given.Over) (c : After-write_back g) → c.args.image.now.scheme ≡ c.write_back.new.space.layout.scheme
by_scheme g c = c.requires.scheme ∙ sym (ap (λ l. l.scheme) (c.write_back.ensures.reads.layout ∙ c.promise_write_back.ensures.reads.layout))

pub rebuild-requires-clause-parts : goal.rebuild-requires-clause-parts
rebuild-requires-clause-parts g c =
    let at = goal.at.rebuild-requires-clause-parts g c in
    subst (AreParts c.write_back.new.space.layout.scheme) (sym c.as_slice-2.ensures.value) (subst (λ z. AreParts z c.parts_of-parts.result.items) (by_scheme g at.After-write_back) c.parts_of-parts.ensures.parts)

after : (g : given.Over) (c : After-write_back g) → body_of g.S.FrameSeat.view c.write_back.new.space ≡ record (body_of g.S.FrameSeat.view c.promise_write_back.new.space) { view = g.S.FrameSeat.view c.reserve.new.seat }
after g c =
    let e = c.write_back.ensures in
    same_body g.S.FrameSeat.view c.write_back.new.space (record c.promise_write_back.new.space { seat = c.reserve.new.seat }) e.reads.view e.reads.root e.reads.trapframe e.reads.layout

pub rebuild-requires-clause-ready : goal.rebuild-requires-clause-ready
rebuild-requires-clause-ready g c =
    let r = c.requires.ready in
    let at = goal.at.rebuild-requires-clause-ready g c in
    let body = after g at.After-write_back in
    let standing = subst (λ (z : Body). IsSpaceInCall z r.0 r.1 no_extra) (sym body) (stands g at.After-write_back-arg-3-1 r.0 r.1 r.2) in
    (r.0, r.1, (standing.lays.scheme, standing.stands))

pub rebuild-requires-clause-credits : goal.rebuild-requires-clause-credits
rebuild-requires-clause-credits g c =
    let v = g.S.FrameSeat.view in
    let at = goal.at.rebuild-requires-clause-credits g c in
    let e = c.promise_write_back.ensures in
    let same = ap (λ (i : JudgedLoads). i.scheme) c.image.view_is ∙ by_scheme g at.After-write_back in
    credits_reserved (v c.args.space.now.seat) (v c.promise_write_back.new.space.seat) (v c.reserve.new.seat) _ _ e.reads.view (tree g at.After-frames_needed-need) (v c.write_back.new.space.seat)
    c.requires.ready.2.credits (reserved g at.After-write_back-arg-3-1) c.write_back.ensures.reads.view
    ∙ ap (λ z. tree_need z c.parts_of-parts.result.items) same ∙ ap (tree_need c.write_back.new.space.layout.scheme) (sym c.as_slice-2.ensures.value)

pub returns-clause-replaced : goal.returns-clause-replaced
returns-clause-replaced g c =
    let same = by_scheme g (goal.at.returns-clause-replaced g c).After-write_back in
    let built = c.rebuild.ensures.built in
    (built.0, (λ fresh. subst (IsSpace (body_of g.S.FrameSeat.view c.rebuild.new.self) built.0) (ap (λ z. process_of_parts z fresh c.as_slice-2.result.now) (sym same) ∙ ap (process_of_parts c.args.image.now.scheme fresh) c.as_slice-2.ensures.value ∙ c.parts_of-parts.ensures.process fresh) (built.1 fresh)), built.2)

pub returns-clause-moves : goal.returns-clause-moves
returns-clause-moves g c t p space =
    g.met.C.Files.goes_on _ _ _ _ _ c.promise_write_back.ensures.files (c.write_back.ensures.moves t p (stands g (goal.at.returns-clause-moves g c).After-write_back-arg-3-1 t p space))

pub returns-clause-written : goal.returns-clause-written
returns-clause-written g c t p space =
    let promised : g.C.Files.files c.promise_write_back.new.files ≡ g.C.Files.files c.args.files.now = g.met.C.Files.comes_to _ _ _ c.promise_write_back.ensures.files in
    c.write_back.ensures.written t p (stands g (goal.at.returns-clause-written g c).After-write_back-arg-3-1 t p space) ∙ ap (λ fs. all_written_back fs p) promised

pub returns-clause-takes : goal.returns-clause-takes
returns-clause-takes g c =
    let v = g.S.FrameSeat.view in
    let at = goal.at.returns-clause-takes g c in
    let e = c.promise_write_back.ensures in
    let need = needs g at.After-frames_needed-need in
    let same = ap (λ (i : JudgedLoads). i.scheme) c.image.view_is ∙ by_scheme g at.After-write_back in
    let all = ap (λ z. tree_need z c.as_slice-2.result.now) (sym same) ∙ ap (tree_need c.image.inside.scheme) c.as_slice-2.ensures.value ∙ sym (tree g at.After-frames_needed-need) ∙ need in
    takes_reserved (v c.args.space.now.seat) (v c.promise_write_back.new.space.seat) (v c.reserve.new.seat) _ _ e.reads.view need (v c.write_back.new.space.seat) (v c.rebuild.new.self.seat) _
    (reserved g at.After-write_back-arg-3-1) c.write_back.ensures.reads.view all c.rebuild.ensures.takes

pub returns-clause-saved : goal.returns-clause-saved
returns-clause-saved g c =
    let v = g.S.FrameSeat.view in
    let e = c.promise_write_back.ensures in
    let w = c.write_back.ensures in
    let frame : c.write_back.new.space.trapframe ≡ c.args.space.now.trapframe = w.reads.trapframe ∙ e.reads.trapframe in
    let there = ap (λ (x : View). x.frames) (w.reads.view ∙ reserved g (goal.at.returns-clause-saved g c).After-write_back-arg-3-1 ∙ ap (with_credits (c.frames_needed-need.result - 1)) e.reads.view) in
    subst (λ (f : FrameNo). hold_of (v c.rebuild.new.self.seat) f.0 ≡ hold_of (v c.write_back.new.space.seat) f.0) frame c.rebuild.ensures.saved
    ∙ hold_of-frames (v c.write_back.new.space.seat) (v c.args.space.now.seat) there c.args.space.now.trapframe.0

pub returns-clause-keeps : goal.returns-clause-keeps
returns-clause-keeps g c others rule =
    c.rebuild.ensures.keeps others (c.write_back.ensures.keeps others (c.reserve.ensures.keeps others (c.promise_write_back.ensures.keeps others rule)))
