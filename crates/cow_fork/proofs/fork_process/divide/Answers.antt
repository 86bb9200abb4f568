use Rattle.std.proofs.Common.{◌≡◌, ℕ, ap, sym, subst, ◌∙◌, List, map}
use Rattle.address_space.specs.Agreement.{body, body_of}
use Rattle.address_space.specs.SpacesInCalls.{IsSpaceInCall, RewritesLeaves}
use Rattle.frame_store.specs.Laws.{fits_after}
use Rattle.frame_store.specs.View.{View}
use Rattle.process_model.specs.Process.{Process}
use Rattle.process_model.specs.Residence.{marked}
use Rattle.sv39_entry.specs.declared.frame.FrameNo.{FrameNo}
use Rattle.table_walk.specs.Tables.{Tables}
use Rattle.cow_fork.specs.Forks.{CanDivide, HasChild}
use Rattle.cow_fork.specs.Occurrences.{times}
use Rattle.address_space.specs.SeatExtras.{forking_beside}
use Rattle.cow_fork.proofs.Dividing.{divide_left, divide_may, divide_right, divides}
use Rattle.cow_fork.proofs.Walking.{body_on}
use Rattle.cow_fork.proofs.fork_process.divide.Given as given
use Rattle.cow_fork.proofs.fork_process.divide.Goals as goal
use Rattle.cow_fork.proofs.fork_process.divide.Goals.{After-build_child, After-mark_pages}

module _ (g : given.Over) (c : After-build_child g) (v : View) (t : Tables) (p : Process)
    (can : CanDivide v (body_of g.S.FrameSeat.view c.args.space.now) t p c.args.settled.now (map (λ f. f.0) c.args.frames.now.items)) where
  abbrev frames : List ℕ
  frames = map (λ (f : FrameNo). f.0) c.build_child.new.frames.items

  child : (u : Tables) × HasChild v (g.S.FrameSeat.view c.build_child.new.space.seat) t u p c.build_child.result.0.0 c.build_child.result.1.0 (map (λ f. f.0) c.build_child.new.frames.items)
  child = c.build_child.ensures.built v t p can

  forking : IsSpaceInCall (body (g.S.FrameSeat.view c.build_child.new.space.seat) c.args.space.now.root.0 c.args.space.now.trapframe.0 c.args.space.now.layout) t p (λ f. times f (map (λ f. f.0) c.build_child.new.frames.items))
  forking = forking_beside v _ (λ f. times f frames) child.1.counts child.1.same _ _ _ t p can.space

  now : body (g.S.FrameSeat.view c.build_child.new.space.seat) c.args.space.now.root.0 c.args.space.now.trapframe.0 c.args.space.now.layout ≡ body_of g.S.FrameSeat.view c.build_child.new.space
  now = body_on g.S.FrameSeat.view c.build_child.new.space c.args.space.now c.build_child.ensures.place.root c.build_child.ensures.place.trapframe c.build_child.ensures.place.layout

  forking_now : IsSpaceInCall (body_of g.S.FrameSeat.view c.build_child.new.space) t p (λ f. times f (map (λ f. f.0) c.build_child.new.frames.items))
  forking_now = subst (λ b. IsSpaceInCall b t p (λ f. times f frames)) now forking

module _ (g : given.Over) (c : After-mark_pages g) where
  marked_root : c.mark_pages.new.space.root ≡ c.args.space.now.root
  marked_root = c.mark_pages.ensures.place.root ∙ c.build_child.ensures.place.root

  marked_trapframe : c.mark_pages.new.space.trapframe ≡ c.args.space.now.trapframe
  marked_trapframe = c.mark_pages.ensures.place.trapframe ∙ c.build_child.ensures.place.trapframe

  marked_layout : c.mark_pages.new.space.layout ≡ c.args.space.now.layout
  marked_layout = c.mark_pages.ensures.place.layout ∙ c.build_child.ensures.place.layout

  first : body (g.S.FrameSeat.view c.build_child.new.space.seat) c.args.space.now.root.0 c.args.space.now.trapframe.0 c.args.space.now.layout ≡ body_of g.S.FrameSeat.view c.build_child.new.space
  first = body_on g.S.FrameSeat.view c.build_child.new.space c.args.space.now c.build_child.ensures.place.root c.build_child.ensures.place.trapframe c.build_child.ensures.place.layout

  second : body (g.S.FrameSeat.view c.mark_pages.new.space.seat) c.args.space.now.root.0 c.args.space.now.trapframe.0 c.args.space.now.layout ≡ body_of g.S.FrameSeat.view c.mark_pages.new.space
  second = body_on g.S.FrameSeat.view c.mark_pages.new.space c.args.space.now marked_root marked_trapframe marked_layout

  module _ (t r : Tables) (p : Process) (extra : ℕ → ℕ) where
    forking_marked : IsSpaceInCall (body_of g.S.FrameSeat.view c.mark_pages.new.space) r (marked p) extra
        → IsSpaceInCall (body (g.S.FrameSeat.view c.mark_pages.new.space.seat) c.args.space.now.root.0 c.args.space.now.trapframe.0 c.args.space.now.layout) r (marked p) extra
    forking_marked f = subst (λ b. IsSpaceInCall b r (marked p) extra) (sym second) f

    turned_marked : RewritesLeaves (body_of g.S.FrameSeat.view c.build_child.new.space) (body_of g.S.FrameSeat.view c.mark_pages.new.space) t r
        → RewritesLeaves (body (g.S.FrameSeat.view c.build_child.new.space.seat) c.args.space.now.root.0 c.args.space.now.trapframe.0 c.args.space.now.layout)
        (body (g.S.FrameSeat.view c.mark_pages.new.space.seat) c.args.space.now.root.0 c.args.space.now.trapframe.0 c.args.space.now.layout) t r
    turned_marked f = subst (λ b. RewritesLeaves b (body (g.S.FrameSeat.view c.mark_pages.new.space.seat) c.args.space.now.root.0 c.args.space.now.trapframe.0 c.args.space.now.layout) t r) (sym first)
        (subst (λ b. RewritesLeaves (body_of g.S.FrameSeat.view c.build_child.new.space) b t r) (sym second) f)

pub mark_pages-requires-clause-fits : goal.mark_pages-requires-clause-fits
mark_pages-requires-clause-fits g c = fits_after g.F.FrameAccess.invariant c.build_child.ensures.keeps c.requires.fits

pub mark_pages-requires-clause-ready : goal.mark_pages-requires-clause-ready
mark_pages-requires-clause-ready g c =
    let r = c.requires.ready in
    let at = (goal.at.mark_pages-requires-clause-ready g c).After-build_child in
    (r.1, r.2, _, forking_now g at r.0 r.1 r.2 r.3, r.3.settled)

pub split-seat-requires-clause-fits : goal.split-seat-requires-clause-fits
split-seat-requires-clause-fits g c = fits_after g.F.FrameAccess.invariant c.mark_pages.ensures.keeps (fits_after g.F.FrameAccess.invariant c.build_child.ensures.keeps c.requires.fits)

pub split-seat-requires-clause-held : goal.split-seat-requires-clause-held
split-seat-requires-clause-held g c =
    let r = c.requires.ready in
    let at = (goal.at.split-seat-requires-clause-held g c).After-build_child in
    let now = (goal.at.split-seat-requires-clause-held g c).After-mark_pages in
    let k = child g at r.0 r.1 r.2 r.3 in
    let m = c.mark_pages.ensures.marked r.1 r.2 _ (forking_now g at r.0 r.1 r.2 r.3) r.3.settled in
    rw c.as_slice.ensures.value (divide_may r.0 _ _ _ _ _ r.1 m.0 k.0 r.2 _ _ _ r.3.space k.1 (forking_marked g now r.1 m.0 r.2 (λ f. times f (map (λ (x : FrameNo). x.0) c.build_child.new.frames.items)) m.1) (turned_marked g now r.1 m.0 r.2 (λ f. times f (map (λ (x : FrameNo). x.0) c.build_child.new.frames.items)) m.2))

pub split-seat-requires-clause-left_anchored : goal.split-seat-requires-clause-left_anchored
split-seat-requires-clause-left_anchored g c =
    let r = c.requires.ready in
    let at = (goal.at.split-seat-requires-clause-left_anchored g c).After-build_child in
    let now = (goal.at.split-seat-requires-clause-left_anchored g c).After-mark_pages in
    let k = child g at r.0 r.1 r.2 r.3 in
    let m = c.mark_pages.ensures.marked r.1 r.2 _ (forking_now g at r.0 r.1 r.2 r.3) r.3.settled in
    rw c.as_slice.ensures.value (divide_left r.0 _ _ _ _ _ r.1 m.0 k.0 r.2 _ _ _ r.3.space k.1 (forking_marked g now r.1 m.0 r.2 (λ f. times f (map (λ (x : FrameNo). x.0) c.build_child.new.frames.items)) m.1) (turned_marked g now r.1 m.0 r.2 (λ f. times f (map (λ (x : FrameNo). x.0) c.build_child.new.frames.items)) m.2))

pub split-seat-requires-clause-right_anchored : goal.split-seat-requires-clause-right_anchored
split-seat-requires-clause-right_anchored g c =
    let r = c.requires.ready in
    let at = (goal.at.split-seat-requires-clause-right_anchored g c).After-build_child in
    let now = (goal.at.split-seat-requires-clause-right_anchored g c).After-mark_pages in
    let k = child g at r.0 r.1 r.2 r.3 in
    let m = c.mark_pages.ensures.marked r.1 r.2 _ (forking_now g at r.0 r.1 r.2 r.3) r.3.settled in
    rw c.as_slice.ensures.value (divide_right r.0 _ _ _ _ _ r.1 m.0 k.0 r.2 _ _ _ r.3.space k.1 (forking_marked g now r.1 m.0 r.2 (λ f. times f (map (λ (x : FrameNo). x.0) c.build_child.new.frames.items)) m.1) (turned_marked g now r.1 m.0 r.2 (λ f. times f (map (λ (x : FrameNo). x.0) c.build_child.new.frames.items)) m.2))

pub returns-clause-divided : goal.returns-clause-divided
returns-clause-divided g c v t p can =
    let at = (goal.at.returns-clause-divided g c).After-build_child in
    let now = (goal.at.returns-clause-divided g c).After-mark_pages in
    let k = child g at v t p can in
    let m = c.mark_pages.ensures.marked t p _ (forking_now g at v t p can) can.settled in
    let all = divides v _ _ _ _ _ t m.0 k.0 p _ _ _ can.space k.1 (forking_marked g now t m.0 p (λ f. times f (map (λ (x : FrameNo). x.0) c.build_child.new.frames.items)) m.1) (turned_marked g now t m.0 p (λ f. times f (map (λ (x : FrameNo). x.0) c.build_child.new.frames.items)) m.2) _ _
    (rw c.as_slice.ensures.value at c.split-seat.ensures.left) (rw c.as_slice.ensures.value at c.split-seat.ensures.right) in
    (m.0, k.0, rw (marked_root g now, marked_trapframe g now, marked_layout g now) all)

pub returns-clause-keeps : goal.returns-clause-keeps
returns-clause-keeps g c others r = c.split-seat.ensures.keeps others (c.mark_pages.ensures.keeps others (c.build_child.ensures.keeps others r))

pub returns-clause-free : goal.returns-clause-free
returns-clause-free g c alone = ap g.F.FrameAccess.free c.split-seat.ensures.same ∙ c.mark_pages.ensures.free alone ∙ c.build_child.ensures.free alone
