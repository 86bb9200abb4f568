use Rattle.std.proofs.Common.{◌≡◌, ◌+◌, ◌<◌, ◌≤◌, ap, refl, sym, subst, ◌∙◌, arith, [], ◌∷◌, ◌++◌, drop, map}
use Rattle.std.proofs.lemmas.List.{length-map, map-append}
use Rattle.frame_store.specs.View.{IsHeld, View}
use Rattle.sv39_entry.specs.declared.frame.FrameNo.{FrameNo}
use Rattle.cow_fork.specs.Occurrences.{times}
use Rattle.cow_fork.specs.ForkReferences.{frames_of}
use Rattle.cow_fork.proofs.Releasing.{times_same}
use Rattle.cow_fork.proofs.Results.{err_told}
use Rattle.cow_fork.proofs.Shares.{left_here, left_next, left_room}
use Rattle.cow_fork.proofs.Taking.{among, come_next, held_still, looked_more, more_next, more_none, not_before}
use Rattle.cow_fork.proofs.share.share_frames.Goals as goal

pub returns-in_err-share_frame-clause-more : goal.returns-in_err-share_frame-clause-more
returns-in_err-share_frame-clause-more g c =
    let e = c.in_err-share_frame.ensures in
    rw (e.stays, c.requires.empty) (looked_more _ _ _ [] e.full (more_none _ c.requires.anchored))

pub pages-init : goal.pages-init
pages-init g c =
    let e = c.in_ok-share_frame.ensures in
    let listed : map (λ (f : FrameNo). f.0) c.share_frame.new.frames.items ≡ 0 ∷ [] = ap (map (λ (f : FrameNo). f.0)) (e.listed ∙ ap (λ l. l ++ record { 0 = 0 } ∷ []) c.requires.empty) in
    let code : IsHeld _ 0 = c.requires.held 0 (let one = times_same 0 (frames_of c.args.settled.now) in omega (arith, one)) in
    record {
      root = e.place.root;
      trapframe = e.place.trapframe;
      layout = e.place.layout;
      credits = ap (λ (k : View). k.credits) e.shared;
      tallies = ap (λ (k : View). k.tallies) e.shared;
      size = ap (λ (k : View). k.size) e.shared;
      keeps = e.keeps;
      more = rw listed (more_next _ _ _ [] 0 (more_none _ c.requires.anchored) code e.shared);
      left = rw listed refl;
      counts = λ alone. rw listed (come_next _ _ _ [] 0 (λ f. omega arith) (e.counts alone));
      free = e.free;
    }

pub share_frame-requires-in-pages-clause-held : goal.share_frame-requires-in-pages-clause-held
share_frame-requires-in-pages-clause-held g c =
    let i = c.pages.invariant in
    let whole = left_here c.args.settled.now c.pages.page-index c.page-item.result c.pages-test.true c.page-item.is _ i.left in
    let was = c.requires.held (c.page-item.result.frame).0 (subst (λ l. 0 < times (c.page-item.result.frame).0 l) whole (among (c.page-item.result.frame).0 (map (λ f. f.0) c.pages.frames.items) (frames_of (drop (c.pages.page-index + 1) c.args.settled.now)))) in
    held_still _ _ (map (λ f. f.0) c.pages.frames.items) (c.page-item.result.frame).0 i.more was

pub share_frame-requires-in-pages-clause-room : goal.share_frame-requires-in-pages-clause-room
share_frame-requires-in-pages-clause-room g c =
    let room = left_room c.args.settled.now c.pages.page-index c.page-item.result c.pages-test.true c.page-item.is (map (λ f. f.0) c.pages.frames.items) c.pages.invariant.left c.requires.few in
    let same = length-map c.pages.frames.items (λ (f : FrameNo). f.0) in
    omega (arith, room, same)

pub returns-in_err-share_frame-2-clause-more : goal.returns-in_err-share_frame-2-clause-more
returns-in_err-share_frame-2-clause-more g c =
    let e = c.in_err-share_frame-2.ensures in
    rw e.stays (looked_more _ _ _ (map (λ f. f.0) c.pages.frames.items) e.full c.pages.invariant.more)

pub returns-in_err-share_frame-2-clause-full : goal.returns-in_err-share_frame-2-clause-full
returns-in_err-share_frame-2-clause-full g c alone =
    let i = c.pages.invariant in
    let e = c.in_err-share_frame-2.ensures in
    let taken = map (λ (f : FrameNo). f.0) c.pages.frames.items in
    let rest = frames_of (drop (c.pages.page-index + 1) c.args.settled.now) in
    let whole = left_here c.args.settled.now c.pages.page-index c.page-item.result c.pages-test.true c.page-item.is taken i.left in
    let none = not_before (c.page-item.result.frame).0 taken rest (subst (λ l. times (c.page-item.result.frame).0 l ≤ 1) (sym whole) (c.requires.once (c.page-item.result.frame).0)) in
    let count = i.counts alone (c.page-item.result.frame).0 in
    err_told c.from_residual-in_err-share_frame-2.result _ (
      (c.page-item.result.frame).0,
      subst (λ l. 0 < times (c.page-item.result.frame).0 l) whole (among (c.page-item.result.frame).0 taken rest),
      λ less. let both = (e.exact alone).1 (omega (arith, less, count, none)) in cc,
    )

pub pages-preserved : goal.pages-preserved
pages-preserved g c =
    let i = c.pages.invariant in
    let e = c.in_ok-share_frame-2.ensures in
    let frame = (c.page-item.result.frame).0 in
    let listed : map (λ (f : FrameNo). f.0) c.share_frame-in-pages.new.frames.items ≡ map (λ (f : FrameNo). f.0) c.pages.frames.items ++ (c.page-item.result.frame).0 ∷ [] =
    ap (map (λ (f : FrameNo). f.0)) e.listed ∙ map-append (λ (f : FrameNo). f.0) c.pages.frames.items (c.page-item.result.frame ∷ []) in
    let whole = left_here c.args.settled.now c.pages.page-index c.page-item.result c.pages-test.true c.page-item.is _ i.left in
    let was = c.requires.held (c.page-item.result.frame).0 (subst (λ l. 0 < times (c.page-item.result.frame).0 l) whole (among (c.page-item.result.frame).0 (map (λ f. f.0) c.pages.frames.items) (frames_of (drop (c.pages.page-index + 1) c.args.settled.now)))) in
    record {
      root = e.place.root ∙ i.root;
      trapframe = e.place.trapframe ∙ i.trapframe;
      layout = e.place.layout ∙ i.layout;
      credits = ap (λ (k : View). k.credits) e.shared ∙ i.credits;
      tallies = ap (λ (k : View). k.tallies) e.shared ∙ i.tallies;
      size = ap (λ (k : View). k.size) e.shared ∙ i.size;
      keeps = λ others r. e.keeps others (i.keeps others r);
      more = rw listed (more_next _ _ _ (map (λ f. f.0) c.pages.frames.items) (c.page-item.result.frame).0 i.more was e.shared);
      left = rw listed (left_next c.args.settled.now c.pages.page-index c.page-item.result c.pages-test.true c.page-item.is (map (λ f. f.0) c.pages.frames.items) i.left);
      counts = λ alone. rw listed (come_next _ _ _ (map (λ f. f.0) c.pages.frames.items) (c.page-item.result.frame).0 (i.counts alone) (e.counts alone));
      free = λ alone. e.free alone ∙ i.free alone;
    }
