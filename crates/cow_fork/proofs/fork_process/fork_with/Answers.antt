use Rattle.std.proofs.Common.{◌≡◌, ◌-◌, ap, subst, sym, ◌∙◌, arith, List, [], ◌∷◌, Ok, Err}
use Rattle.std.specs.Prelude.{if◌then◌else◌, is_ok, IfErr, IfOk}
use Rattle.address_space.specs.Agreement.{Body, body, body_of, IsSpace, same_body}
use Rattle.address_space.specs.Steps.{RunsDry}
use Rattle.frame_store.specs.Laws.{fits_after, KeepsSeats}
use Rattle.frame_store.specs.View.{IsHeld, View}
use Rattle.process_model.specs.Frames as model
use Rattle.process_model.specs.Process.{Process}
use Rattle.table_walk.specs.Tables.{Tables}
use Rattle.cow_fork.specs.Forks.{HasForked}
use Rattle.cow_fork.proofs.fork_process.fork_with.Given as given
use Rattle.cow_fork.proofs.fork_process.fork_with.Goals as goal
use Rattle.cow_fork.proofs.fork_process.fork_with.Goals.{After-settled_pages-settled}

-- ---- listing the pages changes nothing

module _ (g : given.Over) (c : After-settled_pages-settled g) where
  first : body_of g.S.FrameSeat.view c.settled_pages-settled.new.space ≡ body_of g.S.FrameSeat.view c.args.space.now
  first = let s = c.settled_pages-settled.ensures in same_body g.S.FrameSeat.view c.settled_pages-settled.new.space c.args.space.now s.reads.view s.reads.root s.reads.trapframe s.reads.layout

  again : (t : Tables) (p : Process) → IsSpace (body_of g.S.FrameSeat.view c.args.space.now) t p → IsSpace (body_of g.S.FrameSeat.view c.settled_pages-settled.new.space) t p
  again t p space = subst (λ (b : Body). IsSpace b t p) (sym first) space

  back : (t : Tables) (p : Process) → IsSpace (body_of g.S.FrameSeat.view c.settled_pages-settled.new.space) t p → IsSpace (body_of g.S.FrameSeat.view c.args.space.now) t p
  back t p space = subst (λ (b : Body). IsSpace b t p) first space

pub fork_listed-requires-clause-fits : goal.fork_listed-requires-clause-fits
fork_listed-requires-clause-fits g c = fits_after g.F.FrameAccess.invariant c.settled_pages-settled.ensures.keeps c.requires.fits

pub fork_listed-requires-clause-ready : goal.fork_listed-requires-clause-ready
fork_listed-requires-clause-ready g c =
    let at = (goal.at.fork_listed-requires-clause-ready g c).After-settled_pages-settled in
    let r = c.requires.ready in
    (r.0, r.1, again g at r.0 r.1 r.2)

pub fork_listed-requires-clause-settled : goal.fork_listed-requires-clause-settled
fork_listed-requires-clause-settled g c t p space =
    let at = (goal.at.fork_listed-requires-clause-settled g c).After-settled_pages-settled in
    c.settled_pages-settled.ensures.settled t p (back g at t p space)

pub returns-clause-forked : goal.returns-clause-forked
returns-clause-forked g c =
    let at = (goal.at.returns-clause-forked g c).After-settled_pages-settled in
    let listed = subst (λ (b : Body). IfOk c.fork_listed.result (λ child. HasForked b (body_of g.S.FrameSeat.view c.fork_listed.new.space) (body (g.S.FrameSeat.view child.seat) child.root.0 child.trapframe.0 c.settled_pages-settled.new.space.layout))) (first g at) c.fork_listed.ensures.forked in
    subst (λ l. IfOk c.fork_listed.result (λ child. HasForked (body_of g.S.FrameSeat.view c.args.space.now) (body_of g.S.FrameSeat.view c.fork_listed.new.space) (body (g.S.FrameSeat.view child.seat) child.root.0 child.trapframe.0 l))) c.settled_pages-settled.ensures.reads.layout listed

pub returns-clause-whole : goal.returns-clause-whole
returns-clause-whole g c =
    let at = (goal.at.returns-clause-whole g c).After-settled_pages-settled in
    subst (λ (b : Body). IfErr c.fork_listed.result (λ _. (t : Tables) (p : Process) → IsSpace b t p → IsSpace (body_of g.S.FrameSeat.view c.fork_listed.new.space) t p)) (first g at) c.fork_listed.ensures.whole

pub returns-clause-dry : goal.returns-clause-dry
returns-clause-dry g c short t p space =
    let at = (goal.at.returns-clause-dry g c).After-settled_pages-settled in
    subst (λ (v : View). RunsDry v (g.S.FrameSeat.view c.fork_listed.new.space.seat) (model.fork_need p) []) c.settled_pages-settled.ensures.reads.view (c.fork_listed.ensures.dry short t p (again g at t p space))

pub returns-clause-full : goal.returns-clause-full
returns-clause-full g c full = rw (← c.settled_pages-settled.ensures.reads.view) (c.fork_listed.ensures.full full)

pub returns-clause-short : goal.returns-clause-short
returns-clause-short g c alone t p space =
    let at = (goal.at.returns-clause-short g c).After-settled_pages-settled in
    let same = ap g.F.FrameAccess.free c.settled_pages-settled.ensures.reads.same in
    let s = c.fork_listed.ensures.short alone t p (again g at t p space) in
    (λ is. let less = s.0 is in omega (arith, less, same), λ less. s.1 (omega (arith, less, same)))

pub returns-clause-sharers : goal.returns-clause-sharers
returns-clause-sharers g c alone full =
    let s = c.fork_listed.ensures.sharers alone full in
    let count = ap (λ x. g.F.FrameAccess.count x s.0) c.settled_pages-settled.ensures.reads.same in
    (s.0, subst (λ (v : View). IsHeld v s.0) c.settled_pages-settled.ensures.reads.view s.1, λ less. s.2 (omega (arith, less, count)))

pub returns-clause-free : goal.returns-clause-free
returns-clause-free g c alone t p space other =
    let at = (goal.at.returns-clause-free g c).After-settled_pages-settled in
    c.fork_listed.ensures.free alone t p (again g at t p space) other
    ∙ ap (λ x. g.F.FrameAccess.free x - (if is_ok c.fork_listed.result then model.fork_need p else 0)) c.settled_pages-settled.ensures.reads.same

pub returns-clause-keeps : goal.returns-clause-keeps
returns-clause-keeps g c = elim c.fork_listed.result as (λ r. IfOk r (λ child. (others : List g.row.S.Denot) → g.F.FrameAccess.invariant c.settled_pages-settled.new.store (c.settled_pages-settled.new.space.seat ∷ others) → g.F.FrameAccess.invariant c.fork_listed.new.store (c.fork_listed.new.space.seat ∷ child.seat ∷ others)) → IfOk r (λ child. (others : List g.row.S.Denot) → g.F.FrameAccess.invariant c.args.store.now (c.args.space.now.seat ∷ others) → g.F.FrameAccess.invariant c.fork_listed.new.store (c.fork_listed.new.space.seat ∷ child.seat ∷ others))) [
  | Ok child ↦ λ keeps others r. keeps others (c.settled_pages-settled.ensures.keeps others r)
  | Err e ↦ λ keeps. keeps
] c.fork_listed.ensures.keeps

pub returns-clause-keeps_refused : goal.returns-clause-keeps_refused
returns-clause-keeps_refused g c = elim c.fork_listed.result as (λ r. IfErr r (λ _. KeepsSeats g.F.FrameAccess.invariant c.settled_pages-settled.new.store c.settled_pages-settled.new.space.seat c.fork_listed.new.store c.fork_listed.new.space.seat) → IfErr r (λ _. KeepsSeats g.F.FrameAccess.invariant c.args.store.now c.args.space.now.seat c.fork_listed.new.store c.fork_listed.new.space.seat)) [
  | Ok child ↦ λ keeps. keeps
  | Err e ↦ λ keeps others r. keeps others (c.settled_pages-settled.ensures.keeps others r)
] c.fork_listed.ensures.keeps_refused
