use Rattle.std.proofs.Common.{◌≡◌, subst, sym, ◌∙◌}
use Rattle.address_space.specs.Agreement.{body, body_of}
use Rattle.cow_fork.specs.Forks.{Forks}
use Rattle.cow_fork.proofs.Refusals.{same_error}
use Rattle.cow_fork.proofs.fork_process.fork.Goals as goal

pub returns-in-Ok-clause-forked : goal.returns-in-Ok-clause-forked
returns-in-Ok-clause-forked g c t p space =
    let all = c.in-Ok.ensures.forked t p space in
    let child = c.in-Ok.child in
    let same : c.copied.result ≡ c.args.space.now.layout = c.copied.ensures ∙ c.fork_with.ensures.place.layout in (
      all.0,
      all.1,
      rw c.space.ensures (subst (λ l. Forks (body_of g.S.FrameSeat.view c.args.space.now) (body_of g.S.FrameSeat.view c.fork_with.new.space) (body (g.S.FrameSeat.view child.seat) child.root.0 child.trapframe.0 l) t all.0 all.1 p) (sym same) all.2),
    )

pub returns-in-Ok-clause-short : goal.returns-in-Ok-clause-short
returns-in-Ok-clause-short g c alone t p space =
    let s = c.in-Ok.ensures.short alone t p space in
    (λ is. absurd (cc), λ less. absurd (let bad = s.1 less in cc))

pub returns-in-Ok-clause-free : goal.returns-in-Ok-clause-free
returns-in-Ok-clause-free g c alone t p space other = c.in-Ok.ensures.free alone t p space (λ is. absurd (cc))

pub returns-in-Err-clause-dry : goal.returns-in-Err-clause-dry
returns-in-Err-clause-dry g c is = c.in-Err.ensures.dry (same_error _ _ is)

pub returns-in-Err-clause-full : goal.returns-in-Err-clause-full
returns-in-Err-clause-full g c is = c.in-Err.ensures.full (same_error _ _ is)

pub returns-in-Err-clause-short : goal.returns-in-Err-clause-short
returns-in-Err-clause-short g c alone t p space =
    let s = c.in-Err.ensures.short alone t p space in
    (λ is. s.0 (same_error _ _ is), λ less. same_error _ _ (s.1 less))

pub returns-in-Err-clause-sharers : goal.returns-in-Err-clause-sharers
returns-in-Err-clause-sharers g c alone is = c.in-Err.ensures.sharers alone (same_error _ _ is)

pub returns-in-Err-clause-free : goal.returns-in-Err-clause-free
returns-in-Err-clause-free g c alone t p space other = c.in-Err.ensures.free alone t p space (λ is. other (same_error _ _ is))

pub returns-in-Ok-clause-keeps : goal.returns-in-Ok-clause-keeps
returns-in-Ok-clause-keeps g c = rw c.space.ensures c.in-Ok.ensures.keeps
