use Rattle.std.proofs.Common.{◌≤◌, ◌↔◌, refl, sym, subst, arith}
use Rattle.std.specs.Prelude.{IsOk}
use Rattle.fault_rules.proofs.Results.{if_err, if_ok}
use Rattle.fault_rules.proofs.TakenOver.{by_leaving, by_owning, can_own, marked_need, runs_short, unmarked_need}
use Rattle.fault_rules.proofs.take_over.unshare.Goals as goal

pub own-requires-clause-ready : goal.own-requires-clause-ready
own-requires-clause-ready g c =
    let r = c.requires.ready in
    let is = c.requires.settled r.0 r.1 r.2.agrees in
    (r.0, r.1, is.page, c.args.settled.now.frame.0, can_own _ r.0 r.1 c.args.settled.now r.2 is c.if-settled.true)

pub returns-then-settled-clause-unshared : goal.returns-then-settled-clause-unshared
returns-then-settled-clause-unshared g c =
    if_ok _ _ c.own.result (λ ok owned t p can is. by_owning _ t p c.args.settled.now can is _ _ c.if-settled.true owned) c.own.ensures.owned

pub returns-then-settled-clause-dry : goal.returns-then-settled-clause-dry
returns-then-settled-clause-dry g c =
    if_err _ _ c.own.result
    (λ none dry t p can. runs_short _ t p c.args.settled.now can (c.requires.settled t p can.agrees) _ _ dry.0 c.if-settled.true dry.1 dry.2) c.own.ensures.dry

pub returns-then-settled-clause-exact : goal.returns-then-settled-clause-exact
returns-then-settled-clause-exact g c alone t p shared can told =
    let is = c.requires.settled t p can.agrees in
    let need = marked_need _ t p c.args.settled.now can is shared (g.F.FrameAccess.count c.args.store.now) c.if-settled.true told in
    subst (λ n. IsOk c.own.result ↔ (n ≤ g.F.FrameAccess.free c.args.store.now)) (sym need)
    (c.own.ensures.exact alone t p is.page c.args.settled.now.frame.0 (can_own _ t p c.args.settled.now can is c.if-settled.true))

pub returns-then-settled-clause-free : goal.returns-then-settled-clause-free
returns-then-settled-clause-free g c alone t p shared can told =
    let is = c.requires.settled t p can.agrees in
    let need = marked_need _ t p c.args.settled.now can is shared (g.F.FrameAccess.count c.args.store.now) c.if-settled.true told in
    rw need (c.own.ensures.free alone t p is.page c.args.settled.now.frame.0 (can_own _ t p c.args.settled.now can is c.if-settled.true))

pub returns-clause-unshared : goal.returns-clause-unshared
returns-clause-unshared g c t p can is = by_leaving _ t p c.args.settled.now can is _ c.if-settled.false

pub returns-clause-exact : goal.returns-clause-exact
returns-clause-exact g c alone t p shared can told =
    let need = unmarked_need _ t p c.args.settled.now can (c.requires.settled t p can.agrees) shared c.if-settled.false in
    (λ _. omega (arith, need), λ _. refl)

pub returns-clause-free : goal.returns-clause-free
returns-clause-free g c alone t p shared can told =
    let need = unmarked_need _ t p c.args.settled.now can (c.requires.settled t p can.agrees) shared c.if-settled.false in
    omega (arith, need)
