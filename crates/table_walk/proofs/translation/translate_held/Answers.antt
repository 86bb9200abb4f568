use Rattle.std.proofs.Common.{ℕ, sym, subst}
use Rattle.sv39_entry.specs.Address.{page_of}
use Rattle.table_walk.specs.HeldMemory.{held_memory}
use Rattle.table_walk.specs.Walk.{IsAt, Translates}
use Rattle.table_walk.specs.Leaves.{frames_there, walk_answer}
use Rattle.table_walk.proofs.WalkAnswers.{translates}
use Rattle.table_walk.proofs.translation.translate_held.Goals as goal

pub translate-requires : goal.translate-requires
translate-requires g c k table low at =
    let m = held_memory (g.F.Seat.FrameSeat.view c.args.seat.now) in
    let page = page_of c.args.va.0 in
    (c.requires.fits, c.walks_of_tables.ensures.readable c.args.scheme _ _ page _ c.requires.held.1 k table low (subst (λ (r : ℕ). IsAt c.args.scheme m r page k table) c.ppn.ensures at))

pub returns-clause-outcome : goal.returns-clause-outcome
returns-clause-outcome g c t h there =
    let m = held_memory (g.F.Seat.FrameSeat.view c.args.seat.now) in
    let a = c.args.va.0 in
    let laws = c.walks_of_tables.ensures in
    let expected = translates c.args.scheme (g.F.Seat.FrameSeat.view c.args.seat.now) c.args.root.0 t (λ page leaf level found zero. (laws.leaves c.args.scheme _ _ page leaf level t h).1 (zero, found))
    (λ page leaf level maps. ((laws.leaves c.args.scheme _ _ page leaf level t h).0 maps).1) (λ page. laws.inside c.args.scheme _ _ page t h) there a c.args.access c.args.mode in
    c.one_outcome.ensures.at_most c.args.scheme m frames_there c.ppn.result a c.args.access c.args.mode _ _ c.translate.ensures.outcome
    (subst (λ (r : ℕ). Translates c.args.scheme m frames_there r a c.args.access c.args.mode (walk_answer c.args.scheme t a c.args.access c.args.mode)) (sym c.ppn.ensures) expected)
