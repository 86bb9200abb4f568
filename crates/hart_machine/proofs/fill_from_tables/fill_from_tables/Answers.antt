use Rattle.sv39_entry.specs.Address.{page_of}
use Rattle.hart_machine.specs.WalkEntries.{entry_for}
use Rattle.hart_machine.proofs.Walks.{outcome_is}
use Rattle.hart_machine.proofs.fill_from_tables.fill_from_tables.Goals as goal

pub returns-clause-entries : goal.returns-clause-entries
returns-clause-entries g c t h there local =
    let v = g.F.Seat.FrameSeat.view c.args.seat.now in
    let a = c.args.va.0 in
    let laws = c.walks_of_tables.ensures in
    let expected = outcome_is c.args.scheme v c.args.root.0 t (λ page leaf level found zero. (laws.leaves c.args.scheme _ _ page leaf level t h).1 (zero, found))
    (λ page leaf level maps. ((laws.leaves c.args.scheme _ _ page leaf level t h).0 maps).1) (λ page. laws.inside c.args.scheme _ _ page t h) there a c.args.asid
    (λ w found global. let is = (laws.global c.args.scheme _ _ _ w t h found).0 global in let none = local (page_of a) w found in cc) in
    c.fill.ensures.fills.adds (entry_for c.args.scheme t c.args.asid a) (rw (c.new.ensures.root, c.new.ensures.asid) expected)
