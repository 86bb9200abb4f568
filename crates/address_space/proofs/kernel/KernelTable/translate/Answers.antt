use Rattle.std.proofs.Common.{ℕ, sym, subst}
use Rattle.sv39_entry.specs.Address.{page_of}
use Rattle.sv39_entry.specs.declared.access.Mode.TheVariants.{Supervisor}
use Rattle.table_walk.specs.HeldMemory.{held_memory}
use Rattle.table_walk.specs.Walk.{IsAt, Translates}
use Rattle.address_space.specs.Kernel.{kernel_walk}
use Rattle.address_space.proofs.KernelWalks.{extent, kernel_walks}
use Rattle.address_space.proofs.kernel.KernelTable.translate.Goals as goal

pub translate-requires : goal.translate-requires
translate-requires g c k table low at =
    let m = held_memory (g.S.FrameSeat.view c.args.self.now.seat) in
    let page = page_of c.args.va.0 in
    let has = c.requires.built.4.maps.tables in
    (c.requires.fits, c.walks_of_tables.ensures.readable c.args.self.now.scheme _ _ page _ has k table low (subst (λ (r : ℕ). IsAt c.args.self.now.scheme m r page k table) c.ppn.ensures at))

pub returns-clause-walk : goal.returns-clause-walk
returns-clause-walk g c frames slots stacks t built =
    let m = held_memory (g.S.FrameSeat.view c.args.self.now.seat) in
    let has = built.maps.tables in
    let laws = c.walks_of_tables.ensures in
    let walk = kernel_walks c.args.self.now.scheme _ _ frames slots stacks t built (λ page leaf level. laws.leaves c.args.self.now.scheme _ _ page leaf level t has) (λ page. laws.inside c.args.self.now.scheme _ _ page t has) c.args.va.0 c.args.access in
    c.one_outcome.ensures.at_most c.args.self.now.scheme m extent c.ppn.result c.args.va.0 c.args.access Supervisor _ _ c.translate.ensures.outcome
    (subst (λ (r : ℕ). Translates c.args.self.now.scheme m extent r c.args.va.0 c.args.access Supervisor (kernel_walk c.args.self.now.scheme frames stacks c.args.va.0 c.args.access)) (sym c.ppn.ensures) walk)
