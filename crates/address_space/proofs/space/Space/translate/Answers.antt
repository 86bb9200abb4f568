use Rattle.std.specs.Prelude.{◌<◌, ◌^◌}
use Rattle.std.proofs.Common.{arith, inr, sym, ◌∙◌, subst, ap}
use Rattle.table_walk.specs.Tables.{leaf_node}
use Rattle.table_walk.specs.Leaves.{LeavesAreThere, walk_answer}
use Rattle.table_walk.specs.LowPages.{tables_of_scheme}
use Rattle.address_space.specs.ProcessLeaves.{process_there}
use Rattle.address_space.proofs.space.Space.translate.Goals as goal
use Rattle.sv39_entry.specs.Schemes.{trapframe_page}

pub returns-clause-walk : goal.returns-clause-walk
returns-clause-walk g c t p space =
    let trapframe = c.args.self.now.trapframe.0 in
    let leaf = space.stands.shows.on_trapframe in
    let one = space.stands.owns.named trapframe (leaf_node (trapframe_page p.scheme)) (inr (leaf.0, leaf.1, leaf.2.names)) in
    let law = g.met.F.FrameAccess.within _ _ c.requires.fits.0 c.requires.fits.1 in
    let few = law.0 in
    let inside = law.1 trapframe (omega (arith, one)) in
    let small : trapframe < 2 ^ 16 = omega (arith, few, inside) in
    let same = space.lays.scheme ∙ sym c.scheme-scheme.ensures in
    c.translate_held.ensures.outcome t (tables_of_scheme same space.stands.tables) (subst (λ z. LeavesAreThere z t) same (process_there _ _ t p space.stands.shows small))
    ∙ ap (λ z. walk_answer z t c.args.va.0 c.args.access c.args.mode) (sym same)

pub translate_held-requires-clause-held : goal.translate_held-requires-clause-held
translate_held-requires-clause-held g c = let r = c.requires.ready in (r.0, tables_of_scheme (r.2.lays.scheme ∙ sym c.scheme-scheme.ensures) r.2.stands.tables)
