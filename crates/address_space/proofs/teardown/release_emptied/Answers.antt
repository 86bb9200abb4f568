use Rattle.std.proofs.Common.{arith, ℕ, ◌≡◌, ◌/◌, ◌*◌, ◌≤◌, ap, ◌∙◌}
use Rattle.frame_store.specs.Laws.{fits_after}
use Rattle.address_space.proofs.EndingSteps.{are_last, strips}
use Rattle.address_space.proofs.teardown.release_emptied.Goals as goal
use Rattle.address_space.proofs.LowLeaves.{up_number}
use Rattle.sv39_entry.specs.Schemes.{of_scheme, trampoline_page}
use Rattle.sv39_entry.specs.declared.scheme.Scheme.{Scheme}
use Rattle.table_walk.specs.Tables.{leaf_node, walk_leaf}

-- the number of the leaf of the page at an address
number_at : (z : Scheme) (page address place : ℕ) → page ≡ address / 4096 → address ≡ 4096 * place → place ≤ trampoline_page z → walk_leaf z page ≡ leaf_node place
number_at z page address place is at low = let same : page ≡ place = omega (arith, is, at) in ap (walk_leaf z) same ∙ up_number z place low

pub unmap-requires-clause-held : goal.unmap-requires-clause-held
unmap-requires-clause-held g c = let e = c.requires.emptied in (e.1, e.2.tables)

pub unmap-requires-2-clause-fits : goal.unmap-requires-2-clause-fits
unmap-requires-2-clause-fits g c = fits_after g.F.FrameAccess.invariant c.unmap.ensures.keeps c.requires.fits

pub release_tables-requires-clause-fits : goal.release_tables-requires-clause-fits
release_tables-requires-clause-fits g c =
    fits_after g.F.FrameAccess.invariant c.unmap-2.ensures.keeps (fits_after g.F.FrameAccess.invariant c.unmap.ensures.keeps c.requires.fits)

pub unmap-requires-2-clause-held : goal.unmap-requires-2-clause-held
unmap-requires-2-clause-held g c =
    let e = c.requires.emptied in
    let first = rw (number_at c.args.scheme _ _ _ c.page.ensures.number c.trapframe.ensures (omega (arith, of_scheme c.args.scheme))) at c.unmap.ensures.tables e.1 e.2.tables in
    (_, first.0)

pub release_tables-requires-clause-bare : goal.release_tables-requires-clause-bare
release_tables-requires-clause-bare g c =
    let e = c.requires.emptied in
    let first = rw (number_at c.args.scheme _ _ _ c.page.ensures.number c.trapframe.ensures (omega (arith, of_scheme c.args.scheme))) at c.unmap.ensures.tables e.1 e.2.tables in
    let second = rw (number_at c.args.scheme _ _ _ c.page-2.ensures.number c.trampoline.ensures (omega (arith, of_scheme c.args.scheme))) at c.unmap-2.ensures.tables _ first.0 in
    (_, second.0, are_last _ _ _ c.args.root.0 e.0 e.1 e.2 first.1 first.0 second.1)

pub returns-clause-strips : goal.returns-clause-strips
returns-clause-strips g c trapframe t e =
    let first = rw (number_at c.args.scheme _ _ _ c.page.ensures.number c.trapframe.ensures (omega (arith, of_scheme c.args.scheme))) at c.unmap.ensures.tables t e.tables in
    let second = rw (number_at c.args.scheme _ _ _ c.page-2.ensures.number c.trampoline.ensures (omega (arith, of_scheme c.args.scheme))) at c.unmap-2.ensures.tables _ first.0 in
    let tables = c.release_tables.ensures in
    strips _ _ _ c.args.root.0 trapframe t e first.1 first.0 second.1 _ (tables.gone _ second.0) (tables.others _ second.0) tables.tallies

pub returns-clause-keeps : goal.returns-clause-keeps
returns-clause-keeps g c = λ others r. c.release_tables.ensures.keeps others (c.unmap-2.ensures.keeps others (c.unmap.ensures.keeps others r))

pub returns-clause-free : goal.returns-clause-free
returns-clause-free g c alone =
    let first = c.unmap.ensures.free alone in
    let second = c.unmap-2.ensures.free alone in
    let more = c.release_tables.ensures.free alone in
    omega (arith, first, second, more)
