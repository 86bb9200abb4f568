use Rattle.std.proofs.Common.{◌≡◌, ◌∙◌, ap, inr, refl, subst, sym}
use Rattle.address_space.specs.Agreement.{body, IsSpace}
use Rattle.std.specs.Prelude.{Err}
use Rattle.std.proofs.lemmas.Result.{err_from_is_err_and}
use Rattle.cow_fork.specs.Forks.{refusal_of}
use Rattle.frame_store.specs.View.{references}
use Rattle.process_model.specs.Residence.{child_of}
use Rattle.table_walk.specs.Tables.{leaf_node}
use Rattle.hart_machine.proofs.ForkedProcesses.{second_inside, which}
use Rattle.hart_machine.proofs.slot_process.SlotProcess.fork.Goals as goal
use Rattle.sv39_entry.specs.Schemes.{trapframe_page}

pub returns-in_err-child-clause-dry : goal.returns-in_err-child-clause-dry
returns-in_err-child-clause-dry c =
    let told = err_from_is_err_and c.from_residual.result c.from_residual.ensures.1 in
    let e = c.fork_listed.ensures in
    let only = which c.fork_listed.result c.in_err-child.field-0.0 c.in_err-child.was (λ full. let f = e.sharers tt full in f.2 (c.requires.few f.0 f.1)) in
    rw told.1 (told.2 ∙ ap refusal_of only, λ t p slot_process. (e.short tt t p slot_process.agrees).0 (c.in_err-child.was ∙ ap Err only))

pub returns-in_err-child-clause-whole : goal.returns-in_err-child-clause-whole
returns-in_err-child-clause-whole c =
    let told = err_from_is_err_and c.from_residual.result c.from_residual.ensures.1 in
    rw told.1 (λ t p slot_process. record {
      agrees = c.in_err-child.ensures.whole t p slot_process.agrees;
      framed = rw c.fork_listed.ensures.place.trapframe slot_process.framed;
      pending = slot_process.pending;
      wide = slot_process.wide;
    })

pub returns-clause-forked : goal.returns-clause-forked
returns-clause-forked c = λ t p slot_process.
    let r = c.in_ok-child.ensures in
    let fits = c.requires.fits in
    let f = r.forked t p slot_process.agrees in
    let z = c.in_ok-child.child in
    let stands = f.2.child.stands in
    let leaf = stands.shows.on_trapframe in
    let one : references z.seat z.trapframe.0 ≡ 1 = stands.owns.named z.trapframe.0 (leaf_node (trapframe_page p.scheme)) (inr (leaf.0, leaf.1, leaf.2.names)) in
    record {
      after = f.0;
      of_child = f.1;
      parent = record {
        agrees = f.2.parent;
        framed = rw c.fork_listed.ensures.place.trapframe slot_process.framed;
        pending = refl;
        wide = tt;
      };
      child = record {
        agrees = subst (λ l. IsSpace (body z.seat z.root.0 z.trapframe.0 l) f.1 (child_of p)) (sym c.fork_listed.ensures.place.layout) f.2.child;
        framed = second_inside c.fork_listed.new.store c.fork_listed.new.space.seat z.seat fits.0 (r.keeps fits.0 fits.1) z.trapframe.0 one;
        pending = refl;
        wide = tt;
      };
      on_parent = f.2.on_parent;
      on_child = f.2.on_child;
    }

pub returns-clause-enough : goal.returns-clause-enough
returns-clause-enough c = λ t p slot_process few. let both = sym c.in_ok-child.was ∙ (c.fork_listed.ensures.short tt t p slot_process.agrees).1 few in cc
