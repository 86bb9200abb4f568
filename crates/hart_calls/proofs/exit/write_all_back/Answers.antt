use Rattle.std.proofs.Common.{◌∙◌, [], ap, List}
use Rattle.process_model.specs.Files.{File}
use Rattle.process_model.specs.Mappings.{all_written_back}
use Rattle.address_space.specs.SpacesInCalls.{space_in_call}
use Rattle.file_shelf.specs.ShelfStates.{goes_on}
use Rattle.shared_frames.specs.SeatsOfTable.{fits_still, may_step, view_of}
use Rattle.hart_calls.proofs.Bodies.{still_space}
use Rattle.hart_calls.proofs.exit.write_all_back.Goals as goal

pub promise_write_back-requires-clause-fits : goal.promise_write_back-requires-clause-fits
promise_write_back-requires-clause-fits g c = may_step _ _ c.args.space.now.seat c.requires.store c.requires.fits

pub write_back-requires-clause-fits : goal.write_back-requires-clause-fits
write_back-requires-clause-fits g c =
    let f = may_step _ _ c.args.space.now.seat c.requires.store c.requires.fits in
    (f.0, c.promise_write_back.ensures.keeps f.0 f.1)

pub write_back-requires-clause-ready : goal.write_back-requires-clause-ready
write_back-requires-clause-ready g c =
    let r = c.requires.ready in
    let n = c.promise_write_back.ensures in
    (r.0, r.1, space_in_call (still_space view_of c.args.space.now c.promise_write_back.new.space n.reads.view n.reads.root n.reads.trapframe n.reads.layout r.0 r.1 r.2), c.in_default.ensures.promised r.0 r.1 r.2)

pub returns-in-Err-clause-fits : goal.returns-in-Err-clause-fits
returns-in-Err-clause-fits g c = (fits_still _ _ _ c.args.space.now.seat c.promise_write_back.new.space.seat c.requires.store c.promise_write_back.ensures.keeps c.requires.fits).1

pub returns-clause-fits : goal.returns-clause-fits
returns-clause-fits g c =
    (fits_still _ _ _ c.args.space.now.seat c.write_back.new.space.seat c.requires.store (λ others r. c.write_back.ensures.keeps others (c.promise_write_back.ensures.keeps others r)) c.requires.fits).1

pub returns-clause-written : goal.returns-clause-written
returns-clause-written g c = λ t p space.
    let n = c.promise_write_back.ensures in
    goes_on _ _ _ [] _ n.files (c.write_back.ensures.moves t p (space_in_call (still_space view_of c.args.space.now c.promise_write_back.new.space n.reads.view n.reads.root n.reads.trapframe n.reads.layout t p space)))

pub returns-clause-files : goal.returns-clause-files
returns-clause-files g c = λ t p space.
    let n = c.promise_write_back.ensures in
    c.write_back.ensures.written t p (space_in_call (still_space view_of c.args.space.now c.promise_write_back.new.space n.reads.view n.reads.root n.reads.trapframe n.reads.layout t p space)) ∙ ap (λ (fs : List File). all_written_back fs p) n.files.files
