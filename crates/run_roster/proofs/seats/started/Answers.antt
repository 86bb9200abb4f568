-- What the search left open of `started`.
use Rattle.std.proofs.Common.{ap, sym}
use Rattle.run_roster.proofs.Tries.{reads_still, refused_start, refused_why}
use Rattle.process_model.specs.Frames.{start_need}
use Rattle.shared_frames.specs.SeatsOfTable.{view_of}
use Rattle.sv39_entry.specs.declared.scheme.Scheme.{Scheme}
use Rattle.run_roster.proofs.seats.started.Goals as goal

pub returns-then-not-has_slot-clause-reads : goal.returns-then-not-has_slot-clause-reads
returns-then-not-has_slot-clause-reads g c = reads_still (view_of c.args.kernel.now) (view_of c.empty_seat.new.kernel) c.empty_seat.ensures.view

pub returns-in-Err-clause-reads : goal.returns-in-Err-clause-reads
returns-in-Err-clause-reads g c = reads_still (view_of c.args.kernel.now) (view_of c.empty_seat-in-Err.new.kernel) c.empty_seat-in-Err.ensures.view

pub returns-in-Err-tried-clause-refused : goal.returns-in-Err-tried-clause-refused
returns-in-Err-tried-clause-refused g c =
    let loads = c.in-Ok.image.loads in
    refused_start c.args.has_slot c.args.alone c.args.enough c.args.image (view_of c.args.kernel.now) (view_of c.tried.new.kernel) (view_of c.in-Err-tried.seat) loads (start_need c.in-Ok.image.scheme loads) c.in-Err-tried.refusal c.if-not-has_slot.false (sym c.in-Ok.ensures.loads) (ap (λ (z : Scheme). start_need z loads) c.in-Ok.ensures.scheme) c.in-Err-tried.ensures.refused

pub returns-in-Err-tried-clause-why : goal.returns-in-Err-tried-clause-why
returns-in-Err-tried-clause-why g c =
    let loads = c.in-Ok.image.loads in
    refused_why c.args.has_slot c.args.alone c.args.enough c.args.image (view_of c.args.kernel.now) (view_of c.tried.new.kernel) (view_of c.in-Err-tried.seat) loads (start_need c.in-Ok.image.scheme loads) c.in-Err-tried.refusal (sym c.in-Ok.ensures.loads) (ap (λ (z : Scheme). start_need z loads) c.in-Ok.ensures.scheme) c.in-Err-tried.ensures.refused
