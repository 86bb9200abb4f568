-- What the search left open of `tried`.
use Rattle.std.proofs.Common.{◌∙◌, refl, sym, subst}
use Rattle.frame_store.specs.View.{View}
use Rattle.run_roster.proofs.Lending.{fits_at, lends_on}
use Rattle.run_roster.proofs.Tries.{full_before, full_now, held_still, lends_none, reads_none, reads_on, reads_one, reads_same}
use Rattle.run_roster.specs.Starts.{Lends}
use Rattle.shared_frames.specs.SeatsOfTable.{view_of}
use Rattle.run_roster.proofs.seats.tried.Goals as goal

pub tries-init : goal.tries-init
tries-init g c = record {
  goes_on = tt;
  ends = tt;
  store = refl;
  fits = c.requires.fits;
  held = c.requires.anchored;
  lends = lends_none (view_of c.args.kernel.now);
  reads = reads_none (view_of c.args.kernel.now);
}

-- a seat was opened, and its process is built

pub built-requires-clause-fits : goal.built-requires-clause-fits
built-requires-clause-fits g c = fits_at _ _ c.in-Ok.seat c.opened.ensures.store c.in-Ok.ensures.opened.0

pub returns-in-Ok-built-clause-built : goal.returns-in-Ok-built-clause-built
returns-in-Ok-built-clause-built g c = (fits_at _ _ c.in-Ok-built.process.0.seat (sym (c.opened.ensures.store ∙ c.tries.invariant.store)) c.in-Ok-built.ensures.built.0, c.in-Ok-built.ensures.built.1)

pub returns-in-Ok-built-clause-reads : goal.returns-in-Ok-built-clause-reads
returns-in-Ok-built-clause-reads g c = reads_on (view_of c.args.kernel.now) (view_of c.tries.kernel) (view_of c.opened.new.kernel) c.tries.invariant.reads (reads_same (view_of c.tries.kernel) (view_of c.opened.new.kernel) c.in-Ok.ensures.looks)

pub returns-in-Ok-built-clause-lends : goal.returns-in-Ok-built-clause-lends
returns-in-Ok-built-clause-lends g c = lends_on (view_of c.args.kernel.now) (view_of c.tries.kernel) (view_of c.opened.new.kernel) c.tries.invariant.lends c.opened.ensures.lends

pub returns-in-Ok-built-clause-store : goal.returns-in-Ok-built-clause-store
returns-in-Ok-built-clause-store g c = c.built.ensures.store ∙ (c.opened.ensures.store ∙ c.tries.invariant.store)

pub returns-in-Ok-built-clause-fits : goal.returns-in-Ok-built-clause-fits
returns-in-Ok-built-clause-fits g c = fits_at _ _ c.opened.new.kernel (sym c.tries.invariant.store) c.opened.ensures.fits

-- it is not built, and the caller does not say that enough frames are free

pub returns-then-not-enough-clause-refused : goal.returns-then-not-enough-clause-refused
returns-then-not-enough-clause-refused g c = (c.if-not-enough.true, c.in-Err-built.ensures.dry)

pub returns-then-not-enough-clause-seat : goal.returns-then-not-enough-clause-seat
returns-then-not-enough-clause-seat g c = fits_at _ _ c.in-Err-built.seat (sym (c.opened.ensures.store ∙ c.tries.invariant.store)) c.in-Err-built.ensures.fits

pub returns-then-not-enough-clause-reads : goal.returns-then-not-enough-clause-reads
returns-then-not-enough-clause-reads g c = reads_on (view_of c.args.kernel.now) (view_of c.tries.kernel) (view_of c.opened.new.kernel) c.tries.invariant.reads (reads_same (view_of c.tries.kernel) (view_of c.opened.new.kernel) c.in-Ok.ensures.looks)

pub returns-then-not-enough-clause-lends : goal.returns-then-not-enough-clause-lends
returns-then-not-enough-clause-lends g c = lends_on (view_of c.args.kernel.now) (view_of c.tries.kernel) (view_of c.opened.new.kernel) c.tries.invariant.lends c.opened.ensures.lends

pub returns-then-not-enough-clause-store : goal.returns-then-not-enough-clause-store
returns-then-not-enough-clause-store g c = c.built.ensures.store ∙ (c.opened.ensures.store ∙ c.tries.invariant.store)

pub returns-then-not-enough-clause-fits : goal.returns-then-not-enough-clause-fits
returns-then-not-enough-clause-fits g c = fits_at _ _ c.opened.new.kernel (sym c.tries.invariant.store) c.opened.ensures.fits

pub tries-preserved-in-Err-built : goal.tries-preserved-in-Err-built
tries-preserved-in-Err-built g c =
    let i = c.tries.invariant in
    let old = view_of c.args.kernel.now in
    let before = view_of c.tries.kernel in
    let after = view_of c.opened.new.kernel in
    record {
      goes_on = tt;
      ends = tt;
      store = c.built.ensures.store ∙ (c.opened.ensures.store ∙ i.store);
      fits = fits_at _ _ c.opened.new.kernel (c.built.ensures.store ∙ c.opened.ensures.store) c.opened.ensures.fits;
      held = held_still before after c.opened.ensures.lends i.held;
      lends = lends_on old before after i.lends c.opened.ensures.lends;
      reads = reads_on old before after i.reads (reads_same before after c.in-Ok.ensures.looks);
    }

-- the kernel's seat read a count of 65,535, and is not alone

pub empty_seat-requires-clause-fits : goal.empty_seat-requires-clause-fits
empty_seat-requires-clause-fits g c = fits_at _ _ c.opened.new.kernel c.opened.ensures.store c.opened.ensures.fits

pub empty_seat-requires-clause-anchored : goal.empty_seat-requires-clause-anchored
empty_seat-requires-clause-anchored g c = held_still (view_of c.tries.kernel) (view_of c.opened.new.kernel) c.opened.ensures.lends c.tries.invariant.held

pub returns-then-not-alone-clause-refused : goal.returns-then-not-alone-clause-refused
returns-then-not-alone-clause-refused g c = (
  c.if-not-alone.true,
  full_before (view_of c.args.kernel.now) (view_of c.tries.kernel) (view_of c.empty_seat.new.kernel) c.tries.invariant.reads (full_now (view_of c.tries.kernel) (view_of c.empty_seat.new.kernel) (c.empty_seat.ensures.view ∙ c.in-Err.ensures.full)),
)

pub returns-then-not-alone-clause-seat : goal.returns-then-not-alone-clause-seat
returns-then-not-alone-clause-seat g c = fits_at _ _ c.empty_seat.result (sym (c.opened.ensures.store ∙ c.tries.invariant.store)) c.empty_seat.ensures.fits_new

pub returns-then-not-alone-clause-reads : goal.returns-then-not-alone-clause-reads
returns-then-not-alone-clause-reads g c = reads_on (view_of c.args.kernel.now) (view_of c.tries.kernel) (view_of c.empty_seat.new.kernel) c.tries.invariant.reads (reads_one (view_of c.tries.kernel) (view_of c.empty_seat.new.kernel) (c.empty_seat.ensures.view ∙ c.in-Err.ensures.full))

pub returns-then-not-alone-clause-lends : goal.returns-then-not-alone-clause-lends
returns-then-not-alone-clause-lends g c = lends_on (view_of c.args.kernel.now) (view_of c.tries.kernel) (view_of c.empty_seat.new.kernel) c.tries.invariant.lends (subst (λ (v : View). Lends (view_of c.tries.kernel) v) (sym c.empty_seat.ensures.view) c.opened.ensures.lends)

pub returns-then-not-alone-clause-store : goal.returns-then-not-alone-clause-store
returns-then-not-alone-clause-store g c = c.empty_seat.ensures.store ∙ (c.opened.ensures.store ∙ c.tries.invariant.store)

pub returns-then-not-alone-clause-fits : goal.returns-then-not-alone-clause-fits
returns-then-not-alone-clause-fits g c = fits_at _ _ c.empty_seat.new.kernel (sym (c.opened.ensures.store ∙ c.tries.invariant.store)) c.empty_seat.ensures.fits

pub tries-preserved : goal.tries-preserved
tries-preserved g c =
    let i = c.tries.invariant in
    let old = view_of c.args.kernel.now in
    let before = view_of c.tries.kernel in
    let after = view_of c.opened.new.kernel in
    record {
      goes_on = tt;
      ends = tt;
      store = c.opened.ensures.store ∙ i.store;
      fits = fits_at _ _ c.opened.new.kernel c.opened.ensures.store c.opened.ensures.fits;
      held = held_still before after c.opened.ensures.lends i.held;
      lends = lends_on old before after i.lends c.opened.ensures.lends;
      reads = reads_on old before after i.reads (reads_one before after c.in-Err.ensures.full);
    }
