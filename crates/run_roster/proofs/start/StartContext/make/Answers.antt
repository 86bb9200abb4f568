-- What the search left open of `make`.
use Rattle.std.proofs.Common.{◌≡◌, ◌∙◌, false, refl, rules, sym, subst}
use Rattle.std.specs.Prelude.{nat_lt}
use Rattle.std.proofs.lemmas.Bool.{ltb-true}
use Rattle.address_space.specs.declared.space.Space.{Space}
use Rattle.atomic_table.specs.Seated.{TableId}
use Rattle.run_roster.proofs.Lending.{fits_at}
use Rattle.run_roster.proofs.Tries.{refused_frames, refused_full, refused_slot}
use Rattle.run_roster.specs.StartEffects.{IsWhy}
use Rattle.run_roster.specs.Slots.{FindsSlot, HasReadFull, OnFull}
use Rattle.run_roster.specs.StartFrames.{OnNoFrame}
use Rattle.run_roster.specs.Starts.{IsBegun}
use Rattle.process_model.specs.declared.call.ProcessEnd.{ProcessEnd}
use Rattle.shared_frames.specs.SeatsOfTable.{FitsIn, view_of}
use Rattle.shared_frames.specs.declared.seat.SharedSeat.{SharedSeat}
use Rattle.run_roster.proofs.start.StartContext.make.Goals as goal

pub end_unstarted-requires : goal.end_unstarted-requires
end_unstarted-requires g c = record {
  begun = subst (λ (s : Space SharedSeat). IsBegun c.started.new.store s c.in-Ok.opening) (sym c.in-Err-new.ensures.value_returned)
      (subst (λ (t : TableId). IsBegun t c.in-Ok.space c.in-Ok.opening) (sym c.started.ensures.store) c.in-Ok.ensures.started);
}

pub returns-in-Ok-new-clause-made : goal.returns-in-Ok-new-clause-made
returns-in-Ok-new-clause-made g c = (
  ltb-true c.args.taken c.args.slots c.in-Ok.ensures.begins,
  refl,
  subst (λ (s : Space SharedSeat). IsBegun c.args.self.now.frames.now.table s c.in-Ok.opening) (sym c.in-Ok-new.ensures.ok)
      (subst (λ (t : TableId). IsBegun t c.in-Ok.space c.in-Ok.opening) c.supply-store.ensures c.in-Ok.ensures.started),
  c.in-Ok.ensures.process,
)

pub returns-in-Err-new-clause-made : goal.returns-in-Err-new-clause-made
returns-in-Err-new-clause-made g c =
    let e = c.end_unstarted.ensures in
    record {
      named = e.name;
      journal = e.journal;
      seat = subst (λ (t : TableId). FitsIn t c.end_unstarted.result.seat) (c.started.ensures.store ∙ c.supply-store.ensures) e.fits;
      bare = e.bare;
      finds = subst (λ (o : ProcessEnd). FindsSlot c.args.slots c.args.taken o) (sym e.outcome) (ltb-true c.args.taken c.args.slots c.in-Ok.ensures.begins);
      why = subst (λ (o : ProcessEnd). IsWhy c.args.start (view_of c.end_unstarted.result.seat) o) (sym e.outcome) (c.in-Ok.opening.state, c.in-Ok.ensures.process);
    }

pub returns-in-Ok-new-clause-fits : goal.returns-in-Ok-new-clause-fits
returns-in-Ok-new-clause-fits g c = fits_at _ _ c.started.new.kernel (sym c.supply-store.ensures) c.started.ensures.fits

pub returns-in-Err-new-clause-fits : goal.returns-in-Err-new-clause-fits
returns-in-Err-new-clause-fits g c = fits_at _ _ c.started.new.kernel (sym c.supply-store.ensures) c.started.ensures.fits

pub returns-in-Err-clause-made : goal.returns-in-Err-clause-made
returns-in-Err-clause-made g c = record {
  named = search rules;
  journal = search rules;
  seat = subst (λ (t : TableId). FitsIn t c.in-Err.seat) c.supply-store.ensures c.in-Err.ensures.seat;
  bare = c.in-Err.ensures.bare;
  finds = refused_slot c.args.taken c.args.slots c.args.self.now.alone c.args.enough c.args.start.image (view_of c.args.kernel.now) (view_of c.started.new.kernel) c.in-Err.refusal c.in-Err.ensures.refused;
  why = c.in-Err.ensures.why;
}

pub returns-in-Err-clause-full : goal.returns-in-Err-clause-full
returns-in-Err-clause-full g c = refused_full (nat_lt c.args.taken c.args.slots) c.args.self.now.alone c.args.enough c.args.start.image (view_of c.args.kernel.now) (view_of c.started.new.kernel) (view_of c.in-Err.seat) c.in-Err.refusal c.in-Err.ensures.refused

pub returns-in-Err-clause-frames : goal.returns-in-Err-clause-frames
returns-in-Err-clause-frames g c = refused_frames (nat_lt c.args.taken c.args.slots) c.args.self.now.alone c.args.enough c.args.start.image (view_of c.args.kernel.now) (view_of c.started.new.kernel) (view_of c.in-Err.seat) c.in-Err.refusal c.in-Err.ensures.refused

pub returns-in-Err-new-clause-full : goal.returns-in-Err-new-clause-full
returns-in-Err-new-clause-full g c = subst (λ (o : ProcessEnd). OnFull ((c.args.self.now.alone ≡ false) × HasReadFull (view_of c.args.kernel.now) (view_of c.started.new.kernel)) o) (sym c.end_unstarted.ensures.outcome) tt

pub returns-in-Err-new-clause-frames : goal.returns-in-Err-new-clause-frames
returns-in-Err-new-clause-frames g c = subst (λ (o : ProcessEnd). OnNoFrame (c.args.enough ≡ false) o) (sym c.end_unstarted.ensures.outcome) tt
