use Rattle.std.proofs.Common.{refl}
use Rattle.fault_rules.specs.PageService.{moment}
use Rattle.frame_store.specs.Laws.{fits_after}
use Rattle.user_copy.proofs.Chains.{is_none, is_some, nothing_out, runs_out, stops_out}
use Rattle.user_copy.proofs.Reached.{may_store, reached_low, still_reaches}
use Rattle.user_copy.proofs.copying.write_page.Goals as goal

pub returns-then-is_empty-clause-copied : goal.returns-then-is_empty-clause-copied
returns-then-is_empty-clause-copied g c = nothing_out _ _ c.args.va.0 c.args.bytes.now _ (is_none _ _ c.is_empty.ensures c.if-is_empty.true)

pub returns-in-Err-clause-copied : goal.returns-in-Err-clause-copied
returns-in-Err-clause-copied g c = stops_out _ _ _ c.args.va.0 c.args.bytes.now (is_some _ _ c.is_empty.ensures c.if-is_empty.false) _ _ c.in-Err.ensures.reaches

pub returns-in-Err-clause-space : goal.returns-in-Err-clause-space
returns-in-Err-clause-space g c = still_reaches _ _ _ _ _ _ c.reach.ensures.reaches

pub write_run-requires-clause-fits : goal.write_run-requires-clause-fits
write_run-requires-clause-fits g c = fits_after g.F.FrameAccess.invariant c.reach.ensures.reaches.keeps c.requires.fits

pub write_run-requires-clause-ready : goal.write_run-requires-clause-ready
write_run-requires-clause-ready g c = let r = c.requires.ready in may_store _ _ _ _ c.in_default.ensures.reaches r.0 r.1 r.2

pub returns-clause-copied : goal.returns-clause-copied
returns-clause-copied g c =
    let put = c.write_run.ensures in
    runs_out _ _ _ c.args.va.0 c.args.bytes.now (is_some _ _ c.is_empty.ensures c.if-is_empty.false) _ (moment c.write_run.new.self c.write_run.new.store c.reach.new.files) c.in_default.ensures.reaches
    (record {
      agrees = put.agrees;
      soles = put.soles;
      takes = put.tallies;
      free = put.free;
      counts = put.counts;
      root = put.place.root;
      trapframe = put.place.trapframe;
      layout = put.place.layout;
      files = refl;
      keeps = put.keeps;
    })

pub returns-clause-low : goal.returns-clause-low
returns-clause-low g c some = let r = c.requires.ready in reached_low _ _ _ _ _ c.in_default.ensures.reaches r.0 r.1 r.2

pub returns-clause-space : goal.returns-clause-space
returns-clause-space g c t p space =
    let can = may_store _ _ _ _ c.in_default.ensures.reaches t p space in
    (can.0, _, c.write_run.ensures.agrees can.0 can.1 can.2 can.3)

pub returns-clause-keeps : goal.returns-clause-keeps
returns-clause-keeps g c others r = c.write_run.ensures.keeps others (c.reach.ensures.reaches.keeps others r)
