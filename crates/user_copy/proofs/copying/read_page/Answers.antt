use Rattle.std.proofs.Common.{◌≡◌, ◌%◌, ap, ◌∙◌, arith, drop, length, refl, rules, take}
use Rattle.std.proofs.lemmas.Result.{err_from_is_err_and}
use Rattle.fault_rules.specs.PageService.{moment}
use Rattle.frame_store.specs.Laws.{fits_after}
use Rattle.user_copy.proofs.Chains.{runs_in, stops_in}
use Rattle.user_copy.proofs.Reached.{may_load, reached_low, still_reaches}
use Rattle.user_copy.proofs.copying.read_page.Goals as goal

pub returns-in_err-reach-clause-copied : goal.returns-in_err-reach-clause-copied
returns-in_err-reach-clause-copied g c =
    let told = err_from_is_err_and c.from_residual.result c.from_residual.ensures.1 in
    rw (told.1, told.2) (stops_in _ _ _ c.args.va.0 c.args.n (omega (arith, c.if-n-eq0.false)) _ _ c.in_err-reach.ensures.reaches)

pub returns-in_err-reach-clause-space : goal.returns-in_err-reach-clause-space
returns-in_err-reach-clause-space g c = still_reaches _ _ _ _ _ _ c.reach.ensures.reaches

pub read_run-requires-clause-fits : goal.read_run-requires-clause-fits
read_run-requires-clause-fits g c = fits_after g.F.FrameAccess.invariant c.reach.ensures.reaches.keeps c.requires.fits

pub read_run-requires-clause-ready : goal.read_run-requires-clause-ready
read_run-requires-clause-ready g c = let r = c.requires.ready in may_load _ _ _ _ _ c.in_ok-reach.ensures.reaches r.0 r.1 r.2

pub unreachable-requires : goal.unreachable-requires
unreachable-requires g c =
    let same : length c.read_run.new.bytes ≡ c.args.n = search rules in
    let no = c.in_default.ensures.variant.1 (omega (arith, c.requires.few, same)) in
    cc

pub returns-clause-copied : goal.returns-clause-copied
returns-clause-copied g c =
    let read = c.read_run.ensures in
    let same : length c.read_run.new.bytes ≡ c.args.n = search rules in
    rw c.in-Ok.ensures.ok
    (runs_in _ _ _ c.args.va.0 c.args.n (omega (arith, c.if-n-eq0.false)) _ (moment c.read_run.new.self c.read_run.new.store c.reach.new.files) _ c.in_ok-reach.ensures.reaches
    (record {
      bytes = λ t p s can. read.bytes t p s can ∙ ap (λ n. take n (drop (c.args.va.0 % 4096) s.bytes)) same;
      view = read.reads.view;
      root = read.reads.root;
      trapframe = read.reads.trapframe;
      layout = read.reads.layout;
      store = read.reads.same;
      files = refl;
      keeps = read.keeps;
    }))

pub returns-clause-low : goal.returns-clause-low
returns-clause-low g c some = let r = c.requires.ready in reached_low _ _ _ _ _ c.in_ok-reach.ensures.reaches r.0 r.1 r.2

pub returns-clause-space : goal.returns-clause-space
returns-clause-space g c =
    let read = c.read_run.ensures in
    rw (read.reads.view, read.reads.root, read.reads.trapframe, read.reads.layout) (still_reaches _ _ _ _ _ _ c.reach.ensures.reaches)

pub returns-clause-keeps : goal.returns-clause-keeps
returns-clause-keeps g c others r = c.read_run.ensures.keeps others (c.reach.ensures.reaches.keeps others r)
