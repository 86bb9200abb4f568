use Rattle.std.proofs.Common.{◌≡◌, ◌+◌, ◌∙◌, suc, refl, arith}
use Rattle.frame_store.specs.Laws.{fits_after}
use Rattle.sv39_entry.specs.Schemes.{top_level}
use Rattle.cow_fork.proofs.Listing.{all_listed, none_listed}
use Rattle.cow_fork.proofs.tables.list_tables.Goals as goal

pub levels-init : goal.levels-init
levels-init g c = record {
  view = refl;
  same = refl;
  keeps = λ others r. r;
  listed = λ t h led can edged. none_listed c.args.scheme _ c.args.root.0 t _ h led can;
}

pub list_level-requires-clause-fits : goal.list_level-requires-clause-fits
list_level-requires-clause-fits g c = fits_after g.F.FrameAccess.invariant c.levels.invariant.keeps c.requires.fits

pub list_level-requires-clause-ready : goal.list_level-requires-clause-ready
list_level-requires-clause-ready g c = let r = c.requires.ready in (r.0, _, c.levels.invariant.listed r.0 r.1 r.2 r.3 r.4, r.4)

pub levels-preserved : goal.levels-preserved
levels-preserved g c =
    let i = c.levels.invariant in
    let e = c.list_level.ensures in
    let next : c.levels.depth + 1 ≡ suc c.levels.depth = omega arith in
    record {
      view = e.view ∙ i.view;
      same = e.same ∙ i.same;
      keeps = λ others r. e.keeps others (i.keeps others r);
      listed = λ t h led can edged. rw (next, e.view) (e.listed t _ (i.listed t h led can edged) edged);
    }

pub returns-clause-listed : goal.returns-clause-listed
returns-clause-listed g c t h led can edged =
    let last : c.levels.depth ≡ suc (top_level c.args.scheme) = omega (arith, c.levels-test.false, c.levels.auto.depth-end, c.top_level-levels.ensures) in
    all_listed c.args.scheme _ c.args.root.0 t _ _ (rw last at (c.levels.invariant.listed t h led can edged))
