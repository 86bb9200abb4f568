use Rattle.std.proofs.Common.{◌∙◌, ◌+◌, ap, drop, map, subst, sym}
use Rattle.frame_store.specs.View.{View}
use Rattle.cow_fork.specs.ForkReferences.{HasMore}
use Rattle.cow_fork.proofs.Releasing.{all_gone, goes_on, here_anchored, here_held, stay}
use Rattle.cow_fork.proofs.share.release_all.Goals as goal

pub release-requires-clause-held : goal.release-requires-clause-held
release-requires-clause-held g c =
    let m = c.requires.more in
    here_held m.0 _ c.args.frames.now c.loop-frame.frame-index _ c.loop-frame-test.true (c.loop-frame.invariant.more m.0 m.1)

pub release-requires-clause-anchored : goal.release-requires-clause-anchored
release-requires-clause-anchored g c =
    let m = c.requires.more in
    here_anchored m.0 _ c.args.frames.now c.loop-frame.frame-index _ c.loop-frame-test.true (c.loop-frame.invariant.more m.0 m.1)

pub loop-frame-preserved : goal.loop-frame-preserved
loop-frame-preserved g c =
    let m = c.requires.more in
    let i = c.loop-frame.invariant in
    let same = stay m.0 _ c.args.frames.now c.loop-frame.frame-index _ c.loop-frame-test.true (i.more m.0 m.1) in
    record {
      root = i.root;
      trapframe = i.trapframe;
      layout = i.layout;
      credits = ap (λ (k : View). k.credits) c.release.ensures.view ∙ same.0 ∙ i.credits;
      tallies = ap (λ (k : View). k.tallies) c.release.ensures.view ∙ same.1 ∙ i.tallies;
      size = ap (λ (k : View). k.size) c.release.ensures.view ∙ same.2 ∙ i.size;
      keeps = λ others r. c.release.ensures.keeps others (i.keeps others r);
      more = λ v had. subst (λ (k : View). HasMore v k (map (λ f. f.0) (drop (c.loop-frame.frame-index + 1) c.args.frames.now))) (sym c.release.ensures.view)
          (goes_on v _ c.args.frames.now c.loop-frame.frame-index _ c.loop-frame-test.true (i.more v had));
    }

pub returns-clause-back : goal.returns-clause-back
returns-clause-back g c v had = all_gone v _ c.args.frames.now c.loop-frame.frame-index c.loop-frame-test.false (c.loop-frame.invariant.more v had)
