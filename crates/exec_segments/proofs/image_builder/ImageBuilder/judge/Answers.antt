use Rattle.std.proofs.Common.{◌≡◌, ◌++◌, ◌∷◌, [], ◌∙◌, ap, map, subst, sym, None}
use Rattle.std.proofs.lemmas.List.{length-map, map-append}
use Rattle.process_model.specs.Images.{load_fault}
use Rattle.exec_segments.specs.Loads.{AreJudged, load_of}
use Rattle.exec_segments.proofs.Judged.{one_more}
use Rattle.exec_segments.proofs.image_builder.ImageBuilder.judge.Goals as goal

pub invariant_of-self : goal.invariant_of-self
invariant_of-self c =
    let before = map load_of c.self.inside.loads.items in
    let load = c.args.load in
    let none : load_fault c.self.inside.scheme before (load_of load) ≡ None =
    sym (c.fault.ensures before (length-map c.self.inside.loads.items load_of ∙ sym c.len.ensures.value) c.self.invariant.last) ∙ c.in_default.is in
    let more : map load_of c.push.new.self.items ≡ before ++ load_of load ∷ [] = ap (map load_of) c.push.ensures.items ∙ map-append load_of c.self.inside.loads.items (load ∷ []) in
    subst (λ ls. AreJudged c.self.inside.scheme ls c.end_page-self-inside.result) (sym more)
    (subst (AreJudged c.self.inside.scheme (before ++ load_of load ∷ [])) (sym c.end_page-self-inside.ensures) (one_more c.self.inside.scheme before (load_of load) none c.self.inside.end c.self.invariant c.if-load-gt0.true c.requires.fits))
