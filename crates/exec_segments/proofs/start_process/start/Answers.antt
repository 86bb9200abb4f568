use Rattle.std.proofs.Common.{◌∙◌, ap, subst}
use Rattle.address_space.specs.Agreement.{body_of, IsSpace}
use Rattle.address_space.specs.Parts.{process_of_parts}
use Rattle.exec_segments.specs.Loads.{JudgedLoads}
use Rattle.exec_segments.proofs.Begins.{if_ok}
use Rattle.exec_segments.proofs.start_process.start.Goals as goal

pub returns-clause-started : goal.returns-clause-started
returns-clause-started g c =
    let same = ap (λ (i : JudgedLoads). i.scheme) c.image.view_is in
    if_ok c.build.result c.build.ensures.built (λ s built.
    (built.0, (λ fresh. subst (IsSpace (body_of g.S.FrameSeat.view s) built.0) (ap (λ z. process_of_parts z fresh c.as_slice.result.now) same ∙ ap (process_of_parts c.args.image.now.scheme fresh) c.as_slice.ensures.value ∙ c.parts_of-parts.ensures.process fresh) (built.1 fresh)), built.2))
