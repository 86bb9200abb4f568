use Rattle.std.proofs.Common.{◌≡◌, ◌∙◌, ◌*◌, ◌-◌, ap, sym, None, Some}
use Rattle.std.proofs.lemmas.Option.{same_Some}
use Rattle.address_space.specs.Layouts.{region_of}
use Rattle.fault_rules.proofs.FirstResidence.{can_settle, first_need, first_resides, first_short, keeps_of_mark}
use Rattle.fault_rules.proofs.Results.{few_if_err, if_err, if_ok}
use Rattle.process_model.specs.Regions.{keeps_stores, lacks_right, Region}
use Rattle.process_model.specs.Residence.{leaves_mark, source_page}
use Rattle.fault_rules.proofs.residence.settle_bytes.Goals as goal

pub is_to_mark-mark-requires : goal.is_to_mark-mark-requires
is_to_mark-mark-requires g c =
    let r = c.requires.ready in
    let is = same_Some _ _ (sym (c.requires.region r.0 r.1 r.2.agrees) ∙ r.2.in_region) in
    record { right = ap (λ x. lacks_right c.args.access (Some x)) is ∙ r.2.right }

pub settle_as-requires-clause-ready : goal.settle_as-requires-clause-ready
settle_as-requires-clause-ready g c = let r = c.requires.ready in (r.0, r.1, can_settle r.2 (c.requires.unsettled r.0 r.1 r.2.agrees))

pub settle_as-requires-clause-kept : goal.settle_as-requires-clause-kept
settle_as-requires-clause-kept g c t p can marked =
    let kept = keeps_of_mark c.args.access (Some (region_of c.args.region.now)) (sym c.is_to_mark-mark.ensures ∙ marked) in
    ap keeps_stores (c.requires.region t p can.agrees) ∙ kept

pub returns-clause-resident : goal.returns-clause-resident
returns-clause-resident g c = if_ok _ _ c.settle_as.result
    (λ done settled files begins t p can.
    let unsettled = c.requires.unsettled t p can.agrees in
    let is : region_of c.args.region.now ≡ can.region = same_Some _ _ (sym (c.requires.region t p can.agrees) ∙ can.in_region) in
    let s = settled t p (can_settle can unsettled) in (
      s.0,
      None,
      first_resides can unsettled _ s.0 files c.args.bytes.now c.is_to_mark-mark.result s.1 (begins ∙ ap (λ (r : Region). source_page files r.source (4096 * (c.args.page - r.first))) is)
          (c.is_to_mark-mark.ensures ∙ ap (λ r. leaves_mark c.args.access (Some r)) is) s.2,
      λ f d on same. absurd (cc),
    ))
    c.settle_as.ensures.settled

pub returns-clause-dry : goal.returns-clause-dry
returns-clause-dry g c = if_err _ _ c.settle_as.result
    (λ none dry t p can. let unsettled = c.requires.unsettled t p can.agrees in first_short can unsettled _ _ (dry t p (can_settle can unsettled)))
    c.settle_as.ensures.dry

pub returns-clause-enough : goal.returns-clause-enough
returns-clause-enough g c alone t p shared can told ok =
    let unsettled = c.requires.unsettled t p can.agrees in
    rw (first_need can unsettled shared) ((c.settle_as.ensures.exact alone t p (can_settle can unsettled)).0 ok)

pub returns-clause-short : goal.returns-clause-short
returns-clause-short g c alone t p shared can told =
    let unsettled = c.requires.unsettled t p can.agrees in
    rw (first_need can unsettled shared) (few_if_err c.settle_as.result _ _ (c.settle_as.ensures.exact alone t p (can_settle can unsettled)))

pub returns-clause-free : goal.returns-clause-free
returns-clause-free g c alone t p shared can told =
    let unsettled = c.requires.unsettled t p can.agrees in
    rw (first_need can unsettled shared) (c.settle_as.ensures.free alone t p (can_settle can unsettled))
