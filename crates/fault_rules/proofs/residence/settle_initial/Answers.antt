use Rattle.std.proofs.Common.{◌+◌, ◌*◌, ◌-◌, ◌≤◌, ap, arith, Err, refl, sym, subst, ◌∙◌, option_map}
use Rattle.std.proofs.lemmas.Option.{same_Some}
use Rattle.std.proofs.lemmas.Result.{err_from_is_err_and}
use Rattle.address_space.specs.Layouts.{region_of, source_of}
use Rattle.fault_rules.proofs.FirstResidence.{first_moves_none}
use Rattle.fault_rules.proofs.Services.{made_ready, ran_dry}
use Rattle.fault_rules.proofs.Sources.{found_holds, no_file_page}
use Rattle.process_model.specs.declared.limits.TheConstants.{LONGEST_MAPPING}
use Rattle.fault_rules.proofs.residence.settle_initial.Goals as goal

pub unreachable-requires : goal.unreachable-requires
unreachable-requires g c =
    let can = c.requires.ready.2 in
    let found = rw c.number.ensures.value at (c.region_at.ensures c.requires.ready.1 can.agrees.lays) in
    let none = ap (option_map region_of) c.in_default.is in
    cc (found, none, can.in_region)

pub settle_bytes-requires-clause-region : goal.settle_bytes-requires-clause-region
settle_bytes-requires-clause-region g c t p space = rw (c.in-Some.is, c.number.ensures.value) at (sym (c.region_at.ensures p space.lays))

pub settle_from_file-requires-clause-region : goal.settle_from_file-requires-clause-region
settle_from_file-requires-clause-region g c t p space = rw (c.in-Some.is, c.number.ensures.value) at (sym (c.region_at.ensures p space.lays))

pub place_in_file-at-requires-clause-from : goal.place_in_file-at-requires-clause-from
place_in_file-at-requires-clause-from g c =
    let r = c.requires.ready in
    (found_holds c.region_at.result c.in-Some.region r.1 c.args.page c.number.result c.number-2.result r.2.region c.in-Some.is (c.region_at.ensures r.1 r.2.agrees.lays) c.number.ensures.value
    c.number-2.ensures.value r.2.agrees.sound.order r.2.in_region).from

pub place_in_file-at-requires-clause-to : goal.place_in_file-at-requires-clause-to
place_in_file-at-requires-clause-to g c =
    let r = c.requires.ready in
    (found_holds c.region_at.result c.in-Some.region r.1 c.args.page c.number.result c.number-2.result r.2.region c.in-Some.is (c.region_at.ensures r.1 r.2.agrees.lays) c.number.ensures.value
    c.number-2.ensures.value r.2.agrees.sound.order r.2.in_region).to

pub place_in_file-at-requires-clause-reach : goal.place_in_file-at-requires-clause-reach
place_in_file-at-requires-clause-reach g c =
    let r = c.requires.ready in
    let reach = (found_holds c.region_at.result c.in-Some.region r.1 c.args.page c.number.result c.number-2.result r.2.region c.in-Some.is (c.region_at.ensures r.1 r.2.agrees.lays) c.number.ensures.value
    c.number-2.ensures.value r.2.agrees.sound.order r.2.in_region).reach in
    let far : c.in-File.offset + 4096 * c.in-Some.region.pages ≤ LONGEST_MAPPING = rw (ap source_of c.in-File.is) at reach in
    omega (arith, far)

pub returns-in_err-settle_bytes : goal.returns-in_err-settle_bytes
returns-in_err-settle_bytes g c =
    let told = err_from_is_err_and c.from_residual.result c.from_residual.ensures.1 in
    let settled = c.in_err-settle_bytes.ensures in
    record {
      served = ran_dry _ _ _ _ _ c.requires.ready _ (told.1 ∙ ap Err told.2) settled.dry settled.whole (λ t p can.
          let is = same_Some _ _ (sym (rw (c.in-Some.is, c.number.ensures.value) at (sym (c.region_at.ensures p can.agrees.lays))) ∙ can.in_region) in
          subst (λ ms. g.C.Files.becomes c.args.files.now ms c.args.files.now)
          (first_moves_none can (c.requires.unsettled t p can.agrees) (g.C.Files.files c.args.files.now) c.in-Some.region is c.in_default-source.not-File) (g.met.C.Files.stays c.args.files.now))
          settled.short settled.free settled.place settled.keeps;
    }

pub returns-in_default-source : goal.returns-in_default-source
returns-in_default-source g c =
    let files = g.C.Files.files c.args.files.now in
    let begins = sym (no_file_page files c.in-Some.region.source (4096 * (c.args.page - c.in-Some.region.first)) c.in_default-source.not-File) in
    let settled = c.in_ok-settle_bytes.ensures in
    record {
      served = made_ready _ _ _ _ _ c.requires.ready _ refl (settled.resident files begins) (λ t p can.
          let is = same_Some _ _ (sym (rw (c.in-Some.is, c.number.ensures.value) at (sym (c.region_at.ensures p can.agrees.lays))) ∙ can.in_region) in
          subst (λ ms. g.C.Files.becomes c.args.files.now ms c.args.files.now)
          (first_moves_none can (c.requires.unsettled t p can.agrees) (g.C.Files.files c.args.files.now) c.in-Some.region is c.in_default-source.not-File) (g.met.C.Files.stays c.args.files.now))
          (λ alone t p shared can told. settled.enough alone t p shared can told refl) settled.free settled.place settled.keeps;
    }
