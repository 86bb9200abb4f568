use Rattle.std.proofs.Common.{◌≡◌, ap, arith, refl, sym, subst, ◌∙◌, Err, Result, Some}
use Rattle.address_space.specs.Agreement.{body_of, IsSpace}
use Rattle.fault_rules.proofs.Allowed.{can_reside, denied_otherwise}
use Rattle.fault_rules.specs.MadeResident.{CanMakeResident}
use Rattle.fault_rules.specs.PageService.{served_as}
use Rattle.fault_rules.specs.Serves.{IsEnd, served_moves}
use Rattle.fault_rules.specs.declared.residence.ResidenceError.{ResidenceError}
use Rattle.fault_rules.specs.declared.service.Served.TheVariants.{Ended, Unserved}
use Rattle.fault_rules.proofs.Rules.{denied_by, denied_by_none, rule_in}
use Rattle.fault_rules.proofs.Services.{no_rule}
use Rattle.process_model.specs.Process.{Process, regions}
use Rattle.process_model.specs.Regions.{first_rule}
use Rattle.sv39_entry.specs.Address.{page_of}
use Rattle.sv39_entry.specs.declared.rule.Rule.TheVariants.{NoFrame}
use Rattle.table_walk.specs.Tables.{Tables}
use Rattle.fault_rules.proofs.service.serve.Goals as goal

-- ---- a rule denies the access

pub returns-in-Err : goal.returns-in-Err
returns-in-Err g c =
    let r = c.requires.ready in
    let is = λ (t : Tables) (p : Process) (space : IsSpace (body_of g.S.FrameSeat.view c.args.space.now) t p). denied_by _ c.in-Err.rule (sym (c.grant.ensures t p space) ∙ c.in-Err.is) in
    let other = λ (told : Ended c.in-Err.rule ≡ Ended NoFrame).
    denied_otherwise r.1.scheme (regions r.1) c.args.access c.args.va.0 c.args.width (is r.0 r.1 r.2 ∙ ap Some (ap rule_in told)) in
    record {
      served = record {
        ended = λ t p space. subst (λ o. IsEnd o (Ended c.in-Err.rule)) (sym (is t p space)) refl;
        ready = λ told. absurd (cc);
        dry = λ told. absurd (other told);
        whole = λ x told t p space. space;
        unpromised = λ e told. absurd (cc);
        of_file = λ e told. absurd (cc);
        stays = λ _. record { layout = refl; view = refl; store = refl };
        files_stay = λ e told. absurd (cc);
        moves = λ _ t p space.
            subst (λ o. g.C.Files.becomes c.args.files.now (served_moves (g.C.Files.files c.args.files.now) p (page_of c.args.va.0) o) c.args.files.now) (sym (is t p space)) (g.met.C.Files.stays c.args.files.now);
        enough = λ alone t p shared can by told. absurd (cc);
        short = λ alone t p shared can by told. absurd (other told);
        free = λ alone t p shared can by. omega arith;
        place = record { root = refl; trapframe = refl; layout = refl };
        keeps = λ others rule. rule;
      };
    }

-- ---- no rule denies it

pub make_resident-requires-clause-ready : goal.make_resident-requires-clause-ready
make_resident-requires-clause-ready g c =
    let r = c.requires.ready in
    let none = denied_by_none (first_rule r.1.scheme (regions r.1) c.args.access c.args.va.0 c.args.width) (λ rule is. c.in_default.not-Err rule (c.grant.ensures r.0 r.1 r.2 ∙ is)) in
    let can = can_reside _ r.0 r.1 c.args.access c.args.va.0 c.args.width r.2 none in
    (r.0, r.1, subst (λ n. CanMakeResident (body_of g.S.FrameSeat.view c.args.space.now) r.0 r.1 c.args.access n) (sym c.page.ensures.number) can)

pub returns-in-Ok : goal.returns-in-Ok
returns-in-Ok g c =
    record {
      served = no_rule _ _ _ _ _ _ _ _ _ c.page.ensures.number refl
          (λ t p space. denied_by_none (first_rule p.scheme (regions p) c.args.access c.args.va.0 c.args.width) (λ rule is. c.in_default.not-Err rule (c.grant.ensures t p space ∙ is)))
          c.in-Ok.ensures.served;
    }

pub returns-in-Err-NoFrame : goal.returns-in-Err-NoFrame
returns-in-Err-NoFrame g c =
    record {
      served = no_rule _ _ _ _ _ _ _ _ _ c.page.ensures.number (ap (λ (e : ResidenceError). let r : Result (Unit {0}) ResidenceError = Err e in served_as r) c.in-Err-NoFrame.field-0-is)
          (λ t p space. denied_by_none (first_rule p.scheme (regions p) c.args.access c.args.va.0 c.args.width) (λ rule is. c.in_default.not-Err rule (c.grant.ensures t p space ∙ is)))
          c.in-Err-NoFrame.ensures.served;
    }

pub returns-in-Err-Unpromised : goal.returns-in-Err-Unpromised
returns-in-Err-Unpromised g c =
    record {
      served = no_rule _ _ _ _ _ _ _ _ _ c.page.ensures.number
          (ap (λ (e : ResidenceError). let r : Result (Unit {0}) ResidenceError = Err e in served_as r) c.in-Err-Unpromised.field-0-is ∙ ap Unserved (sym c.into.ensures))
          (λ t p space. denied_by_none (first_rule p.scheme (regions p) c.args.access c.args.va.0 c.args.width) (λ rule is. c.in_default.not-Err rule (c.grant.ensures t p space ∙ is)))
          c.in-Err-Unpromised.ensures.served;
    }
