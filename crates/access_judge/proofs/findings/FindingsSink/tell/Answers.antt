use Rattle.std.proofs.Common.{ap, inl, inr, refl, ◌∙◌}
use Rattle.std.proofs.lemmas.List.{map-append}
use Rattle.access_judge.specs.Findings.{told_in}
use Rattle.access_judge.specs.Listing.{outcome_of, outcomes_of}
use Rattle.access_judge.proofs.ListedOutcomes.{finds_again, finds_one}
use Rattle.access_judge.proofs.findings.FindingsSink.tell.Goals as goal

pub returns-then-not-has : goal.returns-then-not-has
returns-then-not-has c = record {
  gains = finds_one c.args.self.now c.push.new.self c.args.outcome c.push.ensures.fits
      (λ h. ap outcomes_of (c.push.ensures.pushed h) ∙ map-append outcome_of (told_in c.args.self.now) _) (c.has.ensures.not_found c.if-not-has.true);
  way = c.push.ensures.same;
  told = λ h. inr (c.push.ensures.pushed h);
}

pub returns-else-not-has : goal.returns-else-not-has
returns-else-not-has c = record {
  gains = finds_again c.args.self.now c.args.outcome (c.has.ensures.found c.if-not-has.false);
  way = refl;
  told = λ h. inl (c.has.ensures.found c.if-not-has.false);
}
