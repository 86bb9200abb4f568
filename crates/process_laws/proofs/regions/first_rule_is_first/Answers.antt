use Rattle.process_laws.proofs.Earlier.{answered_is_first, first_is_answered, granted_is_denied_by_none}
use Rattle.process_laws.proofs.regions.first_rule_is_first.Goals as goal

pub returns : goal.returns
returns c = record { denied = answered_is_first; first = first_is_answered; granted = granted_is_denied_by_none }
