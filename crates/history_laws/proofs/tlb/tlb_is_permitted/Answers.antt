use Rattle.history_laws.proofs.TlbHistories.{entry_permitted, was_filled}
use Rattle.history_laws.proofs.tlb.tlb_is_permitted.Goals as goal

pub returns-clause-entry : goal.returns-clause-entry
returns-clause-entry c = λ x p q mode s address past e plain fill remains matched whole.
    entry_permitted x p q mode s plain address past e fill remains matched whole

pub returns-clause-buffer : goal.returns-clause-buffer
returns-clause-buffer c = λ x p q mode s places es e plain run has matched whole.
    let fill = was_filled p.first s places e p.events es run has in
    entry_permitted x p q mode s plain fill.0 fill.1 e fill.2 fill.3 matched whole
