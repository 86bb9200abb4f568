use Rattle.std.proofs.Common.{◌≡◌, sym, ◌∙◌}
use Rattle.std.proofs.lemmas.Option.{same_Some}
use Rattle.std.proofs.lemmas.Result.{IfOk-weaker}
use Rattle.lent_memory.proofs.buffer.use_entry.Goals as goal

pub returns-in-Some-clause-permitted : goal.returns-in-Some-clause-permitted
returns-in-Some-clause-permitted c =
    IfOk-weaker c.translate.result _ _
    (λ w of s m there root space e at permitted whole.
    let same : c.in-Some.entry ≡ e = same_Some _ _ (sym c.in-Some.is ∙ c.entry_at.ensures ∙ at) in
    of s m there root space (rw same permitted) (rw same whole))
    c.translate.ensures.permitted
