use Rattle.std.proofs.Common.{◌≡◌, ℕ, suc, ◌+◌, arith, subst}
use Rattle.sv39_entry.specs.Word.{kind_of}
use Rattle.walk_rules.specs.Kinds.{kind_in}
use Rattle.access_history.proofs.PlainKinds.{plain_kind}
use Rattle.access_history.proofs.laws.plain_kinds.Goals as goal

pub returns : goal.returns
returns c = λ x n w napot pbmt.
    let next : suc n ≡ n + 1 = omega arith in subst (λ (level : ℕ). kind_in x level w ≡ kind_of w) next (plain_kind x n w napot pbmt)
