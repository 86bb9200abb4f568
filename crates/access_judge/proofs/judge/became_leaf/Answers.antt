use Rattle.std.proofs.Common.{sym, ◌∙◌}
use Rattle.sv39_entry.specs.declared.entry.Kind.TheVariants.{Leaf}
use Rattle.walk_rules.specs.Kinds.{kind_in}
use Rattle.access_judge.specs.Search.{Version, is_kind}
use Rattle.access_judge.proofs.LaterLeaf.{none_after}
use Rattle.access_judge.proofs.judge.became_leaf.Goals as goal

pub returns-then-moment-step : goal.returns-then-moment-step
returns-then-moment-step g c =
    let p = g.L.Log.past c.args.log.now in
    let test = λ (v : Version). is_kind (kind_in c.args.question.now.extensions c.args.step.now.level v.word) Leaf in
    let i = c.words.invariant in
    sym (i.2 ∙ none_after test c.args.step.now.last p.first.memory p.events c.words.moment c.args.step.now.ppn c.index-index.result i.0 c.if-moment-step.true)
