use Rattle.std.proofs.Common.{◌≡◌, ◌<◌, ◌≤◌, length}
use Rattle.std.specs.List.{list_any}
use Rattle.sv39_entry.specs.declared.entry.Kind.TheVariants.{Leaf}
use Rattle.walk_rules.specs.Kinds.{kind_in}
use Rattle.access_judge.specs.Judging.{found_of}
use Rattle.access_judge.specs.Search.{became_leaf, is_kind, until, versions}
use Rattle.access_judge.proofs.LaterLeaf.{after}
use Rattle.access_judge.proofs.judge.became_leaf.Given as goal

abbrev pub invariant-words : goal.invariant-words
invariant-words g l =
    let p = g.L.Log.past l.log in
    (l.moment ≤ length p.events) × (l.index < 512)
    × (became_leaf l.question.extensions p.first p.events l.question.request.va.0 (found_of l.step) l.number
    ≡ list_any (after l.step.last (λ v. is_kind (kind_in l.question.extensions l.step.level v.word) Leaf))
    (versions p.first.memory (until p.events l.moment) l.step.ppn l.index))

abbrev pub decreases-words : goal.decreases-words
decreases-words g l = l.moment
