use Rattle.std.proofs.Common.{◌≡◌, ◌||◌, ◌<◌, List, ◌∷◌, ◌++◌, take, drop, ap, ◌∙◌, arith}
use Rattle.mmu.specs.Words.{Meets, is_in, is_in_some}
use Rattle.mmu.specs.declared.run.Run.{Run}
use Rattle.mmu.proofs.Apart.{in_place, inserted, inserted_has, merged, merged_has}
use Rattle.mmu.proofs.runs.Runs.add.Goals as goal

pub invariant_of-self-then-low-high : goal.invariant_of-self-then-low-high
invariant_of-self-then-low-high c =
    let xs = c.self.inside.runs.items in
    let run = c.args.run in
    let low = c.meeting-low.result.0 in
    let high = c.meeting-low.result.1 in
    let met : Meets xs run low high = rw c.self.view_is c.meeting-low.ensures in
    let some : run.first < run.end = omega (arith, c.if-run.false) in
    rw c.in_ok-insert.ensures.items (inserted xs c.self.invariant run some low high met c.if-low-high.true)

pub returns-then-low-high-clause-ok : goal.returns-then-low-high-clause-ok
returns-then-low-high-clause-ok c =
    let xs = c.self.inside.runs.items in
    let run = c.args.run in
    let low = c.meeting-low.result.0 in
    let high = c.meeting-low.result.1 in
    let met : Meets xs run low high = rw c.self.view_is c.meeting-low.ensures in
    let some : run.first < run.end = omega (arith, c.if-run.false) in
    λ n. ap (λ (rs : List Run). is_in_some rs n) c.in_ok-insert.ensures.items ∙ inserted_has xs c.self.invariant run some low high met n
    ∙ ap (λ (rs : List Run). is_in run n || is_in_some rs n) c.self.view_is

pub invariant_of-self-2 : goal.invariant_of-self-2
invariant_of-self-2 c =
    let xs = c.self.inside.runs.items in
    let run = c.args.run in
    let low = c.meeting-low.result.0 in
    let high = c.meeting-low.result.1 in
    let met : Meets xs run low high = rw c.self.view_is c.meeting-low.ensures in
    let some : run.first < run.end = omega (arith, c.if-run.false) in
    let less : low < high = omega (arith, met.order, c.if-low-high.false) in
    let items : c.drop-drain.new.self.0.items ≡ take low xs ++ c.widened.result ∷ drop high xs =
    c.drop-drain.ensures.items ∙ c.drain.ensures.kept ∙ in_place xs low high c.widened.result less met.bound in
    rw items (merged xs c.self.invariant run some low high met less c.index.result.now c.index-2.result.now c.widened.result c.index.ensures c.index-2.ensures c.widened.ensures.first c.widened.ensures.end)

pub returns-clause-ok : goal.returns-clause-ok
returns-clause-ok c =
    let xs = c.self.inside.runs.items in
    let run = c.args.run in
    let low = c.meeting-low.result.0 in
    let high = c.meeting-low.result.1 in
    let met : Meets xs run low high = rw c.self.view_is c.meeting-low.ensures in
    let some : run.first < run.end = omega (arith, c.if-run.false) in
    let less : low < high = omega (arith, met.order, c.if-low-high.false) in
    let items : c.drop-drain.new.self.0.items ≡ take low xs ++ c.widened.result ∷ drop high xs =
    c.drop-drain.ensures.items ∙ c.drain.ensures.kept ∙ in_place xs low high c.widened.result less met.bound in
    λ n. ap (λ (rs : List Run). is_in_some rs n) items
    ∙ merged_has xs c.self.invariant run some low high met less c.index.result.now c.index-2.result.now c.widened.result c.index.ensures c.index-2.ensures c.widened.ensures.first c.widened.ensures.end n
    ∙ ap (λ (rs : List Run). is_in run n || is_in_some rs n) c.self.view_is
