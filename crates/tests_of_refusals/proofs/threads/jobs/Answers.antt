use Rattle.std.proofs.Common.{◌≡◌, List, [], ◌∷◌, ◌++◌, All, subst, sym}
use Rattle.std.proofs.lemmas.List.Elements.{All-push}
use Rattle.atomic_table.specs.Seated.{TableId}
use Rattle.tests_of_refusals.specs.Ready.{IsReady}
use Rattle.tests_of_refusals.specs.declared.threads.Job.{Job}
use Rattle.tests_of_refusals.proofs.threads.jobs.Goals as goal

-- one job more is ready
pushed : (table : TableId) (xs ys : List Job) (x : Job) → ys ≡ xs ++ x ∷ [] → All (λ (job : Job). IsReady table job.space) xs → IsReady table x.space → All (λ (job : Job). IsReady table job.space) ys
pushed table xs ys x is all ready = subst (All (λ (job : Job). IsReady table job.space)) (sym is) (All-push (λ (job : Job). IsReady table job.space) xs x all ready)

pub children-preserved : goal.children-preserved
children-preserved g c =
    record {
      ready = c.in_ok-child.ensures.ready;
      jobs = pushed c.args.frames.now.table _ _ _ c.in_ok-push.ensures.items c.children.invariant.jobs c.in_ok-child.ensures.job;
    }

pub returns : goal.returns
returns g c = record { ready = pushed c.args.frames.now.table _ _ _ c.in_ok-push-2.ensures.items c.children.invariant.jobs c.children.invariant.ready }
