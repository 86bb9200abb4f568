use Rattle.std.proofs.Common.{refl}
use Rattle.process_model.specs.ScalarReplies.{is_scalar_step}
use Rattle.process_model.specs.Steps.{plain_step}
use Rattle.process_model.specs.declared.step.Step.TheVariants as step
use Rattle.hart_machine.proofs.BufferChanges.{are_of, same_are}
use Rattle.hart_machine.proofs.MarkedSteps.{are_after, fills_alone, keeps_made, made_after, true_after}
use Rattle.hart_machine.proofs.MarkedWorlds.{born_low, changed_low}
use Rattle.hart_machine.proofs.StepsMade.{keeps_by, made_by, marked_by}
use Rattle.hart_machine.proofs.machine.Machine.step.Goals as goal

pub step_scalar-requires-clause-scalar : goal.step_scalar-requires-clause-scalar
step_scalar-requires-clause-scalar c = is_scalar_step c.args.step c.in_default.not-CopyIn

pub mark-requires : goal.mark-requires
mark-requires c s is =
    let r = c.requires.world in
    let x = c.in-CopyIn in
    let y = c.copy_in-reply in
    changed_low r.0 (plain_step r.0 (step.CopyIn x.hart x.address x.count)) _ _ (y.ensures.changed r.0 (r.1).world) (r.1).world.few s is

pub mark-requires-2 : goal.mark-requires-2
mark-requires-2 c s is =
    let r = c.requires.world in
    let x = c.in-CopyIn in
    let y = c.copy_in-reply in
    born_low r.0 (plain_step r.0 (step.CopyIn x.hart x.address x.count)) _ _ (y.ensures.changed r.0 (r.1).world) (r.1).world.few s is

pub returns-clause-made : goal.returns-clause-made
returns-clause-made c w inn =
    let x = c.in-CopyIn in
    let y = c.copy_in-reply in
    let m = c.args.self.now in
    let is = inn.world in
    let made = made_by y.new.self y.result.reply w (step.CopyIn x.hart x.address x.count) _ x.is (y.ensures.made w is) in
    let marks = marked_by w (step.CopyIn x.hart x.address x.count) _ x.is y.result.changed y.result.born (y.ensures.changed w is) in
    let keeps = keeps_by m y.new.self w (step.CopyIn x.hart x.address x.count) _ x.is (y.ensures.tables w is) in
    let are = are_of m y.new.self is.tables is.kernel y.result.reply x.is (same_are m y.new.self is.tables is.kernel (step.CopyIn x.hart x.address x.count) _ (λ h. refl) y.ensures.buffers) in
    made_after c.args.self.now y.new.self c.mark.new.self c.mark-2.new.self w c.args.step inn y.result.reply y.result.changed y.result.born made marks keeps are c.mark.ensures.harts c.mark.ensures.buffers c.mark.ensures.others c.mark-2.ensures.harts c.mark-2.ensures.buffers c.mark-2.ensures.others

pub returns-clause-fills : goal.returns-clause-fills
returns-clause-fills c w inn =
    let x = c.in-CopyIn in
    let y = c.copy_in-reply in
    let m = c.args.self.now in
    let is = inn.world in
    let made = made_by y.new.self y.result.reply w (step.CopyIn x.hart x.address x.count) _ x.is (y.ensures.made w is) in
    let marks = marked_by w (step.CopyIn x.hart x.address x.count) _ x.is y.result.changed y.result.born (y.ensures.changed w is) in
    let keeps = keeps_by m y.new.self w (step.CopyIn x.hart x.address x.count) _ x.is (y.ensures.tables w is) in
    let are = are_of m y.new.self is.tables is.kernel y.result.reply x.is (same_are m y.new.self is.tables is.kernel (step.CopyIn x.hart x.address x.count) _ (λ h. refl) y.ensures.buffers) in
    fills_alone c.args.self.now y.new.self c.mark.new.self c.mark-2.new.self w c.args.step inn y.result.reply y.result.changed y.result.born made marks keeps are c.mark.ensures.harts c.mark.ensures.buffers c.mark.ensures.others c.mark-2.ensures.harts c.mark-2.ensures.buffers c.mark-2.ensures.others

pub returns-clause-each_buffer : goal.returns-clause-each_buffer
returns-clause-each_buffer c w inn =
    let x = c.in-CopyIn in
    let y = c.copy_in-reply in
    let m = c.args.self.now in
    let is = inn.world in
    let made = made_by y.new.self y.result.reply w (step.CopyIn x.hart x.address x.count) _ x.is (y.ensures.made w is) in
    let marks = marked_by w (step.CopyIn x.hart x.address x.count) _ x.is y.result.changed y.result.born (y.ensures.changed w is) in
    let keeps = keeps_by m y.new.self w (step.CopyIn x.hart x.address x.count) _ x.is (y.ensures.tables w is) in
    let are = are_of m y.new.self is.tables is.kernel y.result.reply x.is (same_are m y.new.self is.tables is.kernel (step.CopyIn x.hart x.address x.count) _ (λ h. refl) y.ensures.buffers) in
    are_after c.args.self.now y.new.self c.mark.new.self c.mark-2.new.self w c.args.step inn y.result.reply y.result.changed y.result.born made marks keeps are c.mark.ensures.harts c.mark.ensures.buffers c.mark.ensures.others c.mark-2.ensures.harts c.mark-2.ensures.buffers c.mark-2.ensures.others

pub returns-clause-tables : goal.returns-clause-tables
returns-clause-tables c w inn =
    let x = c.in-CopyIn in
    let y = c.copy_in-reply in
    let m = c.args.self.now in
    let is = inn.world in
    let made = made_by y.new.self y.result.reply w (step.CopyIn x.hart x.address x.count) _ x.is (y.ensures.made w is) in
    let marks = marked_by w (step.CopyIn x.hart x.address x.count) _ x.is y.result.changed y.result.born (y.ensures.changed w is) in
    let keeps = keeps_by m y.new.self w (step.CopyIn x.hart x.address x.count) _ x.is (y.ensures.tables w is) in
    let are = are_of m y.new.self is.tables is.kernel y.result.reply x.is (same_are m y.new.self is.tables is.kernel (step.CopyIn x.hart x.address x.count) _ (λ h. refl) y.ensures.buffers) in
    keeps_made c.args.self.now y.new.self c.mark.new.self c.mark-2.new.self w c.args.step inn y.result.reply y.result.changed y.result.born made marks keeps are c.mark.ensures.harts c.mark.ensures.buffers c.mark.ensures.others c.mark-2.ensures.harts c.mark-2.ensures.buffers c.mark-2.ensures.others

pub returns-clause-identifiers : goal.returns-clause-identifiers
returns-clause-identifiers c w inn asid =
    let x = c.in-CopyIn in
    let y = c.copy_in-reply in
    let m = c.args.self.now in
    let is = inn.world in
    let made = made_by y.new.self y.result.reply w (step.CopyIn x.hart x.address x.count) _ x.is (y.ensures.made w is) in
    let marks = marked_by w (step.CopyIn x.hart x.address x.count) _ x.is y.result.changed y.result.born (y.ensures.changed w is) in
    let keeps = keeps_by m y.new.self w (step.CopyIn x.hart x.address x.count) _ x.is (y.ensures.tables w is) in
    let are = are_of m y.new.self is.tables is.kernel y.result.reply x.is (same_are m y.new.self is.tables is.kernel (step.CopyIn x.hart x.address x.count) _ (λ h. refl) y.ensures.buffers) in
    true_after c.args.self.now y.new.self c.mark.new.self c.mark-2.new.self w c.args.step inn y.result.reply y.result.changed y.result.born made marks keeps are c.mark.ensures.harts c.mark.ensures.buffers c.mark.ensures.others c.mark-2.ensures.harts c.mark-2.ensures.buffers c.mark-2.ensures.others asid
