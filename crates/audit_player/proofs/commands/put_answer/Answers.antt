use Rattle.std.proofs.Common.{◌∙◌, ◌<◌, ◌++◌, List, ap, length, refl, sym, subst}
use Rattle.std.specs.Prelude.{slice_get}
use Rattle.process_model.specs.Files.{bytes_of, File}
use Rattle.script_language.specs.Text.{line_result, show_text}
use Rattle.script_language.specs.Words.{report_text}
use Rattle.script_language.specs.declared.script.Command.{Command}
use Rattle.process_model.specs.declared.step.Report.{Report}
use Rattle.process_model.specs.declared.step.Step.TheVariants.{Exec, Start}
use Rattle.audit_player.specs.LineOutcomes.{AppendsLine}
use Rattle.audit_player.proofs.Lending.{bytes_told, line_told, steps_told}
use Rattle.audit_player.proofs.commands.put_answer.Goals as goal

pub returns-in-Start-clause-line_text : goal.returns-in-Start-clause-line_text
returns-in-Start-clause-line_text c w here =
    let images = c.args.images.now in
    let there : c.in-Start.image < length images = rw c.in-Start.is at (c.requires.declared).1 in
    subst (λ (d : Command). AppendsLine c.start.new.machine c.args.text.now.items c.put_scalar_reply.new.text.items (line_result images w d)) (sym c.in-Start.is)
    (line_told _ _ images w Start c.in-Start.image _ c.args.text.now.items _ there c.index-images-image.is (c.start.ensures.made w here) c.put_scalar_reply.ensures.text)

pub returns-in-Exec-clause-line_text : goal.returns-in-Exec-clause-line_text
returns-in-Exec-clause-line_text c w here =
    let images = c.args.images.now in
    let x = c.in-Exec in
    let there : x.image < length images = rw x.is at (c.requires.declared).1 in
    subst (λ (d : Command). AppendsLine c.exec.new.machine c.args.text.now.items c.put_scalar_reply-in-Exec.new.text.items (line_result images w d)) (sym x.is)
    (line_told _ _ images w (Exec x.hart) x.image _ c.args.text.now.items _ there c.index-images-image-in-Exec.is (c.exec.ensures.made w here) c.put_scalar_reply-in-Exec.ensures.text)

pub returns-in-CopyOut-clause-line_text : goal.returns-in-CopyOut-clause-line_text
returns-in-CopyOut-clause-line_text c w here =
    let x = c.in-CopyOut in
    subst (λ (d : Command). AppendsLine c.copy_out.new.machine c.args.text.now.items c.put_scalar_reply-in-CopyOut.new.text.items (line_result c.args.images.now w d)) (sym x.is)
    (bytes_told _ _ w x.hart x.address _ x.bytes c.args.text.now.items _ c.as_slice.ensures (c.copy_out.ensures.made w here) c.put_scalar_reply-in-CopyOut.ensures.text)

pub returns-in-Show-clause-line_text : goal.returns-in-Show-clause-line_text
returns-in-Show-clause-line_text c w here =
    let x = c.in-Show in
    let before = c.args.text.now.items in
    let shown = c.put_shown.ensures.text ∙ ap (λ (files : List File). before ++ show_text (bytes_of (slice_get files x.file)) x.offset x.count) (c.files.ensures w here) in
    subst (λ (d : Command). AppendsLine c.args.machine.now before c.put_shown.new.text.items (line_result c.args.images.now w d)) (sym x.is) (shown, here)

pub returns-in-Audit-clause-line_text : goal.returns-in-Audit-clause-line_text
returns-in-Audit-clause-line_text c w here =
    let before = c.args.text.now.items in
    let told = c.put_report.ensures.text ∙ ap (λ (r : Report). before ++ report_text r) (c.audit.ensures w here) in
    subst (λ (d : Command). AppendsLine c.args.machine.now before c.put_report.new.text.items (line_result c.args.images.now w d)) (sym c.in-Audit.is) (told, here)

pub returns-in-One-clause-line_text : goal.returns-in-One-clause-line_text
returns-in-One-clause-line_text c w here =
    subst (λ (d : Command). AppendsLine c.put_step.new.machine c.args.text.now.items c.put_step.new.text.items (line_result c.args.images.now w d)) (sym c.in-One.is) (c.put_step.ensures.line_text w here)

pub returns-in-On-clause-line_text : goal.returns-in-On-clause-line_text
returns-in-On-clause-line_text c w here =
    steps_told _ _ c.args.images.now w _ _ _ c.args.text.now.items _ c.in-On.is refl (c.put_on.ensures.made w here) c.put_scalar_reply-in-On.ensures.text

pub returns-in-Enter-clause-line_text : goal.returns-in-Enter-clause-line_text
returns-in-Enter-clause-line_text c w here =
    steps_told _ _ c.args.images.now w _ _ _ c.args.text.now.items _ c.in-Enter.is refl (c.enter.ensures.made w here) c.put_scalar_reply-in-Enter.ensures.text

pub returns-in-Leave-clause-line_text : goal.returns-in-Leave-clause-line_text
returns-in-Leave-clause-line_text c w here =
    steps_told _ _ c.args.images.now w _ _ _ c.args.text.now.items _ c.in-Leave.is refl (c.three_next.ensures.made w here) c.put_scalar_reply-in-Leave.ensures.text

pub returns-in-Fix-clause-line_text : goal.returns-in-Fix-clause-line_text
returns-in-Fix-clause-line_text c w here =
    steps_told _ _ c.args.images.now w _ _ _ c.args.text.now.items _ c.in-Fix.is refl (c.fix.ensures.made w here) c.put_scalar_reply-in-Fix.ensures.text
