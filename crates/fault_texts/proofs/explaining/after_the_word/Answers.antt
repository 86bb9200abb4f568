use Rattle.std.proofs.Common.{◌∙◌, sym}
use Rattle.script_language.specs.Lines.{fields_of}
use Rattle.script_language.specs.Script.{in_order}
use Rattle.script_language.specs.declared.script.Cause.TheVariants as cause
use Rattle.script_reader.specs.Rows.{seen}
use Rattle.fault_texts.proofs.Causes.{wrong_number_of_fields}
use Rattle.line_fields.proofs.Ends.{end_after}
use Rattle.fault_texts.proofs.Found.{none_if}
use Rattle.fault_texts.proofs.Refusals.{found_wrong, wrong_order, wrong_count, wrong_number, wrong_field, wrong_limits, no_room}
use Rattle.fault_texts.proofs.Rooms.{room_for}
use Rattle.fault_texts.proofs.explaining.after_the_word.Goals as goal

pub refused_field-requires : goal.refused_field-requires
refused_field-requires c = end_after c.args.line.now c.in-Some.word.now c.in-Some.fields.now c.in-Some.ensures.place

pub refused_field-requires-in-Field : goal.refused_field-requires-in-Field
refused_field-requires-in-Field c = end_after c.args.line.now c.in-Some.word.now c.in-Some.fields.now c.in-Some.ensures.place

pub returns-in-Order-clause-found : goal.returns-in-Order-clause-found
returns-in-Order-clause-found c = λ text fields r split named refused late.
    let row = seen c.in-Some-find.row in
    let rest = fields_of c.in-Some.fields.now in
    let wrong = found_wrong c.args.draft.now c.args.line.now text c.in-Some.word.now fields rest r row _ cause.Order split c.in-Some.ensures.field named c.in-Some-find.ensures refused c.in-Order.is in
    none_if c.out_of_order.result (in_order c.args.draft.now row.word) c.out_of_order.ensures.found (wrong_order c.args.draft.now row rest wrong)

pub returns-in-Count-clause-found : goal.returns-in-Count-clause-found
returns-in-Count-clause-found c = λ text fields r split named refused late.
    let row = seen c.in-Some-find.row in
    let rest = fields_of c.in-Some.fields.now in
    let wrong = found_wrong c.args.draft.now c.args.line.now text c.in-Some.word.now fields rest r row _ cause.Count split c.in-Some.ensures.field named c.in-Some-find.ensures refused c.in-Count.is in
    none_if c.wrong_count.result _ c.wrong_count.ensures.found (wrong_number_of_fields row rest (wrong_count c.args.draft.now row rest wrong))

pub returns-in-Number-clause-found : goal.returns-in-Number-clause-found
returns-in-Number-clause-found c = λ text fields r split named refused late.
    let row = seen c.in-Some-find.row in
    let rest = fields_of c.in-Some.fields.now in
    let wrong = found_wrong c.args.draft.now c.args.line.now text c.in-Some.word.now fields rest r row _ cause.Number split c.in-Some.ensures.field named c.in-Some-find.ensures refused c.in-Number.is in
    rw c.in-Number.is at c.refused_field.ensures.found tt (wrong_number c.args.draft.now row rest wrong)

pub returns-in-Field-clause-found : goal.returns-in-Field-clause-found
returns-in-Field-clause-found c = λ text fields r split named refused late.
    let row = seen c.in-Some-find.row in
    let rest = fields_of c.in-Some.fields.now in
    let wrong = found_wrong c.args.draft.now c.args.line.now text c.in-Some.word.now fields rest r row _ cause.Field split c.in-Some.ensures.field named c.in-Some-find.ensures refused c.in-Field.is in
    rw c.in-Field.is at c.refused_field-in-Field.ensures.found tt (wrong_field c.args.draft.now row rest wrong)

pub returns-in-Limits-clause-found : goal.returns-in-Limits-clause-found
returns-in-Limits-clause-found c = λ text fields r split named refused late.
    let row = seen c.in-Some-find.row in
    let rest = fields_of c.in-Some.fields.now in
    let wrong = found_wrong c.args.draft.now c.args.line.now text c.in-Some.word.now fields rest r row _ cause.Limits split c.in-Some.ensures.field named c.in-Some-find.ensures refused c.in-Limits.is in
    let read = wrong_limits c.args.draft.now row rest wrong in
    c.outside_limits.ensures.found read.0 read.1 read.2

pub returns-in-TooMany-clause-found : goal.returns-in-TooMany-clause-found
returns-in-TooMany-clause-found c = λ text fields r split named refused late.
    let row = seen c.in-Some-find.row in
    let rest = fields_of c.in-Some.fields.now in
    let wrong = found_wrong c.args.draft.now c.args.line.now text c.in-Some.word.now fields rest r row _ cause.TooMany split c.in-Some.ensures.field named c.in-Some-find.ensures refused c.in-TooMany.is in
    let made = no_room c.args.draft.now row rest wrong in
    none_if c.no_room.result _ c.no_room.ensures.found (sym (room_for c.args.draft.now row.word made.0 made.1 made.2) ∙ made.3)
