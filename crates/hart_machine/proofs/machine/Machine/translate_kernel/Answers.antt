use Rattle.std.proofs.Common.{◌∙◌, ap, sym, option_map, refl}
use Rattle.std.proofs.lemmas.Option.{same_Some}
use Rattle.hart_machine.specs.Harts.{hart_of}
use Rattle.hart_machine.specs.Tables.{tables_of, present_table}
use Rattle.process_model.specs.Harts.{entry_serves}
use Rattle.table_walk.specs.Leaves.{walk_answer}
use Rattle.hart_machine.specs.declared.translation.SatpTable.{SatpTable}
use Rattle.hart_machine.proofs.FillWorlds.{table_there}
use Rattle.hart_machine.proofs.PresentTables.{present_served}
use Rattle.hart_machine.proofs.machine.Machine.translate_kernel.Goals as goal

pub returns-in-Some-clause-serves : goal.returns-in-Some-clause-serves
returns-in-Some-clause-serves c w x is at = c.translate_by_entry.ensures.serves w x is at ∙ ap (entry_serves c.args.self.now.policy (hart_of x) c.args.va.0) (sym c.in-Some.is)

pub walk-requires-clause-there : goal.walk-requires-clause-there
walk-requires-clause-there c =
    let r = c.requires.hart in
    let v = c.requires.world in
    table_there c.args.self.now v.0 v.1 c.args.hart r.0 r.1 c.in-Some-table_of.table (same_Some _ _ (sym c.in-Some-table_of.is ∙ c.table_of.ensures ∙ ap (option_map present_table) r.1))

pub returns-clause-walk : goal.returns-clause-walk
returns-clause-walk c w buffered x at ask =
    let is = buffered.world in
    let present = same_Some _ _ (sym c.in-Some-table_of.is ∙ c.table_of.ensures ∙ ap (option_map present_table) at) in
    present_served c.args.self.now.kernel.scheme is.tables is.kernel x (λ none. is.idle c.args.hart x at none) c.args.va.0 c.args.access c.args.mode c.walk.result
    (c.walk.ensures.walk w is ∙ ap (λ (t : SatpTable). walk_answer w.scheme (tables_of is.tables is.kernel t) c.args.va.0 c.args.access c.args.mode) present
    ∙ ap (λ k. walk_answer k (tables_of is.tables is.kernel (present_table x)) c.args.va.0 c.args.access c.args.mode) (sym is.scheme))

pub returns-in-Some-clause-world : goal.returns-in-Some-clause-world
returns-in-Some-clause-world c w is = (is, refl)
