use Rattle.std.proofs.Common.{ap, not, sym, ◌∙◌, Option}
use Rattle.std.specs.Prelude.{option_map}
use Rattle.address_space.specs.Layouts.{region_of}
use Rattle.process_model.specs.Regions.{lacks_right, Region}
use Rattle.sv39_entry.specs.declared.access.Access.TheVariants.{Store}
use Rattle.hart_machine.proofs.slot_process.SlotProcess.may_write.Goals as goal

pub returns-in-Some : goal.returns-in-Some
returns-in-Some c = λ t p slot_process.
    ap not (c.lacks_right.ensures ∙ ap (lacks_right Store) (ap (option_map region_of) (sym c.in-Some.is) ∙ c.region_at.ensures p slot_process.agrees.lays))

pub returns-in-None : goal.returns-in-None
returns-in-None c = λ t p slot_process.
    ap (λ (o : Option Region). not (lacks_right Store o)) (ap (option_map region_of) (sym c.in-None.is) ∙ c.region_at.ensures p slot_process.agrees.lays)
