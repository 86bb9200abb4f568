use Rattle.std.proofs.Common.{◌∷◌, Ok, ap, refl, sym}
use Rattle.std.specs.Prelude.{codes}
use Rattle.script_language.specs.Fields.{four_numbers, row, three_numbers, two_numbers}
use Rattle.script_language.specs.declared.script.FieldKind.TheVariants as kind
use Rattle.script_language.specs.declared.script.Item.{Item}
use Rattle.script_language.specs.declared.script.Keyword.TheVariants as word
use Rattle.script_language.specs.declared.script.Tail.TheVariants as tail
use Rattle.script_reader.proofs.FastLineSteps.{says}
use Rattle.script_reader.proofs.fast_lines.numbers_item.Goals as goal

pub returns-in_ok-hart-in-On : goal.returns-in_ok-hart-in-On
returns-in_ok-hart-in-On c =
    rw c.in-On.is (says c.in_ok-hart-in-On.ensures (codes "on") (row (codes "on") word.On two_numbers tail.Nothing) _ refl refl (λ s. refl) refl)

pub returns-in_ok-hart-in-Fill : goal.returns-in_ok-hart-in-Fill
returns-in_ok-hart-in-Fill c =
    rw c.in-Fill.is (says c.in_ok-hart-in-Fill.ensures (codes "fill") (row (codes "fill") word.Fill two_numbers tail.Nothing) _ refl refl (λ s. refl) refl)

pub returns-in_ok-hart-in-CopyIn : goal.returns-in_ok-hart-in-CopyIn
returns-in_ok-hart-in-CopyIn c =
    rw c.in-CopyIn.is (says c.in_ok-hart-in-CopyIn.ensures (codes "copyin") (row (codes "copyin") word.CopyIn three_numbers tail.Nothing) c.copy_in.result refl refl (λ s. sym c.copy_in.ensures) refl)

pub returns-in_ok-hart-in-Mmap : goal.returns-in_ok-hart-in-Mmap
returns-in_ok-hart-in-Mmap c =
    rw c.in-Mmap.is (says c.in_ok-hart-in-Mmap.ensures (codes "mmap") (row (codes "mmap") word.Mmap (kind.Number ∷ four_numbers) tail.Nothing) _ refl refl (λ s. refl) refl)

pub returns-in_ok-hart-in-Munmap : goal.returns-in_ok-hart-in-Munmap
returns-in_ok-hart-in-Munmap c =
    rw c.in-Munmap.is (says c.in_ok-hart-in-Munmap.ensures (codes "munmap") (row (codes "munmap") word.Munmap three_numbers tail.Nothing) _ refl refl (λ s. refl) refl)
