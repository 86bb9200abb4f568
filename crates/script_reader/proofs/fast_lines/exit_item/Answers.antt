use Rattle.std.proofs.Common.{◌≡◌, ◌<◌, ◌^◌, ℤ, pos, of_z, to_z, w64, ap, ◌∙◌, arith}
use Rattle.std.proofs.lemmas.Int.{to_z-of_z}
use Rattle.script_reader.proofs.FastLineSteps.{says_exit}
use Rattle.script_reader.proofs.fast_lines.exit_item.Goals as goal

pub returns : goal.returns
returns c =
    let number = c.in_ok-hart.status in
    let fits = c.in-Ok.ensures.0 in
    let small : number < 2 ^ 63 = omega (arith, fits) in
    let round : to_z w64 (of_z w64 c.in-Ok.signed) ≡ pos number = ap (λ (z : ℤ). to_z w64 (of_z w64 z)) c.in-Ok.ensures.1 ∙ to_z-of_z w64 (pos number) fits in
    says_exit c.args.fields.now c.in_ok-hart.hart number (to_z w64 (of_z w64 c.in-Ok.signed)) c.exit.result c.in_ok-hart.ensures small round c.exit.ensures
