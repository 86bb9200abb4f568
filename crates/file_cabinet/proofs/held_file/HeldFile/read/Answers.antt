use Rattle.std.proofs.Common.{◌≡◌, sym, ◌-◌, ◌∙◌, ap, arith, drop, length, min, replicate, take}
use Rattle.std.proofs.lemmas.Grind.{common_steps}
use Rattle.std.proofs.lemmas.List.{length-drop, length-take, take_min}
use Rattle.file_cabinet.proofs.Pages.{page_read}
use Rattle.file_cabinet.proofs.held_file.HeldFile.read.Goals as goal

pub returns : goal.returns
returns c =
    let rest = drop c.args.offset c.args.self.now.bytes in
    let held = c.page-held.result.now in
    let count = length held in
    let is : held ≡ take 4096 rest = c.page-held.ensures.bytes in
    let few : count ≡ min (length rest) 4096 = omega (arith, ap length is, length-take 4096 rest) in
    let least : count ≡ min 4096 (length rest) = omega (arith, few) in
    let long : length c.args.page.now ≡ 4096 = c.told-page in
    let copied : c.copy_from_slice.new.self ≡ take count rest = c.copy_from_slice.ensures.after ∙ is ∙ sym (ap (λ k. take k rest) least ∙ take_min 4096 rest) in
    let zeros : c.fill.new.self ≡ replicate (4096 - count) 0 = grind (arith, common_steps, c.fill.ensures.after (λ y e. e), c.copy_from_slice.ensures.after, few, long, length-drop, length-take) in
    page_read 4096 rest c.args.page.now _ _ count long few copied zeros
