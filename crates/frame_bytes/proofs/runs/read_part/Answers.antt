use Rattle.std.proofs.Common.{◌≡◌, ℕ, ◌+◌, ◌-◌, ◌%◌, ◌≤◌, ◌∙◌, length, take, drop, ap, arith}
use Rattle.std.specs.Int.{w64, to_le_bytes}
use Rattle.frame_bytes.proofs.Taken.{length-part, part_read, run_read}
use Rattle.frame_bytes.proofs.runs.read_part.Goals as goal

pub returns-clause-bytes : goal.returns-clause-bytes
returns-clause-bytes g c page has =
    let o : ℕ = c.args.offset in
    let n : ℕ = length c.args.bytes.now in
    let count : o % 8 + n - o % 8 ≡ n = omega arith in
    let within : o % 8 + n ≤ 8 = c.requires.in_word in
    let is : c.copy_from_slice.new.self ≡ take n (drop (o % 8) (to_le_bytes w64 c.load.result)) = rw count at (c.copy_from_slice.ensures.after) ∙ ap (λ word. take n (drop (o % 8) word)) c.to_le_bytes-word.ensures in
    let long : length c.copy_from_slice.new.self ≡ n = length-part c.load.result o n _ within is in
    run_read _ page o n (omega (arith, has.length, c.requires.inside)) long (λ k h.
    part_read c.load.result o n _ within is _ page _ has (omega (arith, h, c.requires.inside)) c.load.ensures.known k h)
