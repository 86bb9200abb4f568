use Rattle.std.proofs.Common.{refl}
use Rattle.exec_segments.proofs.Headers.{first_flag, second_flag}
use Rattle.exec_segments.proofs.elf.load_at.Goals as goal

pub returns-clause-load : goal.returns-clause-load
returns-clause-load c =
    rw (
      second_flag c.u32_at-flags.result,
      first_flag c.u32_at-flags.result,
      c.u32_at-flags.ensures,
      c.lies_inside.ensures,
      c.first_bytes-contents.ensures,
      c.bytes_from-behind.ensures,
      c.u64_at-offset.ensures,
      c.u64_at-file_size.ensures,
      c.u64_at.ensures,
      c.u64_at-2.ensures,
    ) refl
