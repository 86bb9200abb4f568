-- Definitions: the privilege mode by which an access is judged (RISC-V Privileged Architecture 20211203, 3.1.6.3); which accesses
-- a leaf allows under SUM and MXR (4.3.2, steps 5 and 6); and its bits A and D (step 7).
use Rattle.std.specs.Prelude.{ℕ, Bool, ◌*◌, ◌%◌, ◌^◌, ◌==◌, ◌&&◌, ◌||◌, not, bit_or, Option, None, Some, if◌then◌else◌}
use Rattle.sv39_entry.specs.Address.{has}
use Rattle.sv39_entry.specs.Word.{ppn}
use Rattle.sv39_entry.specs.declared.access.Access.{Access}
use Rattle.sv39_entry.specs.declared.access.Access.TheVariants.{Fetch, Load, Store}
use Rattle.sv39_entry.specs.declared.access.Mode.{Mode}
use Rattle.sv39_entry.specs.declared.access.Mode.TheVariants as mode
use Rattle.walk_rules.specs.declared.status.Privilege.{Privilege}
use Rattle.walk_rules.specs.declared.status.Privilege.TheVariants as privilege
use Rattle.walk_rules.specs.declared.status.Status.{Status}

-- the effective privilege mode: that of MPP for loads and stores in M-mode with MPRV, never for fetches; else the hart's own
-- (3.1.6.3)
abbrev pub effective : Status → Privilege → Access → Privilege
effective s privilege.User a = privilege.User
effective s privilege.Supervisor a = privilege.Supervisor
effective s privilege.Machine Fetch = privilege.Machine
effective s privilege.Machine Load = if s.mprv then s.mpp else privilege.Machine
effective s privilege.Machine Store = if s.mprv then s.mpp else privilege.Machine

-- the mode by which leaves are judged; None in M-mode, whose accesses are not translated
abbrev pub translation_mode : Privilege → Option Mode
translation_mode privilege.User = Some mode.User
translation_mode privilege.Supervisor = Some mode.Supervisor
translation_mode privilege.Machine = None

-- U allows the mode: U-mode needs it; S-mode never fetches by a leaf with it, and loads and stores only with SUM (4.3.1)
abbrev pub mode_may : Status → Mode → Access → ℕ → Bool
mode_may s mode.User a w = has w 4
mode_may s mode.Supervisor Fetch w = not (has w 4)
mode_may s mode.Supervisor Load w = not (has w 4) || s.sum
mode_may s mode.Supervisor Store w = not (has w 4) || s.sum

-- the leaf has the right that the access needs: X for a fetch, W for a store, R for a load or, with MXR, X (3.1.6.3, 4.3.1)
abbrev pub has_right : Status → Access → ℕ → Bool
has_right s Fetch w = has w 3
has_right s Load w = has w 1 || (s.mxr && has w 3)
has_right s Store w = has w 2

-- the low 9 * level bits of the PPN are clear: else the superpage is misaligned, a page fault (step 6)
abbrev pub is_aligned : ℕ → ℕ → Bool
is_aligned level w = ppn w % 2 ^ (9 * level) == 0

-- a leaf at a level allows an access, whatever its A and D (steps 5 and 6)
abbrev pub allows : Status → Mode → Access → ℕ → ℕ → Bool
allows s m a level w = mode_may s m a w && has_right s a w && is_aligned level w

-- A is set and, for a store, D (step 7)
abbrev pub has_ad : Access → ℕ → Bool
has_ad Fetch w = has w 6
has_ad Load w = has w 6
has_ad Store w = has w 6 && has w 7

-- the leaf with A set and, for a store, D
abbrev pub with_ad : Access → ℕ → ℕ
with_ad Fetch w = bit_or w (2 ^ 6)
with_ad Load w = bit_or w (2 ^ 6)
with_ad Store w = bit_or (bit_or w (2 ^ 6)) (2 ^ 7)

-- the bits that `with_ad` sets: A, bit 6, and for a store D, bit 7
abbrev pub is_ad_bit : Access → ℕ → Bool
is_ad_bit Fetch i = i == 6
is_ad_bit Load i = i == 6
is_ad_bit Store i = i == 6 || i == 7
