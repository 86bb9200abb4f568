-- Definitions for virtual addresses (RISC-V Privileged Architecture, 4.4.1 and 4.5.1): bit i of a number (`has`), the page
-- of an address, its offset in bits 11 to 0, and VPN[level] of a page, nine bits each.
use Rattle.std.specs.Prelude.{ℕ, Bool, ◌*◌, ◌/◌, ◌%◌, ◌^◌, ◌==◌}

-- whether bit i of a number is set
abbrev pub has : ℕ → ℕ → Bool
has n i = n / 2 ^ i % 2 == 1

-- the number of the page, of 4,096 bytes, that holds an address
abbrev pub page_of : ℕ → ℕ
page_of a = a / 4096

abbrev pub page_offset : ℕ → ℕ
page_offset a = a % 2 ^ 12

-- VPN[level] of the addresses of a page
abbrev pub vpn : ℕ → ℕ → ℕ
vpn page level = page / 2 ^ (9 * level) % 2 ^ 9
