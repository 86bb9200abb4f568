-- Worked examples of the definitions, which the checker computes: lines of a listing of page tables, and the first virtual
-- addresses of pages of both halves. The first two lines are those of the page table lab of MIT 6.1810.
use Rattle.std.proofs.Common.{◌≡◌, ℕ, codes, refl}
use Rattle.std.specs.Fmt.{digits}
use Rattle.sv39_entry.specs.declared.scheme.Scheme.TheVariants.{Sv39, Sv48}
use Rattle.walk_lines.specs.Listings.{first_address, first_page}
use Rattle.walk_lines.specs.Texts.{line_text, title_text}
use Rattle.walk_lines.specs.declared.listing.TableEntry.{TableEntry}

abbrev entry_of : ℕ → ℕ → ℕ → TableEntry
entry_of level page word = record { level = level; table = 0x87f22; index = 0; page = page; word = word }

pub title : title_text 0x87f22 ≡ codes "page table 0x0000000087f22000"
unfolding digits
title = refl

pub line_of_the_root : line_text Sv39 (entry_of 2 0 0x21fc7801) ≡ codes " ..0x0000000000000000: pte 0x0000000021fc7801 pa 0x0000000087f1e000"
unfolding digits
line_of_the_root = refl

pub line_of_a_last_table : line_text Sv39 (entry_of 0 0x3ffffff 0x20001c4b) ≡ codes " .. .. ..0x0000003ffffff000: pte 0x0000000020001c4b pa 0x0000000080007000"
unfolding digits
line_of_a_last_table = refl

pub line_of_the_upper_half : line_text Sv39 (entry_of 1 0x7fffe00 0x20000001) ≡ codes " .. ..0xffffffffffe00000: pte 0x0000000020000001 pa 0x0000000080000000"
unfolding digits
line_of_the_upper_half = refl

pub first_of_the_upper_half : first_address Sv39 0x4000000 ≡ 0xffffffc000000000
first_of_the_upper_half = refl

pub four_levels : first_address Sv48 0x4000000 ≡ 0x4000000000
four_levels = refl

pub page_of_a_superpage : first_page 0x3ff 1 ≡ 0x200
page_of_a_superpage = refl
