-- Which profile the words of a line make (`IsProfile`), and what a profile makes of a word that is written to satp (`satp_after`).
use Rattle.std.specs.Prelude.{◌≡◌, ℕ, Bool, true, false, ◌≤◌, ◌||◌, suc, codes, Some, List, ◌++◌, length, slice_get, if◌then◌else◌}
use Rattle.script_language.specs.Numbers.{number_of}
use Rattle.walk_rules.specs.declared.extensions.AdScheme.{AdScheme}
use Rattle.walk_rules.specs.declared.extensions.AdScheme.TheVariants.{Svade, Svadu, Either}
use Rattle.walk_rules.specs.declared.extensions.Extensions.{Extensions}
use Rattle.mmu_requests.specs.declared.profile.Profile.{Profile}
use Rattle.mmu_requests.specs.declared.profile_word.ProfileWord.{ProfileWord}
use Rattle.mmu_requests.specs.declared.profile_word.ProfileWord.TheVariants as word

-- no extension, Svade, no PMP entries, ASIDs of 16 bits; and each mode of satp, or none
abbrev pub plain_with : Bool → Profile
plain_with modes = record {
  sv39 = modes;
  sv48 = modes;
  sv57 = modes;
  extensions = record { svnapot = false; svpbmt = false; ad = Svade };
  pmp_entries = 0;
  asid_bits = 16;
}

abbrev pub with_extensions : Extensions → Profile → Profile
with_extensions x p =
    record { sv39 = p.sv39; sv48 = p.sv48; sv57 = p.sv57; extensions = x; pmp_entries = p.pmp_entries; asid_bits = p.asid_bits }

abbrev pub with_scheme : AdScheme → Profile → Profile
with_scheme ad p = with_extensions (record { svnapot = p.extensions.svnapot; svpbmt = p.extensions.svpbmt; ad = ad }) p

abbrev pub with_entries : ℕ → Profile → Profile
with_entries n p =
    record { sv39 = p.sv39; sv48 = p.sv48; sv57 = p.sv57; extensions = p.extensions; pmp_entries = n; asid_bits = p.asid_bits }

-- a profile with a word more; of two that contradict each other the later counts
abbrev pub with_word : ProfileWord → Profile → Profile
with_word word.Sv39 p = record { sv39 = true; sv48 = p.sv48; sv57 = p.sv57; extensions = p.extensions; pmp_entries = p.pmp_entries; asid_bits = p.asid_bits }
with_word word.Sv48 p = record { sv39 = p.sv39; sv48 = true; sv57 = p.sv57; extensions = p.extensions; pmp_entries = p.pmp_entries; asid_bits = p.asid_bits }
with_word word.Sv57 p = record { sv39 = p.sv39; sv48 = p.sv48; sv57 = true; extensions = p.extensions; pmp_entries = p.pmp_entries; asid_bits = p.asid_bits }
with_word word.Svade p = with_scheme Svade p
with_word word.Svadu p = with_scheme Svadu p
with_word word.AdEither p = with_scheme Either p
with_word word.Svnapot p = with_extensions (record { svnapot = true; svpbmt = p.extensions.svpbmt; ad = p.extensions.ad }) p
with_word word.Svpbmt p = with_extensions (record { svnapot = p.extensions.svnapot; svpbmt = true; ad = p.extensions.ad }) p
with_word word.Pmp0 p = with_entries 0 p
with_word word.Pmp16 p = with_entries 16 p
with_word word.Pmp64 p = with_entries 64 p
with_word (word.Asid bits) p =
    record { sv39 = p.sv39; sv48 = p.sv48; sv57 = p.sv57; extensions = p.extensions; pmp_entries = p.pmp_entries; asid_bits = bits }

-- each mode, if there is none
abbrev pub with_modes : Profile → Profile
with_modes p = if p.sv39 || (p.sv48 || p.sv57) then p else with_word word.Sv39 (with_word word.Sv48 (with_word word.Sv57 p))

-- the text of a word
abbrev pub IsTextOf : ProfileWord → List ℕ → Type 0
IsTextOf word.Sv39 f = f ≡ codes "sv39"
IsTextOf word.Sv48 f = f ≡ codes "sv48"
IsTextOf word.Sv57 f = f ≡ codes "sv57"
IsTextOf word.Svade f = f ≡ codes "svade"
IsTextOf word.Svadu f = f ≡ codes "svadu"
IsTextOf word.AdEither f = f ≡ codes "ad-either"
IsTextOf word.Svnapot f = f ≡ codes "svnapot"
IsTextOf word.Svpbmt f = f ≡ codes "svpbmt"
IsTextOf word.Pmp0 f = f ≡ codes "pmp0"
IsTextOf word.Pmp16 f = f ≡ codes "pmp16"
IsTextOf word.Pmp64 f = f ≡ codes "pmp64"
IsTextOf (word.Asid bits) f = (digits : List ℕ) × (f ≡ codes "asid" ++ digits) × (number_of digits ≡ Some bits) × (bits ≤ 16)

-- what the words from field 1 on make, up to the field with a number
pub data IsProfileUntil (fs : List (List ℕ)) : ℕ → Profile → Type 0 where
  begins : IsProfileUntil fs 1 (plain_with false)
  goes_on : {n : ℕ} (p : Profile) (f : List ℕ) (w : ProfileWord) → IsProfileUntil fs n p → slice_get fs n ≡ Some f → IsTextOf w f
      → IsProfileUntil fs (suc n) (with_word w p)

-- the profile that the words of a line make
abbrev pub IsProfile : List (List ℕ) → Profile → Type 0
IsProfile fs p = (q : Profile) × IsProfileUntil fs (length fs) q × (p ≡ with_modes q)
