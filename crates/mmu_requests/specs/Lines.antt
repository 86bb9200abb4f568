-- Which request the fields of a line make (`IsRequest`), and which fields make none (`IsNothing`, `MakesNone`).
use Rattle.std.specs.Prelude.{◌≡◌, ◌⊎◌, ⊤, ℕ, Bool, true, false, ◌+◌, ◌/◌, ◌<◌, ◌≤◌, ◌%◌, ◌^◌, codes, Option, None, Some, List, ◌++◌, length, slice_get, [], ◌∷◌, bytes_eq, if◌then◌else◌}
use Rattle.access_history.specs.declared.outcome.Update.{Update}
use Rattle.script_language.specs.Numbers.{number_of}
use Rattle.sv39_entry.specs.Satp.{mode}
use Rattle.sv39_entry.specs.declared.access.Access.{Access}
use Rattle.sv39_entry.specs.declared.access.Access.TheVariants as access
use Rattle.sv39_entry.specs.declared.address.Va.{Va}
use Rattle.walk_rules.specs.declared.memory_type.MemoryType.{MemoryType}
use Rattle.walk_rules.specs.declared.memory_type.MemoryType.TheVariants as types
use Rattle.walk_rules.specs.declared.status.Privilege.{Privilege}
use Rattle.walk_rules.specs.declared.status.Privilege.TheVariants as privilege
use Rattle.mmu_requests.specs.Profiles.{IsProfile}
use Rattle.mmu_requests.specs.declared.requests.Claim.{Claim}
use Rattle.mmu_requests.specs.declared.requests.End.{End}
use Rattle.mmu_requests.specs.declared.requests.End.TheVariants as ends
use Rattle.mmu_requests.specs.declared.requests.Request.{Request}
use Rattle.mmu_requests.specs.declared.requests.Request.TheVariants as request
use Rattle.mmu_requests.specs.declared.line_word.Word.{Word}
use Rattle.mmu_requests.specs.declared.line_word.Word.TheVariants as word

abbrev pub word_text : Word → List ℕ
word_text word.Version = codes "version"
word_text word.Profile = codes "profile"
word_text word.Reset = codes "reset"
word_text word.Status = codes "status"
word_text word.Pmp = codes "pmp"
word_text word.Ram = codes "ram"
word_text word.Mem = codes "mem"
word_text word.Satp = codes "satp"
word_text word.Fetch = codes "fetch"
word_text word.Load = codes "load"
word_text word.Store = codes "store"
word_text word.Sfence = codes "sfence"

-- the first of these words that has a text
abbrev pub word_among : List Word → List ℕ → Option Word
word_among [] text = None
word_among (w ∷ words) text = if bytes_eq (word_text w) text then Some w else word_among words text

-- the fewest fields that follow a word, and the most
abbrev pub counts : Word → ℕ × ℕ
counts word.Version = (0, 0)
counts word.Profile = (0, 1000)
counts word.Reset = (0, 0)
counts word.Status = (4, 4)
counts word.Pmp = (3, 3)
counts word.Ram = (2, 2)
counts word.Mem = (2, 2)
counts word.Satp = (1, 1)
counts word.Fetch = (3, 12)
counts word.Load = (3, 12)
counts word.Store = (3, 12)
counts word.Sfence = (0, 2)

abbrev pub access_word : Access → Word
access_word access.Fetch = word.Fetch
access_word access.Load = word.Load
access_word access.Store = word.Store

-- the word that a request begins with
abbrev pub word_of : Request → Word
word_of request.Version = word.Version
word_of (request.Profile p) = word.Profile
word_of request.Reset = word.Reset
word_of (request.Status s) = word.Status
word_of (request.Pmp number entry) = word.Pmp
word_of (request.Ram address end) = word.Ram
word_of (request.Mem address w) = word.Mem
word_of (request.Satp w) = word.Satp
word_of (request.Access a va width m claim) = access_word a
word_of (request.Sfence va asid) = word.Sfence

abbrev pub privilege_text : Privilege → List ℕ
privilege_text privilege.User = codes "U"
privilege_text privilege.Supervisor = codes "S"
privilege_text privilege.Machine = codes "M"

abbrev pub bit_text : Bool → List ℕ
bit_text false = codes "0"
bit_text true = codes "1"

-- a line begins with a word, and has as many fields after it as may follow
abbrev pub Begins : List (List ℕ) → Word → Type 0
Begins fs w = (slice_get fs 0 ≡ Some (word_text w)) × ((counts w).0 + 1 ≤ length fs) × (length fs ≤ (counts w).1 + 1)

-- a field is a text
abbrev pub TextAt : List (List ℕ) → ℕ → List ℕ → Type 0
TextAt fs n text = slice_get fs n ≡ Some text

-- a field is a number
abbrev pub NumberAt : List (List ℕ) → ℕ → ℕ → Type 0
NumberAt fs n v = (f : List ℕ) × (slice_get fs n ≡ Some f) × (number_of f ≡ Some v)

-- a field is a number; without one it is not there, or a dash
abbrev pub PerhapsAt : List (List ℕ) → ℕ → Option ℕ → Type 0
PerhapsAt fs n (Some v) = NumberAt fs n v
PerhapsAt fs n None = (slice_get fs n ≡ None) ⊎ (slice_get fs n ≡ Some (codes "-"))

-- a field is the physical address of a word: a multiple of 8, of 56 bits (the standard, 4.4.1 and 4.5.1)
abbrev pub PlaceAt : List (List ℕ) → ℕ → ℕ → Type 0
PlaceAt fs n address = NumberAt fs n address × (address % 8 ≡ 0) × (address < 2 ^ 56)

-- a width of an access: instructions have 2 or 4 bytes
abbrev pub IsWidthOf : Access → ℕ → Type 0
IsWidthOf access.Fetch w = (w ≡ 2) ⊎ (w ≡ 4)
IsWidthOf access.Load w = (w ≡ 1) ⊎ ((w ≡ 2) ⊎ ((w ≡ 4) ⊎ (w ≡ 8)))
IsWidthOf access.Store w = (w ≡ 1) ⊎ ((w ≡ 2) ⊎ ((w ≡ 4) ⊎ (w ≡ 8)))

-- an ASID has 16 bits (the standard, 4.1.11)
abbrev pub IsAsid : Option ℕ → Type 0
IsAsid None = ⊤
IsAsid (Some asid) = asid < 2 ^ 16

abbrev pub address_of : Option Va → Option ℕ
address_of None = None
address_of (Some va) = Some va.0

-- ---- what a client tells of an access: `=> pa PA [pma, nc or io] [set PLACE WORD] [by WORD]`, or `=> fault N [set PLACE WORD] [by WORD]`.
-- Each part is read from a field on, up to the field with the last number

abbrev pub IsTypeAt : List (List ℕ) → ℕ → Option MemoryType → ℕ → Type 0
IsTypeAt fs n None after = (TextAt fs n (codes "pma") → ⊥) × (TextAt fs n (codes "nc") → ⊥) × (TextAt fs n (codes "io") → ⊥) × (after ≡ n)
IsTypeAt fs n (Some types.Pma) after = TextAt fs n (codes "pma") × (after ≡ n + 1)
IsTypeAt fs n (Some types.Nc) after = TextAt fs n (codes "nc") × (after ≡ n + 1)
IsTypeAt fs n (Some types.Io) after = TextAt fs n (codes "io") × (after ≡ n + 1)

abbrev pub IsEndAt : List (List ℕ) → End → ℕ → Type 0
IsEndAt fs (ends.Granted pa t) after = TextAt fs 5 (codes "pa") × NumberAt fs 6 pa × IsTypeAt fs 7 t after
IsEndAt fs (ends.Refused cause) after = TextAt fs 5 (codes "fault") × NumberAt fs 6 cause × (after ≡ 7)

abbrev pub update_place : Update → ℕ → Type 0
update_place u address = (u.table ≡ address / 4096) × (u.index ≡ address % 4096 / 8)

abbrev pub IsUpdateAt : List (List ℕ) → ℕ → Option Update → ℕ → Type 0
IsUpdateAt fs n None after = (TextAt fs n (codes "set") → ⊥) × (after ≡ n)
IsUpdateAt fs n (Some u) after =
    TextAt fs n (codes "set") × ((address : ℕ) × PlaceAt fs (n + 1) address × update_place u address) × NumberAt fs (n + 2) u.word × (after ≡ n + 3)

abbrev pub IsByAt : List (List ℕ) → ℕ → Option ℕ → ℕ → Type 0
IsByAt fs n None after = (TextAt fs n (codes "by") → ⊥) × (after ≡ n)
IsByAt fs n (Some w) after = TextAt fs n (codes "by") × NumberAt fs (n + 1) w × (after ≡ n + 2)

-- no field follows the mode of an access, or the outcome that the client tells
abbrev pub IsClaim : List (List ℕ) → Option Claim → Type 0
IsClaim fs None = slice_get fs 4 ≡ None
IsClaim fs (Some c) =
    TextAt fs 4 (codes "=>")
    × ((l m n : ℕ) × IsEndAt fs c.end l × IsUpdateAt fs l c.update m × IsByAt fs m c.by n × (slice_get fs n ≡ None))

-- ---- the fields after the word are those of a request

abbrev pub HasFields : List (List ℕ) → Request → Type 0
HasFields fs request.Version = ⊤
HasFields fs (request.Profile p) = IsProfile fs p
HasFields fs request.Reset = ⊤
HasFields fs (request.Status s) =
    TextAt fs 1 (bit_text s.sum) × TextAt fs 2 (bit_text s.mxr) × TextAt fs 3 (bit_text s.mprv) × TextAt fs 4 (privilege_text s.mpp)
HasFields fs (request.Pmp number e) =
    NumberAt fs 1 number × (number < 64) × NumberAt fs 2 e.config × (e.config < 256) × NumberAt fs 3 e.address
HasFields fs (request.Ram address end) = PlaceAt fs 1 address × ((n : ℕ) × NumberAt fs 2 n × (n % 8 ≡ 0) × (address + n ≡ end) × (end ≤ 2 ^ 56))
HasFields fs (request.Mem address w) = PlaceAt fs 1 address × NumberAt fs 2 w
HasFields fs (request.Satp w) = NumberAt fs 1 w × (mode w ≡ 0 → w ≡ 0)
HasFields fs (request.Access a va width m claim) =
    NumberAt fs 1 va.0 × (NumberAt fs 2 width × IsWidthOf a width) × TextAt fs 3 (privilege_text m) × IsClaim fs claim
HasFields fs (request.Sfence va asid) = PerhapsAt fs 1 (address_of va) × PerhapsAt fs 2 asid × IsAsid asid

-- the request that a line with these fields makes
abbrev pub IsRequest : List (List ℕ) → Request → Type 0
IsRequest fs r = Begins fs (word_of r) × HasFields fs r

-- a line without a field, or a comment: its first field begins with a number sign
abbrev pub IsNothing : List (List ℕ) → Type 0
IsNothing fs = (slice_get fs 0 ≡ None) ⊎ ((f rest : List ℕ) × (slice_get fs 0 ≡ Some f) × (f ≡ codes "#" ++ rest))

-- a line with these fields makes no request
abbrev pub MakesNone : List (List ℕ) → Type 0
MakesNone fs = (r : Request) → IsRequest fs r → ⊥
