-- When a line is refused as a mistake (`IfMistake`), and what that says of the fields after a word (`Refuses`).
use Rattle.std.specs.Prelude.{⊤, ℕ, List, Option}
use Rattle.sv39_entry.specs.declared.access.Access.{Access}
use Rattle.sv39_entry.specs.declared.access.Access.TheVariants as access
use Rattle.sv39_entry.specs.declared.address.Va.{Va}
use Rattle.walk_rules.specs.declared.pmp.PmpEntry.{PmpEntry}
use Rattle.walk_rules.specs.declared.status.Privilege.{Privilege}
use Rattle.walk_rules.specs.declared.status.Status.{Status}
use Rattle.mmu_requests.specs.Lines.{HasFields}
use Rattle.mmu_requests.specs.declared.fields.Refusal.{Refusal}
use Rattle.mmu_requests.specs.declared.fields.Refusal.TheVariants as refusal
use Rattle.mmu_requests.specs.declared.profile.Profile.{Profile}
use Rattle.mmu_requests.specs.declared.requests.Claim.{Claim}
use Rattle.mmu_requests.specs.declared.requests.Request.TheVariants as request
use Rattle.mmu_requests.specs.declared.line_word.Word.{Word}
use Rattle.mmu_requests.specs.declared.line_word.Word.TheVariants as word

-- something holds if the refusal is a mistake; nothing is said of it if the host is out of memory
abbrev pub IfMistake : Refusal → Type 0 → Type 0
IfMistake (refusal.Mistake mistake) P = P
IfMistake refusal.Memory P = ⊤

-- no request with this access has the fields
abbrev pub RefusesAccess : List (List ℕ) → Access → Type 0
RefusesAccess fs a = (va : Va) (width : ℕ) (m : Privilege) (claim : Option Claim) → HasFields fs (request.Access a va width m claim) → ⊥

-- no request that begins with a word has the fields
abbrev pub Refuses : List (List ℕ) → Word → Type 0
Refuses fs word.Version = HasFields fs request.Version → ⊥
Refuses fs word.Profile = (p : Profile) → HasFields fs (request.Profile p) → ⊥
Refuses fs word.Reset = HasFields fs request.Reset → ⊥
Refuses fs word.Status = (s : Status) → HasFields fs (request.Status s) → ⊥
Refuses fs word.Pmp = (number : ℕ) (e : PmpEntry) → HasFields fs (request.Pmp number e) → ⊥
Refuses fs word.Ram = (address end : ℕ) → HasFields fs (request.Ram address end) → ⊥
Refuses fs word.Mem = (address w : ℕ) → HasFields fs (request.Mem address w) → ⊥
Refuses fs word.Satp = (w : ℕ) → HasFields fs (request.Satp w) → ⊥
Refuses fs word.Fetch = RefusesAccess fs access.Fetch
Refuses fs word.Load = RefusesAccess fs access.Load
Refuses fs word.Store = RefusesAccess fs access.Store
Refuses fs word.Sfence = (va : Option Va) (asid : Option ℕ) → HasFields fs (request.Sfence va asid) → ⊥
