-- An outcome that a client may mean is the one that it means with one of the three memory types (`is_meant`).
use Rattle.std.proofs.Common.{◌≡◌, ◌⊎◌, ℕ, Option, None, Some, Bool, false, IsTrue, ◌↔◌, ◌∙◌, subst, inl, inr, sym}
use Rattle.std.proofs.lemmas.Bool.{false≢true}
use Rattle.access_history.specs.declared.outcome.Outcome.{Outcome}
use Rattle.access_history.specs.declared.outcome.Outcome.TheVariants as outcome
use Rattle.access_history.specs.declared.outcome.Update.{Update}
use Rattle.mmu_requests.specs.declared.requests.Claim.{Claim}
use Rattle.mmu_requests.specs.declared.requests.End.{End}
use Rattle.mmu_requests.specs.declared.requests.End.TheVariants as ends
use Rattle.walk_rules.specs.declared.memory_type.MemoryType.{MemoryType}
use Rattle.walk_rules.specs.declared.memory_type.MemoryType.TheVariants as types
use Rattle.mmu_lines.specs.Claims.{Tells, TellsGrant, TellsRefusal, meant}

abbrev pub IsMeant : Claim → End → Outcome → Type 0
IsMeant c e o = (meant types.Pma c e ≡ o) ⊎ ((meant types.Nc c e ≡ o) ⊎ (meant types.Io c e ≡ o))

grant : (c : Claim) (e : End) (pa : ℕ) (t : MemoryType) (u : Option Update) → TellsGrant e pa t → c.update ≡ u → IsMeant c e (outcome.Granted pa t u)
grant c (ends.Granted at None) pa types.Pma u is same = inl (cc)
grant c (ends.Granted at None) pa types.Nc u is same = inr (inl (cc))
grant c (ends.Granted at None) pa types.Io u is same = inr (inr (cc))
grant c (ends.Granted at (Some s)) pa t u is same =
    let place = is.0 in
    let type = is.1 in
    inl (cc)
grant c (ends.Refused cause) pa t u is same = absurd is

refusal : (c : Claim) (e : End) (code : ℕ) (u : Option Update) → TellsRefusal e code → c.update ≡ u → IsMeant c e (outcome.Refused code u)
refusal c (ends.Granted at t) code u is same = absurd is
refusal c (ends.Refused cause) code u is same = inl (cc)

pub is_meant : (c : Claim) (o : Outcome) → Tells c o → IsMeant c c.end o
is_meant c (outcome.Granted pa t u) is = grant c c.end pa t u is.0 is.1
is_meant c (outcome.Refused code u) is = refusal c c.end code u is.0 is.1

pub denied : (P : Outcome → Type 0) (b : Bool) (o p : Outcome) → (IsTrue b ↔ P p) → b ≡ false → p ≡ o → P o → ⊥
denied P b o p is denies same holds = false≢true (sym denies ∙ is.1 (subst P (sym same) holds))
