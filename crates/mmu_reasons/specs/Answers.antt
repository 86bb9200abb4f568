-- Which answer is that to a faulty line (`IsError`), or denies what a client tells too (`is_amiss`).
use Rattle.std.specs.Prelude.{⊤, Bool, false, true}
use Rattle.mmu_reasons.specs.declared.answers.Answer.{Answer}
use Rattle.mmu_reasons.specs.declared.answers.Answer.TheVariants as answer

abbrev pub IsError : Answer → Type 0
IsError (answer.Error column text) = ⊤
IsError answer.Ok = ⊥
IsError answer.Version = ⊥
IsError (answer.Satp word) = ⊥
IsError (answer.Locked l) = ⊥
IsError (answer.NoEffect va) = ⊥
IsError (answer.Outcomes found) = ⊥
IsError (answer.Permitted line) = ⊥
IsError (answer.NotPermitted reason permitted) = ⊥

-- an answer is that to a faulty line, or `NOT permitted`
abbrev pub is_amiss : Answer → Bool
is_amiss (answer.Error column text) = true
is_amiss (answer.NotPermitted reason permitted) = true
is_amiss answer.Ok = false
is_amiss answer.Version = false
is_amiss (answer.Satp word) = false
is_amiss (answer.Locked l) = false
is_amiss (answer.NoEffect va) = false
is_amiss (answer.Outcomes found) = false
is_amiss (answer.Permitted line) = false
