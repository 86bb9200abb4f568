use Rattle.script_language.specs.Lines.{fields_of}
use Rattle.mmu_requests.specs.Profiles.{IsProfileUntil}
use Rattle.mmu_requests.proofs.fields.Fields.profile_words.Given as goal

-- the words so far make the profile so far
abbrev pub invariant-words : goal.invariant-words
invariant-words l = IsProfileUntil (fields_of l.self.line.now) l.n l.profile
