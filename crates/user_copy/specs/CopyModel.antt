-- The model's kernel copy (copyin, copyout) that a call made: what the model takes from outside the process
-- (`copy_environment`), and that bytes, stop and process of the call are the model's (`IsModelCopy`).
use Rattle.std.specs.Prelude.{◌≡◌, ◌==◌, ◌&&◌, ◌+◌, ℕ, Bool, true, false, Option, None, Some, Result, Ok, Err, List, length, take}
use Rattle.address_space.specs.Agreement.{Body, IsSpace}
use Rattle.process_model.specs.Copies.{Copied, copied_in, copied_out}
use Rattle.process_model.specs.Environment.{Environment, Progress}
use Rattle.process_model.specs.Files.{File}
use Rattle.process_model.specs.Process.{Process}
use Rattle.sv39_entry.specs.Address.{page_of}
use Rattle.sv39_entry.specs.declared.rule.Rule.{Rule}
use Rattle.sv39_entry.specs.declared.rule.Rule.TheVariants.{NoFrame}
use Rattle.table_walk.specs.Tables.{Tables}
use Rattle.user_copy.specs.declared.short.Short.{Short}
use Rattle.user_copy.specs.declared.short.Stop.{Stop}
use Rattle.user_copy.specs.declared.short.Stop.TheVariants.{Denied, Unpromised}

-- what stopped a copy, None if nothing did
abbrev pub stop_in : {A : Type 0} → Result A Short → Option Stop
stop_in (Ok a) = None
stop_in (Err short) = Some short.rule

-- the rule that the model gives for it: none for a refused promise, of which the model knows nothing
abbrev pub rule_told : Option Stop → Option Rule
rule_told (Some (Denied rule)) = Some rule
rule_told _ = None

-- how many bytes the model is asked to copy: all n, or if a promise was refused those before it
abbrev pub asked : ℕ → ℕ → Option Stop → ℕ
asked n done (Some (Unpromised e)) = done
asked n done _ = n

abbrev pub is_dry_stop : Option Stop → Bool
is_dry_stop (Some (Denied NoFrame)) = true
is_dry_stop _ = false

-- what the model takes from outside a process alone: the files, and where frames run short. Every settled page counts as one
-- that another process has too: copy numbers mean nothing to a process alone
abbrev pub environment_with : List File → (ℕ → ℕ → Bool) → Environment
environment_with files dry = record { files = files; others_have = λ copy. true; is_dry = dry }

-- frames run short at the page of the stop, if that is for want of frames, and nowhere else
abbrev pub copy_environment : List File → Option Stop → ℕ → Environment
copy_environment files stop address = environment_with files (λ page need. is_dry_stop stop && page == page_of address)

abbrev pub copy_progress : Process → Progress
copy_progress p = record { process = p; fresh = 0; taken = 0 }

-- the model's copies that a call made from a process and to it, by the bytes that it copied and what stopped it: of n bytes, and
-- of the bytes that it was given

abbrev pub model_copy_in : List File → Process → ℕ → ℕ → List ℕ → Option Stop → Copied
model_copy_in files p address n bytes stop =
    copied_in (copy_environment files stop (address + length bytes)) (copy_progress p) address (asked n (length bytes) stop)

abbrev pub model_copy_out : List File → Process → ℕ → List ℕ → List ℕ → Option Stop → Copied
model_copy_out files p address given bytes stop =
    copied_out (copy_environment files stop (address + length bytes)) (copy_progress p) address (take (asked (length given) (length bytes) stop) given)

-- the model's copy c has these bytes and this stop, and the space x is the process that it leaves
pub record IsModelCopy (x : Body) (c : Copied) (bytes : List ℕ) (stop : Option Stop) : Type 0 where
  pub copied : c.bytes ≡ bytes
  pub stopped : c.stop ≡ rule_told stop
  pub leaves : (u : Tables) × IsSpace x u c.progress.process
