use Rattle.script_laws.proofs.ScriptLines.{tells_run}
use Rattle.script_laws.proofs.script_text_is_a_run.Goals as goal

pub returns : goal.returns
returns c bytes s e = tells_run s
