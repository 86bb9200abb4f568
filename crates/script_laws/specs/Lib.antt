pub mod ScriptRuns
