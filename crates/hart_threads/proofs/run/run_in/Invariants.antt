-- What `run_in` picks: the `StartOutcomes` of its starts, by what they have made.
use Rattle.run_roster.specs.StartEffects.{any_full, slots_of}
use Rattle.hart_threads.proofs.run.run_in.Given as goal

abbrev pub ghosts-run_made : goal.ghosts-run_made
ghosts-run_made g a = record { slots = a.slots; taken = slots_of a.all.now.items; full = any_full a.all.now.items; free = a.starting.now.free }
