-- `status_of`: the exit status of the program for each fault: 2 for a wrong command line, 1 for an error of the player.
use Rattle.std.specs.Prelude.{ℕ}
use Rattle.xv6vm_words.specs.declared.fault.Fault.{Fault}
use Rattle.xv6vm_words.specs.declared.fault.Fault.TheVariants.{Usage, Play}

abbrev pub status_of : Fault → ℕ
status_of Usage = 2
status_of (Play e) = 1
