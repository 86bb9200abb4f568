use Rattle.std.proofs.Common.{map}
use Rattle.shared_frames.proofs.split_join.split.Given as goal

abbrev pub ghosts-split_as : goal.ghosts-split_as
ghosts-split_as a = record { frames = map (λ f. f.0) a.frames.now }
