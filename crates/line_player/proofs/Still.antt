-- Lemmas for callers of a player: at first and after each line it has played some lines (`begun`, `still`), and its machine is in the world
-- of the lines played (`in_world`).
use Rattle.std.proofs.Common.{◌≡◌, refl, subst, ℕ, List, Option, None, Some, Result, Ok, Err}
use Rattle.std.specs.Prelude.{IfOk, OnErr}
use Rattle.std.proofs.lemmas.Option.{same_Some}
use Rattle.hart_machine.specs.BufferEntries.{IsInWorld}
use Rattle.hart_machine.specs.declared.machine.Machine.{Machine}
use Rattle.process_model.specs.World.{World}
use Rattle.line_player.specs.Answers.{Answers, HasPlayed, IsMachine}
use Rattle.line_player.specs.PlayedLines.{next_answer, nothing_played, Played}
use Rattle.line_player.specs.declared.player.LinePlayer.{LinePlayer}
use Rattle.line_player.specs.declared.player.LineReply.{LineReply}

module _ (old new : LinePlayer) (line : List ℕ) where
  pub still : {E : Type 0} (r : Result LineReply E) → IfOk r (λ reply. (s : Played) → HasPlayed old s → Answers new reply (next_answer s line)) → OnErr r ((s : Played) → HasPlayed old s → HasPlayed new s)
      → (s : Played) × HasPlayed old s → (s : Played) × HasPlayed new s
  still (Ok reply) answered kept played = ((next_answer played.0 line).after, (answered played.0 played.1).after)
  still (Err e) answered kept played = (played.0, kept played.0 played.1)

pub begun : {E : Type 0} (r : Result LinePlayer E) → IfOk r (λ x. HasPlayed x nothing_played) → IfOk r (λ x. (s : Played) × HasPlayed x s)
begun (Ok x) has = (nothing_played, has)
begun (Err e) has = tt

pub in_world : (o : Option Machine) (w : Option World) (m : Machine) → o ≡ Some m → IsMachine o w → (v : World) × (w ≡ Some v) × IsInWorld m v
in_world None w m e is = absurd (cc)
in_world (Some n) None m e is = absurd is
in_world (Some n) (Some v) m e is = (v, refl, subst (λ k. IsInWorld k v) (same_Some n m e) is)
