use Rattle.std.proofs.Common.{sym, subst}
use Rattle.script_language.specs.declared.declarations.OwnedImage.{OwnedImage}
use Rattle.std.proofs.Common.{List}
use Rattle.script_reader.specs.Playable.{IsDeclared}
use Rattle.line_player.proofs.player.LinePlayer.command.Goals as goal

pub put_answer-requires-clause-declared : goal.put_answer-requires-clause-declared
put_answer-requires-clause-declared c =
    ((c.args.self.now.draft).files, subst (λ (images : List OwnedImage). IsDeclared (c.args.self.now.draft).files images c.args.command.now) (sym c.images.ensures) c.requires.declared)
