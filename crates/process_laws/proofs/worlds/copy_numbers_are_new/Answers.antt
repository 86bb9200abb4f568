-- Each step keeps that numbers are below the counter and stand once in a process.
use Rattle.process_laws.proofs.EveryChange.{always_holds}
use Rattle.process_laws.proofs.Fresh.{IsFresh, fresh_is_kept}
use Rattle.process_laws.proofs.worlds.copy_numbers_are_new.Goals as goal

pub returns : goal.returns
returns c config files steps =
    let all = always_holds (λ n p. IsFresh n p.settled) config files steps (fresh_is_kept config.scheme) in
    record {
      below = λ s page p x e. (all.each s p e).below page x;
      once = λ s m n p x y e. (all.each s p e).once m n x y;
    }
