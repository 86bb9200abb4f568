-- Laws that the trait `Files` asks, for files in host memory (`Cabinet`): page reads and writes in sequence are one list
-- (`goes_on`), and only a promise of one page or more is refused; here none is (`never_refused`).
use Rattle.std.proofs.Common.{◌≡◌, ◌<◌, ℕ, List, ◌++◌, ap, sym, ◌∙◌}
use Rattle.file_cabinet.specs.declared.promise.PromiseError.{PromiseError}
use Rattle.process_model.specs.Files.{File}
use Rattle.process_model.specs.PageMoves.{files_after, files_after-append, PageMove}

pub goes_on : (x y z : List File) (ms ns : List PageMove) → y ≡ files_after x ms → z ≡ files_after y ns → z ≡ files_after x (ms ++ ns)
goes_on x y z ms ns first second = second ∙ ap (λ fs. files_after fs ns) first ∙ sym (files_after-append x ms ns)

pub never_refused : (x : List File) (pages : ℕ) (e : PromiseError) → ⊥ → 0 < pages
never_refused x pages e never = absurd never
