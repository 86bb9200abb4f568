-- `owns_none`: a word whose item takes over no values, told from the four whose item does.
use Rattle.std.proofs.Common.{◌≡◌, false, refl}
use Rattle.script_language.specs.declared.script.Keyword.{Keyword}
use Rattle.script_language.specs.declared.script.Keyword.TheVariants as word
use Rattle.script_reader.specs.OwningWords.{owns_values}

pub owns_none : (w : Keyword) → (w ≡ word.File → ⊥) → (w ≡ word.Image → ⊥) → (w ≡ word.Elf → ⊥) → (w ≡ word.CopyOut → ⊥) → owns_values w ≡ false
owns_none word.File file image elf copy = absurd (file refl)
owns_none word.Image file image elf copy = absurd (image refl)
owns_none word.Elf file image elf copy = absurd (elf refl)
owns_none word.CopyOut file image elf copy = absurd (copy refl)
owns_none word.Boot file image elf copy = refl
owns_none word.Start file image elf copy = refl
owns_none word.Switch file image elf copy = refl
owns_none word.Trap file image elf copy = refl
owns_none word.Next file image elf copy = refl
owns_none word.Fill file image elf copy = refl
owns_none word.Evict file image elf copy = refl
owns_none word.Fetch file image elf copy = refl
owns_none word.Load file image elf copy = refl
owns_none word.Store file image elf copy = refl
owns_none word.Tramp file image elf copy = refl
owns_none word.Serve file image elf copy = refl
owns_none word.Fork file image elf copy = refl
owns_none word.Exec file image elf copy = refl
owns_none word.Sbrk file image elf copy = refl
owns_none word.Mmap file image elf copy = refl
owns_none word.Munmap file image elf copy = refl
owns_none word.CopyIn file image elf copy = refl
owns_none word.Exit file image elf copy = refl
owns_none word.Show file image elf copy = refl
owns_none word.Audit file image elf copy = refl
owns_none word.On file image elf copy = refl
owns_none word.Enter file image elf copy = refl
owns_none word.Leave file image elf copy = refl
owns_none word.Fix file image elf copy = refl
owns_none word.Pool file image elf copy = refl
owns_none word.List file image elf copy = refl
