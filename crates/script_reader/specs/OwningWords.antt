-- `owns_values`: the words whose item takes over the values after the word, as bytes or segments; in scripts and in files for
-- threads alike.
use Rattle.std.specs.Prelude.{Bool, true, false}
use Rattle.script_language.specs.declared.script.Keyword.{Keyword}
use Rattle.script_language.specs.declared.script.Keyword.TheVariants as word

abbrev pub owns_values : Keyword → Bool
owns_values word.File = true
owns_values word.Image = true
owns_values word.Elf = true
owns_values word.CopyOut = true
owns_values _ = false
