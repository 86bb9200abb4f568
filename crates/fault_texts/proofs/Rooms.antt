-- Lemma: which list an item takes room in is said by the word of its line.
use Rattle.std.proofs.Common.{◌≡◌, Bool, true, false, List, Result, Ok, refl, ap, sym, ◌∙◌}
use Rattle.script_language.specs.ReadLines.{in_limits}
use Rattle.script_language.specs.Script.{Draft, has_room, item_of}
use Rattle.script_language.specs.declared.script.Cause.{Cause}
use Rattle.script_language.specs.declared.script.FieldValue.{FieldValue}
use Rattle.script_language.specs.declared.script.Item.{Item}
use Rattle.script_language.specs.declared.script.Keyword.{Keyword}
use Rattle.script_language.specs.declared.script.Keyword.TheVariants as word
use Rattle.fault_texts.specs.Limits.{has_room_for}

made : (d : Draft) (room : Bool) (x i : Item) → has_room d x ≡ room → ◌≡◌ {A = Result Item Cause} (Ok x) (Ok i) → has_room d i ≡ room
made d room x i h e = let same : x ≡ i = cc in ap (has_room d) (sym same) ∙ h

limited : (d : Draft) (room b : Bool) (x i : Item) → has_room d x ≡ room → in_limits b x ≡ Ok i → has_room d i ≡ room
limited d room true x i h e = made d room x i h e
limited d room false x i h e = absurd cc

pub room_for : (d : Draft) (w : Keyword) (vs : List FieldValue) (i : Item) → item_of d w vs ≡ Ok i → has_room d i ≡ has_room_for d w
room_for d word.File vs i e = limited d _ _ _ i refl e
room_for d word.Image vs i e = made d _ _ i refl e
room_for d word.Elf vs i e = made d _ _ i refl e
room_for d word.Boot vs i e = limited d _ _ _ i refl e
room_for d word.Start vs i e = limited d _ _ _ i refl e
room_for d word.Switch vs i e = made d _ _ i refl e
room_for d word.Trap vs i e = made d _ _ i refl e
room_for d word.Next vs i e = made d _ _ i refl e
room_for d word.Fill vs i e = made d _ _ i refl e
room_for d word.Evict vs i e = made d _ _ i refl e
room_for d word.Fetch vs i e = made d _ _ i refl e
room_for d word.Load vs i e = limited d _ _ _ i refl e
room_for d word.Store vs i e = limited d _ _ _ i refl e
room_for d word.Tramp vs i e = made d _ _ i refl e
room_for d word.Serve vs i e = made d _ _ i refl e
room_for d word.Fork vs i e = made d _ _ i refl e
room_for d word.Exec vs i e = limited d _ _ _ i refl e
room_for d word.Sbrk vs i e = made d _ _ i refl e
room_for d word.Mmap vs i e = made d _ _ i refl e
room_for d word.Munmap vs i e = made d _ _ i refl e
room_for d word.CopyIn vs i e = limited d _ _ _ i refl e
room_for d word.CopyOut vs i e = limited d _ _ _ i refl e
room_for d word.Exit vs i e = limited d _ _ _ i refl e
room_for d word.Show vs i e = limited d _ _ _ i refl e
room_for d word.Audit vs i e = made d _ _ i refl e
room_for d word.On vs i e = made d _ _ i refl e
room_for d word.Enter vs i e = made d _ _ i refl e
room_for d word.Leave vs i e = made d _ _ i refl e
room_for d word.Fix vs i e = made d _ _ i refl e
room_for d word.Pool vs i e = absurd cc
room_for d word.List vs i e = absurd cc
