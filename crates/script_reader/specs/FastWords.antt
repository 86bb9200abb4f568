-- `letters`: how each of the sixteen words of the reader's fast path (`FastWord`) is written in a script or a file for
-- threads.
use Rattle.std.specs.Prelude.{ℕ, List, codes}
use Rattle.script_reader.specs.declared.fast_path.FastWord.{FastWord}
use Rattle.script_reader.specs.declared.fast_path.FastWord.TheVariants as quick

abbrev pub letters : FastWord → List ℕ
letters quick.Load = codes "load"
letters quick.Store = codes "store"
letters quick.Switch = codes "switch"
letters quick.Fetch = codes "fetch"
letters quick.Fix = codes "fix"
letters quick.Enter = codes "enter"
letters quick.Exit = codes "exit"
letters quick.Leave = codes "leave"
letters quick.On = codes "on"
letters quick.Fill = codes "fill"
letters quick.Next = codes "next"
letters quick.Trap = codes "trap"
letters quick.Fork = codes "fork"
letters quick.CopyIn = codes "copyin"
letters quick.Mmap = codes "mmap"
letters quick.Munmap = codes "munmap"
