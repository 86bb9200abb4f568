-- What many scripts begin with: images, and from `boot` on the lines up to where a row's own lines begin; and lines that
-- often stand together.
use Prim.Native.String.{String}
use Rattle.std.specs.Prelude.{List, [], ◌∷◌, ◌++◌}
use Rattle.script_laws.proofs.Playing.{Line, silent, ◌⇒◌}

-- a page of text at 0, then two pages of data, a guard page and a stack page
abbrev pub standard_image : Line
standard_image = silent "image 0x0:0x1000:rx:13050000 0x1000:0x1800:rw:-"

-- a page of data at 0x1000
abbrev pub one_page_image : Line
one_page_image = silent "image 0x1000:0x1000:rw:-"

-- these declarations, then this `boot`, and a process starts from the first image
abbrev pub started_from : List Line → String → List Line
started_from declared boot = declared ++ boot ⇒ "ok" ∷ "start 0" ⇒ "slot 0" ∷ []

-- .. and hart 0 switches to it, in the kernel
abbrev pub switched_from : List Line → String → List Line
switched_from declared boot = started_from declared boot ++ "switch 0 0" ⇒ "ok" ∷ []

-- .. and hart 0 runs it, in user mode
abbrev pub running_from : List Line → String → List Line
running_from declared boot = started_from declared boot ++ "on 0 0" ⇒ "ok" ∷ []

-- the same for the standard image alone

abbrev pub started : String → List Line
started boot = started_from (standard_image ∷ []) boot

abbrev pub switched : String → List Line
switched boot = switched_from (standard_image ∷ []) boot

abbrev pub running : String → List Line
running boot = running_from (standard_image ∷ []) boot

-- .. and hart 0 has run it and entered the kernel again
abbrev pub entered : String → List Line
entered boot = running boot ++ "enter 0" ⇒ "ok" ∷ []

-- an access of hart 0 that faults; after the service of the fault the same access is answered
abbrev pub faults_once : String → String → String → List Line
faults_once access fault answer = access ⇒ fault ∷ "fix 0" ⇒ "ready" ∷ access ⇒ answer ∷ []

-- an access of hart 0 that faults, and the service ends the process
abbrev pub ends : String → String → String → List Line
ends access fault ended = access ⇒ fault ∷ "fix 0" ⇒ ended ∷ []

-- a new process in the slot of the one that ended
abbrev pub started_again : List Line
started_again = "start 0" ⇒ "slot 0" ∷ "on 0 0" ⇒ "ok" ∷ []
