-- Lemmas: if root, trapframe and layout (the regions) of a space are unchanged, it differs at most in its seat's view (what
-- the seat holds and knows).
use Rattle.std.proofs.Common.{◌≡◌, sym}
use Rattle.frame_store.specs.View.{View}
use Rattle.address_space.specs.Agreement.{body, body_of}
use Rattle.address_space.specs.declared.space.Space.{Space}

-- a space of which only the seat changed
pub body_on : {S : Type 0} (view : S → View) (x y : Space S) → x.root ≡ y.root → x.trapframe ≡ y.trapframe → x.layout ≡ y.layout → body (view x.seat) y.root.0 y.trapframe.0 y.layout ≡ body_of view x
body_on view x y root trapframe layout = λ i. record { view = view x.seat; root = ((sym root) i).0; trapframe = ((sym trapframe) i).0; layout = (sym layout) i }

-- the same of two spaces, where the views are told
pub body_between : {S : Type 0} (v w : View) (x y : Space S) → v ≡ w → x.root ≡ y.root → x.trapframe ≡ y.trapframe → x.layout ≡ y.layout → body v x.root.0 x.trapframe.0 x.layout ≡ body w y.root.0 y.trapframe.0 y.layout
body_between v w x y view root trapframe layout = λ i. record { view = view i; root = (root i).0; trapframe = (trapframe i).0; layout = layout i }
