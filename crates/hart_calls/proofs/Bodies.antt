-- Lemmas: two spaces with equal views of their seats (what a seat, an owner's capability at a frame store, holds and knows),
-- roots, trapframes and layouts (the regions) have one body (`same_body`) and agree with the same processes (`still_space`).
use Rattle.std.proofs.Common.{◌≡◌, sym, subst}
use Rattle.address_space.specs.Agreement.{Body, body_of, IsSpace}
use Rattle.address_space.specs.declared.space.Space.{Space}
use Rattle.frame_store.specs.View.{View}
use Rattle.process_model.specs.Process.{Process}
use Rattle.table_walk.specs.Tables.{Tables}

module _ {S : Type 0} (view : S → View) (x y : Space S) (seen : view y.seat ≡ view x.seat) (root : y.root ≡ x.root) (trapframe : y.trapframe ≡ x.trapframe) (layout : y.layout ≡ x.layout) where
  pub same_body : body_of view y ≡ body_of view x
  same_body = λ i. record { view = seen i; root = (root i).0; trapframe = (trapframe i).0; layout = layout i }

  pub still_space : (t : Tables) (p : Process) → IsSpace (body_of view x) t p → IsSpace (body_of view y) t p
  still_space t p space = subst (λ (b : Body). IsSpace b t p) (sym same_body) space
