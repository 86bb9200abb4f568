-- What a call leaves as it was: where the tables of a space and its trapframe are, and its regions (`KeepsPlace`); the whole
-- space and the store, for a call that only reads (`OnlyReads`); regions, view and store, for one that was refused
-- (`IsUntouched`).
use Rattle.std.specs.Prelude.{◌≡◌}
use Rattle.frame_store.specs.View.{View}
use Rattle.address_space.specs.declared.space.Space.{Space}

-- the root and the trapframe stay on their frames, and the regions stay
pub record KeepsPlace {S : Type 0} (old new : Space S) : Type 0 where
  pub root : new.root ≡ old.root
  pub trapframe : new.trapframe ≡ old.trapframe
  pub layout : new.layout ≡ old.layout

-- so does what the seat holds and knows, by its view, and the store
pub record OnlyReads {S F : Type 0} (view_of : S → View) (old new : Space S) (before after : F) : Type 0 where
  pub root : new.root ≡ old.root
  pub trapframe : new.trapframe ≡ old.trapframe
  pub layout : new.layout ≡ old.layout
  pub view : view_of new.seat ≡ view_of old.seat
  pub same : after ≡ before

-- a call was refused: the regions stay, what the seat holds and knows, and the store
pub record IsUntouched {S F : Type 0} (view_of : S → View) (old new : Space S) (before after : F) : Type 0 where
  pub layout : new.layout ≡ old.layout
  pub view : view_of new.seat ≡ view_of old.seat
  pub store : after ≡ before
