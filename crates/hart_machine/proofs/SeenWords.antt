-- Lemmas for what is seen of a machine: page tables that a seat knows are in the memory; and the harts of machine and world
-- are there together.
use Rattle.std.proofs.Common.{◌≡◌, ℕ, ◌+◌, ◌*◌, ◌<◌, Option, Some, None, true, false, List, refl, ap, sym, subst, ◌∙◌, arith, length}
use Rattle.std.specs.Prelude.{is_some, option_map, slice_get, slice_index}
use Rattle.std.proofs.lemmas.Option.{slice_get-get_or, slice_get-map}
use Rattle.frame_store.specs.Laws.{IsSeatOf}
use Rattle.frame_store.specs.Plain.{held_within, PlainState, PlainStateInvariant}
use Rattle.frame_store.specs.View.{View}
use Rattle.process_model.specs.Harts as model
use Rattle.process_model.specs.Process.{Process}
use Rattle.process_model.specs.World.{World, flat}
use Rattle.sv39_entry.specs.declared.scheme.Scheme.{Scheme}
use Rattle.table_walk.specs.Tables.{AreTables, HasTables, Tables, word_in}
use Rattle.hart_machine.specs.Harts.{hart_of}
use Rattle.hart_machine.specs.SeenTables.{word_at}
use Rattle.hart_machine.specs.Worlds.{IsSlotContent, IsWorldButBuffers}
use Rattle.hart_machine.specs.declared.hart.Hart.{Hart}
use Rattle.hart_machine.specs.declared.machine.Machine.{Machine}
use Rattle.hart_machine.specs.declared.slot_process.SlotProcess.{SlotProcess}

module _ (b : PlainState) (v : View) (fits : IsSeatOf PlainStateInvariant b v) (z : Scheme) (root : ℕ) (t : Tables) (has : HasTables z v root t) where
  pub tables_seen : AreTables z (word_at b.words) root t
  tables_seen = record {
    rooted = has.known.rooted;
    words = λ k f i at low.
        let rule = fits.1 in
        let agrees = (rule.agrees.0 f).known i (word_in t (k * 512 + i)) (has.known.words k f i at low) in
        let inside = (held_within b v fits.0 rule).1 f (has.own k f at).0 in
        let size = rule.sizes.0 in
        let sized = rule.sized in
        let there : f * 512 + i < length b.words = omega (arith, inside, size, sized, low) in
        let place : 512 * f + i ≡ f * 512 + i = omega arith in
        slice_get-get_or b.words (f * 512 + i) 0 there ∙ ap Some (sym (ap (slice_index b.words) place) ∙ agrees.1);
    apart = has.known.apart;
    below = has.known.below;
    hung = has.known.hung;
    leaf_hung = has.known.leaf_hung;
  }

-- a slot of the machine has a process if that of the world has
pub there_is : (o : Option (Option SlotProcess)) (q : Option (Option Process)) (t : Tables) → IsSlotContent o q t → is_some (flat q) ≡ true → (x : SlotProcess) × (o ≡ Some (Some x))
there_is None None t is some = absurd (cc)
there_is None (Some q) t is some = absurd is
there_is (Some None) None t is some = absurd is
there_is (Some None) (Some None) t is some = absurd (cc)
there_is (Some None) (Some (Some q)) t is some = absurd is
there_is (Some (Some x)) None t is some = absurd is
there_is (Some (Some x)) (Some None) t is some = absurd is
there_is (Some (Some x)) (Some (Some q)) t is some = (x, refl)

-- a hart of the machine is one of the world
pub hart_seen : (m : Machine) (w : World) → IsWorldButBuffers m w → (h : ℕ) (o : Option Hart) → slice_get m.harts.items h ≡ o → slice_get w.harts h ≡ option_map hart_of o
hart_seen m w is h o at = ap (λ (hs : List model.Hart). slice_get hs h) (sym is.harts) ∙ slice_get-map hart_of m.harts.items h ∙ ap (option_map hart_of) at
