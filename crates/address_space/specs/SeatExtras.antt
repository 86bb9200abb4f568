-- Laws: a process in memory stays one, and its space one in a call, when the seat has extra references or credits. If the
-- seat's frames and credits are the same, the space stays one between calls.
use Rattle.std.proofs.Common.{◌≡◌, ℕ, ◌+◌, IsTrue, ap, sym, subst, ◌∙◌, inl, inr, arith}
use Rattle.std.specs.FinMap as finite
use Rattle.frame_store.specs.Holds.{hold_of-frames}
use Rattle.frame_store.specs.View.{Hold, hold_of, IsHeld, references, View}
use Rattle.process_model.specs.Process.{Process}
use Rattle.table_walk.specs.Tables.{leaf_node, Tables}
use Rattle.address_space.specs.Agreement.{body, NamesFrame, no_extra, IsSpace, IsInMemory}
use Rattle.address_space.specs.SpacesInCalls.{IsSpaceInCall}
use Rattle.address_space.specs.Layouts.{Layout}

-- the view w has `more f` references of each frame f beyond those of v, and of each frame that v holds the same known words
-- and sole mark
module _ (v w : View) (more : ℕ → ℕ) (counts : (f : ℕ) → references w f ≡ references v f + more f)
    (same : (f : ℕ) → IsHeld v f → ((hold_of w f).words ≡ (hold_of v f).words)
    × ((hold_of w f).sole ≡ (hold_of v f).sole)) (root saved : ℕ) (t : Tables) (p : Process)
    (s : IsInMemory v root saved no_extra t p) where
  named_held : (f k : ℕ) → NamesFrame t f k → IsHeld v f
  named_held f k names = let one = s.owns.named f k names in omega (arith, one)

  pub stands_beside : IsInMemory w root saved more t p
  stands_beside = record {
    tables = record {
      known = record {
        rooted = s.tables.known.rooted;
        words = λ k f i at low. ap (λ m. finite.get m i) (same f (named_held f k (inl at))).0 ∙ s.tables.known.words k f i at low;
        apart = s.tables.known.apart;
        below = s.tables.known.below;
        hung = s.tables.known.hung;
        leaf_hung = s.tables.known.leaf_hung;
      };
      own = λ k f at. (
        (let was = (s.tables.own k f at).0 in let here = counts f in omega (arith, was, here)),
        subst IsTrue (sym (same f (named_held f k (inl at))).1) (s.tables.own k f at).1,
      );
    };
    owns = record {
      once = s.owns.once;
      named = λ f k names. let was = s.owns.named f k names in let here = counts f in omega (arith, was, here);
      bare = λ f off. let was = s.owns.bare f off in let here = counts f in omega (arith, was, here);
      writable = λ f n x at names writes. subst IsTrue (sym (same f (named_held f n (inr (x, at, names)))).1) (s.owns.writable f n x at names writes);
    };
    shows = record {
      on_trampoline = s.shows.on_trampoline;
      on_trapframe = s.shows.on_trapframe;
      settled = λ n a there. let shown = s.shows.settled n a there in record {
        region = shown.region;
        frame = shown.frame;
        leaf = shown.leaf;
        in_region = shown.in_region;
        mapped = shown.mapped;
        made = shown.made;
        bytes = record {
          length = shown.bytes.length;
          small = shown.bytes.small;
          words = λ i low. ap (λ m.
              finite.get m i) (same shown.frame (named_held shown.frame (leaf_node n) (inr (shown.leaf, shown.mapped, shown.made.names)))).0
              ∙ shown.bytes.words i low;
        };
      };
      only = s.shows.only;
      low = s.shows.low;
    };
    tabled = s.tabled;
    tabled_low = s.tabled_low;
  }

-- a space with such extra references, as when it begins to fork
pub forking_beside : (v w : View) (more : ℕ → ℕ) → ((f : ℕ) → references w f ≡ references v f + more f)
    → ((f : ℕ) → IsHeld v f → ((hold_of w f).words ≡ (hold_of v f).words) × ((hold_of w f).sole ≡ (hold_of v f).sole))
    → (root saved : ℕ) (l : Layout) (t : Tables) (p : Process)
    → IsSpace (body v root saved l) t p → IsSpaceInCall (body w root saved l) t p more
forking_beside v w more counts same root saved l t p space =
    record { sound = space.sound; lays = space.lays; stands = stands_beside v w more counts same root saved t p space.stands }

-- the seat holds the same frames
module _ (v w : View) (frames : w.frames ≡ v.frames) (root saved : ℕ) (l : Layout) (t : Tables) (p : Process) (space : IsSpace (body v root saved l) t p) where
  -- with any credits the space is one in a call
  pub standing_still : IsSpaceInCall (body w root saved l) t p no_extra
  standing_still = forking_beside v w no_extra (λ f. let here = ap (λ (h : Hold). h.references) (hold_of-frames w v frames f) in omega (arith, here))
      (λ f held. let here = hold_of-frames w v frames f in (ap (λ (h : Hold). h.words) here, ap (λ (h : Hold). h.sole) here)) root saved l t p space

  -- and with the same credits it is one between calls
  pub space_still : w.credits ≡ v.credits → IsSpace (body w root saved l) t p
  space_still credits = record { sound = standing_still.sound; lays = standing_still.lays; stands = standing_still.stands; credits = credits ∙ space.credits }
