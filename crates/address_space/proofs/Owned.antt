-- Lemmas on the frames that page tables name (`OwnsFrames`): the seat holds them, and a claim or a release changes one frame
-- alone. `Recounts`: references come or go beside those of the space, and the process stays in memory.
use Rattle.std.proofs.Common.{◌≡◌, ℕ, ◌+◌, Some, refl, ap, sym, subst, ◌∙◌, inl, inr, arith, cond, ◌-◌, Bool, if◌then◌else◌}
use Rattle.std.proofs.lemmas.Bool.{cases_eq, eq-eqb, ne_eqb}
use Rattle.std.specs.FinMap.{get}
use Rattle.frame_bytes.specs.Contents.{HasBytes}
use Rattle.frame_store.specs.Holds.{hold_of-with_hold_same, hold_of-with_hold_other, hold_of-without_hold_same, hold_of-without_hold_other, hold_of-frames}
use Rattle.frame_store.specs.View.{spent, Hold, View, claimed, hold_of, IsHeld, IsSole, references, released, sole_hold, with_hold, without_hold}
use Rattle.process_model.specs.Process.{Process}
use Rattle.sv39_entry.specs.Frame.{ppn_of}
use Rattle.sv39_entry.specs.Word.{ppn}
use Rattle.sv39_entry.specs.declared.scheme.Scheme.{Scheme}
use Rattle.table_walk.specs.Tables.{HasTables, Tables, leaf_node}
use Rattle.address_space.specs.Agreement.{NamesFrame, no_extra, one_extra, OwnsFrames, ShowsPages, IsInMemory}

-- numbers

-- frames with one page number are one
pub one_ppn : (f g : ℕ) → ppn_of f ≡ ppn_of g → f ≡ g
one_ppn f g same = omega (arith, same)

-- holds

pub same_references : (v w : View) (f : ℕ) → hold_of w f ≡ hold_of v f → references w f ≡ references v f
same_references v w f same = ap (λ (h : Hold). h.references) same

pub same_sole : (v w : View) (f : ℕ) → hold_of w f ≡ hold_of v f → IsSole v f → IsSole w f
same_sole v w f same sole = ap (λ (h : Hold). h.sole) same ∙ sole

pub same_bytes : (v w : View) (f : ℕ) (bytes : _) → hold_of w f ≡ hold_of v f → HasBytes v f bytes → HasBytes w f bytes
same_bytes v w f bytes same has = record {
  length = has.length;
  small = has.small;
  words = λ i low. ap (λ (h : Hold). get h.words i) same ∙ has.words i low;
}

-- a frame with a reference is none without
pub apart_by : (v : View) (f g : ℕ) → references v f ≡ 0 → IsHeld v g → g ≡ f → ⊥
apart_by v f g none held same = let no : references v g ≡ 0 = ap (references v) same ∙ none in omega (arith, no, held)

-- a claimed frame, and all others
pub claimed_here : (f : ℕ) (v : View) → hold_of (claimed f v) f ≡ sole_hold
claimed_here f v = hold_of-with_hold_same f sole_hold (record v { credits = v.credits - 1; tallies = spent 1 v.tallies })

pub claimed_other : (f g : ℕ) (v : View) → (g ≡ f → ⊥) → hold_of (claimed f v) g ≡ hold_of v g
claimed_other f g v apart =
    let u : View = record v { credits = v.credits - 1; tallies = spent 1 v.tallies } in
    hold_of-with_hold_other f sole_hold u g apart ∙ hold_of-frames u v refl g

-- the only reference of a frame is let go
pub released_once : (f : ℕ) (v : View) → references v f ≡ 1 → released f v ≡ without_hold f v
released_once f v one = ap (λ b. cond b (without_hold f v) (with_hold f (record (hold_of v f) { references = references v f - 1 }) v)) (eq-eqb (references v f) 1 one)

pub released_here : (f : ℕ) (v : View) → references v f ≡ 1 → references (released f v) f ≡ 0
released_here f v one = ap (λ w. references w f) (released_once f v one) ∙ ap (λ (h : Hold). h.references) (hold_of-without_hold_same f v)

pub released_other : (f g : ℕ) (v : View) → references v f ≡ 1 → (g ≡ f → ⊥) → hold_of (released f v) g ≡ hold_of v g
released_other f g v one apart = ap (λ w. hold_of w g) (released_once f v one) ∙ hold_of-without_hold_other f v g apart

-- references beside those of a space

pub one_here : (f g : ℕ) → g ≡ f → one_extra f g ≡ 1
one_here f g same = ap (λ (b : Bool). if b then 1 else 0) (eq-eqb g f same)

pub one_else : (f g : ℕ) → (g ≡ f → ⊥) → one_extra f g ≡ 0
one_else f g apart = ap (λ (b : Bool). if b then 1 else 0) (ne_eqb g f apart)

-- of two frames
abbrev pub both_of : ℕ → ℕ → ℕ → ℕ
both_of f g x = one_extra f x + one_extra g x

-- what is owned

module _ (v : View) (t : Tables) where
  pub named_held : (extra : ℕ → ℕ) → OwnsFrames v t extra → (f k : ℕ) → NamesFrame t f k → IsHeld v f
  named_held extra o f k names = omega (arith, o.named f k names)

  -- the frame of a leaf is no table
  pub no_table : {z : Scheme} (root : ℕ) (extra : ℕ → ℕ) → HasTables z v root t → OwnsFrames v t extra → (n w f : ℕ) → get t.leaves n ≡ Some w → ppn w ≡ ppn_of f
      → (k : ℕ) → get t.tables k ≡ Some f → ⊥
  no_table root extra h o n w f leaf names k table =
      let same = o.once f k n (inl table) (inr (w, leaf, names)) in
      let low = (h.known.below k f table).1 in
      let high = (h.known.leaf_hung n w leaf).1 in
      omega (arith, same, low, high)

  -- a frame that is not held has no name
  pub unnamed : (extra : ℕ → ℕ) → OwnsFrames v t extra → (f : ℕ) → references v f ≡ 0 → (k : ℕ) → NamesFrame t f k → ⊥
  unnamed extra o f none k names = let one = o.named f k names in omega (arith, one, none)

-- The frames that tables name are to the seat what they were, and references that came or went are beside those of the space.
pub record Recounts (v w : View) (t : Tables) (before after : ℕ → ℕ) : Type 0 where
  pub counts : (f : ℕ) → references w f + before f ≡ references v f + after f
  pub soles : (f k : ℕ) → NamesFrame t f k → IsSole v f → IsSole w f
  pub words : (f k : ℕ) → NamesFrame t f k → (hold_of w f).words ≡ (hold_of v f).words

module _ (v w : View) (t : Tables) where
  -- one frame changes, which has no name
  pub beside : (before after : ℕ → ℕ) (g : ℕ) → ((f : ℕ) → (f ≡ g → ⊥) → (hold_of w f ≡ hold_of v f) × (after f ≡ before f)) → ((k : ℕ) → NamesFrame t g k → ⊥)
      → references w g + before g ≡ references v g + after g → Recounts v w t before after
  beside before after g others free here =
      let apart = λ (f k : ℕ) (names : NamesFrame t f k) (same : f ≡ g). free k (subst (λ x. NamesFrame t x k) same names) in
      record {
        counts = λ f. elim (cases_eq f g) [
          | inl same ↦ rw same here
          | inr ne ↦
              let hold = others f ne in
              let count = same_references v w f hold.0 in
              omega (arith, count, hold.1)
        ];
        soles = λ f k names sole. same_sole v w f (others f (apart f k names)).0 sole;
        words = λ f k names. ap (λ (h : Hold). h.words) (others f (apart f k names)).0;
      }

  -- a frame is held that was not, and one goes
  pub spare_comes : (g : ℕ) → references v g ≡ 0 → references w g ≡ 1 → ((f : ℕ) → (f ≡ g → ⊥) → hold_of w f ≡ hold_of v f) → ((k : ℕ) → NamesFrame t g k → ⊥)
      → Recounts v w t no_extra (one_extra g)
  spare_comes g none one others free =
      beside no_extra (one_extra g) g (λ f ne. (others f ne, one_else g f ne)) free (let here = one_here g g refl in omega (arith, none, one, here))

  pub spare_goes : (g : ℕ) → references v g ≡ 1 → references w g ≡ 0 → ((f : ℕ) → (f ≡ g → ⊥) → hold_of w f ≡ hold_of v f) → ((k : ℕ) → NamesFrame t g k → ⊥)
      → Recounts v w t (one_extra g) no_extra
  spare_goes g one none others free =
      beside (one_extra g) no_extra g (λ f ne. (others f ne, sym (one_else g f ne))) free (let here = one_here g g refl in omega (arith, none, one, here))

  module _ (before after : ℕ → ℕ) (r : Recounts v w t before after) where
    pub recounted_owns : OwnsFrames v t before → OwnsFrames w t after
    recounted_owns o = record {
      once = o.once;
      named = λ f k names. let was = o.named f k names in let is = r.counts f in omega (arith, was, is);
      bare = λ f none. let was = o.bare f none in let is = r.counts f in omega (arith, was, is);
      writable = λ f n x leaf names writes. r.soles f n (inr (x, leaf, names)) (o.writable f n x leaf names writes);
    }

    recounted_tables : {z : Scheme} (root : ℕ) → OwnsFrames v t before → HasTables z v root t → HasTables z w root t
    recounted_tables root o has = record {
      known = record {
        rooted = has.known.rooted;
        words = λ k f i at low. ap (λ m. get m i) (r.words f k (inl at)) ∙ has.known.words k f i at low;
        apart = has.known.apart;
        below = has.known.below;
        hung = has.known.hung;
        leaf_hung = has.known.leaf_hung;
      };
      own = λ k f at. (named_held w t after (recounted_owns o) f k (inl at), r.soles f k (inl at) (has.own k f at).1);
    }

    recounted_shows : (trapframe : ℕ) (p : Process) → ShowsPages v trapframe t p → ShowsPages w trapframe t p
    recounted_shows trapframe p s = record {
      on_trampoline = s.on_trampoline;
      on_trapframe = s.on_trapframe;
      settled = λ n page at.
          let shown = s.settled n page at in
          record {
            region = shown.region;
            frame = shown.frame;
            leaf = shown.leaf;
            in_region = shown.in_region;
            mapped = shown.mapped;
            made = shown.made;
            bytes = record {
              length = shown.bytes.length;
              small = shown.bytes.small;
              words = λ i low. ap (λ m. get m i) (r.words shown.frame (leaf_node n) (inr (shown.leaf, shown.mapped, shown.made.names))) ∙ shown.bytes.words i low;
            };
          };
      only = s.only;
      low = s.low;
    }

    pub recounted_stands : (root trapframe : ℕ) (p : Process) → IsInMemory v root trapframe before t p → IsInMemory w root trapframe after t p
    recounted_stands root trapframe p s = record {
      tables = recounted_tables root s.owns s.tables;
      owns = recounted_owns s.owns;
      shows = recounted_shows trapframe p s.shows;
      tabled = s.tabled;
      tabled_low = s.tabled_low;
    }

  pub same_owns : (extra : ℕ → ℕ) → ((f : ℕ) → references w f ≡ references v f) → ((f : ℕ) → IsSole v f → IsSole w f) → OwnsFrames v t extra → OwnsFrames w t extra
  same_owns extra counts soles o = record {
    once = o.once;
    named = λ f k names. counts f ∙ o.named f k names;
    bare = λ f none. counts f ∙ o.bare f none;
    writable = λ f n x leaf names writes. soles f (o.writable f n x leaf names writes);
  }

-- all holds are the same
pub same_stands : (v w : View) (root trapframe : ℕ) (extra : ℕ → ℕ) (t : Tables) (p : Process) → ((f : ℕ) → hold_of w f ≡ hold_of v f)
    → IsInMemory v root trapframe extra t p → IsInMemory w root trapframe extra t p
same_stands v w root trapframe extra t p same s =
    let recounts : Recounts v w t extra extra = record {
      counts = λ f. ap (λ (h : Hold). h.references + extra f) (same f);
      soles = λ f k names. same_sole v w f (same f);
      words = λ f k names. ap (λ (h : Hold). h.words) (same f);
    } in
    recounted_stands v w t extra extra recounts root trapframe p s

-- frame 0 is held
pub anchored : (v : View) (root trapframe : ℕ) (extra : ℕ → ℕ) (t : Tables) (p : Process) → IsInMemory v root trapframe extra t p → IsHeld v 0
anchored v root trapframe extra t p s =
    let leaf = s.shows.on_trampoline in
    named_held v t extra s.owns 0 _ (inr (leaf.0, leaf.1, leaf.2.names))
