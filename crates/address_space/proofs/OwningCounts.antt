-- Lemmas for `Space::own` (copy-on-write): a reference count is read. At 1 the page keeps its frame (`own_kept`), else it
-- moves to another one (`own_parted`), or the reservation of that one is refused (`refused_dry`). Also whether this fits the
-- number of free frames, and how many are free then.
use Rattle.std.proofs.Common.{◌≡◌, ℕ, ◌+◌, ◌-◌, ◌≤◌, ◌==◌, not, ◌&&◌, ◌||◌, cond, if◌then◌else◌, Option, Some, Bool, true, false, refl, ap, sym, subst, ◌∙◌, inl, inr, arith, ◌∷◌, [], ◌≢◌}
use Rattle.std.proofs.lemmas.Bool.{cases_eq, eq-eqb, ne_eqb}
use Rattle.std.proofs.lemmas.Option.{same_Some}
use Rattle.std.specs.FinMap.{get}
use Rattle.std.specs.Prelude.{option_and_then, option_map}
use Rattle.frame_bytes.specs.Contents.{HasBytes}
use Rattle.frame_store.specs.Holds.{hold_of-frames, hold_of-with_hold_other, hold_of-with_hold_same}
use Rattle.frame_store.specs.Laws.{IsDry}
use Rattle.frame_store.specs.Tallies.{spent_none}
use Rattle.frame_store.specs.View as views
use Rattle.frame_store.specs.View.{AllKnown, counted, Hold, View, hold_of, IsSole, looked, references, with_credits, with_word}
use Rattle.process_model.specs.Frames.{take_over_need}
use Rattle.process_model.proofs.OrderLaws.{leafy_at}
use Rattle.process_model.specs.Process.{Page, Process, regions}
use Rattle.process_model.specs.Regions.{is_shared_kind, makes_leaf, Region, region_at}
use Rattle.process_model.specs.Residence.{unmarked, with_page}
use Rattle.sv39_entry.specs.Address.{vpn}
use Rattle.sv39_entry.specs.Frame.{frame_at}
use Rattle.sv39_entry.specs.Word.{has_flag, ppn}
use Rattle.sv39_entry.specs.declared.frame.FrameNo.{FrameNo}
use Rattle.table_walk.specs.Tables.{HasTables, Tables, last_table, leaf_node, with_leaf}
use Rattle.table_walk.specs.Keys.{insert_other, insert_same}
use Rattle.address_space.specs.Agreement.{body, IsSpace, is_dirty_page, IsPageLeaf, no_extra, IsInMemory}
use Rattle.address_space.specs.Layouts.{Layout}
use Rattle.address_space.specs.ProcessLeaves.{bytes_known}
use Rattle.address_space.specs.CopyOnWrite.{CanSeparate, Separates}
use Rattle.address_space.specs.Steps.{CanOwn, HasOwnPage, SpendsCredits, TakesFrames, RunsDry}
use Rattle.address_space.proofs.Sound.{sound_page}
use Rattle.address_space.proofs.Owned.{no_table, Recounts, recounted_stands}
use Rattle.address_space.proofs.Owning.{owns_same, turned_sole, turned_stands, turned_words}
use Rattle.address_space.proofs.OwningSteps.{parting_page, words_spend}
use Rattle.address_space.proofs.Writing.{HasPage, lays_with, page_found}

-- how many frames a page takes by its count

need_none : (n : ℕ) → n ≡ 1 → take_over_need (not (n == 1)) ≡ 0
need_none n is = ap (λ b. take_over_need (not b)) (eq-eqb n 1 is)

need_one : (n : ℕ) → (n ≡ 1 → ⊥) → take_over_need (not (n == 1)) ≡ 1
need_one n ne = ap (λ b. take_over_need (not b)) (ne_eqb n 1 ne)

-- the page keeps its frame

pub exact_kept : (n free : ℕ) → n ≡ 1 → (true ≡ true → take_over_need (not (n == 1)) ≤ free) × (take_over_need (not (n == 1)) ≤ free → true ≡ true)
exact_kept n free one = let none = need_none n one in (λ _. omega (arith, none), λ _. refl)

pub free_kept : (n free after : ℕ) → n ≡ 1 → after ≡ free → after ≡ free - take_over_need (not (n == 1))
free_kept n free after one same = let none = need_none n one in omega (arith, none, same)

-- it gets another one

pub exact_parted : (n free : ℕ) → (n ≡ 1 → ⊥) → 1 ≤ free → (true ≡ true → take_over_need (not (n == 1)) ≤ free) × (take_over_need (not (n == 1)) ≤ free → true ≡ true)
exact_parted n free ne enough = let one = need_one n ne in (λ _. omega (arith, one, enough), λ _. refl)

pub free_parted : (n m free reserved after : ℕ) → (n ≡ 1 → ⊥) → m ≡ n → reserved ≡ free - 1 → after ≡ reserved + cond (m == 1) 1 0
    → after ≡ free - take_over_need (not (n == 1))
free_parted n m free reserved after ne same less is =
    let one = need_one n ne in
    let none : ◌≡◌ {A = ℕ} (cond (m == 1) 1 0) 0 = ap (λ b. cond b 1 0) (ne_eqb m 1 (λ e. ne (sym same ∙ e))) in
    omega (arith, one, none, less, is)

-- there is none

pub exact_refused : (b : Bool) (n free : ℕ) → b ≡ false → (n ≡ 1 → ⊥) → (1 ≤ free → ⊥)
    → (b ≡ true → take_over_need (not (n == 1)) ≤ free) × (take_over_need (not (n == 1)) ≤ free → b ≡ true)
exact_refused b n free denied ne few =
    let one = need_one n ne in
    (λ given. absurd (let both = sym denied ∙ given in cc), λ enough. absurd (few (omega (arith, one, enough))))

pub free_refused : (b : Bool) (free after n : ℕ) → b ≡ false → after ≡ free → after ≡ free - (if b then n else 0)
free_refused b free after n denied same = rw denied (omega (arith, same))

-- a view with the same references and words, and no sole frame less
pub record IsLike (v w : View) : Type 0 where
  pub counts : (f : ℕ) → references w f ≡ references v f
  pub soles : (f : ℕ) → IsSole v f → IsSole w f
  pub words : (f : ℕ) → (hold_of w f).words ≡ (hold_of v f).words

like_both : (u v w : View) → IsLike u v → IsLike v w → IsLike u w
like_both u v w first second = record {
  counts = λ f. second.counts f ∙ first.counts f;
  soles = λ f sole. second.soles f (first.soles f sole);
  words = λ f. second.words f ∙ first.words f;
}

like_frames : (v w : View) → w.frames ≡ v.frames → IsLike v w
like_frames v w same = record {
  counts = λ f. ap (λ (h : Hold). h.references) (hold_of-frames w v same f);
  soles = λ f sole. ap (λ (h : Hold). h.sole) (hold_of-frames w v same f) ∙ sole;
  words = λ f. ap (λ (h : Hold). h.words) (hold_of-frames w v same f);
}

module _ (f c : ℕ) (v : View) where
  looked_here : hold_of (looked f c v) f ≡ record (hold_of v f) { sole = cond (c == 1) true (hold_of v f).sole }
  looked_here = hold_of-with_hold_same f (record (hold_of v f) { sole = cond (c == 1) true (hold_of v f).sole }) (record v { tallies = counted (c ∷ []) v.tallies })

  looked_other : (g : ℕ) → (g ≡ f → ⊥) → hold_of (looked f c v) g ≡ hold_of v g
  looked_other g apart =
      let u : View = record v { tallies = counted (c ∷ []) v.tallies } in
      hold_of-with_hold_other f (record (hold_of v f) { sole = cond (c == 1) true (hold_of v f).sole }) u g apart ∙ hold_of-frames u v refl g

  kept_sole : (b x : Bool) → x ≡ true → cond b true x ≡ true
  kept_sole true x is = refl
  kept_sole false x is = is

  looked_like : IsLike v (looked f c v)
  looked_like = record {
    counts = λ g. elim (cases_eq g f) [
      | inl same ↦ rw same (ap (λ (h : Hold). h.references) looked_here)
      | inr apart ↦ ap (λ (h : Hold). h.references) (looked_other g apart)
    ];
    soles = λ g sole. elim (cases_eq g f) [
      | inl same ↦ rw same (ap (λ (h : Hold). h.sole) looked_here ∙ kept_sole (c == 1) _ (rw same at sole))
      | inr apart ↦ ap (λ (h : Hold). h.sole) (looked_other g apart) ∙ sole
    ];
    words = λ g. elim (cases_eq g f) [
      | inl same ↦ rw same (ap (λ (h : Hold). h.words) looked_here)
      | inr apart ↦ ap (λ (h : Hold). h.words) (looked_other g apart)
    ];
  }

  looked_sole : c ≡ 1 → IsSole (looked f c v) f
  looked_sole one = ap (λ (h : Hold). h.sole) looked_here ∙ ap (λ b. cond b true (hold_of v f).sole) (eq-eqb c 1 one)

module _ (v w : View) (like : IsLike v w) where
  like_bytes : (f : ℕ) (bytes : _) → HasBytes v f bytes → HasBytes w f bytes
  like_bytes f bytes has = record { length = has.length; small = has.small; words = λ i low. ap (λ m. get m i) (like.words f) ∙ has.words i low }

  like_stands : (root trapframe : ℕ) (extra : ℕ → ℕ) (t : Tables) (p : Process) → IsInMemory v root trapframe extra t p → IsInMemory w root trapframe extra t p
  like_stands root trapframe extra t p s =
      let recounts : Recounts v w t extra extra = record {
        counts = λ f. ap (λ n. n + extra f) (like.counts f);
        soles = λ f k names. like.soles f;
        words = λ f k names. like.words f;
      } in
      recounted_stands v w t extra extra recounts root trapframe p s

-- what is counted

-- one count was read
record HasLooked (v w : View) (c : ℕ) : Type 0 where
  pub tallies : w.tallies ≡ counted (c ∷ []) v.tallies

looked_tallies : (f c : ℕ) (v a : View) → a ≡ looked f c v → HasLooked v a c
looked_tallies f c v a look = record {
  tallies = ap (λ (x : View). x.tallies) look;
}

reserved_tallies : (v a b : View) (c : ℕ) → HasLooked v a c → b ≡ with_credits 1 a → HasLooked v b c
reserved_tallies v a b c first reserve = record {
  tallies = ap (λ (x : View). x.tallies) reserve ∙ first.tallies;
}

takes_after : (v b w : View) (n c : ℕ) → HasLooked v b c → SpendsCredits b w n → TakesFrames v w n (c ∷ [])
takes_after v b w n c first spends = record {
  tallies = spends.tallies ∙ ap (views.spent n) first.tallies;
}

nothing_spent : (v : View) → SpendsCredits v v 0
nothing_spent v = record { credits = omega arith; tallies = spent_none v.tallies }

-- the frame that is looked at
pub look_at : (v b a : View) (f x c : ℕ) → b ≡ v → a ≡ looked x c b → x ≡ f → a ≡ looked f c v
look_at v b a f x c same look is = look ∙ ap (looked x c) same ∙ ap (λ y. looked y c v) is

-- a reservation is refused
pub refused_agrees : (v a w : View) (f c root trapframe : ℕ) (l : Layout) (t : Tables) (p : Process) → a ≡ looked f c v → IsDry 1 a w
    → IsSpace (body v root trapframe l) t p → IsSpace (body w root trapframe l) t p
refused_agrees v a w f c root trapframe l t p look dry agrees = record {
  sound = agrees.sound;
  lays = agrees.lays;
  stands = like_stands v w (like_both v a w (subst (IsLike v) (sym look) (looked_like f c v)) (like_frames a w dry.frames)) root trapframe no_extra t p agrees.stands;
  credits = dry.credits ∙ ap (λ (x : View). x.credits) look ∙ agrees.credits;
}

pub refused_dry : (v a w : View) (f c : ℕ) → a ≡ looked f c v → IsDry 1 a w → v.credits ≡ 0 → (c ≡ 1 → ⊥) → (n : ℕ) × (n ≢ 1) × RunsDry v w 1 (n ∷ [])
refused_dry v a w f c look dry none more = (
  c,
  more,
  record {
    claims = dry.claims ∙ ap (λ (x : View). x.tallies.claims) look;
    zeros = let old = ap (λ (x : View). x.tallies.zeros) look in omega (arith, dry.zeros, old);
    short = let old = ap (λ (x : View). x.credits) look in omega (arith, dry.short, old, none);
    looks = dry.looks ∙ ap (λ (x : View). x.tallies.looks) look;
  },
)

-- of a page with a copy-on-write mark

kept_dirty : (a w : Bool) → ((a && w) && w) ≡ (a && w)
kept_dirty false w = refl
kept_dirty true false = refl
kept_dirty true true = refl

module _ {v : View} {root trapframe : ℕ} {l : Layout} {t : Tables} {p : Process} {page : ℕ} {s : Page} {f : ℕ} (can : CanOwn (body v root trapframe l) t p page s f) where
  -- its frame
  here : HasPage v t p page s f
  here = parting_page v root trapframe t p page s can.region f (is_dirty_page can.region s) (record {
    stands = can.agrees.stands;
    settled = can.settled;
    in_region = can.in_region;
    leafy = leafy_at p can.agrees.sound.order page can.region can.in_region;
    on = can.on;
    kept = kept_dirty (s.dirty || not (is_shared_kind can.region.kind)) can.region.writes;
  })

  regions_here : here.region ≡ can.region
  regions_here = same_Some here.region can.region (sym here.in_region ∙ can.in_region)

  pub own_some : (o : Option (FrameNo × Bool)) → o ≡ option_and_then (λ w. option_map (λ f. (f, has_flag w 128)) (frame_at (ppn w))) (get t.leaves (leaf_node page))
      → o ≡ Some (record { 0 = f }, is_dirty_page can.region s)
  own_some o is = page_found v t p page s f here o is ∙ ap (λ r. Some (record { 0 = f }, is_dirty_page r s)) regions_here

  module _ (o : Option (FrameNo × Bool)) (x : FrameNo × Bool) (is : o ≡ option_and_then (λ w. option_map (λ f. (f, has_flag w 128)) (frame_at (ppn w))) (get t.leaves (leaf_node page)))
      (found : o ≡ Some x) where
    pub own_frame : (x.0).0 ≡ f
    own_frame = ap (λ (y : FrameNo × Bool). (y.0).0) (same_Some x _ (sym found ∙ own_some o is))

    own_dirty : x.1 ≡ is_dirty_page can.region s
    own_dirty = ap (λ (y : FrameNo × Bool). y.1) (same_Some x _ (sym found ∙ own_some o is))

    -- a leaf that is made with D as it is has it by the page
    pub own_stays_dirty : (r : Region) → region_at (regions p) page ≡ Some r → (x.1 && r.writes) ≡ is_dirty_page r s
    own_stays_dirty r in_region =
        let same = same_Some r can.region (sym in_region ∙ can.in_region) in
        subst (λ q. (x.1 && q.writes) ≡ is_dirty_page q s) (sym same)
        (ap (λ b. b && can.region.writes) own_dirty ∙ kept_dirty (s.dirty || not (is_shared_kind can.region.kind)) can.region.writes)

  pub own_one : references v f ≡ 1
  own_one = can.agrees.stands.owns.named f (leaf_node page) (inr (can.on.0, can.on.1, can.on.2))

  module _ (a : View) (c : ℕ) (look : a ≡ looked f c v) (r : Region) (in_region : region_at (regions p) page ≡ Some r) where
    like : IsLike v a
    like = subst (IsLike v) (sym look) (looked_like f c v)

    own_leafy : makes_leaf r ≡ true
    own_leafy = leafy_at p can.agrees.sound.order page r in_region

    pub own_stands : IsInMemory a root trapframe no_extra t p
    own_stands = like_stands v a like root trapframe no_extra t p can.agrees.stands

    pub own_known : AllKnown a f
    own_known = bytes_known a f s.bytes (like_bytes v a like f s.bytes here.bytes)

    pub own_sole : c ≡ 1 → IsSole a f
    own_sole one = ap (λ x. (hold_of x f).sole) look ∙ looked_sole f c v one

    -- the seat holds it alone
    module _ (one : c ≡ 1) (w : View) (leaf : ℕ) (made : IsPageLeaf leaf f r false (is_dirty_page r s)) (tables : HasTables p.scheme w root (with_leaf t (leaf_node page) leaf))
        (word : (x : ℕ) → get t.tables (last_table p.scheme page) ≡ Some x → w ≡ with_word x (vpn page 0) leaf a) where
      sole : IsSole a f
      sole = own_sole one

      bare : (k : ℕ) → get t.tables k ≡ Some f → ⊥
      bare = no_table a t root no_extra own_stands.tables own_stands.owns (leaf_node page) can.on.0 f can.on.1 can.on.2

      kept : (fresh : ℕ) (shared : Bool) → IsInMemory w root trapframe no_extra (with_leaf t (leaf_node page) leaf) (with_page p page (unmarked fresh shared s))
      kept fresh shared = turned_stands a w root trapframe no_extra t p page s r f leaf own_stands can.settled in_region tables word (unmarked fresh shared s) made no_extra bare
          (like_bytes v a like f s.bytes here.bytes)
          (owns_same a root t own_stands.tables page can.on.0 leaf f f can.on.1 can.on.2 made.names refl (λ _. sole) no_extra own_stands.owns)

      spent : SpendsCredits a w 0
      spent =
          let changes = turned_words a w root trapframe no_extra t p page s r f leaf own_stands can.settled in_region tables word in
          words_spend changes.0 0 a a w changes.1 (nothing_spent a)

      pub own_kept : HasOwnPage v (body w root trapframe l) t (with_leaf t (leaf_node page) leaf) p page s f f c
      own_kept = record {
        agrees = λ fresh. record {
          sound = sound_page p page s _ can.settled can.agrees.sound;
          lays = lays_with l p page _ can.agrees.lays;
          stands = kept fresh (not (c == 1));
          credits = let none = ap (λ (x : View). x.credits) look in omega (arith, spent.credits, none, can.agrees.credits);
        };
        on = (leaf, insert_same t.leaves (leaf_node page) leaf (leaf_node page) refl, made.names);
        same = λ _. refl;
        fresh = λ apart. absurd (apart one);
        sole = turned_sole a w root trapframe no_extra t p page s r f leaf own_stands can.settled in_region tables word f sole;
        others = λ k ne. insert_other t.leaves (leaf_node page) leaf k ne;
        takes = subst (λ n. TakesFrames v w n (c ∷ [])) (sym (need_none c one)) (takes_after v a w 0 c (looked_tallies f c v a look) spent);
      }

    -- others have it too
    module _ (ne : c ≡ 1 → ⊥) (b : View) (reserve : b ≡ with_credits 1 a) where
      reserved : IsLike v b
      reserved = like_both v a b like (like_frames a b (ap (λ (x : View). x.frames) reserve))

      credits : b.credits ≡ 1
      credits =
          let more = ap (λ (x : View). x.credits) reserve in
          let none = ap (λ (x : View). x.credits) look in
          omega (arith, more, none, can.agrees.credits)

      pub own_part : (dirty : Bool) → (dirty && r.writes) ≡ is_dirty_page r s → CanSeparate b root trapframe t p page s r f dirty
      own_part dirty kept = record {
        stands = like_stands v b reserved root trapframe no_extra t p can.agrees.stands;
        settled = can.settled;
        in_region = in_region;
        leafy = own_leafy;
        on = can.on;
        kept = kept;
      }

      pub own_parted : (w : View) (u : Tables) (g : ℕ) → Separates b w root trapframe t u p page s g → HasOwnPage v (body w root trapframe l) t u p page s f g c
      own_parted w u g parts = record {
        agrees = λ fresh. record {
          sound = sound_page p page s _ can.settled can.agrees.sound;
          lays = lays_with l p page _ can.agrees.lays;
          stands = parts.stands fresh (not (c == 1));
          credits = omega (arith, parts.spends.credits, credits);
        };
        on = parts.on;
        same = λ one. absurd (ne one);
        fresh = λ apart. sym (reserved.counts g) ∙ parts.fresh;
        sole = parts.sole;
        others = parts.others;
        takes = subst (λ n. TakesFrames v w n (c ∷ [])) (sym (need_one c ne))
            (takes_after v b w 1 c (reserved_tallies v a b c (looked_tallies f c v a look) reserve) parts.spends);
      }
