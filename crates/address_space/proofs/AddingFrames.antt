-- Lemmas on the frames of a space when a page gets one: a frame is claimed and filled (`Comes`); then a leaf is written over
-- it, with the tables that were missing. After both, the seat owns the named frames (`leaf_owns`).
use Rattle.std.proofs.Common.{◌≡◌, ℕ, ◌+◌, ◌<◌, ◌⊎◌, None, Some, true, refl, ap, sym, subst, ◌∙◌, inl, inr, arith}
use Rattle.std.proofs.lemmas.Bool.{cases_eq}
use Rattle.std.proofs.lemmas.Option.{same_Some}
use Rattle.std.specs.FinMap.{get}
use Rattle.frame_bytes.specs.Contents.{ChangesWords}
use Rattle.frame_store.specs.Holds.{hold_of-with_hold_other, hold_of-with_hold_same}
use Rattle.frame_store.specs.View.{Hold, View, claimed, hold_of, IsHeld, IsSole, references}
use Rattle.sv39_entry.specs.Address.{has}
use Rattle.sv39_entry.specs.Frame.{ppn_of}
use Rattle.sv39_entry.specs.Word.{ppn}
use Rattle.table_walk.specs.Tables.{ChangesTables, HasTables, Tables, IsGrown, leaf_node, with_leaf}
use Rattle.table_walk.specs.Keys.{insert_other, insert_same}
use Rattle.table_walk.specs.SameFrames.{same_tables}
use Rattle.sv39_entry.specs.Schemes.{top_level}
use Rattle.sv39_entry.specs.declared.scheme.Scheme.{Scheme}
use Rattle.address_space.specs.Agreement.{NamesFrame, no_extra, one_extra, OwnsFrames}
use Rattle.address_space.specs.Steps.{SpendsCredits}
use Rattle.address_space.proofs.Owned.{claimed_here, claimed_other, no_table, one_else, one_ppn, one_here, recounted_owns, same_references, same_sole, spare_comes, unnamed}

-- a frame comes to a seat that did not hold it, and nothing else changes
pub record Comes (v w : View) (f : ℕ) : Type 0 where
  pub fresh : references v f ≡ 0
  pub one : references w f ≡ 1
  pub sole : IsSole w f
  pub others : (g : ℕ) → (g ≡ f → ⊥) → hold_of w g ≡ hold_of v g
  pub spends : SpendsCredits v w 1

-- it is claimed, and filled
pub claimed_comes : (v w : View) (f : ℕ) → references v f ≡ 0 → w ≡ claimed f v → Comes v w f
claimed_comes v w f fresh is = record {
  fresh = fresh;
  one = ap (λ (u : View). references u f) is ∙ ap (λ (h : Hold). h.references) (claimed_here f v);
  sole = ap (λ (u : View). (hold_of u f).sole) is ∙ ap (λ (h : Hold). h.sole) (claimed_here f v);
  others = λ g apart. ap (λ (u : View). hold_of u g) is ∙ claimed_other f g v apart;
  spends = record {
    credits = ap (λ (u : View). u.credits) is;
    tallies = ap (λ (u : View). u.tallies) is;
  };
}

pub filled_comes : (v u w : View) (f : ℕ) → Comes v u f → ChangesWords f u w → Comes v w f
filled_comes v u w f c (words, is) =
    let hold : Hold = record (hold_of u f) { words = words } in
    let here : hold_of w f ≡ hold = ap (λ (x : View). hold_of x f) is ∙ hold_of-with_hold_same f hold u in
    record {
      fresh = c.fresh;
      one = ap (λ (h : Hold). h.references) here ∙ c.one;
      sole = ap (λ (h : Hold). h.sole) here ∙ c.sole;
      others = λ g apart. ap (λ (x : View). hold_of x g) is ∙ hold_of-with_hold_other f hold u g apart ∙ c.others g apart;
      spends = record {
        credits = ap (λ (x : View). x.credits) is ∙ c.spends.credits;
        tallies = ap (λ (x : View). x.tallies) is ∙ c.spends.tallies;
      };
    }

module _ (v w : View) (f : ℕ) (c : Comes v w f) where
  -- a frame that was held is another one
  pub not_held_before : (g : ℕ) → IsHeld v g → g ≡ f → ⊥
  not_held_before g held same = let none : references v g ≡ 0 = ap (references v) same ∙ c.fresh in omega (arith, none, held)

  pub come_tables : {z : Scheme} (root : ℕ) (t : Tables) → HasTables z v root t → HasTables z w root t
  come_tables root t h = same_tables v w root t (λ k g at. c.others g (not_held_before g (h.own k g at).0)) h

  pub come_held : (g : ℕ) → IsHeld v g → IsHeld w g
  come_held g held = subst (λ (h : Hold). 0 < h.references) (sym (c.others g (not_held_before g held))) held

  -- it has no name
  pub come_unnamed : (t : Tables) → OwnsFrames v t no_extra → (k : ℕ) → NamesFrame t f k → ⊥
  come_unnamed t o = unnamed v t no_extra o f c.fresh

  pub come_owns : (t : Tables) → OwnsFrames v t no_extra → OwnsFrames w t (one_extra f)
  come_owns t o = recounted_owns v w t no_extra (one_extra f) (spare_comes v w t f c.fresh c.one c.others (come_unnamed t o)) o

-- a leaf is put over a frame that had no name and one reference more, and tables that were missing are there
module _ {z : Scheme} (v w : View) (t u : Tables) (n root page x f : ℕ) (before after : ℕ → ℕ) (o : OwnsFrames v t before) (free : (k : ℕ) → NamesFrame t f k → ⊥)
    (moves : (g : ℕ) → before g ≡ after g + one_extra f g) (h : HasTables z v root t) (grown : IsGrown z t u page (top_level z))
    (changes : ChangesTables v w t u n) (has_tables : HasTables z w root (with_leaf u (leaf_node page) x)) (names : ppn x ≡ ppn_of f)
    (unmapped : get t.leaves (leaf_node page) ≡ None) (sole : has x 2 ≡ true → IsSole v f) where
  f_count : references v f ≡ 1 + after f
  f_count = let was = o.bare f free in let one = one_here f f refl in let m = moves f in omega (arith, was, one, m)

  other_count : (g : ℕ) → (g ≡ f → ⊥) → before g ≡ after g
  other_count g apart = let none = one_else f g apart in let m = moves g in omega (arith, none, m)

  f_apart : (g k : ℕ) → NamesFrame t g k → g ≡ f → ⊥
  f_apart g k names_g same = free k (subst (λ y. NamesFrame t y k) same names_g)

  -- the frame is no table, and no other leaf's
  f_no_table : (k : ℕ) → get u.tables k ≡ Some f → ⊥
  f_no_table k at = elim (grown.new k f at) [
    | inl old ↦ free k (inl old)
    | inr new ↦ let none = (changes.new k f at new.0).0 in let some = f_count in omega (arith, none, some)
  ]

  -- nor is the frame of a leaf that was there
  leaf_no_table : (m y g : ℕ) → get t.leaves m ≡ Some y → ppn y ≡ ppn_of g → (k : ℕ) → get u.tables k ≡ Some g → ⊥
  leaf_no_table m y g leaf names_g k at = elim (grown.new k g at) [
    | inl old ↦ no_table v t root before h o m y g leaf names_g k old
    | inr new ↦ let none = (changes.new k g at new.0).0 in let some = o.named g m (inr (y, leaf, names_g)) in omega (arith, none, some)
  ]

  pub leaf_same : (m y g : ℕ) → get t.leaves m ≡ Some y → ppn y ≡ ppn_of g → hold_of w g ≡ hold_of v g
  leaf_same m y g leaf names_g = changes.apart g (leaf_no_table m y g leaf names_g)

  pub f_same : hold_of w f ≡ hold_of v f
  f_same = changes.apart f f_no_table

  -- whatever has a name is an old table, a new table, an old leaf or the new leaf
  data Origin (g k : ℕ) : Type 0 where
    old : NamesFrame t g k → Origin g k
    new_table : get t.tables k ≡ None → get u.tables k ≡ Some g → Origin g k
    new_leaf : k ≡ leaf_node page → g ≡ f → Origin g k

  leaf_origin : (g k y : ℕ) → get (with_leaf u (leaf_node page) x).leaves k ≡ Some y → ppn y ≡ ppn_of g
      → ((k ≡ leaf_node page) × (y ≡ x) × (g ≡ f)) ⊎ (get t.leaves k ≡ Some y)
  leaf_origin g k y leaf names_g = elim (cases_eq k (leaf_node page)) [
    | inl here ↦
        let same : y ≡ x = same_Some y x (sym leaf ∙ insert_same u.leaves (leaf_node page) x k here) in
        inl (here, same, one_ppn g f (sym names_g ∙ ap ppn same ∙ names))
    | inr apart ↦ inr (ap (λ leaves. get leaves k) (sym grown.leaves) ∙ sym (insert_other u.leaves (leaf_node page) x k apart) ∙ leaf)
  ]

  origin : (g k : ℕ) → NamesFrame (with_leaf u (leaf_node page) x) g k → Origin g k
  origin g k (inl table) = elim (grown.new k g table) [
    | inl is ↦ old (inl is)
    | inr is ↦ new_table is.0 table
  ]
  origin g k (inr (y, leaf, names_g)) = elim (leaf_origin g k y leaf names_g) [
    | inl is ↦ new_leaf is.0 is.2
    | inr is ↦ old (inr (y, is, names_g))
  ]

  -- an old name stays
  stays : (g k : ℕ) → NamesFrame t g k → NamesFrame (with_leaf u (leaf_node page) x) g k
  stays g k (inl table) = inl (grown.kept k g table)
  stays g k (inr (y, leaf, names_g)) = elim (cases_eq k (leaf_node page)) [
    | inl here ↦ absurd (let there = rw (here, unmapped) at leaf in cc)
    | inr apart ↦ inr (y, insert_other u.leaves (leaf_node page) x k apart ∙ ap (λ leaves. get leaves k) grown.leaves ∙ leaf, names_g)
  ]

  -- a new table was no frame of the seat
  new_unnamed : (g j k : ℕ) → get t.tables k ≡ None → get u.tables k ≡ Some g → NamesFrame t g j → ⊥
  new_unnamed g j k none there names_g = unnamed v t before o g (changes.new k g there none).0 j names_g

  -- a frame that is held and has no name, and gets none, stays as it is
  pub still_unnamed : (g : ℕ) → (g ≡ f → ⊥) → IsHeld v g → ((k : ℕ) → NamesFrame t g k → ⊥) → (k : ℕ) → NamesFrame (with_leaf u (leaf_node page) x) g k → ⊥
  still_unnamed g apart held none k names_g = elim (origin g k names_g) [
    | old was ↦ none k was
    | new_table fresh there ↦ let zero = (changes.new k g there fresh).0 in omega (arith, zero, held)
    | new_leaf here same ↦ apart same
  ]

  pub still_held : (g : ℕ) → (g ≡ f → ⊥) → IsHeld v g → ((k : ℕ) → NamesFrame t g k → ⊥) → hold_of w g ≡ hold_of v g
  still_held g apart held none = changes.apart g (λ k table. still_unnamed g apart held none k (inl table))

  -- references of what had a name before
  was_count : (g k : ℕ) → NamesFrame t g k → references v g ≡ 1 + after g
  was_count g k names_g = let was = o.named g k names_g in let same = other_count g (f_apart g k names_g) in omega (arith, was, same)

  old_count : (g k : ℕ) → NamesFrame t g k → references w g ≡ 1 + after g
  old_count g k (inl table) = changes.old k g table ∙ was_count g k (inl table)
  old_count g k (inr (y, leaf, names_g)) = same_references v w g (leaf_same k y g leaf names_g) ∙ was_count g k (inr (y, leaf, names_g))

  new_count : (g k : ℕ) → get t.tables k ≡ None → get u.tables k ≡ Some g → references w g ≡ 1 + after g
  new_count g k none there =
      let counts = changes.new k g there none in
      let was = o.bare g (λ j names_g. new_unnamed g j k none there names_g) in
      let same = other_count g (λ is. f_no_table k (there ∙ ap Some is)) in
      omega (arith, counts.0, counts.1, was, same)

  from_origin : (g k : ℕ) → Origin g k → references w g ≡ 1 + after g
  from_origin g k (old names_g) = old_count g k names_g
  from_origin g k (new_table none there) = new_count g k none there
  from_origin g k (new_leaf here same) = rw same (same_references v w f f_same ∙ f_count)

  -- two names of a frame are one
  once_from : (g j k : ℕ) → Origin g j → Origin g k → j ≡ k
  once_from g j k (old first) (old second) = o.once g j k first second
  once_from g j k (old first) (new_table none there) = absurd (new_unnamed g j k none there first)
  once_from g j k (old first) (new_leaf here same) = absurd (f_apart g j first same)
  once_from g j k (new_table none there) (old second) = absurd (new_unnamed g k j none there second)
  once_from g j k (new_table none there) (new_table other also) = has_tables.known.apart j k g there also
  once_from g j k (new_table none there) (new_leaf here same) = absurd (f_no_table j (there ∙ ap Some same))
  once_from g j k (new_leaf here same) (old second) = absurd (f_apart g k second same)
  once_from g j k (new_leaf here same) (new_table none there) = absurd (f_no_table k (there ∙ ap Some same))
  once_from g j k (new_leaf here same) (new_leaf also too) = here ∙ sym also

  pub leaf_owns : OwnsFrames w (with_leaf u (leaf_node page) x) after
  leaf_owns = record {
    once = λ g j k first second. once_from g j k (origin g j first) (origin g k second);
    named = λ g k names_g. from_origin g k (origin g k names_g);
    bare = λ g none.
        let here : NamesFrame (with_leaf u (leaf_node page) x) f (leaf_node page) = inr (x, insert_same u.leaves (leaf_node page) x (leaf_node page) refl, names) in
        same_references v w g (changes.apart g (λ k table. none k (inl table)))
        ∙ o.bare g (λ k names_g. none k (stays g k names_g))
        ∙ other_count g (λ is. none (leaf_node page) (subst (λ y. NamesFrame (with_leaf u (leaf_node page) x) y (leaf_node page)) (sym is) here));
    writable = λ g k y leaf names_g writes. elim (leaf_origin g k y leaf names_g) [
      | inl is ↦ subst (IsSole w) (sym is.2) (same_sole v w f f_same (sole (ap (λ y. has y 2) (sym is.1) ∙ writes)))
      | inr is ↦ same_sole v w g (leaf_same k y g is names_g) (o.writable g k y is names_g writes)
    ];
  }
