-- Lemmas: each step keeps the roster's invariant `IsRostered`: empty roster, slot kept or freed, a start, a refused start,
-- an end, a child born (`rostered_born`); once no process is unfinished, the ended ones are all (`all_back`).
use Rattle.std.proofs.Common.{◌≡◌, ◌⊎◌, inl, inr, ℕ, zero, suc, ◌+◌, ◌<◌, List, [], ◌∷◌, ◌++◌, length, Option, None, Some, refl, sym, ap, ◌∙◌, subst, arith}
use Rattle.std.specs.Prelude.{slice_get}
use Rattle.std.proofs.lemmas.List.{append-nil}
use base.Stored.{Gv, gnil}
use Rattle.atomic_table.specs.Seated.{TableId}
use Rattle.vouchers.specs.Entries.{Birth, birth, TokenEntry as Life, entry, Has, nameless, without}
use Rattle.vouchers.specs.Lists.{had_without, without_had, length-without, has_left, has_right, has_either}
use Rattle.process_model.specs.Files.{File}
use Rattle.process_model.specs.declared.call.Call.{Call}
use Rattle.process_model.specs.declared.call.Start.{Start}
use Rattle.hart_calls.specs.declared.finished.Finished.{Finished}
use Rattle.run_roster.proofs.Counts.{apart_all, apart_instead, apart_last, apart_less, apart_more, apart_moved, apart_swap, one_of}
use Rattle.run_roster.specs.Names.{first_of, name_parts, no_start, some_name}
use Rattle.run_roster.specs.RosterState.{AreApart, AreBelow, AreStartsOrChildren, AreNamed, Closed, ComesBack, Each, IsChildOf, IsEnded, IsStartOrChild, IsRostered, Knows, Started}

-- what stands at a place of a list

none_at : (j : ℕ) (k : Birth) → slice_get [] j ≡ Some k → ⊥
none_at j k e = let no : None ≡ Some k = e in cc

abbrev or_birth : Birth → Option Birth → Birth
or_birth d None = d
or_birth d (Some b) = b

abbrev or_start : Start → Option Start → Start
or_start d None = d
or_start d (Some s) = s

slice_left : (xs ys : List Birth) (j : ℕ) (k : Birth) → slice_get xs j ≡ Some k → slice_get (xs ++ ys) j ≡ Some k
slice_left [] ys j k e = absurd (none_at j k e)
slice_left (x ∷ xs) ys zero k e = e
slice_left (x ∷ xs) ys (suc j) k e = slice_left xs ys j k e

none_past : (xs : List Birth) (k : Birth) → slice_get xs (length xs) ≡ Some k → ⊥
none_past [] k e = none_at zero k e
none_past (x ∷ xs) k e = none_past xs k e

slice_last : (xs : List Birth) (y : Birth) → slice_get (xs ++ y ∷ []) (length xs) ≡ Some y
slice_last [] y = refl
slice_last (x ∷ xs) y = slice_last xs y

slice_snoc : (xs : List Birth) (y : Birth) (j : ℕ) (k : Birth) → slice_get (xs ++ y ∷ []) j ≡ Some k → (slice_get xs j ≡ Some k) ⊎ ((j ≡ length xs) × (k ≡ y))
slice_snoc [] y zero k e = inr (refl, sym (ap (or_birth y) e))
slice_snoc [] y (suc j) k e = absurd (none_at j k e)
slice_snoc (x ∷ xs) y zero k e = inl e
slice_snoc (x ∷ xs) y (suc j) k e = further (slice_snoc xs y j k e)
  where
    further : (slice_get xs j ≡ Some k) ⊎ ((j ≡ length xs) × (k ≡ y)) → (slice_get (x ∷ xs) (suc j) ≡ Some k) ⊎ ((suc j ≡ length (x ∷ xs)) × (k ≡ y))
    further (inl h) = inl h
    further (inr h) = inr (ap suc h.0, h.1)

-- the entry of a slot that is kept
abbrev slot : Life
slot = nameless

-- each life but a kept slot's is there still, and may have named more children
abbrev Keeps : List Life → List Life → Type 0
Keeps r q = (x : Life) → (x ≡ slot → ⊥) → Has x r → (more : List Birth) × Has (entry x.name x.birth (x.children ++ more)) q

-- each life is an older one, or has named no child
abbrev IsOlder : List Life → Life → Type 0
IsOlder r x = (x.children ≡ []) ⊎ Has x r

abbrev AreOlder : List Life → List Life → Type 0
AreOlder r q = (x : Life) → Has x q → IsOlder r x

-- each life that has a name is an older one, or a start or a child
abbrev AreFrom : List Start → List Life → List Life → Type 0
AreFrom starts r q = (x : Life) → Has x q → (x.name ≡ [] → ⊥) → Has x r ⊎ IsStartOrChild starts q x

stay : (x : Life) (q : List Life) → Has x q → (more : List Birth) × Has (entry x.name x.birth (x.children ++ more)) q
stay x q h = ([], subst (λ hs. Has (entry x.name x.birth hs) q) (sym (append-nil x.children)) h)

module _ (r q : List Life) (keeps : Keeps r q) where
  knows_still : (m : List ℕ) (k : Birth) → (m ≡ [] → ⊥) → Knows r m k → Knows q m k
  knows_still m k ne w = let h = keeps (entry m k w.0) (λ is. ne (ap (λ (x : Life). x.name) is)) w.1 in (w.0 ++ h.0, h.1)

  started_still : (starts : List Start) (n : ℕ) → Started starts n r → Started starts n q
  started_still starts n was i s lt at = let w = was i s lt at in (w.0, knows_still (i ∷ []) (birth s.list w.0) (λ e. cc) w.1)

  closed_still : AreOlder r q → Closed r → Closed q
  closed_still old c x j k h at = elim (old x h) as (λ _. Knows q (x.name ++ j ∷ []) k) [
    | inl none ↦ absurd (none_at j k (subst (λ (hs : List Birth). slice_get hs j ≡ Some k) none at))
    | inr was ↦ knows_still _ k (some_name x.name j) (c x j k was at)
  ]

  kin_still : (starts : List Start) (x : Life) → IsStartOrChild starts r x → IsStartOrChild starts q x
  kin_still starts x (inl s) = inl s
  kin_still starts x (inr c) =
      let m = c.0 in
      let child = c.2 in
      let h = keeps m (λ is. none_at child.number x.birth (subst (λ (y : Life). slice_get y.children child.number ≡ Some x.birth) is child.birth)) c.1 in
      inr (entry m.name m.birth (m.children ++ h.0), h.1, record { number = child.number; name = child.name; birth = slice_left m.children h.0 child.number x.birth child.birth })

  kin_on : (starts : List Start) → AreFrom starts r q → AreStartsOrChildren starts r → AreStartsOrChildren starts q
  kin_on starts from k x h ne = elim (from x h ne) as (λ _. IsStartOrChild starts q x) [
    | inl was ↦ kin_still starts x (k x was ne)
    | inr new ↦ new
  ]

-- a life more
keeps_more : (e : Life) (r : List Life) → Keeps r (e ∷ r)
keeps_more e r x ne h = stay x (e ∷ r) (inr h)

older_more : (name : List ℕ) (b : Birth) (r : List Life) → AreOlder r (entry name b [] ∷ r)
older_more name b r x (inl is) = inl (ap (λ (y : Life). y.children) is)
older_more name b r x (inr h) = inr h

-- a life less
had_less : (e x : Life) (out rest : List Life) → Has x (without e out ++ rest) → Has x (out ++ rest)
had_less e x out rest h = elim (has_either x (without e out) rest h) as (λ _. Has x (out ++ rest)) [
  | inl l ↦ has_left x out rest (without_had e x out l)
  | inr r ↦ has_right x out rest r
]

keeps_less : (out rest : List Life) → Keeps (out ++ rest) (without slot out ++ rest)
keeps_less out rest x ne k = elim (has_either x out rest k) as (λ _. (more : List Birth) × Has (entry x.name x.birth (x.children ++ more)) (without slot out ++ rest)) [
  | inl h ↦ elim (had_without slot x out h) as (λ _. (more : List Birth) × Has (entry x.name x.birth (x.children ++ more)) (without slot out ++ rest)) [
    | inl is ↦ absurd (ne is)
    | inr r ↦ stay x _ (has_left x (without slot out) rest r)
  ]
  | inr h ↦ stay x _ (has_right x (without slot out) rest h)
]

-- nobody yet
pub rostered_none : (starts : List Start) (n : ℕ) (out : List Life) → n ≡ 0 → out ≡ [] → IsRostered starts n out []
rostered_none starts n out nil none = subst (λ (g : List Life). IsRostered starts n g []) (sym none) record {
  started = λ i s lt at. absurd (omega (arith, nil, lt));
  closed = λ l j k h at. absurd h;
  kin = λ l h ne. absurd h;
  named = λ l h is. absurd h;
  below = λ l i h is. absurd h;
  once = λ name some. omega arith;
}

-- a slot is kept, and given back
pub rostered_admit : (starts : List Start) (n : ℕ) (out lives : List Life) → IsRostered starts n out lives → IsRostered starts n (nameless ∷ out) lives
rostered_admit starts n out lives was = record {
  started = started_still (out ++ lives) (slot ∷ out ++ lives) (keeps_more slot (out ++ lives)) starts n was.started;
  closed = closed_still (out ++ lives) (slot ∷ out ++ lives) (keeps_more slot (out ++ lives)) (older_more [] (birth 0 gnil) (out ++ lives)) was.closed;
  kin = kin_on (out ++ lives) (slot ∷ out ++ lives) (keeps_more slot (out ++ lives)) starts from was.kin;
  named = was.named;
  below = no_slot;
  once = apart_more slot (out ++ lives) (λ some x h is. some refl) was.once;
}
  where
    from : AreFrom starts (out ++ lives) (slot ∷ out ++ lives)
    from x (inl is) ne = absurd (ne (ap (λ (y : Life). y.name) is))
    from x (inr h) ne = inl h

    no_slot : AreBelow n (slot ∷ out ++ lives)
    no_slot x i (inl is) named = absurd (let no : [] ≡ i ∷ [] = sym (ap (λ (y : Life). y.name) is) ∙ named in cc)
    no_slot x i (inr h) named = was.below x i h named

pub rostered_withdraw : (starts : List Start) (n : ℕ) (out lives : List Life) → Has nameless out → IsRostered starts n out lives → IsRostered starts n (without nameless out) lives
rostered_withdraw starts n out lives had was = record {
  started = started_still (out ++ lives) (without slot out ++ lives) (keeps_less out lives) starts n was.started;
  closed = closed_still (out ++ lives) (without slot out ++ lives) (keeps_less out lives) (λ x h. inr (had_less slot x out lives h)) was.closed;
  kin = kin_on (out ++ lives) (without slot out ++ lives) (keeps_less out lives) starts (λ x h ne. inl (had_less slot x out lives h)) was.kin;
  named = was.named;
  below = λ x i h is. was.below x i (had_less slot x out lives h) is;
  once = apart_less slot out lives had was.once;
}

-- starts, in order
below : (a b : ℕ) → a < b + 1 → (a < b) ⊎ (a ≡ b)
below zero zero l = inr refl
below zero (suc b) l = inl (omega arith)
below (suc a) zero l = absurd (omega arith)
below (suc a) (suc b) l = up (below a b (omega arith))
  where
    up : (a < b) ⊎ (a ≡ b) → (suc a < suc b) ⊎ (suc a ≡ suc b)
    up (inl x) = inl (omega arith)
    up (inr x) = inr (ap suc x)

-- what was started, and the next one
module _ (starts : List Start) (m n : ℕ) (s : Start) (is : n ≡ m + 1) (at : slice_get starts m ≡ Some s) (opening : Gv) where
  started_next : (r q : List Life) → Keeps r q → Has (entry (m ∷ []) (birth s.list opening) []) q → Started starts m r → Started starts n q
  started_next r q keeps new was i t lt here = elim (below i m (omega (arith, is, lt))) as (λ _. (o : Gv) × Knows q (i ∷ []) (birth t.list o)) [
    | inl less ↦ (let w = was i t less here in (w.0, knows_still r q keeps (i ∷ []) (birth t.list w.0) (λ e. cc) w.1))
    | inr same ↦
        (let both : Some t ≡ Some s = sym here ∙ (ap (slice_get starts) same ∙ at) in
        let one : t ≡ s = ap (or_start s) both in
        (opening, ([], subst (λ (k : ℕ). Has (entry (k ∷ []) (birth t.list opening) []) q) (sym same) (subst (λ (k : ℕ). Has (entry (m ∷ []) (birth k opening) []) q) (sym (ap (λ (z : Start). z.list) one)) new))))
  ]

  abbrev next_life : List ℕ → Life
  next_life name = entry name (birth s.list opening) []

  starts_kin : (name : List ℕ) (q : List Life) (x : Life) → name ≡ m ∷ [] → x ≡ next_life name → IsStartOrChild starts q x
  starts_kin name q x named same = inl (s, (m, ap (λ (y : Life). y.name) same ∙ named, at), ap (λ (y : Life). y.birth.list) same)

  -- its name is its number, which no older one has
  module _ (name : List ℕ) (named : name ≡ m ∷ []) (r : List Life) (was : AreBelow m r) where
    below_next : (x : Life) (i : ℕ) → (x ≡ next_life name) ⊎ Has x r → x.name ≡ i ∷ [] → i < n
    below_next x i (inl same) of = let number : i ≡ m = ap first_of (sym of ∙ (ap (λ (y : Life). y.name) same ∙ named)) in omega (arith, number, is)
    below_next x i (inr h) of = let less = was x i h of in omega (arith, less, is)

    is_next : (x : Life) → Has x r → x.name ≡ name → ⊥
    is_next x h of = absurd (let less = was x m h (of ∙ named) in omega (arith, less))

    apart_next : AreApart r → AreApart (next_life name ∷ r)
    apart_next = apart_more (next_life name) r (λ some. is_next)

  pub rostered_start : (name : List ℕ) (k : ℕ) (out lives : List Life) → name ≡ m ∷ [] → k ≡ s.list → IsRostered starts m out lives → IsRostered starts n (entry name (birth k opening) [] ∷ out) lives
  rostered_start name k out lives named list was = subst (λ (j : ℕ). IsRostered starts n (entry name (birth j opening) [] ∷ out) lives) (sym list) record {
    started = started_next (out ++ lives) (next_life name ∷ out ++ lives) (keeps_more (next_life name) (out ++ lives)) (inl (ap (λ (y : List ℕ). entry y (birth s.list opening) []) (sym named))) was.started;
    closed = closed_still (out ++ lives) (next_life name ∷ out ++ lives) (keeps_more (next_life name) (out ++ lives)) (older_more name (birth s.list opening) (out ++ lives)) was.closed;
    kin = kin_on (out ++ lives) (next_life name ∷ out ++ lives) (keeps_more (next_life name) (out ++ lives)) starts from was.kin;
    named = was.named;
    below = λ x i h of. below_next name named (out ++ lives) was.below x i h of;
    once = apart_next name named (out ++ lives) was.below was.once;
  }
    where
      from : AreFrom starts (out ++ lives) (next_life name ∷ out ++ lives)
      from x (inl same) ne = inr (starts_kin name (next_life name ∷ out ++ lives) x named same)
      from x (inr h) ne = inl h

-- one more has ended
lone : (x l : Life) → Has x (l ∷ []) → x ≡ l
lone x l (inl is) = is
lone x l (inr none) = absurd none

named_more : (lives : List Life) (l : Life) → (l.name ≡ [] → ⊥) → AreNamed lives → AreNamed (lives ++ l ∷ [])
named_more lives l ne all x h is = elim (has_either x lives (l ∷ []) h) as (λ _. ⊥) [
  | inl was ↦ all x was is
  | inr last ↦ ne (sym (ap (λ (y : Life). y.name) (lone x l last)) ∙ is)
]

last_has : (lives : List Life) (l : Life) → Has l (lives ++ l ∷ [])
last_has lives l = has_right l lives (l ∷ []) (inl refl)

-- a start is refused
module _ (starts : List Start) (m n : ℕ) (s : Start) (is : n ≡ m + 1) (at : slice_get starts m ≡ Some s) (opening : Gv) (name : List ℕ) (named : name ≡ m ∷ []) (out lives : List Life) where
  abbrev refused : Life
  refused = entry name (birth s.list opening) []

  abbrev with_refused : List Life
  with_refused = out ++ (lives ++ refused ∷ [])

  keeps_refused : Keeps (out ++ lives) with_refused
  keeps_refused x ne h = stay x with_refused (further (has_either x out lives h))
    where
      further : Has x out ⊎ Has x lives → Has x with_refused
      further (inl l) = has_left x out _ l
      further (inr r) = has_right x out _ (has_left x lives _ r)

  -- the last one, or an older one
  which : (x : Life) → Has x with_refused → (x ≡ refused) ⊎ Has x (out ++ lives)
  which x h = elim (has_either x out _ h) as (λ _. (x ≡ refused) ⊎ Has x (out ++ lives)) [
    | inl l ↦ inr (has_left x out lives l)
    | inr r ↦ elim (has_either x lives (refused ∷ []) r) as (λ _. (x ≡ refused) ⊎ Has x (out ++ lives)) [
      | inl l ↦ inr (has_right x out lives l)
      | inr last ↦ inl (lone x refused last)
    ]
  ]

  older_refused : AreOlder (out ++ lives) with_refused
  older_refused x h = elim (which x h) as (λ _. IsOlder (out ++ lives) x) [
    | inl same ↦ inl (ap (λ (y : Life). y.children) same)
    | inr was ↦ inr was
  ]

  from_refused : AreFrom starts (out ++ lives) with_refused
  from_refused x h ne = elim (which x h) as (λ _. Has x (out ++ lives) ⊎ IsStartOrChild starts with_refused x) [
    | inl same ↦ inr (starts_kin starts m n s is at opening name with_refused x named same)
    | inr was ↦ inl was
  ]

  pub rostered_refuse : IsRostered starts m out lives → IsRostered starts n out (lives ++ refused ∷ [])
  rostered_refuse was = record {
    started = started_next starts m n s is at opening (out ++ lives) with_refused keeps_refused (subst (λ (y : List ℕ). Has (entry y (birth s.list opening) []) with_refused) named (has_right refused out _ (last_has lives refused))) was.started;
    closed = closed_still (out ++ lives) with_refused keeps_refused older_refused was.closed;
    kin = kin_on (out ++ lives) with_refused keeps_refused starts from_refused was.kin;
    named = named_more lives refused (λ none. absurd (let no : m ∷ [] ≡ [] = sym named ∙ none in cc)) was.named;
    below = λ x i h of. below_next starts m n s is at opening name named (out ++ lives) was.below x i (which x h) of;
    once = apart_last refused out lives (apart_next starts m n s is at opening name named (out ++ lives) was.below was.once);
  }

-- a process comes back
module _ (out lives : List Life) (l : Life) where
  abbrev back : List Life
  back = without l out ++ (lives ++ l ∷ [])

  goes_back : (x : Life) → Has x (out ++ lives) → Has x back
  goes_back x h = elim (has_either x out lives h) as (λ _. Has x back) [
    | inl left ↦ elim (had_without l x out left) as (λ _. Has x back) [
      | inl is ↦ has_right x (without l out) _ (subst (λ (y : Life). Has y (lives ++ l ∷ [])) (sym is) (last_has lives l))
      | inr r ↦ has_left x _ _ r
    ]
    | inr r ↦ has_right x (without l out) _ (has_left x lives (l ∷ []) r)
  ]

  was_there : Has l out → (x : Life) → Has x back → Has x (out ++ lives)
  was_there mine x h = elim (has_either x (without l out) _ h) as (λ _. Has x (out ++ lives)) [
    | inl left ↦ has_left x out lives (without_had l x out left)
    | inr r ↦ elim (has_either x lives (l ∷ []) r) as (λ _. Has x (out ++ lives)) [
      | inl older ↦ has_right x out lives older
      | inr last ↦ has_left x out lives (subst (λ (y : Life). Has y out) (sym (lone x l last)) mine)
    ]
  ]

  keeps_back : Keeps (out ++ lives) back
  keeps_back x ne h = stay x back (goes_back x h)

  pub rostered_finish : (starts : List Start) (n : ℕ) → Has l out → (l.name ≡ [] → ⊥) → IsRostered starts n out lives → IsRostered starts n (without l out) (lives ++ l ∷ [])
  rostered_finish starts n mine ne was = record {
    started = started_still (out ++ lives) back keeps_back starts n was.started;
    closed = closed_still (out ++ lives) back keeps_back (λ x h. inr (was_there mine x h)) was.closed;
    kin = kin_on (out ++ lives) back keeps_back starts (λ x h some. inl (was_there mine x h)) was.kin;
    named = named_more lives l ne was.named;
    below = λ x i h of. was.below x i (was_there mine x h) of;
    once = apart_moved l out lives mine was.once;
  }

-- a child is named
module _ (name : List ℕ) (began child : Birth) (before : List Birth) (out rest : List Life) where
  abbrev parent : Life
  parent = entry name began before

  abbrev elder : Life
  elder = entry name began (before ++ child ∷ [])

  abbrev young : Life
  young = entry (name ++ length before ∷ []) child []

  -- those who are out but for the slot and the parent
  abbrev others : List Life
  others = without parent (without slot out)

  abbrev born : List Life
  born = elder ∷ young ∷ others

  keeps_born : Keeps (out ++ rest) (born ++ rest)
  keeps_born x ne w = elim (has_either x out rest w) as (λ _. (more : List Birth) × Has (entry x.name x.birth (x.children ++ more)) (born ++ rest)) [
    | inl h ↦ elim (had_without slot x out h) as (λ _. (more : List Birth) × Has (entry x.name x.birth (x.children ++ more)) (born ++ rest)) [
      | inl is ↦ absurd (ne is)
      | inr r ↦ elim (had_without parent x (without slot out) r) as (λ _. (more : List Birth) × Has (entry x.name x.birth (x.children ++ more)) (born ++ rest)) [
        | inl is ↦ (child ∷ [], inl (ap (λ (y : Life). entry y.name y.birth (y.children ++ child ∷ [])) is))
        | inr left ↦ stay x (born ++ rest) (inr (inr (has_left x others rest left)))
      ]
    ]
    | inr h ↦ stay x (born ++ rest) (inr (inr (has_right x others rest h)))
  ]

  was_other : (x : Life) → Has x (others ++ rest) → Has x (out ++ rest)
  was_other x h = had_less slot x out rest (had_less parent x (without slot out) rest h)

  was_parent : Has parent (without slot out) → Has parent (out ++ rest)
  was_parent mine = has_left parent out rest (without_had slot parent out mine)

  closed_born : Has parent (without slot out) → Closed (out ++ rest) → Closed (born ++ rest)
  closed_born mine c x j k h at = which h
    where
      -- of the parent: an older child, or the one that was named now
      ordered : (x ≡ elder) → (slice_get before j ≡ Some k) ⊎ ((j ≡ length before) × (k ≡ child)) → Knows (born ++ rest) (x.name ++ j ∷ []) k
      ordered is (inl older) = knows_still (out ++ rest) (born ++ rest) keeps_born (x.name ++ j ∷ []) k (some_name x.name j) (subst (λ (n : List ℕ). Knows (out ++ rest) (n ++ j ∷ []) k) (sym (ap (λ (y : Life). y.name) is)) (c parent j k (was_parent mine) older))
      ordered is (inr new) = ([], inr (inl (ap (λ (n : List ℕ). entry (n ++ j ∷ []) k []) (ap (λ (y : Life). y.name) is) ∙ (ap (λ (i : ℕ). entry (name ++ i ∷ []) k []) new.0 ∙ ap (λ (b : Birth). entry (name ++ length before ∷ []) b []) new.1))))

      which : Has x (born ++ rest) → Knows (born ++ rest) (x.name ++ j ∷ []) k
      which (inl is) = ordered is (slice_snoc before child j k (subst (λ (y : Life). slice_get y.children j ≡ Some k) is at))
      which (inr (inl is)) = absurd (none_at j k (subst (λ (y : Life). slice_get y.children j ≡ Some k) is at))
      which (inr (inr r)) = knows_still (out ++ rest) (born ++ rest) keeps_born (x.name ++ j ∷ []) k (some_name x.name j) (c x j k (was_other x r) at)

  kin_born : (starts : List Start) → Has parent (without slot out) → AreStartsOrChildren starts (out ++ rest) → AreStartsOrChildren starts (born ++ rest)
  kin_born starts mine kin x h ne = which h
    where
      elder_kin : IsStartOrChild starts (born ++ rest) parent → IsStartOrChild starts (born ++ rest) elder
      elder_kin (inl s) = inl s
      elder_kin (inr c) = inr (c.0, c.1, record { number = c.2.number; name = c.2.name; birth = c.2.birth })

      which : Has x (born ++ rest) → IsStartOrChild starts (born ++ rest) x
      which (inl is) = subst (IsStartOrChild starts (born ++ rest)) (sym is) (elder_kin (kin_still (out ++ rest) (born ++ rest) keeps_born starts parent (kin parent (was_parent mine) (λ none. ne (ap (λ (y : Life). y.name) is ∙ none)))))
      which (inr (inl is)) = inr (elder, inl refl, record { number = length before; name = ap (λ (y : Life). y.name) is; birth = slice_last before child ∙ ap (λ (y : Life). Some y.birth) (sym is) })
      which (inr (inr r)) = kin_still (out ++ rest) (born ++ rest) keeps_born starts x (kin x (was_other x r) ne)

  -- no number of a start
  below_born : (n : ℕ) → Has parent (without slot out) → (name ≡ [] → ⊥) → AreBelow n (out ++ rest) → AreBelow n (born ++ rest)
  below_born n mine some was x i (inl is) of = was parent i (was_parent mine) (sym (ap (λ (y : Life). y.name) is) ∙ of)
  below_born n mine some was x i (inr (inl is)) of = absurd (no_start name (length before) i some (sym (ap (λ (y : Life). y.name) is) ∙ of))
  below_born n mine some was x i (inr (inr h)) of = was x i (was_other x h) of

  -- the child's name is new: whoever had it would be a child of its parent, whose place was still empty
  module _ (starts : List Start) (mine : Has parent (without slot out)) (some : name ≡ [] → ⊥) (kin : AreStartsOrChildren starts (out ++ rest)) (once : AreApart (out ++ rest)) where
    is_new : (x : Life) → Has x (out ++ rest) → x.name ≡ name ++ length before ∷ [] → ⊥
    is_new x h is = elim (kin x h (λ none. some_name name (length before) (sym is ∙ none))) as (λ _. ⊥) [
      | inl s ↦ no_start name (length before) s.1.0 some (sym is ∙ s.1.1)
      | inr c ↦ of_parent c.0 c.1 c.2
    ]
      where
        of_parent : (m : Life) → Has m (out ++ rest) → IsChildOf m x → ⊥
        of_parent m there child =
            let parts = name_parts m.name name child.number (length before) (sym child.name ∙ is) in
            let same = one_of name m parent (out ++ rest) (once name some) parts.0 refl there (was_parent mine) in
            let at : slice_get before child.number ≡ Some x.birth = subst (λ (y : Life). slice_get y.children child.number ≡ Some x.birth) same child.birth in
            none_past before x.birth (subst (λ (j : ℕ). slice_get before j ≡ Some x.birth) parts.1 at)

    new_beside : (x : Life) → Has x (elder ∷ others ++ rest) → x.name ≡ name ++ length before ∷ [] → ⊥
    new_beside x (inl is) of = is_new parent (was_parent mine) (sym (ap (λ (y : Life). y.name) is) ∙ of)
    new_beside x (inr h) of = is_new x (was_other x h) of

    apart_born : Has slot out → AreApart (born ++ rest)
    apart_born had =
        let older = apart_instead parent elder (without slot out) rest refl mine (apart_less slot out rest had once) in
        apart_swap young elder (others ++ rest) (apart_more young (elder ∷ others ++ rest) (λ _. new_beside) older)

-- the same, by the lists of who is out after each of the four steps: both vouchers come back, and the child's and the parent's
-- go out
module _ (name named : List ℕ) (began child : Birth) (before children none : List Birth) (g0 g1 g2 g3 g4 : List Life) (e1 : g1 ≡ without nameless g0) (had : Has nameless g0) (e2 : g2 ≡ without (entry name began before) g1) (mine : Has (entry name began before) g1) (is : named ≡ name ++ length before ∷ []) (more : children ≡ before ++ child ∷ []) (bare : none ≡ []) (e3 : g3 ≡ entry named child none ∷ g2) (e4 : g4 ≡ entry name began children ∷ g3) where
  is_born : g4 ≡ born name began child before g0 []
  is_born = e4 ∙ (ap (λ hs. entry name began hs ∷ g3) more ∙ ap (λ g. entry name began (before ++ child ∷ []) ∷ g) (e3 ∙ (ap (λ hs. entry named child hs ∷ g2) bare ∙ ap (λ m. entry m child [] ∷ g2) is ∙ ap (λ g. entry (name ++ length before ∷ []) child [] ∷ g) (e2 ∙ ap (without (entry name began before)) e1))))

  pub born_length : length g4 ≡ length g0
  born_length =
      let a : length g4 ≡ length g3 + 1 = ap length e4 ∙ omega arith in
      let b : length g3 ≡ length g2 + 1 = ap length e3 ∙ omega arith in
      let c : length g2 ≡ length (without (entry name began before) g1) = ap length e2 in
      let d = length-without (entry name began before) g1 mine in
      let e : length g1 ≡ length (without nameless g0) = ap length e1 in
      let f = length-without nameless g0 had in
      omega (arith, a, b, c, d, e, f)

  pub rostered_born : (starts : List Start) (n : ℕ) (lives : List Life) → (name ≡ [] → ⊥) → IsRostered starts n g0 lives → IsRostered starts n g4 lives
  rostered_born starts n lives some was =
      let here : Has (entry name began before) (without slot g0) = subst (Has (entry name began before)) e1 mine in
      subst (λ g. IsRostered starts n g lives) (sym is_born) record {
        started = started_still (g0 ++ lives) (born name began child before g0 lives ++ lives) (keeps_born name began child before g0 lives) starts n was.started;
        closed = closed_born name began child before g0 lives here was.closed;
        kin = kin_born name began child before g0 lives starts here was.kin;
        named = was.named;
        below = below_born name began child before g0 lives n here some was.below;
        once = apart_born name began child before g0 lives starts here some was.kin was.once had;
      }

-- one more has ended
pub each_push : (table : TableId) (files : List File) (lists : List (List Call)) (starts : List Start) (ls : List Life) (fs : List Finished) (l : Life) (f : Finished) → Each table files lists starts ls fs → IsEnded table files lists starts l f → Each table files lists starts (ls ++ l ∷ []) (fs ++ f ∷ [])
each_push table files lists starts [] [] l f each e = (e, tt)
each_push table files lists starts [] (g ∷ gs) l f each e = absurd each
each_push table files lists starts (k ∷ ks) [] l f each e = absurd each
each_push table files lists starts (k ∷ ks) (g ∷ gs) l f each e = (each.0, each_push table files lists starts ks gs l f each.1 e)

-- where nobody is out, those who ended are all
nobody : (out : List Life) → length out ≡ 0 → out ≡ []
nobody [] e = refl
nobody (x ∷ xs) e = absurd (omega (arith, e))

pub all_back : (table : TableId) (files : List File) (lists : List (List Call)) (starts : List Start) (out lives : List Life) (ended : List Finished) → length out ≡ 0 → Each table files lists starts lives ended → IsRostered starts (length starts) out lives → ComesBack table files lists starts ended
all_back table files lists starts out lives ended none each was =
    let rest : IsRostered starts (length starts) [] lives = subst (λ g. IsRostered starts (length starts) g lives) (nobody out none) was in
    record {
      lives = lives;
      each = each;
      started = rest.started;
      children = rest.closed;
      kin = λ l h. rest.kin l h (rest.named l h);
      once = apart_all lives rest.named rest.once;
    }
