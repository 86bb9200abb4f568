-- What the search says from a table on is what its parts say.
use Rattle.std.proofs.Common.{◌≡◌, ℕ, suc, zero, List, [], ◌∷◌, ◌++◌, Bool, true, false, Some, ◌&&◌, ◌||◌, ◌==◌, ◌-◌, ◌+◌, ◌*◌, ◌/◌, not, map, refl, ap, sym, ◌∙◌, cond, if◌then◌else◌, arith, append_assoc, drop, drop_of_length-le, length, ◌≤◌}
use Rattle.std.specs.List.{filter, flat_map, range_with_len, slice_get}
use Rattle.walk_rules.specs.Addresses.{top_of}
use Rattle.access_judge.proofs.SearchLists.{drop_at}
use Rattle.std.proofs.lemmas.Bool.{false≢true}
use Rattle.std.proofs.lemmas.List.{append-nil}
use Rattle.std.proofs.lemmas.List.Concat.{flat_map-append}
use Rattle.std.proofs.lemmas.List.Folds.{flat_map-map}
use Rattle.sv39_entry.specs.Address.{has, page_of, vpn}
use Rattle.sv39_entry.specs.declared.access.Access.TheVariants as access
use Rattle.sv39_entry.specs.declared.entry.Kind.TheVariants.{Invalid, Leaf, Pointer}
use Rattle.walk_rules.specs.Kinds.{has_reserved, is_napot, kind_in, reserved_in_pointer}
use Rattle.walk_rules.specs.declared.extensions.Extensions.{Extensions}
use Rattle.walk_rules.specs.declared.status.Privilege.TheVariants as privilege
use Rattle.access_history.specs.Permits.{Past}
use Rattle.access_history.specs.declared.outcome.Outcome.{Outcome}
use Rattle.access_judge.specs.Judging.{entries_say, group_says, item_says, pointer_says, root_says, step_says, table_says, versions_of, word_says, words_say}
use Rattle.access_judge.specs.Search.{Found, Stand, Use, Version, below_of, ended, found_by, group_versions, is_kind, is_napot_leaf, is_of_epoch, is_pointer, may_pass, own_versions, place_at, reads_at, root_at, said, search, search_from, stood, translated, until, versions_at}
use Rattle.access_judge.specs.declared.question.Question.{Question}

-- ---- lists

pub flat_flat : {X Y Z : Type 0} (f : Y → List Z) (g : X → List Y) (xs : List X) → flat_map f (flat_map g xs) ≡ flat_map (λ x. flat_map f (g x)) xs
flat_flat f g [] = refl
flat_flat f g (x ∷ xs) = flat_map-append f (g x) (flat_map g xs) ∙ ap (λ zs. flat_map f (g x) ++ zs) (flat_flat f g xs)

pub flat_same : {X Y : Type 0} (f g : X → List Y) → ((x : X) → f x ≡ g x) → (xs : List X) → flat_map f xs ≡ flat_map g xs
flat_same f g same [] = refl
flat_same f g same (x ∷ xs) = ap (λ ys. ys ++ flat_map f xs) (same x) ∙ ap (λ ys. g x ++ ys) (flat_same f g same xs)

flat_filter : {X Y : Type 0} (f : X → List Y) (t : X → Bool) (xs : List X) → flat_map f (filter t xs) ≡ flat_map (λ x. if t x then f x else []) xs
flat_filter f t [] = refl
flat_filter {X} {Y} f t (x ∷ xs) = choose (t x) (flat_filter f t xs) where
  choose : (b : Bool) → flat_map f (filter t xs) ≡ flat_map (λ x. if t x then f x else []) xs
      → flat_map f (cond b (x ∷ filter t xs) (filter t xs)) ≡ (if b then f x else []) ++ flat_map (λ x. if t x then f x else []) xs
  choose true rest = ap (λ (ys : List Y). f x ++ ys) rest
  choose false rest = rest

flat_if : {X Y : Type 0} (f : X → List Y) (b : Bool) (xs : List X) → flat_map f (if b then xs else []) ≡ (if b then flat_map f xs else [])
flat_if f true xs = refl
flat_if f false xs = refl

flat_either : {X Y : Type 0} (f : X → List Y) (b : Bool) (xs ys : List X) → flat_map f (if b then xs ++ ys else xs) ≡ flat_map f xs ++ (if b then flat_map f ys else [])
flat_either f true xs ys = flat_map-append f xs ys
flat_either f false xs ys = sym (append-nil (flat_map f xs))

-- ---- the reads at a table

-- what is said of each PTE that a walk may read there, word by word
reads_flat : (f : Found → List Outcome) (x : Extensions) (p : Past) (va : ℕ) (s : Stand)
    → flat_map f (reads_at x p.first p.events va s)
    ≡ (if may_pass p.first (until p.events s.last) privilege.Supervisor access.Load (place_at va s) 8
    then flat_map (λ v. if is_of_epoch s (found_by s v) then f (found_by s v) else []) (versions_at x p.first p.events va s) else [])
reads_flat f x p va s =
    let vs = versions_at x p.first p.events va s in
    let pass = may_pass p.first (until p.events s.last) privilege.Supervisor access.Load (place_at va s) 8 in
    flat_if f pass (filter (is_of_epoch s) (map (found_by s) vs))
    ∙ ap (λ (os : List Outcome). if pass then os else []) (flat_filter f (is_of_epoch s) (map (found_by s) vs)
    ∙ flat_map-map (λ (c : Found). if is_of_epoch s c then f c else []) (found_by s) vs)

reads_same : (f g : Found → List Outcome) (x : Extensions) (p : Past) (va : ℕ) (s : Stand) → ((v : Version) → f (found_by s v) ≡ g (found_by s v))
    → flat_map f (reads_at x p.first p.events va s) ≡ flat_map g (reads_at x p.first p.events va s)
reads_same f g x p va s same =
    let pass = may_pass p.first (until p.events s.last) privilege.Supervisor access.Load (place_at va s) 8 in
    reads_flat f x p va s
    ∙ ap (λ (os : List Outcome). if pass then os else [])
    (flat_same (λ v. if is_of_epoch s (found_by s v) then f (found_by s v) else []) (λ v. if is_of_epoch s (found_by s v) then g (found_by s v) else [])
    (λ v. ap (λ (os : List Outcome). if is_of_epoch s (found_by s v) then os else []) (same v)) (versions_at x p.first p.events va s))
    ∙ sym (reads_flat g x p va s)

-- ---- words

own_word : (a : Question) (p : Past) (s : Stand) (v : Version)
    → (if is_of_epoch s (found_by s v) then step_says a p s (found_by s v) else []) ≡ word_says a p s false v
unfolding word_says
own_word a p s v = refl

choose_both : (b e : Bool) (os : List Outcome) → (if b then (if e then os else []) else []) ≡ (if b && e then os else [])
choose_both true e os = refl
choose_both false e os = refl

napot_word : (a : Question) (p : Past) (s : Stand) (v : Version)
    → (if is_napot_leaf a.extensions v then (if is_of_epoch s (found_by s v) then step_says a p s (found_by s v) else []) else []) ≡ word_says a p s true v
unfolding word_says
napot_word a p s v = choose_both (is_napot_leaf a.extensions v) (is_of_epoch s (found_by s v)) (step_says a p s (found_by s v))

own_words : (a : Question) (p : Past) (s : Stand) (vs : List Version)
    → flat_map (λ v. if is_of_epoch s (found_by s v) then step_says a p s (found_by s v) else []) vs ≡ words_say a p s false vs
unfolding words_say
own_words a p s vs =
    flat_same (λ v. if is_of_epoch s (found_by s v) then step_says a p s (found_by s v) else []) (word_says a p s false) (own_word a p s) vs

napot_words : (a : Question) (p : Past) (s : Stand) (vs : List Version)
    → flat_map (λ v. if is_of_epoch s (found_by s v) then step_says a p s (found_by s v) else []) (filter (is_napot_leaf a.extensions) vs) ≡ words_say a p s true vs
unfolding words_say
napot_words a p s vs =
    flat_filter (λ v. if is_of_epoch s (found_by s v) then step_says a p s (found_by s v) else []) (is_napot_leaf a.extensions) vs
    ∙ flat_same (λ v. if is_napot_leaf a.extensions v then (if is_of_epoch s (found_by s v) then step_says a p s (found_by s v) else []) else [])
    (word_says a p s true) (napot_word a p s) vs

group_words : (a : Question) (p : Past) (s : Stand)
    → flat_map (λ v. if is_of_epoch s (found_by s v) then step_says a p s (found_by s v) else []) (group_versions a.extensions p.first p.events a.request.va.0 s)
    ≡ group_says a p s (vpn (page_of a.request.va.0) 0 / 16 * 16)
unfolding group_says
group_words a p s =
    let one = λ (v : Version). if is_of_epoch s (found_by s v) then step_says a p s (found_by s v) else [] in
    let first = vpn (page_of a.request.va.0) 0 / 16 * 16 in
    flat_flat one (λ (n : ℕ). filter (is_napot_leaf a.extensions) (versions_of p s (first + n))) (range_with_len 0 16)
    ∙ flat_same (λ (n : ℕ). flat_map one (filter (is_napot_leaf a.extensions) (versions_of p s (first + n))))
    (λ (n : ℕ). words_say a p s true (versions_of p s (first + n))) (λ n. napot_words a p s (versions_of p s (first + n))) (range_with_len 0 16)

entries_are : (a : Question) (p : Past) (s : Stand)
    → flat_map (λ v. if is_of_epoch s (found_by s v) then step_says a p s (found_by s v) else []) (versions_at a.extensions p.first p.events a.request.va.0 s)
    ≡ entries_say a p s
unfolding entries_say
entries_are a p s =
    let one = λ (v : Version). if is_of_epoch s (found_by s v) then step_says a p s (found_by s v) else [] in
    let own = own_versions p.first p.events a.request.va.0 s in
    let group = group_versions a.extensions p.first p.events a.request.va.0 s in
    let b = a.extensions.svnapot && s.level == 0 in
    flat_either one b own group
    ∙ ap (λ (os : List Outcome). os ++ (if b then flat_map one group else [])) (own_words a p s own)
    ∙ ap (λ (os : List Outcome). words_say a p s false own ++ (if b then os else [])) (group_words a p s)

-- ---- no pointer stands in a last table

kind_below : (invalid right napot reserved : Bool)
    → is_kind (if invalid then Invalid else (if right then (if napot then Invalid else Leaf) else (if reserved || true then Invalid else Pointer))) Pointer ≡ false
kind_below true right napot reserved = refl
kind_below false true true reserved = refl
kind_below false true false reserved = refl
kind_below false false napot true = refl
kind_below false false napot false = refl

no_pointer : (x : Extensions) (w : ℕ) → is_kind (kind_in x 0 w) Pointer ≡ false
no_pointer x w =
    kind_below (not (has w 0) || (has w 2 && not (has w 1)) || has_reserved x w) (has w 1 || has w 3) (has w 63 && not (is_napot 0 w)) (reserved_in_pointer w)

pub pointer_above : (x : Extensions) (level w : ℕ) → is_kind (kind_in x level w) Pointer ≡ true → (n : ℕ) × (level ≡ suc n)
pointer_above x zero w is = absurd (false≢true (sym (no_pointer x w) ∙ is))
pointer_above x (suc n) w is = (n, refl)

-- ---- the search

-- what the search says of a PTE, with `levels` levels below it
goes : (a : Question) (p : Past) (levels : ℕ) (s : Stand) → s.level ≡ suc levels → (v : Version)
    → flat_map (said a.extensions p a.request a.mode)
    (if is_pointer a.extensions (found_by s v) then search a.extensions p.first p.events a.request.va.0 levels (below_of p.events s (found_by s v).read)
    else ended (found_by s v) ∷ [])
    ≡ step_says a p s (found_by s v)
unfolding step_says pointer_says table_says item_says
goes a p levels s e v = choose (is_pointer a.extensions (found_by s v)) where
  choose : (b : Bool) → flat_map (said a.extensions p a.request a.mode)
      (if b then search a.extensions p.first p.events a.request.va.0 levels (below_of p.events s (found_by s v).read) else ended (found_by s v) ∷ [])
      ≡ (if b then pointer_says a p s (found_by s v) else item_says a p (ended (found_by s v)))
  choose true =
      let one : levels ≡ s.level - 1 = omega (arith, e) in
      ap (λ (n : ℕ). flat_map (said a.extensions p a.request a.mode) (search a.extensions p.first p.events a.request.va.0 n (below_of p.events s (found_by s v).read))) one
  choose false = append-nil (said a.extensions p a.request a.mode (ended (found_by s v)))

ends_here : (a : Question) (p : Past) (s : Stand) → s.level ≡ 0 → (v : Version)
    → said a.extensions p a.request a.mode (ended (found_by s v)) ≡ step_says a p s (found_by s v)
unfolding step_says item_says
ends_here a p s e v =
    let leaf : is_pointer a.extensions (found_by s v) ≡ false = ap (λ (n : ℕ). is_kind (kind_in a.extensions n v.word) Pointer) e ∙ no_pointer a.extensions v.word in
    rw leaf refl

search_says : (a : Question) (p : Past) (levels : ℕ) (s : Stand) → s.level ≡ levels
    → flat_map (said a.extensions p a.request a.mode) (search a.extensions p.first p.events a.request.va.0 levels s)
    ≡ said a.extensions p a.request a.mode (stood s) ++ flat_map (step_says a p s) (reads_at a.extensions p.first p.events a.request.va.0 s)
search_says a p zero s e =
    let say = said a.extensions p a.request a.mode in
    ap (λ (os : List Outcome). say (stood s) ++ os)
    (flat_map-map say ended (reads_at a.extensions p.first p.events a.request.va.0 s)
    ∙ reads_same (λ (c : Found). say (ended c)) (step_says a p s) a.extensions p a.request.va.0 s (ends_here a p s e))
search_says a p (suc levels) s e =
    let say = said a.extensions p a.request a.mode in
    let one = λ (c : Found). if is_pointer a.extensions c then search a.extensions p.first p.events a.request.va.0 levels (below_of p.events s c.read) else ended c ∷ [] in
    ap (λ (os : List Outcome). say (stood s) ++ os)
    (flat_flat say one (reads_at a.extensions p.first p.events a.request.va.0 s)
    ∙ reads_same (λ (c : Found). flat_map say (one c)) (step_says a p s) a.extensions p a.request.va.0 s (goes a p levels s e))

table_is : (a : Question) (p : Past) (s : Stand)
    → table_says a p s ≡ item_says a p (stood s)
    ++ (if may_pass p.first (until p.events s.last) privilege.Supervisor access.Load (place_at a.request.va.0 s) 8 then entries_say a p s else [])
unfolding table_says item_says
table_is a p s =
    let say = said a.extensions p a.request a.mode in
    let pass = may_pass p.first (until p.events s.last) privilege.Supervisor access.Load (place_at a.request.va.0 s) 8 in
    search_says a p s.level s refl
    ∙ ap (λ (os : List Outcome). say (stood s) ++ os) (reads_flat (step_says a p s) a.extensions p a.request.va.0 s)
    ∙ ap (λ (os : List Outcome). say (stood s) ++ (if pass then os else [])) (entries_are a p s)

pub table_goes : (a : Question) (p : Past) (s : Stand)
    → may_pass p.first (until p.events s.last) privilege.Supervisor access.Load (place_at a.request.va.0 s) 8 ≡ true
    → item_says a p (stood s) ++ entries_say a p s ≡ table_says a p s
table_goes a p s e = sym (table_is a p s ∙ ap (λ (b : Bool). item_says a p (stood s) ++ (if b then entries_say a p s else [])) e)

pub table_stops : (a : Question) (p : Past) (s : Stand)
    → may_pass p.first (until p.events s.last) privilege.Supervisor access.Load (place_at a.request.va.0 s) 8 ≡ false
    → item_says a p (stood s) ≡ table_says a p s
table_stops a p s e =
    sym (table_is a p s ∙ ap (λ (b : Bool). item_says a p (stood s) ++ (if b then entries_say a p s else [])) e ∙ append-nil (item_says a p (stood s)))

-- ---- roots

pub root_goes : (a : Question) (p : Past) (u : Use) (t : Stand) → root_at a.request.va.0 u (top_of u.satp) ≡ t ∷ [] → table_says a p t ≡ root_says a p u
unfolding root_says
root_goes a p u t e = sym (ap (flat_map (table_says a p)) e ∙ append-nil (table_says a p t))

pub root_stops : (a : Question) (p : Past) (u : Use) → root_at a.request.va.0 u (top_of u.satp) ≡ [] → [] ≡ root_says a p u
unfolding root_says
root_stops a p u e = sym (ap (flat_map (table_says a p)) e)

root_is : (a : Question) (p : Past) (u : Use)
    → flat_map (said a.extensions p a.request a.mode) (search_from a.extensions p.first p.events a.request.va.0 u) ≡ root_says a p u
unfolding root_says table_says
root_is a p u =
    flat_flat (said a.extensions p a.request a.mode) (λ (s : Stand). search a.extensions p.first p.events a.request.va.0 s.level s) (root_at a.request.va.0 u (top_of u.satp))

pub roots_are : (a : Question) (p : Past) (us : List Use) → translated a.extensions p us a.request a.mode ≡ flat_map (root_says a p) us
roots_are a p us =
    let say = said a.extensions p a.request a.mode in
    let from = search_from a.extensions p.first p.events a.request.va.0 in
    flat_flat say from us ∙ flat_same (λ (u : Use). flat_map say (from u)) (root_says a p) (root_is a p) us

-- one more of the uses is told of
pub uses_more : (f : Use → List Outcome) (us : List Use) (n : ℕ) (u : Use) (done all : List Outcome) → slice_get us n ≡ Some u → done ++ flat_map f (drop n us) ≡ all
    → (done ++ f u) ++ flat_map f (drop (n + 1) us) ≡ all
uses_more f us n u done all at total =
    let next : n + 1 ≡ suc n = omega arith in
    append_assoc done (f u) (flat_map f (drop (n + 1) us))
    ∙ ap (λ (k : ℕ). done ++ (f u ++ flat_map f (drop k us))) next
    ∙ ap (λ (ws : List Use). done ++ flat_map f ws) (sym (drop_at us n u at)) ∙ total

pub uses_all : (f : Use → List Outcome) (us : List Use) (n : ℕ) (done all : List Outcome) → length us ≤ n → done ++ flat_map f (drop n us) ≡ all → done ≡ all
uses_all f us n done all over total =
    sym (append-nil done) ∙ sym (ap (λ (ws : List Use). done ++ flat_map f ws) (drop_of_length-le us over)) ∙ total
