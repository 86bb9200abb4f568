-- Lemmas of the tests of kinds, levels and PMP that the search makes.
use Rattle.std.proofs.Common.{◌≡◌, ◌≢◌, ◌⊎◌, ℕ, zero, suc, ◌+◌, ◌*◌, ◌&&◌, ◌||◌, not, Bool, true, false, if◌then◌else◌, List, refl, inl, inr, arith, Option, Some, None}
use Rattle.std.proofs.lemmas.Bool.{cases_Bool, false≢true}
use Rattle.std.specs.List.{Contains}
use Rattle.sv39_entry.specs.Address.{has}
use Rattle.sv39_entry.specs.declared.access.Access.TheVariants as access
use Rattle.sv39_entry.specs.declared.entry.Kind.{Kind}
use Rattle.sv39_entry.specs.declared.entry.Kind.TheVariants.{Invalid, Leaf, Pointer}
use Rattle.walk_rules.specs.Addresses.{is_canonical}
use Rattle.walk_rules.specs.Kinds.{has_reserved, kind_in, leaf_kind, reserved_in_pointer}
use Rattle.walk_rules.specs.Pmp.{pmp_permits}
use Rattle.walk_rules.specs.declared.extensions.Extensions.{Extensions}
use Rattle.walk_rules.specs.declared.pmp.PmpEntry.{PmpEntry}
use Rattle.walk_rules.specs.declared.status.Privilege.TheVariants as privilege
use Rattle.access_history.specs.Held.{MayPassRead}
use Rattle.access_history.specs.History.{First, IsPast, now, older, pmps_at}
use Rattle.access_history.specs.declared.event.Event.{Event}
use Rattle.access_history.specs.declared.event.Event.TheVariants.{Store, WriteSatp, WritePmp, Fence}
use Rattle.access_judge.specs.Search.{IsUnfenced, is_kind, is_translated_in, may_pass}
use Rattle.access_judge.proofs.Moments.{not_full, unfenced_tail}
use Rattle.access_judge.proofs.SearchLists.{any_contains, any_from, contains_later}

-- ---- kinds

pub kind_is : (a b : Kind) → is_kind a b ≡ true → a ≡ b
kind_is Invalid Invalid is = refl
kind_is Invalid Leaf is = absurd (false≢true is)
kind_is Invalid Pointer is = absurd (false≢true is)
kind_is Leaf Invalid is = absurd (false≢true is)
kind_is Leaf Leaf is = refl
kind_is Leaf Pointer is = absurd (false≢true is)
kind_is Pointer Invalid is = absurd (false≢true is)
kind_is Pointer Leaf is = absurd (false≢true is)
kind_is Pointer Pointer is = refl

pub is_same_kind : (a b : Kind) → a ≡ b → is_kind a b ≡ true
is_same_kind Invalid Invalid is = refl
is_same_kind Invalid Leaf is = cc
is_same_kind Invalid Pointer is = cc
is_same_kind Leaf Invalid is = cc
is_same_kind Leaf Leaf is = refl
is_same_kind Leaf Pointer is = cc
is_same_kind Pointer Invalid is = cc
is_same_kind Pointer Leaf is = cc
is_same_kind Pointer Pointer is = refl

pub is_other_kind : (a b : Kind) → a ≢ b → is_kind a b ≡ false
is_other_kind a b other = elim (cases_Bool (is_kind a b)) [
  | inl is ↦ absurd (other (kind_is a b is))
  | inr is ↦ is
]

-- what is no pointer is a leaf or invalid
pub leaf_or_invalid : (k : Kind) → k ≢ Pointer → (k ≡ Leaf) ⊎ (k ≡ Invalid)
leaf_or_invalid Invalid other = inr refl
leaf_or_invalid Leaf other = inl refl
leaf_or_invalid Pointer other = absurd (other refl)

leaf_no_pointer : (b : Bool) → (if b then Invalid else Leaf) ≢ Pointer
leaf_no_pointer true is = cc
leaf_no_pointer false is = cc

kind_by : (a b c : Bool) (w : ℕ) → (if a then Invalid else (if b then leaf_kind 0 w else (if c || true then Invalid else Pointer))) ≢ Pointer
kind_by true b c w is = cc
kind_by false true c w is = leaf_no_pointer _ is
kind_by false false true w is = cc
kind_by false false false w is = cc

-- below the tables of level 0 there are none
pub no_pointer_low : (x : Extensions) (level w : ℕ) → level ≡ 0 → kind_in x level w ≢ Pointer
no_pointer_low x zero w low is =
    kind_by (not (has w 0) || (has w 2 && not (has w 1)) || has_reserved x w) (has w 1 || has w 3) (reserved_in_pointer w) w is
no_pointer_low x (suc level) w low is = absurd (omega (arith, low))

-- ---- addresses that are translated

pub translated_from : (top : Option ℕ) (va : ℕ) → is_translated_in top va ≡ true → (t : ℕ) × (top ≡ Some t) × (is_canonical t va ≡ true)
translated_from None va is = absurd (false≢true is)
translated_from (Some t) va is = (t, refl, is)

pub translated_in : (top : Option ℕ) (va t : ℕ) → top ≡ Some t → is_canonical t va ≡ true → is_translated_in top va ≡ true
translated_in top va t is canonical = rw is canonical

-- ---- PMP

-- without a fence of everything the entries that a check may go by get more
pub pmps_more : (first : List PmpEntry) (h k : List Event) (es : List PmpEntry) → IsUnfenced h → IsPast h k → Contains (pmps_at first k) es
    → Contains (pmps_at first h) es
pmps_more first h k es un now has = has
pmps_more first h k es un (older {h = before} {e = Store p i w} was) has = pmps_more first before k es (unfenced_tail _ before un) was has
pmps_more first h k es un (older {h = before} {e = WriteSatp w} was) has = pmps_more first before k es (unfenced_tail _ before un) was has
pmps_more first h k es un (older {h = before} {e = WritePmp n e} was) has =
    contains_later _ es (pmps_at first before) (pmps_more first before k es (unfenced_tail _ before un) was has)
pmps_more first h k es un (older {h = before} {e = Fence None None} was) has = absurd (not_full before un)
pmps_more first h k es un (older {h = before} {e = Fence None (Some s)} was) has = pmps_more first before k es (unfenced_tail _ before un) was has
pmps_more first h k es un (older {h = before} {e = Fence (Some a) s} was) has = pmps_more first before k es (unfenced_tail _ before un) was has

pub passes_later : (f : First) (h k : List Event) (table index : ℕ) → IsUnfenced h → IsPast h k → MayPassRead f k table index
    → may_pass f h privilege.Supervisor access.Load (table * 4096 + index * 8) 8 ≡ true
passes_later f h k table index un was may =
    any_contains (λ es. pmp_permits es privilege.Supervisor access.Load (table * 4096 + index * 8) 8) (pmps_at f.pmp h) may.0
    (pmps_more f.pmp h k may.0 un was may.1) may.2

pub may_pass_read : (f : First) (h : List Event) (table index : ℕ)
    → may_pass f h privilege.Supervisor access.Load (table * 4096 + index * 8) 8 ≡ true → MayPassRead f h table index
may_pass_read f h table index is =
    any_from (λ es. pmp_permits es privilege.Supervisor access.Load (table * 4096 + index * 8) 8) (pmps_at f.pmp h) is
