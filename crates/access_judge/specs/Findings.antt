-- The outcomes that findings list.
use Rattle.std.specs.Prelude.{◌≡◌, ◌-◌, true, false, None, Some, List, [], ◌∷◌, ◌++◌, if◌then◌else◌, nat_lt, slice_set}
use Rattle.std.proofs.Common.{refl, subst, ◌∙◌, inl}
use Rattle.std.specs.List.{Contains}
use Rattle.access_history.specs.declared.outcome.Outcome.{Outcome}
use Rattle.access_judge.specs.Listing.{EachOnce, Lists, Seeks, lists_nothing, lists_on, outcomes_of, seeks_nothing, seeks_on}
use Rattle.access_judge.specs.declared.findings.Findings.{Findings}
use Rattle.access_judge.specs.declared.log.PastSatp.{PastSatp}
use Rattle.access_judge.specs.declared.sink.Step.{Step}
use Rattle.access_judge.specs.declared.way.Way.{Way}
use Rattle.access_judge.specs.declared.way.Told.{Told}
use Rattle.access_judge.specs.declared.findings.Seeker.{Seeker}

-- the outcomes that findings list, with their ways and without
abbrev pub told_in : Findings → List Told
told_in f = f.found.items

abbrev pub listed : Findings → List Outcome
listed f = outcomes_of (told_in f)

-- a way at whose root the search begins; and one that goes on by a PTE, below those of higher levels
abbrev pub begun : PastSatp → Way
begun root = record { root = Some root; steps = None ∷ None ∷ None ∷ None ∷ None ∷ [] }

abbrev pub noted : Step → Way → Way
noted s w =
    if nat_lt s.level 5
    then (if nat_lt 0 s.level then record w { steps = slice_set (slice_set w.steps s.level (Some s)) (s.level - 1) None } else record w { steps = slice_set w.steps s.level (Some s) })
    else w

pub record Finds (a : Findings) (xs : List Outcome) (b : Findings) : Type 0 where
  pub fits : b.is_full ≡ false → a.is_full ≡ false
  pub lists : b.is_full ≡ false → Lists (listed a) xs (listed b)
  pub once : b.is_full ≡ false → EachOnce (listed a) → EachOnce (listed b)

pub finds_nothing : (a : Findings) → Finds a [] a
finds_nothing a = record { fits = λ h. h; lists = λ h. lists_nothing (listed a); once = λ h each. each }

pub finds_on : (a b c : Findings) (xs ys : List Outcome) → Finds a xs b → Finds b ys c → Finds a (xs ++ ys) c
finds_on a b c xs ys p q = record {
  fits = λ h. p.fits (q.fits h);
  lists = λ h. lists_on (listed a) (listed b) (listed c) xs ys (p.lists (q.fits h)) (q.lists h);
  once = λ h each. q.once h (p.once (q.fits h) each);
}

-- each of the outcomes is listed, if memory was found for each
abbrev pub Has : Findings → List Outcome → Type 0
Has f xs = f.is_full ≡ false → (o : Outcome) → Contains xs o → Contains (listed f) o

pub has_told : (a b : Findings) (xs : List Outcome) → Finds a xs b → Has b xs
has_told a b xs p = λ fits. (p.lists fits).each

pub has_still : (a b : Findings) (xs ys : List Outcome) → Has a xs → Finds a ys b → Has b xs
has_still a b xs ys has p = λ fits o x. (p.lists fits).kept o (has (p.fits fits) o x)

pub finds_again : (a : Findings) (xs : List Outcome) → Has a xs → Finds a xs a
finds_again a xs has = record {
  fits = λ h. h;
  lists = λ fits. record { only = λ o old. inl old; kept = λ o old. old; each = has fits };
  once = λ h each. each;
}

pub record Sought (a : Seeker) (xs : List Outcome) (b : Seeker) : Type 0 where
  pub same : b.wanted ≡ a.wanted
  pub seeks : Seeks a.wanted a.is_found xs b.is_found

pub sought_nothing : (a : Seeker) → Sought a [] a
sought_nothing a = record { same = refl; seeks = seeks_nothing a.wanted a.is_found }

pub sought_on : (a b c : Seeker) (xs ys : List Outcome) → Sought a xs b → Sought b ys c → Sought a (xs ++ ys) c
sought_on a b c xs ys p q = record {
  same = q.same ∙ p.same;
  seeks = seeks_on a.wanted a.is_found b.is_found c.is_found xs ys p.seeks
      (subst (λ (w : Outcome). Seeks w b.is_found ys c.is_found) p.same q.seeks);
}

-- if the outcome that is wanted is among these, it was found
abbrev pub HasSought : Seeker → List Outcome → Type 0
HasSought s xs = Contains xs s.wanted → s.is_found ≡ true

pub has_sought : (a b : Seeker) (xs : List Outcome) → Sought a xs b → HasSought b xs
has_sought a b xs p has = p.seeks.each (subst (λ (w : Outcome). Contains xs w) p.same has)

pub still_sought : (a b : Seeker) (xs ys : List Outcome) → HasSought a xs → Sought a ys b → HasSought b xs
still_sought a b xs ys has p x = p.seeks.kept (has (subst (λ (w : Outcome). Contains xs w) p.same x))

pub sought_again : (a : Seeker) (xs : List Outcome) → HasSought a xs → Sought a xs a
sought_again a xs has = record { same = refl; seeks = record { only = λ h. inl h; kept = λ h. h; each = has } }
