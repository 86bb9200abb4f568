-- Searches that leave out tables, one after another.
use Rattle.std.proofs.Common.{◌≡◌, ◌⊎◌, List, [], ◌++◌, inl, inr, sym, subst}
use Rattle.std.specs.List.{Contains}
use Rattle.access_history.specs.declared.outcome.Outcome.{Outcome}
use Rattle.access_judge.specs.Judging.{stand_of}
use Rattle.access_judge.specs.Listing.{no_element}
use Rattle.access_judge.specs.Search.{Stand}
use Rattle.access_judge.specs.Sifting.{Sifts}
use Rattle.access_judge.specs.declared.question.Table.{Table}

pub sifts_as : {S : Type 0} {gains : S → List Outcome → S → Type 0} {has : S → List Outcome → Type 0} {says : Stand → List Outcome}
    {a b : S} {seen since : List Table} {os all : List Outcome} → os ≡ all → Sifts gains has says a seen os b since → Sifts gains has says a seen all b since
sifts_as {gains = gains} {has} {says} {a} {b} {seen} {since} same p = subst (λ (xs : List Outcome). Sifts gains has says a seen xs b since) same p

pub sifts_nothing : {S : Type 0} {gains : S → List Outcome → S → Type 0} {has : S → List Outcome → Type 0} {says : Stand → List Outcome}
    → ((a : S) → gains a [] a) → (a : S) (seen : List Table) → Sifts gains has says a seen [] a seen
sifts_nothing gains_nothing a seen = record { if_said = λ said. (gains_nothing a, said) }

pub sifts_on : {S : Type 0} {gains : S → List Outcome → S → Type 0} {has : S → List Outcome → Type 0} {says : Stand → List Outcome}
    → ((a b c : S) (xs ys : List Outcome) → gains a xs b → gains b ys c → gains a (xs ++ ys) c)
    → {a b c : S} {ts us vs : List Table} {xs ys : List Outcome}
    → Sifts gains has says a ts xs b us → Sifts gains has says b us ys c vs → Sifts gains has says a ts (xs ++ ys) c vs
sifts_on gains_on {a} {b} {c} {xs = xs} {ys = ys} p q = record {
  if_said = λ said. let x = p.if_said said in let y = q.if_said x.1 in (gains_on a b c xs ys x.0 y.0, y.1);
}

-- what a sink gains without a look at a table
pub sifts_told : {S : Type 0} {gains : S → List Outcome → S → Type 0} {has : S → List Outcome → Type 0} {says : Stand → List Outcome}
    → ((a b : S) (xs ys : List Outcome) → has a xs → gains a ys b → has b xs)
    → {a b : S} (seen : List Table) {os : List Outcome} → gains a os b → Sifts gains has says a seen os b seen
sifts_told {says = says} has_still {a} {b} seen {os} told = record {
  if_said = λ said. (told, λ t has_t. has_still a b (says (stand_of t)) os (said t has_t) told);
}

-- a table that was searched before
pub sifts_seen : {S : Type 0} {gains : S → List Outcome → S → Type 0} {has : S → List Outcome → Type 0} {says : Stand → List Outcome}
    → ((a : S) (xs : List Outcome) → has a xs → gains a xs a)
    → (a : S) (seen : List Table) (t : Table) → Contains seen t → Sifts gains has says a seen (says (stand_of t)) a seen
sifts_seen {says = says} gains_again a seen t has_t = record {
  if_said = λ said. (gains_again a (says (stand_of t)) (said t has_t), said);
}

-- a table that is kept among those that were searched
pub sifts_kept : {S : Type 0} {gains : S → List Outcome → S → Type 0} {has : S → List Outcome → Type 0} {says : Stand → List Outcome}
    → ((a b : S) (xs : List Outcome) → gains a xs b → has b xs)
    → {a b : S} {seen since : List Table} (kept : List Table) (t : Table) → Sifts gains has says a seen (says (stand_of t)) b since
    → ((u : Table) → Contains kept u → Contains since u ⊎ (u ≡ t)) → Sifts gains has says a seen (says (stand_of t)) b kept
sifts_kept {has = has} {says = says} has_told {a} {b} kept t p among = record {
  if_said = λ said. let x = p.if_said said in (
    x.0,
    λ u has_u. elim (among u has_u) [
      | inl before ↦ x.1 u before
      | inr is ↦ subst (λ (w : Table). has b (says (stand_of w))) (sym is) (has_told a b (says (stand_of t)) x.0)
    ],
  );
}

-- at the begin none was searched
pub sifts_first : {S : Type 0} {gains : S → List Outcome → S → Type 0} {has : S → List Outcome → Type 0} {says : Stand → List Outcome}
    → ((a : S) → gains a [] a) → (a : S) {seen : List Table} → seen ≡ [] → Sifts gains has says a [] [] a seen
sifts_first {gains = gains} {has} {says} gains_nothing a none =
    subst (λ (ts : List Table). Sifts gains has says a [] [] a ts) (sym none) (sifts_nothing gains_nothing a [])

pub sifted : {S : Type 0} {gains : S → List Outcome → S → Type 0} {has : S → List Outcome → Type 0} {says : Stand → List Outcome}
    → {a b : S} {since : List Table} {os : List Outcome} → Sifts gains has says a [] os b since → gains a os b
sifted p = (p.if_said (λ t has_t. absurd (no_element t has_t))).0
