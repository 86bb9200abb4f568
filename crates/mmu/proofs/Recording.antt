-- A history after one more event: its events, and that it happened (`past_after`).
use Rattle.std.proofs.Common.{◌≡◌, ℕ, Result, Ok, Err, OnOk, IsOk, List, [], ◌∷◌, ◌++◌, reverse, ap, ◌∙◌}
use Rattle.std.proofs.lemmas.Bool.{false≢true}
use Rattle.std.proofs.lemmas.List.{reverse-append}
use Rattle.walk_rules.specs.declared.pmp.PmpEntry.{PmpEntry}
use Rattle.access_history.specs.History.{Memory}
use Rattle.access_history.specs.Permits.{Past}
use Rattle.access_history.specs.declared.event.Event.{Event}
use Rattle.mmu.specs.Protecting.{entries_of}
use Rattle.mmu.specs.Recorded.{events_of, first_of, past_of}
use Rattle.mmu.specs.declared.history.History.{History}

pub one_more : (xs ys : List Event) (e : Event) → ys ≡ xs ++ e ∷ [] → reverse ys ≡ e ∷ reverse xs
one_more xs ys e is = ap reverse is ∙ reverse-append xs (e ∷ [])

pub on_ok : {T E : Type 0} (r : Result T E) (P : Type 0) → IsOk r → OnOk r P → P
on_ok (Ok x) P is p = p
on_ok (Err e) P is p = absurd (false≢true is)

abbrev pub past : Memory → ℕ → List PmpEntry → List Event → Past
past m satp pmp events = record { first = record { memory = m; satp = satp; pmp = pmp }; events = events }

pub past_after : (a b : History) (events : List Event) → events_of b ≡ events → first_of b.memory b.changes ≡ first_of a.memory a.changes
    → b.first_satp ≡ a.first_satp → entries_of b.protection.first ≡ entries_of a.protection.first
    → past_of b ≡ record { first = (past_of a).first; events = events }
past_after a b events same memory satp pmp =
    ap (λ (m : Memory). past m b.first_satp (entries_of b.protection.first) (events_of b)) memory
    ∙ ap (λ (s : ℕ). past (first_of a.memory a.changes) s (entries_of b.protection.first) (events_of b)) satp
    ∙ ap (λ (es : List PmpEntry). past (first_of a.memory a.changes) a.first_satp es (events_of b)) pmp
    ∙ ap (past (first_of a.memory a.changes) a.first_satp (entries_of a.protection.first)) same
