-- What the search comes by is held, or may be stood at.
use Rattle.std.proofs.Common.{◌≡◌, ◌⊎◌, ℕ, ◌==◌, ◌||◌, true, false, List, length, refl, sym, ◌∙◌, ap, subst, inl, inr, arith}
use Rattle.std.proofs.lemmas.Bool.{and_parts, eqb-true, false≢true, or_cases, or_left}
use Rattle.sv39_entry.specs.Satp.{asid}
use Rattle.walk_rules.specs.declared.extensions.Extensions.{Extensions}
use Rattle.access_history.specs.Held.{IsHeld, has_global}
use Rattle.access_history.specs.History.{First}
use Rattle.access_history.specs.Permits.{MayStandAt, Past, satp_of}
use Rattle.access_history.specs.Permits as permits
use Rattle.access_history.specs.declared.event.Event.{Event}
use Rattle.access_history.specs.declared.outcome.Request.{Request}
use Rattle.access_judge.specs.Search.{AreUses, Found, IsUnfenced, Stand, Use, ended, found_by, is_fenced, stood, until}
use Rattle.access_judge.proofs.FencedReads.{unfenced_uncovered}
use Rattle.access_judge.proofs.KeptReads.{held_later}
use Rattle.access_judge.proofs.Moments.{past_trans, until_now, until_past}
use Rattle.access_judge.proofs.Parts.{EndedOnly, StoodOnly}
use Rattle.access_judge.proofs.SearchReads.{read_by, version_was}
use Rattle.access_judge.proofs.SearchStands.{MayBeAt, read_held, read_there, searched, version_past}

pub ended_only : (x : Extensions) (f : First) (h : List Event) (us : List Use) (va : ℕ) → IsUnfenced h → AreUses f.satp h us → EndedOnly x f h us va
ended_only x f h us va un uses c has passed =
    let item = searched x f h us va un uses (ended c) has in
    let s = item.0 in
    let stand = item.1 in
    let read = read_by x f h va s c item.2 in
    let v = read.0 in
    let low = stand.low in
    let early = (version_was x f h va s v low read.1.among).0 in
    let open_still = subst (λ (d : Found). is_fenced x f h va d ≡ false) (sym read.2) passed in
    let free = unfenced_uncovered x f h va un (found_by s v) (omega (arith, low, early)) open_still in
    let then = read_held x f h us va un uses s v stand read.1 (λ e k at since. free e k (past_trans h (until h s.last) _ (until_past h s.last) at) since) in
    let past = (version_past x f h us va un uses s v stand read.1).0 in
    let held = held_later x f va h (until h s.last) (until h v.last) (found_by s v).read then (until_past h s.last) past free in
    (subst (λ (d : Found). IsHeld x f va h d.read (until h d.last)) read.2 held, item.3)

-- what makes a walk at a stand one of the present satp
stands : (x : Extensions) (p : Past) (q : Request) (s : Stand) → (s.asid ≡ asid (satp_of p)) ⊎ (s.global ≡ true)
    → MayBeAt x p.first q.va.0 p.events (read_there s 0) → MayStandAt x p q (read_there s 0)
stands x p q s (inl own) (inl root) = permits.at_root root own
stands x p q s (inr global) (inl root) =
    let word : has_global 0 ≡ false = refl in
    absurd (false≢true (sym word ∙ sym root.global ∙ or_left s.global (has_global 0) global))
stands x p q s (inl own) (inr up) = permits.below up.2 up.3 (inl own)
stands x p q s (inr global) (inr up) =
    let all : (up.0.global || has_global 0) ≡ true = sym up.3.global ∙ or_left s.global (has_global 0) global in
    permits.below up.2 up.3 (inr (elim (or_cases up.0.global (has_global 0) all) [ inl is ↦ is | inr word ↦ absurd (false≢true word) ]))

pub stood_only : (x : Extensions) (p : Past) (us : List Use) (q : Request) → IsUnfenced p.events → AreUses p.first.satp p.events us
    → StoodOnly x p us q
stood_only x p us q un uses s has is_now =
    let parts = and_parts (s.last == length p.events) (s.asid == asid (satp_of p) || s.global) is_now in
    let stand = searched x p.first p.events us q.va.0 un uses (stood s) has in
    let moment : until p.events s.last ≡ p.events = ap (until p.events) (eqb-true s.last (length p.events) parts.0) ∙ until_now p.events in
    let there = subst (λ (u : List Event). MayBeAt x p.first q.va.0 u (read_there s 0)) moment (stand.may_be 0) in
    let own = elim (or_cases (s.asid == asid (satp_of p)) s.global parts.1) as (λ _. (s.asid ≡ asid (satp_of p)) ⊎ (s.global ≡ true)) [
      | inl same ↦ inl (eqb-true s.asid (asid (satp_of p)) same)
      | inr global ↦ inr global
    ] in
    (read_there s 0, stands x p q s own there, refl, refl)
