-- Lemmas on the region of a page (`region_at`): regions are in order and apart, so each page that one of them holds is in that
-- one (`region_stays`); a filler holds no page.
use Rattle.std.proofs.Common.{◌≡◌, ℕ, true, ◌≤◌, inl, inr, arith, sym, subst, ◌∙◌, List, [], ◌∷◌, Some}
use Rattle.process_model.specs.Order.{HasOrder, Row}
use Rattle.process_model.proofs.OrderLaws.{regions_row}
use Rattle.process_model.specs.Process.{Process, regions}
use Rattle.process_model.proofs.RegionRows.{held, here, here_or_later, not_held, passed}
use Rattle.process_model.specs.Regions.{end_of, holds_page, Region, region_at}
use Rattle.sv39_entry.specs.Schemes.{trapframe_page}
use Rattle.cow_fork.specs.Children.{IsRegionOf}

begins : (low high m : ℕ) (rs : List Region) (r : Region) → Row 0 low rs high → region_at rs m ≡ Some r → low ≤ r.first
begins low high m [] r row at = absurd (cc)
begins low high m (x ∷ rs) r row at = elim (here_or_later x rs m r at) [
  | inl first ↦ subst (λ (y : Region). low ≤ y.first) first.1 row.0
  | inr later ↦ let rest = begins (end_of x) high m rs r row.2 later.1 in omega (arith, row.0, rest)
]

same : (low high m n : ℕ) (rs : List Region) (r : Region) → Row 0 low rs high → region_at rs m ≡ Some r → holds_page r n ≡ true → region_at rs n ≡ Some r
same low high m n [] r row at holds = absurd (cc)
same low high m n (x ∷ rs) r row at holds = elim (here_or_later x rs m r at) [
  | inl first ↦ subst (λ (y : Region). region_at (y ∷ rs) n ≡ Some r) (sym first.1) (here r rs n holds)
  | inr later ↦
      let rest = begins (end_of x) high m rs r row.2 later.1 in
      let inside = held r n holds in
      passed x rs n (not_held x n (inr (omega (arith, rest, inside.0)))) ∙ same (end_of x) high m n rs r row.2 later.1 holds
]

pub region_stays : (p : Process) (m : ℕ) (r : Region) → HasOrder 0 p → region_at (regions p) m ≡ Some r → IsRegionOf p r
region_stays p m r order at n holds = same 0 (trapframe_page p.scheme) m n (regions p) r (regions_row 0 p order) at holds

pub none_entered : (p : Process) (r : Region) → r.pages ≡ 0 → IsRegionOf p r
none_entered p r none n holds = absurd (let inside = held r n holds in omega (arith, none, inside.0, inside.1))
