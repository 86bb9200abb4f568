-- Lemmas of the entry that decides: from an entry on, either it matches and decides, or the verdict is that of the entries after it.
use Rattle.std.proofs.Common.{◌≡◌, ℕ, ◌+◌, ◌<◌, Bool, true, false, ◌&&◌, sym, ◌∙◌, ap, refl, List, length, drop, get_or}
use Rattle.std.proofs.lemmas.List.{at_drop_more}
use Rattle.std.specs.List.{find}
use Rattle.sv39_entry.specs.declared.access.Access.{Access}
use Rattle.walk_rules.specs.Pmp.{contains, entry_grants, overlaps, region_of, verdict, with_regions}
use Rattle.walk_rules.specs.declared.pmp.PmpEntry.{PmpEntry}
use Rattle.walk_rules.specs.declared.pmp.Region.{Region}
use Rattle.walk_rules.specs.declared.status.Privilege.{Privilege}

-- the verdict of a hart's entries `es`, if none before `rest` matches; `below` is the pmpaddr before those
abbrev pub left : List PmpEntry → Privilege → Access → ℕ → ℕ → ℕ → List PmpEntry → Bool
left es p a pa width below rest = verdict es p a pa width (find (λ x. overlaps x.1 pa width) (with_regions below rest))

module _ (es : List PmpEntry) (p : Privilege) (a : Access) (pa width below i : ℕ) (d : PmpEntry) (some : i < length es)
    (r : Region) (is : r ≡ region_of below (get_or es i d)) where
  pub hit : (over : Bool) → over ≡ overlaps r pa width → over ≡ true
      → left es p a pa width below (drop i es) ≡ (contains r pa width && entry_grants (get_or es i d) p a)
  hit over says matched =
      let matches : overlaps (region_of below (get_or es i d)) pa width ≡ true = ap (λ (x : Region). overlaps x pa width) (sym is) ∙ sym says ∙ matched in
      at_drop_more (λ (rest : List PmpEntry). left es p a pa width below rest) es i d some ∙ rw matches (rw is refl)

  pub miss : (over : Bool) → over ≡ overlaps r pa width → over ≡ false
      → left es p a pa width below (drop i es) ≡ left es p a pa width (get_or es i d).address (drop (i + 1) es)
  miss over says unmatched =
      let none : overlaps (region_of below (get_or es i d)) pa width ≡ false = ap (λ (x : Region). overlaps x pa width) (sym is) ∙ sym says ∙ unmatched in
      at_drop_more (λ (rest : List PmpEntry). left es p a pa width below rest) es i d some ∙ rw none refl
