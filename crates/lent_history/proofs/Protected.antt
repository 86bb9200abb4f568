-- PMP entries, of which no more than some count.
use Rattle.std.proofs.Common.{◌≡◌, ℕ, zero, suc, ◌+◌, ◌<◌, ◌≤◌, List, [], ◌∷◌, ◌++◌, take, set, get_or, length, map, min, refl, ap, ap₂, sym, ◌∙◌, arith}
use Rattle.std.proofs.lemmas.List.{map-append, take_all, take_more, take_more_set}
use Rattle.walk_rules.specs.declared.pmp.PmpEntry.{PmpEntry}
use Rattle.access_history.specs.History.{pmp_at, satp_at}
use Rattle.lent_history.specs.Lent.{count_of, pmp_in, pmp_of}
use Rattle.lent_history.specs.Events.{history}
use Rattle.lent_history.specs.Protecting.{entries_of}
use Rattle.lent_history.specs.Recording.{Restarts}
use Rattle.lent_history.specs.declared.event.LentEvent.{LentEvent}
use Rattle.lent_history.specs.declared.hart.LentHart.{LentHart}
use Rattle.lent_history.specs.declared.hart.LentPmp.{LentPmp}
use Rattle.lent_history.specs.declared.pmp.PmpEntries.{PmpEntries}

pub set_past : {A : Type 0} (m : ℕ) (xs : List A) (n : ℕ) (x : A) → m ≤ n → set (take m xs) n x ≡ take m xs
set_past zero xs n x le = refl
set_past (suc m) [] n x le = refl
set_past (suc m) (y ∷ xs) zero x le = absurd (omega (arith, le))
set_past {A = A} (suc m) (y ∷ xs) (suc n) x le = ap (λ (ys : List A). y ∷ ys) (set_past m xs n x (omega (arith, le)))

pub entries_more : (ps : List LentPmp) (es : List PmpEntry) (n : ℕ) (e : PmpEntry) (d : LentPmp) → n < length es → n < length ps
    → take n es ≡ map pmp_in (take n ps) → e ≡ pmp_in (get_or ps n d) → take (n + 1) (set es n e) ≡ map pmp_in (take (n + 1) ps)
entries_more ps es n e d room there so is =
    take_more_set es n e room
    ∙ ap₂ (λ (xs : List PmpEntry) (x : PmpEntry). xs ++ x ∷ []) so is
    ∙ sym (ap (map pmp_in) (take_more ps n d there) ∙ map-append pmp_in (take n ps) (get_or ps n d ∷ []))

pub places_more : (ps : List LentPmp) (es : List PmpEntry) (n : ℕ) (p : LentPmp) (d : PmpEntry) → n < length ps → n < length es
    → map pmp_in (take n ps) ≡ take n es → pmp_in p ≡ get_or es n d → map pmp_in (take (n + 1) (set ps n p)) ≡ take (n + 1) es
places_more ps es n p d room there so is =
    ap (map pmp_in) (take_more_set ps n p room)
    ∙ map-append pmp_in (take n ps) (p ∷ [])
    ∙ ap₂ (λ (xs : List PmpEntry) (x : PmpEntry). xs ++ x ∷ []) so is
    ∙ sym (take_more es n d there)

pub entries_all : (ps : List LentPmp) (es : List PmpEntry) (n : ℕ) → length es ≡ n → length ps ≡ n → take n es ≡ map pmp_in (take n ps) → es ≡ map pmp_in ps
entries_all ps es n room there so =
    sym (take_all n es (omega (arith, room))) ∙ so ∙ ap (map pmp_in) (take_all n ps (omega (arith, there)))

pub places_all : (ps : List LentPmp) (es : List PmpEntry) (n : ℕ) → length es ≡ n → length ps ≡ n → map pmp_in (take n ps) ≡ take n es → map pmp_in ps ≡ es
places_all ps es n room there so = sym (entries_all ps es n room there (sym so))

-- the hart whose satp and PMP entries are those after its events, and which has none
pub restarts : (h : LentHart) (events : List LentEvent) (n satp first : ℕ) (entries : PmpEntries) (places : List LentPmp) → n ≡ count_of h (length events)
    → first ≡ h.satp → satp ≡ satp_at first (history events n) → entries_of entries ≡ pmp_at (pmp_of h) (history events n) → entries.count ≡ min h.pmp_count 64
    → map pmp_in places ≡ entries.entries
    → Restarts h events (record {
      profile = h.profile;
      asid_bits = h.asid_bits;
      mstatus = h.mstatus;
      satp = satp;
      pmp_count = h.pmp_count;
      count = 0;
      pmp = places;
    })
restarts h events n satp first entries places count begin now all few put =
    let few_enough : min entries.count 64 ≡ min h.pmp_count 64 = omega (arith, few) in
    record {
      count = refl;
      satp = now ∙ ap₂ (λ (w k : ℕ). satp_at w (history events k)) begin count;
      pmp =
          ap (take (min h.pmp_count 64)) put ∙ ap (λ (k : ℕ). take k entries.entries) (sym few_enough) ∙ all
          ∙ ap (λ (k : ℕ). pmp_at (pmp_of h) (history events k)) count;
      mstatus = refl;
      extensions = refl;
      spaces = λ asid. refl;
    }
