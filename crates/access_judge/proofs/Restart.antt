-- After a fence of everything the history before it may be dropped: what is permitted then goes by memory, satp and PMP of that moment alone.
use Rattle.std.proofs.Common.{◌≡◌, ◌⊎◌, ℕ, ◌/◌, ◌%◌, ◌≤◌, ◌==◌, ◌&&◌, true, Option, None, Some, List, [], ◌∷◌, ◌++◌, length, refl, sym, ◌∙◌, ap, inl, inr, subst, arith, if◌then◌else◌}
use Rattle.std.specs.Prelude.{is_some, slice_set}
use Rattle.std.specs.List.{Contains}
use Rattle.std.proofs.lemmas.List.{append_cancel_right, length-append}
use Rattle.sv39_entry.specs.Address.{page_of, vpn}
use Rattle.sv39_entry.specs.Satp.{asid}
use Rattle.sv39_entry.specs.declared.access.Access.{Access}
use Rattle.sv39_entry.specs.declared.access.Access.TheVariants as access
use Rattle.sv39_entry.specs.declared.access.Mode.{Mode}
use Rattle.walk_rules.specs.Addresses.{leads_to, top_of}
use Rattle.walk_rules.specs.declared.extensions.Extensions.{Extensions}
use Rattle.walk_rules.specs.declared.memory_type.MemoryType.{MemoryType}
use Rattle.walk_rules.specs.declared.memory_type.MemoryType.TheVariants.{Pma}
use Rattle.walk_rules.specs.declared.pmp.PmpEntry.{PmpEntry}
use Rattle.walk_rules.specs.declared.status.Privilege.{Privilege}
use Rattle.walk_rules.specs.declared.status.Privilege.TheVariants as privilege
use Rattle.access_history.specs.Held.{BecameLeaf, EndsWalks, HadWord, IsAddress, IsAtRoot, IsCovered, IsHeld, IsKept, IsUnder, MayRead, Read, at_root, below, goes_on, is_active, next, now, stays, updated}
use Rattle.access_history.specs.History.{First, IsPast, Memory, memory_at, older, pmp_at, pmps_at, satp_at}
use Rattle.access_history.specs.History as history
use Rattle.access_history.specs.Permits.{Ends, MayFail, MayPass, MayStandAt, MayUpdate, Past, Permits, Says, Serves, index_of, is_there, memory_of, place, privilege_of, satp_of, update}
use Rattle.access_history.specs.Permits as permits
use Rattle.access_history.specs.declared.event.Event.{Event}
use Rattle.access_history.specs.declared.event.Event.TheVariants.{Store, WriteSatp, WritePmp, Fence}
use Rattle.access_history.specs.declared.outcome.Outcome.{Outcome}
use Rattle.access_history.specs.declared.outcome.Request.{Request}
use Rattle.access_history.specs.declared.outcome.Update.{Update}
use Rattle.access_judge.specs.Search.{RestartIsExact, restarted}

-- the parts of an equation of lists
same_head : {X : Type 0} (a b : X) (s t : List X) → a ∷ s ≡ b ∷ t → a ≡ b
same_head a b s t same = cc

same_tail : {X : Type 0} (a b : X) (s t : List X) → a ∷ s ≡ b ∷ t → s ≡ t
same_tail a b s t same = cc

module _ (f : First) (h : List Event) where
  abbrev fenced : List Event
  fenced = Fence None None ∷ h

  -- the state after the fence, as a first one
  abbrev anew : First
  anew = (restarted (record { first = f; events = h })).first

  memory_is : (since : List Event) → memory_at f.memory (since ++ fenced) ≡ memory_at anew.memory since
  memory_is [] = refl
  memory_is (Store p i w ∷ h) = ap (λ (m : Memory). λ (ppn index : ℕ). if ppn == p && index == i then Some w else m ppn index) (memory_is h)
  memory_is (WriteSatp w ∷ h) = memory_is h
  memory_is (WritePmp n e ∷ h) = memory_is h
  memory_is (Fence a s ∷ h) = memory_is h

  satp_is : (since : List Event) → satp_at f.satp (since ++ fenced) ≡ satp_at anew.satp since
  satp_is [] = refl
  satp_is (Store p i w ∷ h) = satp_is h
  satp_is (WriteSatp w ∷ h) = refl
  satp_is (WritePmp n e ∷ h) = satp_is h
  satp_is (Fence a s ∷ h) = satp_is h

  pmp_is : (since : List Event) → pmp_at f.pmp (since ++ fenced) ≡ pmp_at anew.pmp since
  pmp_is [] = refl
  pmp_is (Store p i w ∷ h) = pmp_is h
  pmp_is (WriteSatp w ∷ h) = pmp_is h
  pmp_is (WritePmp n e ∷ h) = ap (λ (es : List PmpEntry). slice_set es n e) (pmp_is h)
  pmp_is (Fence a s ∷ h) = pmp_is h

  pmps_is : (since : List Event) → pmps_at f.pmp (since ++ fenced) ≡ pmps_at anew.pmp since
  pmps_is [] = refl
  pmps_is (Store p i w ∷ h) = pmps_is h
  pmps_is (WriteSatp w ∷ h) = pmps_is h
  pmps_is (WritePmp n e ∷ h) =
      ap (λ (es : List PmpEntry). slice_set es n e ∷ pmps_at f.pmp (h ++ fenced)) (pmp_is h)
      ∙ ap (λ (es : List (List PmpEntry)). slice_set (pmp_at anew.pmp h) n e ∷ es) (pmps_is h)
  pmps_is (Fence None None ∷ h) = ap (λ (es : List PmpEntry). es ∷ []) (pmp_is h)
  pmps_is (Fence None (Some s) ∷ h) = pmps_is h
  pmps_is (Fence (Some a) s ∷ h) = pmps_is h

  -- ---- moments after the fence

  -- a moment that has one after the fence in its past is one itself
  after_fence : (m since k : List Event) → IsPast m k → k ≡ since ++ fenced → (more : List Event) × (m ≡ more ++ fenced)
  after_fence m since k history.now is = (since, is)
  after_fence m since k (older {h = n} {e = e} past) is =
      let up = after_fence n since k past is in
      (e ∷ up.0, ap (λ (l : List Event). e ∷ l) up.1)

  is_not_longer : (m k : List Event) → IsPast m k → length k ≤ length m
  is_not_longer m k history.now = omega arith
  is_not_longer m k (older {h = n} {e = e} past) =
      let up = is_not_longer n k past in
      omega (arith, up)

  past_only : (m k more since : List Event) → IsPast m k → m ≡ more ++ fenced → k ≡ since ++ fenced → IsPast more since
  past_only m k more since history.now is_m is_k =
      let same = append_cancel_right since more fenced (sym is_k ∙ is_m) in
      subst (λ (l : List Event). IsPast l since) same history.now
  past_only m k [] since (older {h = n} {e = e} past) is_m is_k =
      let shorter = is_not_longer n k past in
      let tail = same_tail e (Fence None None) n h is_m in
      let n_length = ap (λ (l : List Event). length l) tail in
      let k_length = ap (λ (l : List Event). length l) is_k ∙ length-append since fenced in
      absurd (omega (arith, shorter, n_length, k_length))
  past_only m k (d ∷ more) since (older {h = n} {e = e} past) is_m is_k =
      older (past_only n k more since past (same_tail e d n (more ++ fenced) is_m) is_k)

  past_each : (more since : List Event) → IsPast more since → IsPast (more ++ fenced) (since ++ fenced)
  past_each more since history.now = history.now
  past_each more since (older {h = n} {e = e} past) = older (past_each n since past)

  word_only : (k : List Event) (table index w : ℕ) → memory_at f.memory (k ++ fenced) table index ≡ Some w → memory_at anew.memory k table index ≡ Some w
  word_only k table index w had = subst (λ (m : Memory). m table index ≡ Some w) (memory_is k) had

  word_each : (k : List Event) (table index w : ℕ) → memory_at anew.memory k table index ≡ Some w → memory_at f.memory (k ++ fenced) table index ≡ Some w
  word_each k table index w had = subst (λ (m : Memory). m table index ≡ Some w) (sym (memory_is k)) had

  module _ (x : Extensions) (va : ℕ) where
    -- ---- what is covered

    became_only : (since past : List Event) (r : Read) → BecameLeaf x f va (since ++ fenced) (past ++ fenced) r → BecameLeaf x anew va since past r
    became_only since past r (e, k, w, later, earlier, word, leaf) =
        let at = after_fence k past (past ++ fenced) earlier refl in
        let whole = ap (λ (l : List Event). e ∷ l) at.1 in
        let had = subst (λ (l : List Event). memory_at f.memory l r.table (vpn (page_of va) r.level) ≡ Some w) whole word in (
          e,
          at.0,
          w,
          past_only (since ++ fenced) (e ∷ k) since (e ∷ at.0) later refl whole,
          past_only k (past ++ fenced) at.0 past earlier at.1 refl,
          word_only (e ∷ at.0) r.table (vpn (page_of va) r.level) w had,
          leaf,
        )

    became_each : (since past : List Event) (r : Read) → BecameLeaf x anew va since past r → BecameLeaf x f va (since ++ fenced) (past ++ fenced) r
    became_each since past r (e, k, w, later, earlier, word, leaf) =
        (e, k ++ fenced, w, past_each since (e ∷ k) later, past_each k past earlier, word_each (e ∷ k) r.table (vpn (page_of va) r.level) w word, leaf)

    covered_only : (e : Event) (since past : List Event) (r : Read) → IsCovered x f va e (since ++ fenced) r (past ++ fenced) → IsCovered x anew va e since r past
    covered_only (Store p i w) since past r covered = covered
    covered_only (WriteSatp w) since past r covered = covered
    covered_only (WritePmp n e) since past r covered = covered
    covered_only (Fence None s) since past r covered = covered
    covered_only (Fence (Some a) s) since past r covered = (
      covered.0,
      (
        subst (λ (w : ℕ). IsAddress w a.0) (satp_is since) covered.1.0,
        covered.1.1,
        elim covered.1.2 [ inl leaf ↦ inl leaf | inr invalid ↦ inr (invalid.0, became_only since past r invalid.1) ],
      ),
    )

    covered_each : (e : Event) (since past : List Event) (r : Read) → IsCovered x anew va e since r past → IsCovered x f va e (since ++ fenced) r (past ++ fenced)
    covered_each (Store p i w) since past r covered = covered
    covered_each (WriteSatp w) since past r covered = covered
    covered_each (WritePmp n e) since past r covered = covered
    covered_each (Fence None s) since past r covered = covered
    covered_each (Fence (Some a) s) since past r covered = (
      covered.0,
      (
        subst (λ (w : ℕ). IsAddress w a.0) (sym (satp_is since)) covered.1.0,
        covered.1.1,
        elim covered.1.2 [ inl leaf ↦ inl leaf | inr invalid ↦ inr (invalid.0, became_each since past r invalid.1) ],
      ),
    )

    -- the fence itself covers all
    fence_covers : (e : Event) (n past : List Event) (r : Read) → e ∷ n ≡ fenced → IsCovered x f va e n r past
    fence_covers e n past r is =
        subst (λ (d : Event). IsCovered x f va d n r past) (sym (same_head e (Fence None None) n h is)) (tt, tt)

    -- an event after the fence covers what it covers without the history before the fence
    covered_back : (e d : Event) (n more past p : List Event) (r : Read) → e ∷ n ≡ d ∷ (more ++ fenced) → past ≡ p ++ fenced → IsCovered x anew va d more r p
        → IsCovered x f va e n r past
    covered_back e d n more past p r is is_past covered =
        let here = covered_each d more p r covered in
        let at_past = subst (λ (l : List Event). IsCovered x f va d (more ++ fenced) r l) (sym is_past) here in
        let at_moment = subst (λ (l : List Event). IsCovered x f va d l r past) (sym (same_tail e d n (more ++ fenced) is)) at_past in
        subst (λ (c : Event). IsCovered x f va c n r past) (sym (same_head e d n (more ++ fenced) is)) at_moment

    -- ---- what is kept

    kept_only : (r : Read) (m past since : List Event) → IsKept x f va r m past → m ≡ since ++ fenced
        → (p : List Event) × (past ≡ p ++ fenced) × IsKept x anew va r since p
    kept_only r m past since now is = (since, is, now)
    kept_only r m past [] (next {h = n} {e = e} kept free) is = absurd (free (fence_covers e n past r is))
    kept_only r m past (d ∷ more) (next {h = n} {e = e} kept free) is =
        let up = kept_only r n past more kept (same_tail e d n (more ++ fenced) is) in
        (up.0, up.1, next up.2 (λ covered. free (covered_back e d n more past up.0 r is up.1 covered)))

    kept_each : (r : Read) (since past : List Event) → IsKept x anew va r since past → IsKept x f va r (since ++ fenced) (past ++ fenced)
    kept_each r since past now = now
    kept_each r since past (next {h = n} {e = e} kept free) = next (kept_each r n past kept) (λ covered. free (covered_only e n past r covered))

    -- ---- what may be read

    had_only : (past : List Event) (r : Read) → HadWord x f va (past ++ fenced) r → HadWord x anew va past r
    had_only past r (inl word) = inl (word_only past r.table (vpn (page_of va) r.level) r.word word)
    had_only past r (inr other) = inr (other.0, other.1, other.2, other.3, (other.4.0, other.4.1, word_only past r.table other.4.0 r.word other.4.2))

    had_each : (past : List Event) (r : Read) → HadWord x anew va past r → HadWord x f va (past ++ fenced) r
    had_each past r (inl word) = inl (word_each past r.table (vpn (page_of va) r.level) r.word word)
    had_each past r (inr other) = inr (other.0, other.1, other.2, other.3, (other.4.0, other.4.1, word_each past r.table other.4.0 r.word other.4.2))

    may_only : (since past : List Event) (r : Read) → MayRead x f va (since ++ fenced) r past
        → (p : List Event) × (past ≡ p ++ fenced) × MayRead x anew va since r p
    may_only since past r may =
        let kept = kept_only r (since ++ fenced) past since may.kept refl in
        let had = had_only kept.0 r (subst (λ (l : List Event). HadWord x f va l r) kept.1 may.had) in
        let allowed = may.allowed in (
          kept.0,
          kept.1,
          record {
            had = had;
            kept = kept.2;
            allowed = (allowed.0, subst (λ (ess : List (List PmpEntry)). Contains ess allowed.0) (pmps_is since) allowed.1, allowed.2);
          },
        )

    may_each : (since past : List Event) (r : Read) → MayRead x anew va since r past → MayRead x f va (since ++ fenced) r (past ++ fenced)
    may_each since past r may =
        let allowed = may.allowed in
        record {
          had = had_each past r may.had;
          kept = kept_each r since past may.kept;
          allowed = (allowed.0, subst (λ (ess : List (List PmpEntry)). Contains ess allowed.0) (sym (pmps_is since)) allowed.1, allowed.2);
        }

    under_only : (satp : ℕ) (m since : List Event) → IsUnder f satp m → m ≡ since ++ fenced → IsUnder anew satp since
    under_only satp m since (is_active has) is =
        is_active (sym (satp_is since) ∙ ap (satp_at f.satp) (sym is) ∙ has)
    under_only satp m [] (goes_on {h = n} {e = e} under free) is =
        absurd (free (subst (λ (d : Event). EndsWalks d (asid satp)) (sym (same_head e (Fence None None) n h is)) tt))
    under_only satp m (d ∷ more) (goes_on {h = n} {e = e} under free) is =
        goes_on (under_only satp n more under (same_tail e d n (more ++ fenced) is))
        (subst (λ (c : Event). EndsWalks c (asid satp) → ⊥) (same_head e d n (more ++ fenced) is) free)

    under_each : (satp : ℕ) (since : List Event) → IsUnder anew satp since → IsUnder f satp (since ++ fenced)
    under_each satp since (is_active has) = is_active (satp_is since ∙ has)
    under_each satp since (goes_on {h = n} {e = e} under free) = goes_on (under_each satp n under) free

    root_only : (since : List Event) (r : Read) → IsAtRoot f va (since ++ fenced) r → IsAtRoot anew va since r
    root_only since r root = record {
      satp = root.satp;
      under = under_only root.satp (since ++ fenced) since root.under refl;
      highest = root.highest;
      canonical = root.canonical;
      root = root.root;
      space = root.space;
      global = root.global;
    }

    root_each : (since : List Event) (r : Read) → IsAtRoot anew va since r → IsAtRoot f va (since ++ fenced) r
    root_each since r root = record {
      satp = root.satp;
      under = under_each root.satp since root.under;
      highest = root.highest;
      canonical = root.canonical;
      root = root.root;
      space = root.space;
      global = root.global;
    }

    -- ---- what is held

    held_only : (m past since : List Event) (r : Read) → IsHeld x f va m r past → m ≡ since ++ fenced
        → (p : List Event) × (past ≡ p ++ fenced) × IsHeld x anew va since r p
    held_only m past since r (at_root may root) is =
        let read = may_only since past r (subst (λ (l : List Event). MayRead x f va l r past) is may) in
        (read.0, read.1, at_root read.2 (root_only since r (subst (λ (l : List Event). IsAtRoot f va l r) is root)))
    held_only m past since r (below {since = was_past} {above = above} was may way) is =
        let up = held_only m was_past since above was is in
        let read = may_only since past r (subst (λ (l : List Event). MayRead x f va l r past) is may) in
        (read.0, read.1, below up.2 read.2 way)
    held_only m past [] r (stays {h = n} {e = e} was free) is = absurd (free (fence_covers e n past r is))
    held_only m past (d ∷ more) r (stays {h = n} {e = e} was free) is =
        let up = held_only n past more r was (same_tail e d n (more ++ fenced) is) in
        (up.0, up.1, stays up.2 (λ covered. free (covered_back e d n more past up.0 r is up.1 covered)))
    held_only m past [] r (updated {h = n} {e = e} was up) is =
        let fence : e ≡ Fence None None = same_head e (Fence None None) n h is in
        let bad = sym fence ∙ up.stores in
        cc
    held_only m past (d ∷ more) r (updated {h = n} {past = was_past} {r = b} {e = e} {w = w} was up) is =
        let tail = same_tail e d n (more ++ fenced) is in
        let head = same_head e d n (more ++ fenced) is in
        let old = held_only n was_past more b was tail in
        let had = subst (λ (l : List Event). memory_at f.memory l b.table up.index ≡ Some up.was) tail up.before in (
          d ∷ more,
          is,
          updated old.2 (record {
            scheme = up.scheme;
            leaf = up.leaf;
            index = up.index;
            place = up.place;
            stores = sym head ∙ up.stores;
            was = up.was;
            before = word_only more b.table up.index up.was had;
            sets = up.sets;
          }),
        )

    held_each : (since past : List Event) (r : Read) → IsHeld x anew va since r past → IsHeld x f va (since ++ fenced) r (past ++ fenced)
    held_each since past r (at_root may root) = at_root (may_each since past r may) (root_each since r root)
    held_each since past r (below {since = was_past} {above = above} was may way) =
        below (held_each since was_past above was) (may_each since past r may) way
    held_each since past r (stays {h = n} {e = e} was free) = stays (held_each n past r was) (λ covered. free (covered_only e n past r covered))
    held_each since past r (updated {h = n} {past = was_past} {r = b} {e = e} {w = w} was up) = updated (held_each n was_past b was) (record {
      scheme = up.scheme;
      leaf = up.leaf;
      index = up.index;
      place = up.place;
      stores = up.stores;
      was = up.was;
      before = word_each n b.table up.index up.was up.before;
      sets = up.sets;
    })

-- ---- what is permitted

-- two pasts have the same state, and the first one's hart holds no more than the second one's
pub record IsWithin (x : Extensions) (p n : Past) (va : ℕ) : Type 0 where
  pub memory : memory_of p ≡ memory_of n
  pub satp : satp_of p ≡ satp_of n
  pub pmps : pmps_at p.first.pmp p.events ≡ pmps_at n.first.pmp n.events
  pub held : (r : Read) (since : List Event) → IsHeld x p.first va p.events r since → (k : List Event) × IsHeld x n.first va n.events r k
  pub root : (r : Read) → IsAtRoot p.first va p.events r → IsAtRoot n.first va n.events r

module _ (x : Extensions) (p n : Past) (q : Request) (within : IsWithin x p n q.va.0) where
  pass_within : (m : Privilege) (a : Access) (pa width : ℕ) → MayPass p m a pa width → MayPass n m a pa width
  pass_within m a pa width may = (may.0, subst (λ (ess : List (List PmpEntry)). Contains ess may.0) within.pmps may.1, may.2)

  fail_within : (m : Privilege) (a : Access) (pa width : ℕ) → MayFail p m a pa width → MayFail n m a pa width
  fail_within m a pa width may = (may.0, subst (λ (ess : List (List PmpEntry)). Contains ess may.0) within.pmps may.1, may.2)

  there_within : (pa : ℕ) → is_there p pa ≡ is_there n pa
  there_within pa = ap (λ (m : Memory). is_some (m (pa / 4096) (pa % 4096 / 8))) within.memory

  ends_within : (pa : ℕ) (t : MemoryType) (u : Option Update) (o : Outcome) → Ends p q pa t u o → Ends n q pa t u o
  ends_within pa t u o (permits.granted there pass) =
      permits.granted (sym (there_within pa) ∙ there) (pass_within (privilege_of q) q.kind pa q.width pass)
  ends_within pa t u o (permits.refused which (inl gone)) = permits.refused which (inl (sym (there_within pa) ∙ gone))
  ends_within pa t u o (permits.refused which (inr fail)) = permits.refused which (inr (fail_within (privilege_of q) q.kind pa q.width fail))

  update_within : (r : Read) → MayUpdate x p q r → MayUpdate x n q r
  update_within r may = record {
    clear = may.clear;
    scheme = may.scheme;
    unchanged = subst (λ (m : Memory). m r.table (index_of q r) ≡ Some r.word) within.memory may.unchanged;
  }

  says_within : (m : Mode) (r : Read) (o : Outcome) → Says x p q m r o → Says x n q m r o
  says_within m r o (permits.no_leaf no_leaf) = permits.no_leaf no_leaf
  says_within m r o (permits.no_right leaf no_right) = permits.no_right leaf no_right
  says_within m r o (permits.ready {t = t} allowed ad type ends) =
      permits.ready allowed ad type (ends_within (leads_to r.level r.word q.va.0) t None o ends)
  says_within m r o (permits.faults allowed clear may) = permits.faults allowed clear may
  says_within m r o (permits.updates {t = t} allowed may pass type ends) =
      permits.updates allowed (update_within r may) (pass_within privilege.Supervisor access.Store (place q r) 8 pass) type (
      ends_within (leads_to r.level r.word q.va.0) t (Some (update q r)) o ends)
  says_within m r o (permits.update_refused allowed may fail) =
      permits.update_refused allowed (update_within r may) (fail_within privilege.Supervisor access.Store (place q r) 8 fail)

  top_within : top_of (satp_of p) ≡ top_of (satp_of n)
  top_within = ap (λ (w : ℕ). top_of w) within.satp

  serves_within : (r : Read) → Serves x p q r → Serves x n q r
  serves_within r serves =
      let up = within.held r serves.since serves.held in
      record {
        since = up.0;
        held = up.1;
        present = (serves.present.0, sym top_within ∙ serves.present.1, serves.present.2);
        space = subst (λ (w : ℕ). (r.asid ≡ asid w) ⊎ (r.global ≡ true)) within.satp serves.space;
        last = serves.last;
      }

  stands_within : (r : Read) → MayStandAt x p q r → MayStandAt x n q r
  stands_within r (permits.at_root root own) = permits.at_root (within.root r root) (own ∙ ap asid within.satp)
  stands_within r (permits.below {above = above} {since = since} was way serves) =
      let up = within.held above since was in
      permits.below up.1 way (subst (λ (w : ℕ). (r.asid ≡ asid w) ⊎ (above.global ≡ true)) within.satp serves)

  pub permits_within : (o : Outcome) → Permits x p q o → Permits x n q o
  permits_within o (permits.misaligned bad) = permits.misaligned bad
  permits_within o (permits.untranslated whole (inl machine) ends) = permits.untranslated whole (inl machine) (ends_within q.va.0 Pma None o ends)
  permits_within o (permits.untranslated whole (inr bare) ends) =
      permits.untranslated whole (inr (sym top_within ∙ bare)) (ends_within q.va.0 Pma None o ends)
  permits_within o (permits.not_canonical whole mode highest off) = permits.not_canonical whole mode (sym top_within ∙ highest) off
  permits_within o (permits.served {mode = m} {r = r} whole mode serves says) = permits.served whole mode (serves_within r serves) (says_within m r o says)
  permits_within o (permits.unread {r = r} whole mode highest canonical stands (inl gone)) =
      permits.unread whole mode (sym top_within ∙ highest) canonical (stands_within r stands) (inl (
      subst (λ (m : Memory). m r.table (index_of q r) ≡ None) within.memory gone))
  permits_within o (permits.unread {r = r} whole mode highest canonical stands (inr fail)) =
      permits.unread whole mode (sym top_within ∙ highest) canonical (stands_within r stands) (inr (
      fail_within privilege.Supervisor access.Load (place q r) 8 fail))

pub restart_is_exact : RestartIsExact
restart_is_exact x f h since q o =
    let long : Past = record { first = f; events = since ++ Fence None None ∷ h } in
    let short : Past = record { first = anew f h; events = since } in
    let only : IsWithin x long short q.va.0 = record {
      memory = memory_is f h since;
      satp = satp_is f h since;
      pmps = pmps_is f h since;
      held = λ r past was. let at = held_only f h x q.va.0 (since ++ Fence None None ∷ h) past since r was refl in (at.0, at.2);
      root = root_only f h x q.va.0 since;
    } in
    let each : IsWithin x short long q.va.0 = record {
      memory = sym (memory_is f h since);
      satp = sym (satp_is f h since);
      pmps = sym (pmps_is f h since);
      held = λ r past was. (past ++ Fence None None ∷ h, held_each f h x q.va.0 since past r was);
      root = root_each f h x q.va.0 since;
    } in
    (permits_within x long short q only o, permits_within x short long q each o)
