-- What one event more makes of each answer of a scan (`.._step`).
use Rattle.std.proofs.Common.{◌≡◌, ℕ, suc, ◌+◌, Bool, List, ◌∷◌, length, Option, None, Some, refl, ap, sym, subst, ◌∙◌, arith, add-one}
use Rattle.std.specs.Prelude.{not, ◌||◌}
use Rattle.std.specs.List.{list_any}
use Rattle.access_history.specs.History.{pmp_at, pmps_at, satp_at}
use Rattle.access_history.specs.declared.event.Event.{Event}
use Rattle.access_history.specs.declared.event.Event.TheVariants.{Store, WriteSatp, WritePmp, Fence}
use Rattle.access_judge.specs.Search.{IsUnfenced, address_fence, space_fence}
use Rattle.walk_rules.specs.declared.pmp.PmpEntry.{PmpEntry}
use Rattle.lent_history.specs.Events.{event_at, history}
use Rattle.lent_history.specs.Laws.{history_length, history_unfenced, not_full}
use Rattle.lent_history.specs.Protecting.{entries_follow, permits_checked, verdict_after}
use Rattle.lent_history.specs.Scans.{address_fence_after, satp_after, space_fence_after}
use Rattle.lent_history.specs.declared.event.LentEvent.{LentEvent}
use Rattle.lent_history.specs.declared.pmp.Checked.{Checked}
use Rattle.lent_history.specs.declared.pmp.Verdict.{Verdict}

satp_more : (first : ℕ) (e : Event) (h : List Event) → satp_at first (e ∷ h) ≡ satp_after e (satp_at first h)
satp_more first (Store p i w) h = refl
satp_more first (WriteSatp w) h = refl
satp_more first (WritePmp n e) h = refl
satp_more first (Fence a s) h = refl

space_more : (e : Event) (h : List Event) (space : ℕ)
    → space_fence (e ∷ h) space ≡ space_fence_after e (suc (length h)) space (space_fence h space)
space_more (Store p i w) h space = refl
space_more (WriteSatp w) h space = refl
space_more (WritePmp n e) h space = refl
space_more (Fence None None) h space = refl
space_more (Fence None (Some s)) h space = refl
space_more (Fence (Some a) s) h space = refl

address_more : (satp : ℕ) (e : Event) (h : List Event) (bits va : ℕ) (space : Option ℕ)
    → address_fence satp (e ∷ h) bits va space
    ≡ address_fence_after e (satp_at satp h) (suc (length h)) bits va space (address_fence satp h bits va space)
address_more satp (Store p i w) h bits va space = refl
address_more satp (WriteSatp w) h bits va space = refl
address_more satp (WritePmp n e) h bits va space = refl
address_more satp (Fence None s) h bits va space = refl
address_more satp (Fence (Some a) s) h bits va space = refl

pmp_more : (first : List PmpEntry) (e : Event) (h : List Event) → pmp_at first (e ∷ h) ≡ entries_follow e (pmp_at first h)
pmp_more first (Store p i w) h = refl
pmp_more first (WriteSatp w) h = refl
pmp_more first (WritePmp n e) h = refl
pmp_more first (Fence a s) h = refl

pub satp_step : (first satp result : ℕ) (es : List LentEvent) (k : ℕ) (e : Event) → e ≡ event_at es k → satp ≡ satp_at first (history es k)
    → result ≡ satp_after e satp → result ≡ satp_at first (history es (k + 1))
satp_step first satp result es k e at so is =
    rw add-one
    (is ∙ ap (satp_after e) so ∙ ap (λ (e : Event). satp_after e (satp_at first (history es k))) at ∙ sym (satp_more first (event_at es k) (history es k)))

pub space_step : (space last number result : ℕ) (es : List LentEvent) (k : ℕ) (e : Event) → e ≡ event_at es k → number ≡ k + 1
    → last ≡ space_fence (history es k) space → result ≡ space_fence_after e number space last → result ≡ space_fence (history es (k + 1)) space
space_step space last number result es k e at count so is =
    let long : number ≡ suc (length (history es k)) = omega (arith, count, history_length es k) in
    rw add-one
    (is ∙ ap (space_fence_after e number space) so
    ∙ ap (λ (n : ℕ). space_fence_after e n space (space_fence (history es k) space)) long
    ∙ ap (λ (e : Event). space_fence_after e (suc (length (history es k))) space (space_fence (history es k) space)) at
    ∙ sym (space_more (event_at es k) (history es k) space))

pub address_step : (first satp bits va : ℕ) (space : Option ℕ) (last number result : ℕ) (es : List LentEvent) (k : ℕ) (e : Event) → e ≡ event_at es k
    → number ≡ k + 1 → satp ≡ satp_at first (history es k) → last ≡ address_fence first (history es k) bits va space
    → result ≡ address_fence_after e satp number bits va space last → result ≡ address_fence first (history es (k + 1)) bits va space
address_step first satp bits va space last number result es k e at count now so is =
    let h : List Event = history es k in
    let long : number ≡ suc (length h) = omega (arith, count, history_length es k) in
    rw add-one
    (is ∙ ap (address_fence_after e satp number bits va space) so
    ∙ ap (λ (n : ℕ). address_fence_after e satp n bits va space (address_fence first h bits va space)) long
    ∙ ap (λ (s : ℕ). address_fence_after e s (suc (length h)) bits va space (address_fence first h bits va space)) now
    ∙ ap (λ (e : Event). address_fence_after e (satp_at first h) (suc (length h)) bits va space (address_fence first h bits va space)) at
    ∙ sym (address_more first (event_at es k) h bits va space))

pub pmp_step : (first entries result : List PmpEntry) (es : List LentEvent) (k : ℕ) (e : Event) → e ≡ event_at es k
    → entries ≡ pmp_at first (history es k) → result ≡ entries_follow e entries → result ≡ pmp_at first (history es (k + 1))
pmp_step first entries result es k e at so is =
    rw add-one
    (is ∙ ap (entries_follow e) so ∙ ap (λ (e : Event). entries_follow e (pmp_at first (history es k))) at ∙ sym (pmp_more first (event_at es k) (history es k)))

-- the verdict is that of the entries as they were at each moment so far
pub record Judges (first : List PmpEntry) (c : Checked) (h : List Event) (v : Verdict) : Type 0 where
  pub passes : v.passes ≡ list_any (permits_checked c) (pmps_at first h)
  pub fails : v.fails ≡ list_any (λ es. not (permits_checked c es)) (pmps_at first h)

-- no event here is a fence of everything, which would forget earlier entries
judges_more : (first : List PmpEntry) (c : Checked) (e : Event) (h : List Event) (v : Verdict) → IsUnfenced (e ∷ h) → Judges first c h v
    → Judges first c (e ∷ h) (verdict_after e (permits_checked c (pmp_at first (e ∷ h))) v)
judges_more first c (Store p i w) h v un j = record { passes = j.passes; fails = j.fails }
judges_more first c (WriteSatp w) h v un j = record { passes = j.passes; fails = j.fails }
judges_more first c (WritePmp n e) h v un j =
    let es : List PmpEntry = pmp_at first (WritePmp n e ∷ h) in
    record { passes = ap (λ (b : Bool). permits_checked c es || b) j.passes; fails = ap (λ (b : Bool). not (permits_checked c es) || b) j.fails }
judges_more first c (Fence None None) h v un j = absurd (not_full h un)
judges_more first c (Fence None (Some s)) h v un j = record { passes = j.passes; fails = j.fails }
judges_more first c (Fence (Some a) s) h v un j = record { passes = j.passes; fails = j.fails }

pub judges_step : (first entries : List PmpEntry) (c : Checked) (es : List LentEvent) (k : ℕ) (e : Event) (permits : Bool) (v result : Verdict)
    → e ≡ event_at es k → entries ≡ pmp_at first (history es (k + 1)) → permits ≡ permits_checked c entries → Judges first c (history es k) v
    → result ≡ verdict_after e permits v → Judges first c (history es (k + 1)) result
judges_step first entries c es k e permits v result at so now j is =
    let h : List Event = history es k in
    let verdict : permits ≡ permits_checked c (pmp_at first (event_at es k ∷ h)) =
    now ∙ ap (permits_checked c) (so ∙ ap (λ (m : ℕ). pmp_at first (history es m)) (add-one k)) in
    let same : verdict_after (event_at es k) (permits_checked c (pmp_at first (event_at es k ∷ h))) v ≡ result =
    sym (is ∙ ap (λ (e : Event). verdict_after e permits v) at ∙ ap (λ (b : Bool). verdict_after (event_at es k) b v) verdict) in
    rw add-one
    (subst (Judges first c (event_at es k ∷ h)) same (judges_more first c (event_at es k) h v (history_unfenced es (suc k)) j))
