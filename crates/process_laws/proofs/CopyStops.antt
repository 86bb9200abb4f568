-- Lemmas about when a kernel copy lacks frames, for copyin and copyout at once (`Goes`): it stops by NoFrame if and only if
-- with ample frames it would take more than there are; if it does not, it takes as many as with ample frames.
use Rattle.std.proofs.Common.{◌≡◌, ℕ, Bool, true, false, ◌+◌, ◌<◌, ◌≤◌, refl, sym, ap, ◌∙◌, arith, Option, None, Some, List, [], ◌∷◌}
use Rattle.std.specs.Prelude.{fold, nat_lt, Result, Ok, Err}
use Rattle.std.proofs.lemmas.Bool.{le-ltb, lt-ltb, ltb-false, ltb-true}
use Rattle.process_laws.proofs.Copying.{byte_rule}
use Rattle.process_laws.proofs.Counting.{quiet_rule}
use Rattle.process_laws.specs.Words.{is_no_frame_reply}
use Rattle.process_model.specs.Environment.{Environment, need_at, Progress, resident_at_address, resident_at, unless_dry, unless_resident}
use Rattle.process_model.specs.Copies.{Copied, reached_in}
use Rattle.process_model.specs.Process.{regions}
use Rattle.process_model.specs.Regions.{copy_rule}
use Rattle.process_model.specs.Residence.{is_resident}
use Rattle.process_model.specs.declared.reply.ScalarReply.TheVariants.{Ended}
use Rattle.process_model.specs.declared.reply.Reply.TheVariants.{Scalar}
use Rattle.sv39_entry.specs.Address.{page_of}
use Rattle.sv39_entry.specs.declared.access.Access.{Access}
use Rattle.sv39_entry.specs.declared.rule.Rule.{Rule}
use Rattle.sv39_entry.specs.declared.rule.Rule.TheVariants.{NoFrame}

abbrev pub is_dry_stop : Option Rule → Bool
is_dry_stop None = false
is_dry_stop (Some r) = is_no_frame_reply (Scalar (Ended r))

-- with so many frames, and with as many as are asked for

abbrev pub limited : Environment → ℕ → Environment
limited a frames = record a { is_dry = λ page total. nat_lt frames total }

abbrev pub ample : Environment → Environment
ample a = record a { is_dry = λ page total. false }

-- what an address comes to with ample frames, and with so many
data Comes (frames : ℕ) (g : Progress) : Result Progress Rule → Result Progress Rule → Type 0 where
  both : {h : Progress} → g.taken ≤ h.taken → h.taken ≤ frames → Comes frames g (Ok h) (Ok h)
  dry : {h : Progress} → g.taken ≤ h.taken → frames < h.taken → Comes frames g (Ok h) (Err NoFrame)
  denied : {r : Rule} → is_dry_stop (Some r) ≡ false → Comes frames g (Err r) (Err r)

module _ (a : Environment) (frames : ℕ) (kind : Access) (address : ℕ) (g : Progress) (few : g.taken ≤ frames) where
  abbrev page : ℕ
  page = page_of address

  abbrev need : ℕ
  need = need_at a kind page g.process

  comes_need : (b : Bool) → nat_lt frames (g.taken + need) ≡ b → Comes frames g (unless_dry (ample a) kind page g need false) (unless_dry (limited a frames) kind page g need b)
  comes_need true e = let less = ltb-true frames (g.taken + need) e in dry (omega arith) less
  comes_need false e = let most = ltb-false frames (g.taken + need) e in both (omega arith) (omega (arith, most))

  comes_page : (b : Bool) → Comes frames g (unless_resident (ample a) kind page g b) (unless_resident (limited a frames) kind page g b)
  comes_page true = both (omega arith) few
  comes_page false = comes_need _ refl

  comes_at : Comes frames g (resident_at (ample a) kind page g) (resident_at (limited a frames) kind page g)
  unfolding resident_at
  comes_at = comes_page (is_resident g.process kind page)

  comes_rule : (o : Option Rule) → copy_rule g.process.scheme (regions g.process) kind address ≡ o → Comes frames g (resident_at_address (ample a) kind address g o) (resident_at_address (limited a frames) kind address g o)
  comes_rule None e = comes_at
  comes_rule (Some r) e = denied (quiet_rule g.process kind address 1 r (byte_rule g.process kind address ∙ e))

  comes : Comes frames g (reached_in (ample a) kind g address) (reached_in (limited a frames) kind g address)
  comes = comes_rule (copy_rule g.process.scheme (regions g.process) kind address) refl

-- one address more, of a copy of either kind
pub record Goes {X : Type 0} (kind : Access) (at : X → ℕ) (done : Copied → X → Progress → Copied) (next : Environment → Copied → X → Copied) : Type 0 where
  pub stays : (a : Environment) (c : Copied) (x : X) (r : Rule) → c.stop ≡ Some r → next a c x ≡ c
  pub stops : (a : Environment) (c : Copied) (x : X) (r : Rule) → c.stop ≡ None → reached_in a kind c.progress (at x) ≡ Err r → next a c x ≡ record c { stop = Some r }
  pub goes : (a : Environment) (c : Copied) (x : X) (g : Progress) → c.stop ≡ None → reached_in a kind c.progress (at x) ≡ Ok g → next a c x ≡ done c x g
  pub goes_on : (c : Copied) (x : X) (g : Progress) → (done c x g).stop ≡ None
  pub taken : (c : Copied) (x : X) (g : Progress) → ((done c x g).progress).taken ≡ g.taken

-- a copy with so many frames beside the same one with ample ones
pub data Beside (frames : ℕ) (c d : Copied) : Type 0 where
  along : c ≡ d → (d.progress).taken ≤ frames → is_dry_stop d.stop ≡ false → Beside frames c d
  dried : c.stop ≡ Some NoFrame → frames < (d.progress).taken → is_dry_stop d.stop ≡ false → Beside frames c d

module _ {X : Type 0} (kind : Access) (at : X → ℕ) (done : Copied → X → Progress → Copied) (next : Environment → Copied → X → Copied) (is : Goes kind at done next) (a : Environment) (frames : ℕ) where
  module _ (c d : Copied) (x : X) where
    abbrev after_c : Copied
    after_c = next (limited a frames) c x

    abbrev after_d : Copied
    after_d = next (ample a) d x

    stay : (r : Rule) → c.stop ≡ Some r → d.stop ≡ Some r → c ≡ d → (d.progress).taken ≤ frames → is_dry_stop d.stop ≡ false → Beside frames after_c after_d
    stay r ec ed same few quiet = rw (is.stays (limited a frames) c x r ec, is.stays (ample a) d x r ed) (along same few quiet)

    -- from the same place on
    on : d.stop ≡ None → (rd rc : Result Progress Rule) → reached_in (ample a) kind d.progress (at x) ≡ rd → reached_in (limited a frames) kind d.progress (at x) ≡ rc → Comes frames d.progress rd rc
        → (d.progress).taken ≤ frames → Beside frames (next (limited a frames) d x) after_d
    on none _ _ ed ec (both {h} more few) _ =
        rw (is.goes (limited a frames) d x h none ec, is.goes (ample a) d x h none ed) (along refl (let t = is.taken d x h in omega (arith, t, few)) (ap is_dry_stop (is.goes_on d x h)))
    on none _ _ ed ec (dry {h} more less) _ =
        rw (is.stops (limited a frames) d x NoFrame none ec, is.goes (ample a) d x h none ed) (dried refl (let t = is.taken d x h in omega (arith, t, less)) (ap is_dry_stop (is.goes_on d x h)))
    on none _ _ ed ec (denied {r} quiet) few = rw (is.stops (limited a frames) d x r none ec, is.stops (ample a) d x r none ed) (along refl few quiet)

    -- with ample frames it takes no less than before, however few there are
    more_taken : d.stop ≡ None → (few : ℕ) → (rd rc : Result Progress Rule) → reached_in (ample a) kind d.progress (at x) ≡ rd → Comes few d.progress rd rc → is_dry_stop d.stop ≡ false
        → ((d.progress).taken ≤ (after_d.progress).taken) × (is_dry_stop after_d.stop ≡ false)
    more_taken none few _ _ ed (both {h} more _) quiet = rw (is.goes (ample a) d x h none ed) (let t = is.taken d x h in omega (arith, t, more), ap is_dry_stop (is.goes_on d x h))
    more_taken none few _ _ ed (dry {h} more _) quiet = rw (is.goes (ample a) d x h none ed) (let t = is.taken d x h in omega (arith, t, more), ap is_dry_stop (is.goes_on d x h))
    more_taken none few _ _ ed (denied {r} silent) quiet = rw (is.stops (ample a) d x r none ed) (omega arith, silent)

  beside_along : (d : Copied) (x : X) (o : Option Rule) → d.stop ≡ o → (d.progress).taken ≤ frames → is_dry_stop d.stop ≡ false → Beside frames (next (limited a frames) d x) (next (ample a) d x)
  beside_along d x (Some r) e few quiet = stay d d x r e e refl few quiet
  beside_along d x None e few quiet = on d d x e _ _ refl refl (comes a frames kind (at x) d.progress few) few

  beside_dried : (c d : Copied) (x : X) (o : Option Rule) → d.stop ≡ o → c.stop ≡ Some NoFrame → frames < (d.progress).taken → is_dry_stop d.stop ≡ false → Beside frames (next (limited a frames) c x) (next (ample a) d x)
  beside_dried c d x (Some r) e stop less quiet = rw (is.stays (limited a frames) c x NoFrame stop, is.stays (ample a) d x r e) (dried stop less quiet)
  beside_dried c d x None e stop less quiet =
      let t = more_taken c d x e (d.progress).taken _ _ refl (comes a (d.progress).taken kind (at x) d.progress (omega arith)) quiet in
      rw (is.stays (limited a frames) c x NoFrame stop) (dried stop (omega (arith, less, t.0)) t.1)

  beside_next : (c d : Copied) (x : X) → Beside frames c d → Beside frames (next (limited a frames) c x) (next (ample a) d x)
  beside_next c d x (along same few quiet) = rw same (beside_along d x d.stop refl few quiet)
  beside_next c d x (dried stop less quiet) = beside_dried c d x d.stop refl stop less quiet

  pub beside_all : (xs : List X) (c d : Copied) → Beside frames c d → Beside frames (fold (next (limited a frames)) c xs) (fold (next (ample a)) d xs)
  beside_all [] c d b = b
  beside_all (x ∷ xs) c d b = beside_all xs (next (limited a frames) c x) (next (ample a) d x) (beside_next c d x b)

-- so it tells NoFrame just where it would take more
pub tells_dry : (frames : ℕ) (c d : Copied) → Beside frames c d → is_dry_stop c.stop ≡ nat_lt frames (d.progress).taken
tells_dry frames c d (along same few quiet) = ap (λ (k : Copied). is_dry_stop k.stop) same ∙ quiet ∙ sym (le-ltb frames (d.progress).taken few)
tells_dry frames c d (dried stop less quiet) = ap is_dry_stop stop ∙ sym (lt-ltb frames (d.progress).taken less)

-- and takes just that where it doesn't
pub takes_all : (frames : ℕ) (c d : Copied) → Beside frames c d → is_dry_stop c.stop ≡ false → (c.progress).taken ≡ (d.progress).taken
takes_all frames c d (along same few quiet) e = ap (λ (k : Copied). (k.progress).taken) same
takes_all frames c d (dried stop less quiet) e = absurd (let no : true ≡ false = sym (ap is_dry_stop stop) ∙ e in cc)
