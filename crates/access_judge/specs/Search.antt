-- The search for the outcomes of an access, from the roots down, over a history without a fence of everything (`outcomes_by`). Moments are numbers:
-- moment k is after k events.
use Rattle.std.specs.Prelude.{◌≡◌, ℕ, suc, zero, Bool, true, false, ◌+◌, ◌-◌, ◌*◌, ◌/◌, ◌^◌, ◌==◌, ◌&&◌, ◌||◌, ◌≤◌, ◌%◌, ◌↔◌, not, Option, None, Some, is_some, List, [], ◌∷◌, ◌++◌, drop, filter, length, map, nat_le, nat_lt, if◌then◌else◌}
use Rattle.std.specs.List.{Contains, flat_map, list_any, range_with_len}
use Rattle.sv39_entry.specs.Address.{page_of, vpn}
use Rattle.sv39_entry.specs.Causes.{access_fault_cause, misaligned_cause, page_fault_cause}
use Rattle.sv39_entry.specs.Satp.{asid, root_ppn}
use Rattle.sv39_entry.specs.Word.{ppn}
use Rattle.sv39_entry.specs.declared.access.Access.{Access}
use Rattle.sv39_entry.specs.declared.access.Access.TheVariants as access
use Rattle.sv39_entry.specs.declared.access.Mode.{Mode}
use Rattle.sv39_entry.specs.declared.address.Va.{Va}
use Rattle.sv39_entry.specs.declared.entry.Kind.{Kind}
use Rattle.sv39_entry.specs.declared.entry.Kind.TheVariants.{Invalid, Leaf, Pointer}
use Rattle.walk_rules.specs.Addresses.{is_canonical, leads_to, top_of}
use Rattle.walk_rules.specs.Kinds.{is_napot, kind_in, may_fault, may_update, memory_type}
use Rattle.walk_rules.specs.Pmp.{pmp_permits}
use Rattle.walk_rules.specs.Rights.{allows, has_ad}
use Rattle.walk_rules.specs.declared.extensions.Extensions.{Extensions}
use Rattle.walk_rules.specs.declared.memory_type.MemoryType.{MemoryType}
use Rattle.walk_rules.specs.declared.memory_type.MemoryType.TheVariants.{Pma}
use Rattle.walk_rules.specs.declared.pmp.PmpEntry.{PmpEntry}
use Rattle.walk_rules.specs.declared.status.Privilege.{Privilege}
use Rattle.walk_rules.specs.declared.status.Privilege.TheVariants as privilege
use Rattle.access_history.specs.Held.{Read, has_global, page_bits, read_of, sets_ad, with_word}
use Rattle.access_history.specs.History.{First, Memory, pmp_at, pmps_at, satp_at}
use Rattle.access_history.specs.Permits.{Past, Permits, index_of, is_there, memory_of, mode_of, place, privilege_of, satp_of, update}
use Rattle.access_history.specs.declared.event.Event.{Event}
use Rattle.access_history.specs.declared.event.Event.TheVariants.{Store, WriteSatp, WritePmp, Fence}
use Rattle.access_history.specs.declared.outcome.Outcome.{Outcome}
use Rattle.access_history.specs.declared.outcome.Outcome.TheVariants.{Granted, Refused}
use Rattle.access_history.specs.declared.outcome.Request.{Request}
use Rattle.access_history.specs.declared.outcome.Update.{Update}

-- the history as it was at a moment
abbrev pub until : List Event → ℕ → List Event
until h k = drop (length h - k) h

-- ---- the words that a place had

-- a word, with the last moment, of those that are looked at, at which memory had it
pub record Version : Type 0 where
  pub word : ℕ
  pub last : ℕ

abbrev pub first_version : ℕ → Option ℕ → List Version
first_version last None = []
first_version last (Some w) = record { word = w; last = last } ∷ []

-- the words that a place had, the newest first, where it has the newest one until `last`
abbrev pub versions_until : ℕ → Memory → List Event → ℕ → ℕ → List Version
versions_until last m [] table index = first_version last (m table index)
versions_until last m (Store p i w ∷ h) table index =
    if p == table && i == index then record { word = w; last = last } ∷ versions_until (length h) m h table index
    else versions_until last m h table index
versions_until last m (WriteSatp w ∷ h) table index = versions_until last m h table index
versions_until last m (WritePmp n e ∷ h) table index = versions_until last m h table index
versions_until last m (Fence a s ∷ h) table index = versions_until last m h table index

abbrev pub versions : Memory → List Event → ℕ → ℕ → List Version
versions m h table index = versions_until (length h) m h table index

-- ---- fences

-- the number of the last fence with rs1 = x0 and an ASID: it comes right before the moment of that number. 0 if there is none
abbrev pub space_fence : List Event → ℕ → ℕ
space_fence [] space = 0
space_fence (Store p i w ∷ h) space = space_fence h space
space_fence (WriteSatp w ∷ h) space = space_fence h space
space_fence (WritePmp n e ∷ h) space = space_fence h space
space_fence (Fence (Some a) s ∷ h) space = space_fence h space
space_fence (Fence None None ∷ h) space = suc (length h)
space_fence (Fence None (Some s) ∷ h) space = if s == space then suc (length h) else space_fence h space

-- an address is valid under satp: canonical, or any under Bare
abbrev pub is_address_under : Option ℕ → ℕ → Bool
is_address_under None va = true
is_address_under (Some top) va = is_canonical top va

-- a fence's rs2 covers the address space of a PTE: None for a global one
abbrev pub is_for : Option ℕ → Option ℕ → Bool
is_for None space = true
is_for (Some s) None = false
is_for (Some s) (Some space) = s == space

-- the number of the last fence with a valid address that equals va above its low bits, and with rs2 = x0 or the ASID; 0 if there is none
abbrev pub address_fence : ℕ → List Event → ℕ → ℕ → Option ℕ → ℕ
address_fence satp [] bits va space = 0
address_fence satp (Store p i w ∷ h) bits va space = address_fence satp h bits va space
address_fence satp (WriteSatp w ∷ h) bits va space = address_fence satp h bits va space
address_fence satp (WritePmp n e ∷ h) bits va space = address_fence satp h bits va space
address_fence satp (Fence None s ∷ h) bits va space = address_fence satp h bits va space
address_fence satp (Fence (Some a) s ∷ h) bits va space =
    if is_address_under (top_of (satp_at satp h)) a.0 && a.0 / 2 ^ bits == va / 2 ^ bits && is_for s space then suc (length h)
    else address_fence satp h bits va space

-- ---- the uses of satp

-- the last moment at which a number is that of the last fence of an ASID: right before the next one, or now. 0: it never is
abbrev pub epoch_end : List Event → ℕ → ℕ → ℕ
epoch_end [] space epoch = 0
epoch_end (e ∷ h) space epoch = if space_fence (e ∷ h) space == epoch then suc (length h) else epoch_end h space epoch

-- a word that satp had, the number of the last fence of its ASID then, and the last moment at which a walk that began under it may go on
pub record Use : Type 0 where
  pub satp : ℕ
  pub epoch : ℕ
  pub last : ℕ

-- satp had the word of a use at a moment, with no later fence of the ASID until its last one, or now
abbrev pub IsUse : ℕ → List Event → Use → Type 0
IsUse satp h u =
    (u.last ≡ epoch_end h (asid u.satp) u.epoch)
    × ((k : ℕ) × (k ≤ length h) × (satp_at satp (until h k) ≡ u.satp) × (space_fence (until h k) (asid u.satp) ≡ u.epoch))

-- a list has each use of satp, and nothing else
pub record AreUses (satp : ℕ) (h : List Event) (us : List Use) : Type 0 where
  pub only : (u : Use) → Contains us u → IsUse satp h u
  pub each : (k : ℕ) → k ≤ length h → (u : Use) × Contains us u × (u.satp ≡ satp_at satp (until h k))
      × (u.epoch ≡ space_fence (until h k) (asid (satp_at satp (until h k))))

-- ---- where a walk may stand

-- a walk of an ASID may be at a table of a level, at a moment and at none after it; by pointers that all were read since the last fence of that ASID
-- then (`epoch`), or by a global one
pub record Stand : Type 0 where
  pub level : ℕ
  pub table : ℕ
  pub asid : ℕ
  pub global : Bool
  pub epoch : ℕ
  pub last : ℕ

-- a walk goes on by a global pointer until now, and by another until a fence of the ASID
abbrev pub last_below : List Event → Stand → Read → ℕ
last_below h s r = if r.global then length h else s.last

-- the stand to which a pointer leads
abbrev pub below_of : List Event → Stand → Read → Stand
below_of h s r = record { level = r.level - 1; table = ppn r.word; asid = r.asid; global = r.global; epoch = s.epoch; last = last_below h s r }

-- the stand at the root under a use of satp
abbrev pub root_at : ℕ → Use → Option ℕ → List Stand
root_at va u None = []
root_at va u (Some top) =
    if is_canonical top va then record { level = top; table = root_ppn u.satp; asid = asid u.satp; global = false; epoch = u.epoch; last = u.last } ∷ []
    else []

-- ---- what a walk at a stand may read

-- a PTE, with the last moment at which memory had it, of those at which the walk may have read it
pub record Found : Type 0 where
  pub read : Read
  pub last : ℕ

abbrev pub found_by : Stand → Version → Found
found_by s v =
    record { read = read_of s.level s.table v.word s.asid (s.global || has_global v.word); last = v.last }

-- the words that the place of the address's PTE had
abbrev pub own_versions : First → List Event → ℕ → Stand → List Version
own_versions f h va s = versions f.memory (until h s.last) s.table (vpn (page_of va) s.level)

abbrev pub is_kind : Kind → Kind → Bool
is_kind Invalid Invalid = true
is_kind Invalid Leaf = false
is_kind Invalid Pointer = false
is_kind Leaf Invalid = false
is_kind Leaf Leaf = true
is_kind Leaf Pointer = false
is_kind Pointer Invalid = false
is_kind Pointer Leaf = false
is_kind Pointer Pointer = true

abbrev pub is_napot_leaf : Extensions → Version → Bool
is_napot_leaf x v = is_napot 0 v.word && is_kind (kind_in x 0 v.word) Leaf

-- the NAPOT leaves that the places of the 16 PTEs of the address's group had
abbrev pub group_versions : Extensions → First → List Event → ℕ → Stand → List Version
group_versions x f h va s =
    flat_map (λ n. filter (is_napot_leaf x) (versions f.memory (until h s.last) s.table (vpn (page_of va) 0 / 16 * 16 + n))) (range_with_len 0 16)

abbrev pub versions_at : Extensions → First → List Event → ℕ → Stand → List Version
versions_at x f h va s =
    if x.svnapot && s.level == 0 then own_versions f h va s ++ group_versions x f h va s else own_versions f h va s

-- PMP may permit an access, or may refuse it, by the entries as they were at a moment
abbrev pub may_pass : First → List Event → Privilege → Access → ℕ → ℕ → Bool
may_pass f h m a pa width = list_any (λ es. pmp_permits es m a pa width) (pmps_at f.pmp h)

abbrev pub may_fail : First → List Event → Privilege → Access → ℕ → ℕ → Bool
may_fail f h m a pa width = list_any (λ es. not (pmp_permits es m a pa width)) (pmps_at f.pmp h)

abbrev pub place_at : ℕ → Stand → ℕ
place_at va s = s.table * 4096 + vpn (page_of va) s.level * 8

-- no fence of the ASID came between the last moment of the word and the stand, or the PTE is global
abbrev pub is_of_epoch : Stand → Found → Bool
is_of_epoch s c = c.read.global || nat_le s.epoch c.last

abbrev pub reads_at : Extensions → First → List Event → ℕ → Stand → List Found
reads_at x f h va s =
    if may_pass f (until h s.last) privilege.Supervisor access.Load (place_at va s) 8
    then filter (is_of_epoch s) (map (found_by s) (versions_at x f h va s)) else []

-- ---- the search

-- what the search comes by: a stand, and a PTE that is no pointer
pub data Item : Type 0 where
  stood : Stand → Item
  ended : Found → Item

abbrev pub is_pointer : Extensions → Found → Bool
is_pointer x c = is_kind (kind_in x c.read.level c.read.word) Pointer

-- from a stand on, which has `levels` levels below it
abbrev pub search : Extensions → First → List Event → ℕ → ℕ → Stand → List Item
search x f h va zero s = stood s ∷ map ended (reads_at x f h va s)
search x f h va (suc levels) s =
    stood s ∷ flat_map (λ c. if is_pointer x c then search x f h va levels (below_of h s c.read) else ended c ∷ []) (reads_at x f h va s)

abbrev pub search_from : Extensions → First → List Event → ℕ → Use → List Item
search_from x f h va u = flat_map (λ s. search x f h va s.level s) (root_at va u (top_of u.satp))

abbrev pub search_all : Extensions → First → List Event → List Use → ℕ → List Item
search_all x f h us va = flat_map (search_from x f h va) us

-- ---- what may still be held

abbrev pub space_of : Read → Option ℕ
space_of r = if r.global then None else Some r.asid

-- the moment right before the fence with a number, 0 for none
abbrev pub before : List Event → ℕ → List Event
before h number = until h (number - 1)

-- after a moment, and up to a fence, the word in the place of a PTE was a leaf
abbrev pub became_leaf : Extensions → First → List Event → ℕ → Found → ℕ → Bool
became_leaf x f h va c number =
    list_any (λ v. nat_lt c.last v.last && is_kind (kind_in x c.read.level v.word) Leaf)
    (versions f.memory (before h number) c.read.table (vpn (page_of va) c.read.level))

-- a fence for an address, later than the word of a PTE, covers it
abbrev pub is_fenced_by : Extensions → First → List Event → ℕ → Found → ℕ → Bool
is_fenced_by x f h va c number =
    nat_lt c.last number && (is_kind (kind_in x c.read.level c.read.word) Leaf || became_leaf x f h va c number)

abbrev pub is_fenced : Extensions → First → List Event → ℕ → Found → Bool
is_fenced x f h va c =
    is_fenced_by x f h va c (address_fence f.satp h (page_bits c.read.level) va (space_of c.read))
    || (not c.read.global && nat_lt c.last (space_fence h c.read.asid))

-- an address is translated under a word of satp: it is canonical
abbrev pub is_translated_in : Option ℕ → ℕ → Bool
is_translated_in None va = false
is_translated_in (Some top) va = is_canonical top va

-- a PTE serves under satp as it is: the address is canonical, and the PTE is of the present ASID or global
abbrev pub is_of_now : ℕ → ℕ → Read → Bool
is_of_now satp va r = is_translated_in (top_of satp) va && (r.asid == asid satp || r.global)

-- ---- outcomes

abbrev pub granted_if : Bool → ℕ → MemoryType → Option Update → List Outcome
granted_if does pa t u = if does then Granted pa t u ∷ [] else []

abbrev pub refused_if : Bool → Access → Option Update → List Outcome
refused_if does a None = if does then Refused (access_fault_cause a) None ∷ [] else []
refused_if does a (Some u) = if does then Refused (access_fault_cause a) (Some u) ∷ Refused (access_fault_cause a) None ∷ [] else []

-- what the access to its physical address comes to
abbrev pub ends : Past → Request → ℕ → MemoryType → Option Update → List Outcome
ends p q pa t u =
    granted_if (is_there p pa && may_pass p.first p.events (privilege_of q) q.kind pa q.width) pa t u
    ++ refused_if (not (is_there p pa) || may_fail p.first p.events (privilege_of q) q.kind pa q.width) q.kind u

abbrev pub page_fault : Request → Outcome
page_fault q = Refused (page_fault_cause q.kind) None

abbrev pub access_fault : Request → Outcome
access_fault q = Refused (access_fault_cause q.kind) None

abbrev pub ends_of_type : Past → Request → ℕ → Option MemoryType → Option Update → List Outcome
ends_of_type p q pa None u = []
ends_of_type p q pa (Some t) u = ends p q pa t u

abbrev pub ends_by : Past → Request → Read → Option Update → List Outcome
ends_by p q r u = ends_of_type p q (leads_to r.level r.word q.va.0) (memory_type r.word) u

abbrev pub is_word : Option ℕ → ℕ → Bool
is_word None w = false
is_word (Some v) w = v == w

-- by a leaf whose A or D is clear, which the hart may set
abbrev pub updates_by : Extensions → Past → Request → Read → List Outcome
updates_by x p q r =
    if may_update x.ad && is_word (memory_of p r.table (index_of q r)) r.word
    then (if may_pass p.first p.events privilege.Supervisor access.Store (place q r) 8 then ends_by p q r (Some (update q r)) else [])
    ++ (if may_fail p.first p.events privilege.Supervisor access.Store (place q r) 8 then access_fault q ∷ [] else [])
    else []

abbrev pub faults_by : Extensions → Request → List Outcome
faults_by x q = if may_fault x.ad then page_fault q ∷ [] else []

-- what a PTE that serves says
abbrev pub says : Extensions → Past → Request → Mode → Read → List Outcome
says x p q m r =
    if is_kind (kind_in x r.level r.word) Leaf && allows q.status m q.kind r.level r.word
    then (if has_ad q.kind r.word then ends_by p q r None else faults_by x q ++ updates_by x p q r)
    else page_fault q ∷ []

-- ---- what a hart may have set in a leaf since

-- behind a newer word that a place had, of the older ones, the newest first: those that were stored after a moment as an update of A and D by a leaf
abbrev pub updated_behind : ℕ → ℕ → ℕ → List Version → List ℕ
updated_behind last w new [] = []
updated_behind last w new (v ∷ vs) = (if nat_le last v.last && sets_ad w v.word new then new ∷ [] else []) ++ updated_behind last w v.word vs

abbrev pub updated_words : ℕ → ℕ → List Version → List ℕ
updated_words last w [] = []
updated_words last w (v ∷ vs) = updated_behind last w v.word vs

-- what a leaf says with one of the words that it may have by updates in a place
abbrev pub update_says : Extensions → Past → Request → Mode → Found → ℕ → List Outcome
update_says x p q m c w = says x p q m (with_word c.read w)

abbrev pub place_says : Extensions → Past → Request → Mode → Found → ℕ → List Outcome
place_says x p q m c index =
    flat_map (update_says x p q m c) (updated_words c.last c.read.word (versions p.first.memory p.events c.read.table index))

-- a NAPOT leaf, in whose group a hart may update any of 16 PTEs
abbrev pub is_of_group : Extensions → Read → Bool
is_of_group x r = x.svnapot && r.level == 0 && is_napot 0 r.word

abbrev pub places_say : Extensions → Past → Request → Mode → Found → List Outcome
places_say x p q m c =
    if is_of_group x c.read then flat_map (λ n. place_says x p q m c (vpn (page_of q.va.0) 0 / 16 * 16 + n)) (range_with_len 0 16)
    else place_says x p q m c (index_of q c.read)

abbrev pub updated_says : Extensions → Past → Request → Mode → Found → List Outcome
updated_says x p q m c = if may_update x.ad && is_kind (kind_in x c.read.level c.read.word) Leaf then places_say x p q m c else []

-- the PTE of a stand may be unreadable
abbrev pub is_unread : Past → ℕ → Stand → Bool
is_unread p va s =
    not (is_some (memory_of p s.table (vpn (page_of va) s.level)))
    || may_fail p.first p.events privilege.Supervisor access.Load (place_at va s) 8

-- a walk of the present satp may be at a stand now
abbrev pub stands_now : Past → Stand → Bool
stands_now p s = s.last == length p.events && (s.asid == asid (satp_of p) || s.global)

-- what an item of the search says
abbrev pub said : Extensions → Past → Request → Mode → Item → List Outcome
said x p q m (stood s) = if stands_now p s && is_unread p q.va.0 s then access_fault q ∷ [] else []
said x p q m (ended c) =
    if is_of_now (satp_of p) q.va.0 c.read && not (is_fenced x p.first p.events q.va.0 c) then says x p q m c.read ++ updated_says x p q m c else []

abbrev pub translated : Extensions → Past → List Use → Request → Mode → List Outcome
translated x p us q m = flat_map (said x p q m) (search_all x p.first p.events us q.va.0)

-- by the mode of the translation and the top level of satp: None for neither
abbrev pub outcomes_in : Extensions → Past → List Use → Request → Option Mode → Option ℕ → List Outcome
outcomes_in x p us q None top = ends p q q.va.0 Pma None
outcomes_in x p us q (Some m) None = ends p q q.va.0 Pma None
outcomes_in x p us q (Some m) (Some top) = if is_canonical top q.va.0 then translated x p us q m else page_fault q ∷ []

abbrev pub is_multiple : ℕ → ℕ → Bool
is_multiple va width = va % width == 0

-- the outcomes of an access
abbrev pub outcomes_by : Extensions → Past → List Use → Request → List Outcome
outcomes_by x p us q =
    if is_multiple q.va.0 q.width then outcomes_in x p us q (mode_of q) (top_of (satp_of p)) else Refused (misaligned_cause q.kind) None ∷ []

-- a history has no fence of everything
pub data IsUnfenced : List Event → Type 0 where
  begins : IsUnfenced []
  stores : {h : List Event} (p i w : ℕ) → IsUnfenced h → IsUnfenced (Store p i w ∷ h)
  writes_satp : {h : List Event} (w : ℕ) → IsUnfenced h → IsUnfenced (WriteSatp w ∷ h)
  writes_pmp : {h : List Event} (n : ℕ) (e : PmpEntry) → IsUnfenced h → IsUnfenced (WritePmp n e ∷ h)
  fences_address : {h : List Event} (a : Va) (s : Option ℕ) → IsUnfenced h → IsUnfenced (Fence (Some a) s ∷ h)
  fences_space : {h : List Event} (s : ℕ) → IsUnfenced h → IsUnfenced (Fence None (Some s) ∷ h)

-- the outcomes in a list are exactly those that the standard permits
abbrev pub ArePermitted : Extensions → Past → Request → List Outcome → Type 0
ArePermitted x p q os = (o : Outcome) → (Contains os o → Permits x p q o) × (Permits x p q o → Contains os o)

-- THE THEOREM of the search, to be proved: with q.width > 0 (1, 2, 4, 8)
abbrev pub SearchIsExact : Type 0
SearchIsExact = (x : Extensions) (p : Past) (us : List Use) (q : Request) → IsUnfenced p.events → AreUses p.first.satp p.events us → 1 ≤ q.width
    → ArePermitted x p q (outcomes_by x p us q)

-- ---- restarting

-- memory, satp and PMP as they are, and no event
abbrev pub restarted : Past → Past
restarted p = record {
  first = record { memory = memory_of p; satp = satp_of p; pmp = pmp_at p.first.pmp p.events };
  events = [];
}

-- THE SECOND THEOREM: after a fence of everything the history before it may be dropped
abbrev pub RestartIsExact : Type 0
RestartIsExact = (x : Extensions) (f : First) (h since : List Event) (q : Request) (o : Outcome)
    → Permits x (record { first = f; events = since ++ Fence None None ∷ h }) q o
    ↔ Permits x (record { first = (restarted (record { first = f; events = h })).first; events = since }) q o
