-- Kernel copies (copyin and copyout of xv6) from and to one process, with their replies: byte by byte in ascending order, up
-- to the first address that a rule denies or whose page needs more frames than are free. Also one byte of a process, read or
-- replaced.
use Rattle.std.specs.Prelude.{ℕ, ◌%◌, Option, None, Some, Result, Ok, Err, List, [], ◌∷◌, ◌++◌, length, fold, zip}
use Rattle.process_model.specs.Environment.{Environment, Progress, resident_at_address}
use Rattle.process_model.specs.Bytes.{numbers_from}
use Rattle.process_model.specs.PageMap.{get}
use Rattle.process_model.specs.Regions.{copy_rule}
use Rattle.process_model.specs.Process.{Process, Page, regions}
use Rattle.process_model.specs.Residence.{with_page, loaded, stored}
use Rattle.sv39_entry.specs.Address.{page_of}
use Rattle.sv39_entry.specs.declared.access.Access.{Access}
use Rattle.sv39_entry.specs.declared.access.Access.TheVariants as access
use Rattle.sv39_entry.specs.declared.rule.Rule.{Rule}
use Rattle.process_model.specs.declared.reply.Reply.{Reply}
use Rattle.process_model.specs.declared.reply.ScalarReply.TheVariants.{CopiedOut, ShortOut}
use Rattle.process_model.specs.declared.reply.Reply.TheVariants.{CopiedIn, ShortIn, Scalar}

-- the state of a copy: the process with the frames taken, the bytes copied, and the rule that stopped the copy, None if none
-- did
pub record Copied : Type 0 where
  pub progress : Progress
  pub bytes : List ℕ
  pub stop : Option Rule

abbrev pub copy_begun : Progress → Copied
copy_begun g = record { progress = g; bytes = []; stop = None }

-- the page of an address is made resident; or the rule that denies the access, or NoFrame
abbrev pub reached_in : Environment → Access → Progress → ℕ → Result Progress Rule
reached_in a access g address = resident_at_address a access address g (copy_rule g.process.scheme (regions g.process) access address)

-- one byte of a process: of a page that is not settled 0 is read, and nothing is written to it

abbrev pub byte_of_page : Option Page → ℕ → ℕ
byte_of_page None address = 0
byte_of_page (Some page) address = loaded page (address % 4096) 1

abbrev pub byte_of : Process → ℕ → ℕ
byte_of p address = byte_of_page (get p.settled (page_of address)) address

abbrev pub with_byte_on : Process → ℕ → ℕ → Option Page → Process
with_byte_on p address b None = p
with_byte_on p address b (Some page) = with_page p (page_of address) (stored page (address % 4096) (b ∷ []))

abbrev pub with_byte : Process → ℕ → ℕ → Process
with_byte p address b = with_byte_on p address b (get p.settled (page_of address))

-- the next address of a copy; a copy that was stopped stays as it is

abbrev pub one_in : Copied → ℕ → Result Progress Rule → Copied
one_in c address (Err r) = record c { stop = Some r }
one_in c address (Ok g) = record { progress = g; bytes = c.bytes ++ byte_of g.process address ∷ []; stop = None }

abbrev pub next_in : Environment → Copied → ℕ → Option Rule → Copied
next_in a c address (Some r) = c
next_in a c address None = one_in c address (reached_in a access.Load c.progress address)

abbrev pub one_out : Copied → ℕ → ℕ → Result Progress Rule → Copied
one_out c address b (Err r) = record c { stop = Some r }
one_out c address b (Ok g) = record { progress = record g { process = with_byte g.process address b }; bytes = c.bytes ++ b ∷ []; stop = None }

abbrev pub next_out : Environment → Copied → ℕ × ℕ → Option Rule → Copied
next_out a c x (Some r) = c
next_out a c x None = one_out c x.0 x.1 (reached_in a access.Store c.progress x.0)

-- copyin: n bytes of the process, from `address` on
unfoldable pub copied_in : Environment → Progress → ℕ → ℕ → Copied
copied_in a g address n = fold (λ c at. next_in a c at c.stop) (copy_begun g) (numbers_from address n)

-- copyout: the bytes to the process, from `address` on
unfoldable pub copied_out : Environment → Progress → ℕ → List ℕ → Copied
copied_out a g address bytes = fold (λ c x. next_out a c x c.stop) (copy_begun g) (zip (numbers_from address (length bytes)) bytes)

abbrev pub in_reply : List ℕ → Option Rule → Reply
in_reply bytes None = CopiedIn (record { items = bytes })
in_reply bytes (Some r) = ShortIn r (record { items = bytes })

abbrev pub out_reply : List ℕ → Option Rule → Reply
out_reply bytes None = Scalar (CopiedOut (length bytes))
out_reply bytes (Some r) = Scalar (ShortOut r (length bytes))
