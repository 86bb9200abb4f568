-- A page that is settled takes a frame and its missing tables; one that is there takes a frame at most.
use Rattle.std.proofs.Common.{ℕ, Bool, true, false, ◌+◌, ◌≤◌, arith, Option, None, Some}
use Rattle.process_laws.proofs.Needed.{tables_next}
use Rattle.process_laws.proofs.service.page_takes_few_frames.Goals as goal
use Rattle.process_model.specs.Frames.{resident_need_of, unless_through}
use Rattle.process_model.specs.PageMap.{get, keys}
use Rattle.process_model.specs.Process.{Page, Process}
use Rattle.sv39_entry.specs.Schemes.{top_level}
use Rattle.sv39_entry.specs.declared.access.Access.{Access}

through : (parts b : Bool) (n : ℕ) → unless_through parts b ≤ 1 + n
through parts true n = omega arith
through true false n = omega arith
through false false n = omega arith

few : (shared : Bool) (p : Process) (access : Access) (page : ℕ) (o : Option Page) → resident_need_of shared p access page o ≤ 1 + top_level p.scheme
few shared p access page None = let next = tables_next p.scheme page (keys p.tabled) in omega (next, arith)
few shared p access page (Some s) = through _ _ (top_level p.scheme)

pub returns : goal.returns
returns c shared p access page = few shared p access page (get p.settled page)
