use Rattle.std.proofs.Common.{List, subst, sym}
use Rattle.address_space.specs.SettledLists.{AreSettled}
use Rattle.address_space.specs.declared.settled_pages.SettledPage.{SettledPage}
use Rattle.cow_fork.proofs.pages.PageList.settled_pages.Goals as goal
use Rattle.sv39_entry.specs.Schemes.{trapframe_page}

pub returns : goal.returns
returns g c =
    let e = c.list_settled.ensures in
    let listed = sym c.as_slice.ensures.value in
    record {
      settled = λ t p space. subst (λ (l : List SettledPage). AreSettled t p 0 (trapframe_page p.scheme) l) listed (e.settled t p space);
      reads = e.reads;
      keeps = e.keeps;
    }
