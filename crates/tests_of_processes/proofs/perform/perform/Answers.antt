use Rattle.std.proofs.lemmas.Result.{IfErr-weaker}
use Rattle.tests_of_processes.proofs.Living.{alive_as, alive_resized, alive_served, alive_unmapped}
use Rattle.tests_of_processes.proofs.perform.perform.Goals as goal

pub returns-in-Ok-clause-alive : goal.returns-in-Ok-clause-alive
returns-in-Ok-clause-alive g c =
    let asked = c.sbrk.ensures in alive_resized _ _ _ _ _ _ _ _ _ c.sbrk.result asked.resized (IfErr-weaker c.sbrk.result _ _ (λ e stays. stays.view) asked.stays) asked.root asked.trapframe (IfErr-weaker c.sbrk.result _ _ (λ e stays. stays.layout) asked.stays) c.requires.alive

pub returns-in-Err-clause-alive : goal.returns-in-Err-clause-alive
returns-in-Err-clause-alive g c =
    let asked = c.sbrk.ensures in alive_resized _ _ _ _ _ _ _ _ _ c.sbrk.result asked.resized (IfErr-weaker c.sbrk.result _ _ (λ e stays. stays.view) asked.stays) asked.root asked.trapframe (IfErr-weaker c.sbrk.result _ _ (λ e stays. stays.layout) asked.stays) c.requires.alive

pub returns-in-Serve-clause-alive : goal.returns-in-Serve-clause-alive
returns-in-Serve-clause-alive g c =
    let asked = c.serve.ensures.served in
    alive_served _ _ _ _ _ _ _ _ _ _ _ _ _ c.serve.result asked.ended asked.ready asked.whole (λ nothing. (asked.stays nothing).view) asked.place.root asked.place.trapframe asked.place.layout c.requires.alive

pub returns-in-Ok-mmap-clause-alive : goal.returns-in-Ok-mmap-clause-alive
returns-in-Ok-mmap-clause-alive g c = alive_as _ _ _ c.mmap.ensures.agrees c.requires.alive

pub returns-in-Err-mmap-clause-alive : goal.returns-in-Err-mmap-clause-alive
returns-in-Err-mmap-clause-alive g c = alive_as _ _ _ c.mmap.ensures.agrees c.requires.alive

pub returns-in-Ok-munmap-clause-alive : goal.returns-in-Ok-munmap-clause-alive
returns-in-Ok-munmap-clause-alive g c =
    let asked = c.munmap.ensures in
    alive_unmapped _ _ _ _ _ _ _ _ _ _ _ _ c.munmap.result asked.unmapped (IfErr-weaker c.munmap.result _ _ (λ e stays. stays.view) asked.stays) asked.root asked.trapframe (IfErr-weaker c.munmap.result _ _ (λ e stays. stays.layout) asked.stays) c.requires.alive

pub returns-in-Err-munmap-clause-alive : goal.returns-in-Err-munmap-clause-alive
returns-in-Err-munmap-clause-alive g c =
    let asked = c.munmap.ensures in
    alive_unmapped _ _ _ _ _ _ _ _ _ _ _ _ c.munmap.result asked.unmapped (IfErr-weaker c.munmap.result _ _ (λ e stays. stays.view) asked.stays) asked.root asked.trapframe (IfErr-weaker c.munmap.result _ _ (λ e stays. stays.layout) asked.stays) c.requires.alive
