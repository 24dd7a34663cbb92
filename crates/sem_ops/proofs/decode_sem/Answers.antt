use Rattle.std.proofs.Common.{◌≡◌, sym, ◌∙◌, subst}
use Rattle.ia_insn.specs.declared.insn.Insn.{Insn}
use Rattle.sem_ops.specs.Semaphores.{IsSemaphore}
use Rattle.sem_ops.proofs.decode_sem.Goals as goal

pub returns-then-is_semaphore-clause-only : goal.returns-then-is_semaphore-clause-only
returns-then-is_semaphore-clause-only c = λ i code. sym c.in-Some.is ∙ c.decode.ensures.only i code.0

pub returns-else-is_semaphore-clause-only : goal.returns-else-is_semaphore-clause-only
returns-else-is_semaphore-clause-only c = λ i code.
    let e = sym c.in-Some.is ∙ c.decode.ensures.only i code.0 in
    let same : i ≡ c.in-Some.insn = cc in
    let P : Insn → Type 0 = λ j. IsSemaphore j.op in
    let t = c.is_semaphore.ensures.1 (subst P same code.1) in
    let f = c.if-is_semaphore.false in
    absurd (cc)

pub returns-in-None-clause-only : goal.returns-in-None-clause-only
returns-in-None-clause-only c = λ i code. sym c.in-None.is ∙ c.decode.ensures.only i code.0
