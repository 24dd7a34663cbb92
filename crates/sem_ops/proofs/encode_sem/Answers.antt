use Rattle.sem_ops.proofs.encode_sem.Goals as goal

pub returns-then-is_semaphore-clause-only : goal.returns-then-is_semaphore-clause-only
returns-then-is_semaphore-clause-only c = λ w code. c.encode.ensures.only w code.0
