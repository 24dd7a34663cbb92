use Rattle.ia_program.proofs.DeclaredEntries.{found}
use Rattle.ia_program.proofs.entries.is_declared.Goals as goal

pub returns : goal.returns
returns c =
    rw c.is_ok.ensures.value (found c.args.count c.args.entries.now c.args.bundle c.binary_search.result c.requires
    c.binary_search.ensures.position)
