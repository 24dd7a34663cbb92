use Rattle.pseudo_laws.proofs.PseudoOperations.{others}
use Rattle.pseudo_laws.proofs.laws.pseudo_operations_make_instructions.Goals as goal

pub returns : goal.returns
returns c = others
