use Rattle.ia_meaning.proofs.Codes.{permutation_has_code, code_is_permutation}
use Rattle.ia_meaning.proofs.laws.permutations_have_codes.Goals as goal

pub returns-clause-codes : goal.returns-clause-codes
returns-clause-codes c xs ys p = permutation_has_code xs ys p

pub returns-clause-permutations : goal.returns-clause-permutations
returns-clause-permutations c code xs = code_is_permutation code xs
