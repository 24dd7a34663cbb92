use Rattle.std.proofs.Common.{◌≡◌, ℕ, get_or, subst}
use Rattle.std.specs.Prelude.{Some, None}
use Rattle.ia_insn.specs.declared.insn.Op.TheVariants as op
use Rattle.ia_program.specs.Addresses.{bundle_address, data_address}
use Rattle.ia_meaning.specs.Landings.{landing}
use Rattle.ia_meaning.specs.Loads.{access_fault, loaded}
use Rattle.ia64_top.proofs.laws.names_are_addresses.Goals as goal

same_number : (r1 a b : ℕ) → Some (op.Movl r1 a) ≡ Some (op.Movl r1 b) → a ≡ b
same_number r1 a b e = cc

pub returns-clause-bundles : goal.returns-clause-bundles
returns-clause-bundles c p r1 imm m n x is e =
    subst (λ k. landing p k ≡ Some m) (same_number r1 (bundle_address m) x e) (c.addresses.ensures.entries p m is)

pub returns-clause-bytes : goal.returns-clause-bytes
returns-clause-bytes c bytes r1 imm at n x below e =
    subst (λ k. (access_fault bytes k 1 ≡ None) × (loaded bytes k 1 ≡ get_or bytes at 0)) (same_number r1 (data_address at) x e)
    (c.addresses.ensures.bytes bytes at below)
