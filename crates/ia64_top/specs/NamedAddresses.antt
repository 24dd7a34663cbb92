-- What a name means in `movl` is where the program finds it (`movl` of a label).
use Rattle.std.specs.Prelude.{◌≡◌, ℕ, ◌<◌, List, length, get_or, Some, None}
use Rattle.ia_insn.specs.declared.insn.Op.TheVariants as op
use Rattle.ia_program.specs.Programs.{Program, IsEntry}
use Rattle.ia_meaning.specs.Landings.{landing}
use Rattle.ia_meaning.specs.Loads.{access_fault, loaded}
use Rattle.asm_build.specs.Addresses.{of_bundle, of_byte, addressed}

-- The number for the label of a bundle is the address from which an indirect branch lands on the bundle, where it is an entry.
abbrev pub BundlesAreWhereNamed : Type 0
BundlesAreWhereNamed =
    (p : Program) (r1 imm m n x : ℕ) → IsEntry p m → addressed (op.Movl r1 imm) (of_bundle m) n ≡ Some (op.Movl r1 x)
    → landing p x ≡ Some m

-- The number for the label of a byte of data is the address at which the byte is loaded.
abbrev pub BytesAreWhereNamed : Type 0
BytesAreWhereNamed =
    (bytes : List ℕ) (r1 imm at n x : ℕ) → at < length bytes → addressed (op.Movl r1 imm) (of_byte at) n ≡ Some (op.Movl r1 x)
    → (access_fault bytes x 1 ≡ None) × (loaded bytes x 1 ≡ get_or bytes at 0)
