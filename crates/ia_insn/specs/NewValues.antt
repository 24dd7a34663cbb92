-- What an exchange or a fetch-and-add leaves in memory (volume 3, chapter 2, `xchg` and `fetchadd`).
use Rattle.std.specs.Prelude.{ℕ, ℤ, ◌+◌, ◌*◌, ◌%◌, ◌^◌, Option, Some, None}
use Rattle.ia_insn.specs.Signed.{twos}
use Rattle.ia_insn.specs.declared.insn.Op.{Op}
use Rattle.ia_insn.specs.declared.insn.Op.TheVariants.{Xchg, FetchAdd}

-- What so many bytes of memory get: the low bytes of x, or where there is an increment those of what was there and it.
abbrev pub exchanged : ℕ → Option ℤ → ℕ → ℕ → ℕ
exchanged size None old x = x % 2 ^ (8 * size)
exchanged size (Some inc) old x = (old + twos 64 inc) % 2 ^ (8 * size)

-- the value that memory gets for what was there and for that of r2
abbrev pub new_value : Op → ℕ → ℕ → ℕ
new_value (Xchg size hint r1 r3 r2) old x = exchanged size None old x
new_value (FetchAdd size release hint r1 r3 inc) old x = exchanged size (Some inc) old x
new_value op old x = 0
