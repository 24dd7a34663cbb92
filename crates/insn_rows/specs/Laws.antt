-- What instructions and words are to each other, where a relation says which instruction has which word.
use Rattle.std.specs.Prelude.{◌≡◌, ℕ, ◌<◌, ◌≤◌}
use Rattle.ia_insn.specs.declared.insn.Insn.{Insn}

-- A word is that of at most one instruction.
abbrev pub OneInstruction : (Insn → ℕ → Type 0) → Type 0
OneInstruction Code = (word : ℕ) (i j : Insn) → Code i word → Code j word → i ≡ j

-- An instruction has at most one word.
abbrev pub OneWord : (Insn → ℕ → Type 0) → Type 0
OneWord Code = (i : Insn) (v w : ℕ) → Code i v → Code i w → v ≡ w

-- A word is at least this,
abbrev pub IsFrom : (Insn → ℕ → Type 0) → ℕ → Type 0
IsFrom Code least = (word : ℕ) (i : Insn) → Code i word → least ≤ word

-- Or below this.
abbrev pub IsBelow : (Insn → ℕ → Type 0) → ℕ → Type 0
IsBelow Code most = (word : ℕ) (i : Insn) → Code i word → word < most
