-- Which instructions there are: those of the six families of formats.
use Rattle.std.specs.Prelude.{◌⊎◌}
use Rattle.ia_insn.specs.declared.insn.Insn.{Insn}
use Rattle.formats_a.specs.Listed.{IsListedA}
use Rattle.formats_i.specs.Listed.{IsListedI}
use Rattle.formats_m.specs.Listed.{IsListedM}
use Rattle.formats_b.specs.ListedB.{IsListedB}
use Rattle.formats_b.specs.ListedF.{IsListedF}
use Rattle.formats_b.specs.ListedX.{IsListedX}

-- The instruction is of one of the families.
abbrev pub IsListed : Insn → Type 0
IsListed insn =
    IsListedA insn ⊎ (IsListedI insn ⊎ (IsListedM insn ⊎ (IsListedB insn ⊎ (IsListedF insn ⊎ IsListedX insn))))
