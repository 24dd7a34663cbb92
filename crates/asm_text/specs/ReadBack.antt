-- What is printed is read again.
use Rattle.std.specs.Prelude.{ℕ, pos, Bool, false}
use Rattle.std.specs.Option.{option_map}
use Rattle.ia_insn.specs.declared.insn.Insn.{Insn}
use Rattle.ia_insn.specs.declared.insn.Op.{Op}
use Rattle.ia_insn.specs.declared.insn.Op.TheVariants as op
use Rattle.asm_reading.specs.declared.line.Line.{Line}
use Rattle.asm_reading.specs.declared.line.Line.TheVariants as line
use Rattle.asm_printing.specs.SlotTexts.{label_text, target_of}

-- The operation without its target, as it is until the name of the target is put in.
abbrev pub untargeted : Op → Op
untargeted (op.ChkS unit r2 disp) = op.ChkS unit r2 (pos 0)
untargeted (op.ChkA clear r1 disp) = op.ChkA clear r1 (pos 0)
untargeted (op.Br kind wh many clr disp) = op.Br kind wh many clr (pos 0)
untargeted (op.BrCall b1 wh many clr disp) = op.BrCall b1 wh many clr (pos 0)
untargeted x = x

-- What the canonical line of an instruction in a bundle reads as: the instruction, the label of its
-- target where it has one, and its stop.
abbrev pub printed_line : Insn → ℕ → Bool → Line
printed_line i bundle stop =
    line.Slot (record {
      insn = record { qp = i.qp; op = untargeted i.op };
      target = option_map label_text (target_of bundle i.op);
      bare = false;
    }) stop
