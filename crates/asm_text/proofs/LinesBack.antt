-- The canonical line of a listed instruction is read back.
use Rattle.std.proofs.Common.{ℕ, ◌<◌, ◌≤◌, ◌^◌, Bool, length}
use Rattle.ia_insn.specs.declared.insn.Insn.{Insn}
use Rattle.ia_program.specs.Listed.{IsListed}
use Rattle.ia_program.proofs.OperandRanges.{ranges_of_listed}
use Rattle.asm_reading.specs.Lines.{LineOf}
use Rattle.asm_printing.specs.declared.limits.TheConstants.{SLOT_LINE_LIMIT}
use Rattle.asm_printing.specs.SlotTexts.{slot_text}
use Rattle.asm_canonical.proofs.Printed.{printed}
use Rattle.asm_text.proofs.Short.{slot_line_is_short}
use Rattle.asm_text.proofs.Targets.{target_is_near}
use Rattle.asm_canonical.proofs.Written.{items_of, operands_of}
use Rattle.asm_text.specs.ReadBack.{printed_line}
use Rattle.asm_text.proofs.ItemFacts.{all_printed}
use Rattle.asm_text.proofs.ReadsBack.{reads_back}
use Rattle.asm_text.proofs.SlotLines.{slot_line_back}
use Rattle.asm_text.proofs.Untargeted.{still_listed}

pub line_back : (i : Insn) (bundle : ℕ) (stop : Bool) → IsListed i → bundle < 2 ^ 32
    → LineOf (slot_text i bundle stop) (printed_line i bundle stop)
line_back i bundle stop listed low =
    let ranges = ranges_of_listed i listed in
    let back = reads_back i.qp i.op listed ranges in
    let ready = printed i listed in
    record {
      reading =
          slot_line_back i bundle stop back (all_printed (items_of i.op) (operands_of i.op) back.fits ready.1) ready.0
          (target_is_near bundle i.op low ranges);
      listed = still_listed i listed;
    }

-- The canonical line of a listed instruction is short.
pub line_short : (i : Insn) (bundle : ℕ) (stop : Bool) → IsListed i → bundle < 2 ^ 32 → length (slot_text i bundle stop) ≤ SLOT_LINE_LIMIT
line_short i bundle stop listed low =
    let ranges = ranges_of_listed i listed in
    let back = reads_back i.qp i.op listed ranges in
    let ready = printed i listed in
    slot_line_is_short i bundle stop back.choice back.fits (all_printed (items_of i.op) (operands_of i.op) back.fits ready.1) ready.0
    (target_is_near bundle i.op low ranges)
