-- What it takes to read an instruction back.
use Rattle.std.proofs.Common.{◌≡◌, true, false, Some, is_some, flat_map}
use Rattle.std.specs.List.{list_any}
use Rattle.asm_forms.specs.Completers.{text_of}
use Rattle.asm_forms.specs.Items.{fits, is_label_item}
use Rattle.asm_forms.specs.Naming.{completers_in}
use Rattle.asm_forms.specs.Rows.{row_of, is_instruction}
use Rattle.ia_insn.specs.declared.insn.Op.{Op}
use Rattle.ia_insn.specs.Displacements.{displacement}
use Rattle.asm_instructions.specs.Instructions.{op_of}
use Rattle.asm_reading.specs.Lines.{is_bare}
use Rattle.asm_canonical.specs.Canonical.{syntax_of}
use Rattle.asm_text.specs.ReadBack.{untargeted}

-- The completers and the operands of an instruction are those of its row, and mean the instruction.
pub record ReadsBack (x : Op) : Type 0 where
  pub choice : completers_in (row_of (syntax_of x).form).sets (flat_map text_of (syntax_of x).completers) ≡ Some (syntax_of x).completers
  pub fits : fits (row_of (syntax_of x).form).items (syntax_of x).operands ≡ true
  pub label : list_any is_label_item (row_of (syntax_of x).form).items ≡ is_some (displacement x)
  pub slot : is_instruction (syntax_of x).form ≡ true
  pub bare : is_bare (syntax_of x).completers ≡ false
  pub op : op_of (syntax_of x).form (syntax_of x).completers (syntax_of x).operands ≡ Some (untargeted x)
