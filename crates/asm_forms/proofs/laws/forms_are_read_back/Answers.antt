use Rattle.std.proofs.Common.{◌∙◌, ap, flat_map}
use Rattle.std.proofs.Math.Seq.{drop-append_seam}
use Rattle.asm_forms.specs.Completers.{text_of}
use Rattle.asm_forms.specs.Naming.{completers_in}
use Rattle.asm_forms.specs.Rows.{row_of}
use Rattle.asm_forms.proofs.Fits.{taken_back}
use Rattle.asm_forms.proofs.ReadChoice.{read_choice}
use Rattle.asm_forms.proofs.RowBack.{row_back}
use Rattle.asm_forms.proofs.laws.forms_are_read_back.Goals as goal

pub returns-clause-form : goal.returns-clause-form
returns-clause-form c = λ f cs xs h e. row_back f cs xs (read_choice f cs h) e

pub returns-clause-completers : goal.returns-clause-completers
returns-clause-completers c =
    λ f cs h. ap (completers_in (row_of f).sets) (drop-append_seam (row_of f).stem (flat_map text_of cs)) ∙ read_choice f cs h

pub returns-clause-operands : goal.returns-clause-operands
returns-clause-operands c = λ f xs h. taken_back (row_of f).items xs h
