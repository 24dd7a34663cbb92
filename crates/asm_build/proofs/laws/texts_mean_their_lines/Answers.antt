use Rattle.asm_build.proofs.SaidTexts.{means_what_it_reads}
use Rattle.asm_build.proofs.laws.texts_mean_their_lines.Goals as goal

pub returns : goal.returns
returns c = means_what_it_reads
