use Rattle.ia64_top.proofs.Numerals as numerals
use Rattle.ia64_top.proofs.laws.one_numeral.Goals as goal

pub returns : goal.returns
returns c = numerals.one_numeral
