use Rattle.std.proofs.Common.{arith}
use Rattle.asm_build.proofs.ReadBack.{read_back}
use Rattle.asm_build.proofs.TextLength.{text_is_short, text_fits}
use Rattle.asm_build.proofs.WrittenBundles.{SlotsSay}
use Rattle.asm_build.proofs.laws.canonical_texts_are_read_back.Goals as goal

slots_say : goal.After-printed_slots_are_read_back → SlotsSay
slots_say c i n stop listed low = record {
  short = omega (arith, c.printed_slots_are_read_back.ensures.short i n stop listed low);
  reads = c.printed_slots_are_read_back.ensures.back i n stop listed low;
}

pub returns-clause-back : goal.returns-clause-back
returns-clause-back c = read_back (slots_say c)

pub returns-clause-short : goal.returns-clause-short
returns-clause-short c = text_is_short c.printed_slots_are_read_back.ensures.short

pub returns-clause-fits : goal.returns-clause-fits
returns-clause-fits c = text_fits c.printed_slots_are_read_back.ensures.short
