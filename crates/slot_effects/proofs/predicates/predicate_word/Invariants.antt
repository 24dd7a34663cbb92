use Rattle.std.proofs.Common.{◌≡◌, ◌<◌, ◌^◌, take}
use Rattle.ia_meaning.specs.Moves.{word_from}
use Rattle.slot_effects.proofs.predicates.predicate_word.Given as goal

abbrev pub invariant-loop-n : goal.invariant-loop-n
invariant-loop-n l = record {
  told : l.word ≡ word_from 0 (take l.n l.predicates);
  within : l.word < 2 ^ l.n;
}
