use Rattle.std.proofs.Common.{◌≡◌, ◌+◌, ◌*◌, ◌%◌, ◌++◌, length}
use Rattle.asm_build.specs.CanonicalText.{words_of, words_text}
use Rattle.asm_build.proofs.data.push_words.Given as goal

abbrev pub invariant-loop-left : goal.invariant-loop-left
invariant-loop-left l = record {
  whole : 8 * l.k + length l.left ≡ length l.initial.bytes;
  eights : length l.left % 8 ≡ 0;
  text : l.out.items ++ words_text l.k (words_of l.left) ≡ l.initial.out.items ++ words_text 0 (words_of l.initial.bytes);
}

abbrev pub decreases-loop-left : goal.decreases-loop-left
decreases-loop-left l = length l.left
