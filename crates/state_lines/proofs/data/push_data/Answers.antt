use Rattle.std.proofs.Common.{◌+◌, ◌*◌, ◌++◌, ◌∙◌, ap, refl, arith, ℕ}
use Rattle.std.specs.Prelude.{string_bytes, codes}
use Rattle.ia_program.specs.Addresses.{data_base}
use Rattle.ia_meaning.specs.StateText.{word_text, word_line, data_line}
use Rattle.state_lines.proofs.Counting.{one_more}
use Rattle.state_lines.proofs.Words.{word_of_data}
use Rattle.state_lines.proofs.data.push_data.Goals as goal

pub loop-n-preserved : goal.loop-n-preserved
loop-n-preserved c =
    let bytes = c.args.bytes.now in
    let after = c.in_ok-push_word.ensures
    ∙ ap (λ (w : ℕ). string_bytes c.loop-n.out ++ word_line (codes "m " ++ word_text (data_base + 8 * c.loop-n.n)) w)
    (c.word_at.ensures ∙ word_of_data bytes c.loop-n.n) in
    one_more (data_line bytes) 0 c.loop-n.n c.loop-n.n (c.loop-n.n + 1) (string_bytes c.args.out.now) (string_bytes c.loop-n.out)
    (string_bytes c.push_word.new.out) (omega arith) refl c.loop-n.invariant after
