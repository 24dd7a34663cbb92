use Rattle.std.proofs.Common.{append_assoc}
use Rattle.std.specs.Prelude.{string_bytes}
use Rattle.ia_meaning.specs.StateText.{line, frame_text}
use Rattle.state_lines.proofs.Counting.{three_pieces}
use Rattle.state_lines.proofs.head.push_frame.Goals as goal

pub returns : goal.returns
returns c =
    three_pieces c.writeln.result (string_bytes c.args.out.now) _ _ _ _ _ _ (line (frame_text c.args.frame.now)) c.in_ok-write.ensures.bytes
    c.in_ok-write-2.ensures.bytes c.writeln.ensures.bytes (simp append_assoc)
