use Rattle.std.proofs.Common.{◌≡◌, rules}
use Rattle.asm_lexemes.specs.Lexemes.{lexemes_from}
use Rattle.asm_lexemes.proofs.Slicing.{lexemes_are_slices}
use Rattle.asm_lexemes.proofs.Gaps.{lexemes_leave_out_gaps}
use Rattle.asm_lexemes.proofs.line.lexemes_into.Goals as goal

pub returns-then-cut-clause-slices : goal.returns-then-cut-clause-slices
returns-then-cut-clause-slices c =
    let cut : c.cut.new.lexemes ≡ lexemes_from 0 0 c.args.line.now = search rules in
    rw cut (lexemes_are_slices c.args.line.now)

pub returns-then-cut-clause-left_out : goal.returns-then-cut-clause-left_out
returns-then-cut-clause-left_out c =
    let cut : c.cut.new.lexemes ≡ lexemes_from 0 0 c.args.line.now = search rules in
    rw cut (lexemes_leave_out_gaps c.args.line.now)
