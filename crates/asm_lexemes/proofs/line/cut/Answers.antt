use Rattle.std.proofs.Common.{◌∙◌, sym, ap, ◌≡◌, ◌++◌, ◌∷◌, [], List, ◌+◌, ◌-◌, true, false, drop, length, arith, length-drop}
use Rattle.std.proofs.lemmas.List.{take_all, length-append}
use Rattle.asm_lexemes.specs.declared.lexeme.Lexeme.{Lexeme}
use Rattle.asm_lexemes.proofs.Cutting.{turn_rest}
use Rattle.asm_lexemes.proofs.Plain.{plain_turn}
use Rattle.asm_lexemes.proofs.line.cut.Goals as goal

-- A list with one more at its end.
grown : (xs ys : List Lexeme) (w : Lexeme) → ys ≡ xs ++ w ∷ [] → length ys ≡ length xs + 1
grown xs ys w e = ap length e ∙ length-append xs (w ∷ [])

pub returns-then-not-is_plain_lexeme-clause-plain : goal.returns-then-not-is_plain_lexeme-clause-plain
returns-then-not-is_plain_lexeme-clause-plain c =
    let line = c.args.line.now in
    let at = c.loop-at.at in
    let rest = take_all (length line - (at + 1)) (drop (at + 1) line) (omega (arith, length-drop (at + 1) line)) in
    sym (sym c.loop-at.invariant.plain ∙ plain_turn line _ at _ _ _ false (omega arith) rest c.kind_at-kind.ensures
    c.lexeme_at-more.ensures.more c.lexeme_at-more.ensures.sharp (sym c.if-not-is_plain_lexeme.true ∙ c.is_plain_lexeme.ensures))

pub loop-at-preserved : goal.loop-at-preserved
loop-at-preserved c =
    let line = c.args.line.now in
    let at = c.loop-at.at in
    let rest = take_all (length line - (at + 1)) (drop (at + 1) line) (omega (arith, length-drop (at + 1) line)) in
    record {
      within = omega (arith, length-drop (at + 1) line, c.lexeme_at-more.ensures.bound);
      room = omega (arith, grown _ _ _ c.push.ensures);
      value =
          turn_rest line _ at _ _ _ _ _ (omega arith) rest (sym c.is_blank.ensures ∙ c.if-is_blank.false)
          (sym c.is_comment.ensures ∙ c.if-is_comment.false) c.kind_at-kind.ensures c.lexeme_at-more.ensures.more
          c.lexeme_at-more.ensures.sharp c.push.ensures ∙ c.loop-at.invariant.value;
      plain =
          sym (plain_turn line _ at _ _ _ true (omega arith) rest c.kind_at-kind.ensures c.lexeme_at-more.ensures.more
          c.lexeme_at-more.ensures.sharp (sym c.if-not-is_plain_lexeme.false ∙ c.is_plain_lexeme.ensures)) ∙ c.loop-at.invariant.plain;
    }
