use Rattle.std.proofs.Common.{◌≡◌, ◌∙◌, sym, true, get_or, arith}
use Rattle.asm_lexemes.specs.Bytes.{is_digit_byte}
use Rattle.asm_lexemes.proofs.NumberedRegisters.{past_limit, more_value, more_digits}
use Rattle.asm_lexemes.proofs.registers.numbered.Goals as goal

pub returns-then-next-from-clause-value : goal.returns-then-next-from-clause-value
returns-then-next-from-clause-value c =
    let ds = c.args.digits.now in
    let i = c.loop-byte.byte-index in
    let digit : is_digit_byte (get_or ds i 0) ≡ true = sym c.is_digit_byte.ensures ∙ c.if-not-is_digit_byte.false in
    past_limit c.args.limit ds i c.loop-byte.n c.loop-byte-test.true c.loop-byte.invariant.value digit (omega arith)

pub loop-byte-preserved : goal.loop-byte-preserved
loop-byte-preserved c =
    let ds = c.args.digits.now in
    let i = c.loop-byte.byte-index in
    let digit : is_digit_byte (get_or ds i 0) ≡ true = sym c.is_digit_byte.ensures ∙ c.if-not-is_digit_byte.false in
    record {
      small = omega arith;
      value =
          rw (c.from.ensures, c.from-in-loop-byte.ensures) (more_value ds i c.loop-byte.n c.loop-byte-test.true c.loop-byte.invariant.value
          digit);
      digits = more_digits ds i c.loop-byte-test.true c.loop-byte.invariant.digits digit;
    }
