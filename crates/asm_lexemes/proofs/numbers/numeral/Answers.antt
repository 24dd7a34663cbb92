use Rattle.std.proofs.Common.{◌≡◌, ◌∙◌, ap, arith, Some}
use Rattle.std.proofs.lemmas.List.{take_all}
use Rattle.std.specs.Str.Parse.{digits_value}
use Rattle.asm_lexemes.proofs.Numerals.{is_held, is_too_large, one_more}
use Rattle.asm_lexemes.proofs.numbers.numeral.Goals as goal

pub returns-in-None : goal.returns-in-None
returns-in-None c =
    is_too_large c.args.base c.args.digits.now c.loop-byte.byte-index _ _ c.requires c.loop-byte-test.true c.loop-byte.invariant.value
    c.digit_value.ensures.value c.in-None.ensures

pub loop-byte-preserved : goal.loop-byte-preserved
loop-byte-preserved c = record {
  small = omega (arith, c.in-Some.ensures);
  value =
      c.in-Some.ensures.1 ∙ one_more c.args.base c.args.digits.now c.loop-byte.byte-index _ _ c.loop-byte-test.true
      c.loop-byte.invariant.value c.digit_value.ensures.value;
}

pub returns : goal.returns
returns c =
    let ds = c.args.digits.now in
    let e : c.loop-byte.total ≡ digits_value c.args.base ds =
    c.loop-byte.invariant.value ∙ ap (digits_value c.args.base) (take_all c.loop-byte.byte-index ds c.loop-byte-test.false) in
    ap (λ n. Some n) e ∙ is_held c.args.base ds (omega arith)
