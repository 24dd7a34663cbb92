use Rattle.std.proofs.Common.{◌<◌, ◌^◌, arith}
use Rattle.ia64_top.specs.Numbers.{BeginsAsNumeral}
use Rattle.ia64_top.proofs.Numerals.{no_number, out_of_range, counted}
use Rattle.ia64_top.proofs.arguments.number_between.Goals as goal

pub returns-in_default-parse : goal.returns-in_default-parse
returns-in_default-parse c =
    let parsed = rw c.in-Ok.ensures.cases.0 at c.parse.ensures.value.0 in
    let small : c.args.most < 2 ^ 64 = omega arith in
    no_number c.args.least c.args.most c.args.argument.now c.parse.result _ small parsed c.in_default-parse.is

pub returns-then-number-least : goal.returns-then-number-least
returns-then-number-least c =
    let parsed = rw c.in-Ok.ensures.cases.0 at c.parse.ensures.value.0 in
    let small : c.args.most < 2 ^ 64 = omega arith in
    out_of_range c.args.least c.args.most c.args.argument.now c.parse.result c.in-Ok-parse.number small parsed c.in-Ok-parse.is
    (λ h. omega (arith, h.0))

pub returns-then-most-number : goal.returns-then-most-number
returns-then-most-number c =
    let parsed = rw c.in-Ok.ensures.cases.0 at c.parse.ensures.value.0 in
    let small : c.args.most < 2 ^ 64 = omega arith in
    out_of_range c.args.least c.args.most c.args.argument.now c.parse.result c.in-Ok-parse.number small parsed c.in-Ok-parse.is
    (λ h. omega (arith, h.1))

pub returns : goal.returns
returns c =
    let parsed = rw c.in-Ok.ensures.cases.0 at c.parse.ensures.value.0 in
    let small : c.args.most < 2 ^ 64 = omega arith in
    let begins : BeginsAsNumeral c.args.argument.now = c.begins_as_numeral.ensures.0 c.if-not-begins_as_numeral.false in
    counted c.args.least c.args.most c.args.argument.now c.parse.result c.in-Ok-parse.number small begins parsed c.in-Ok-parse.is
    (omega arith) (omega arith)
