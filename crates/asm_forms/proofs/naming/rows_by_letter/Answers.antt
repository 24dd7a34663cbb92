use Rattle.asm_forms.proofs.Letters.{in_to_b, in_c_to_i, in_l_to_n, in_o_to_r, in_from_s}
use Rattle.asm_forms.proofs.naming.rows_by_letter.Goals as goal

pub returns-then-first-lt99-clause-value : goal.returns-then-first-lt99-clause-value
returns-then-first-lt99-clause-value c = in_to_b c.args.name.now _ _ c.rows_to_b-then-first-lt99.ensures.value c.if-first-lt99.true

pub returns-then-first-lt108-clause-value : goal.returns-then-first-lt108-clause-value
returns-then-first-lt108-clause-value c =
    in_c_to_i c.args.name.now _ _ c.rows_c_to_i.ensures.value c.if-first-lt99.false c.if-first-lt108.true

pub returns-then-first-lt111-clause-value : goal.returns-then-first-lt111-clause-value
returns-then-first-lt111-clause-value c =
    in_l_to_n c.args.name.now _ _ c.rows_l_to_n.ensures.value c.if-first-lt108.false c.if-first-lt111.true

pub returns-then-first-lt115-clause-value : goal.returns-then-first-lt115-clause-value
returns-then-first-lt115-clause-value c =
    in_o_to_r c.args.name.now _ _ c.rows_o_to_r.ensures.value c.if-first-lt111.false c.if-first-lt115.true

pub returns-else-first-lt115-clause-value : goal.returns-else-first-lt115-clause-value
returns-else-first-lt115-clause-value c = in_from_s c.args.name.now _ _ c.rows_from_s.ensures.value c.if-first-lt115.false
