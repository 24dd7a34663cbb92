use Rattle.std.proofs.Common.{◌≡◌, ◌++◌, [], length, arith}
use Rattle.asm_forms.specs.Rows.{rows_to_b, rows_c_to_i, rows_l_to_n, rows_o_to_r, rows_from_s, first_row}
use Rattle.asm_forms.proofs.RowIndexes.{as_many, picked}
use Rattle.asm_forms.proofs.rows.row_at.Goals as goal

pub returns-then-at-here : goal.returns-then-at-here
returns-then-at-here c =
    picked [] rows_to_b (rows_c_to_i ++ rows_l_to_n ++ rows_o_to_r ++ rows_from_s) _ c.args.at c.args.at _ first_row
    c.rows_to_b-here.ensures.value c.if-at-here.true (omega arith)

pub returns-then-at-here-2 : goal.returns-then-at-here-2
returns-then-at-here-2 c =
    let b : length c.rows_to_b-here.result.now ≡ length rows_to_b = as_many _ _ c.rows_to_b-here.ensures.value in
    picked rows_to_b rows_c_to_i (rows_l_to_n ++ rows_o_to_r ++ rows_from_s) _ _ c.args.at _ first_row c.rows_c_to_i-here.ensures.value
    c.if-at-here-2.true
    (omega (arith, b, c.if-at-here.false))

pub returns-then-at-here-3 : goal.returns-then-at-here-3
returns-then-at-here-3 c =
    let b : length c.rows_to_b-here.result.now ≡ length rows_to_b = as_many _ _ c.rows_to_b-here.ensures.value in
    let i : length c.rows_c_to_i-here.result.now ≡ length rows_c_to_i = as_many _ _ c.rows_c_to_i-here.ensures.value in
    picked (rows_to_b ++ rows_c_to_i) rows_l_to_n (rows_o_to_r ++ rows_from_s) _ _ c.args.at _ first_row c.rows_l_to_n-here.ensures.value
    c.if-at-here-3.true
    (omega (arith, b, i, c.if-at-here.false, c.if-at-here-2.false))

pub returns-then-at-here-4 : goal.returns-then-at-here-4
returns-then-at-here-4 c =
    let b : length c.rows_to_b-here.result.now ≡ length rows_to_b = as_many _ _ c.rows_to_b-here.ensures.value in
    let i : length c.rows_c_to_i-here.result.now ≡ length rows_c_to_i = as_many _ _ c.rows_c_to_i-here.ensures.value in
    let n : length c.rows_l_to_n-here.result.now ≡ length rows_l_to_n = as_many _ _ c.rows_l_to_n-here.ensures.value in
    picked (rows_to_b ++ rows_c_to_i ++ rows_l_to_n) rows_o_to_r rows_from_s _ _ c.args.at _ first_row c.rows_o_to_r-here.ensures.value
    c.if-at-here-4.true
    (omega (arith, b, i, n, c.if-at-here.false, c.if-at-here-2.false, c.if-at-here-3.false))

pub bounds-rows_from_s-at : goal.bounds-rows_from_s-at
bounds-rows_from_s-at c =
    let b : length c.rows_to_b-here.result.now ≡ length rows_to_b = as_many _ _ c.rows_to_b-here.ensures.value in
    let i : length c.rows_c_to_i-here.result.now ≡ length rows_c_to_i = as_many _ _ c.rows_c_to_i-here.ensures.value in
    let n : length c.rows_l_to_n-here.result.now ≡ length rows_l_to_n = as_many _ _ c.rows_l_to_n-here.ensures.value in
    let r : length c.rows_o_to_r-here.result.now ≡ length rows_o_to_r = as_many _ _ c.rows_o_to_r-here.ensures.value in
    let s : length c.rows_from_s.result.now ≡ length rows_from_s = as_many _ _ c.rows_from_s.ensures.value in
    omega (arith, b, i, n, r, s, c.requires, c.if-at-here.false, c.if-at-here-2.false, c.if-at-here-3.false, c.if-at-here-4.false)

pub returns : goal.returns
returns c =
    let b : length c.rows_to_b-here.result.now ≡ length rows_to_b = as_many _ _ c.rows_to_b-here.ensures.value in
    let i : length c.rows_c_to_i-here.result.now ≡ length rows_c_to_i = as_many _ _ c.rows_c_to_i-here.ensures.value in
    let n : length c.rows_l_to_n-here.result.now ≡ length rows_l_to_n = as_many _ _ c.rows_l_to_n-here.ensures.value in
    let r : length c.rows_o_to_r-here.result.now ≡ length rows_o_to_r = as_many _ _ c.rows_o_to_r-here.ensures.value in
    picked (rows_to_b ++ rows_c_to_i ++ rows_l_to_n ++ rows_o_to_r) rows_from_s [] _ _ c.args.at _ first_row c.rows_from_s.ensures.value
    (bounds-rows_from_s-at c)
    (omega (arith, b, i, n, r, c.if-at-here.false, c.if-at-here-2.false, c.if-at-here-3.false, c.if-at-here-4.false))
