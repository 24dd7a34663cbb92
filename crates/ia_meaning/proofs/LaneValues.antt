-- What an operation gives for two lanes is a lane, and for two words a word.
use Rattle.std.proofs.Common.{◌≡◌, ℕ, zero, suc, ◌+◌, ◌-◌, ◌*◌, ◌^◌, ◌<◌, ◌≤◌, ap, ◌∙◌, arith}
use Rattle.std.proofs.lemmas.Nat.{pow_pos, pow-add, mod_below, mul-add-lt}
use Rattle.ia_insn.specs.declared.choices.LaneFn.{LaneFn}
use Rattle.ia_insn.specs.declared.choices.LaneFn.TheVariants.{Padd, Psub, PcmpEq, PcmpGt}
use Rattle.ia_meaning.specs.Lanes.{lane, lane_value, lanes_from}

pub lane_fits : (f : LaneFn) (width x y : ℕ) → lane_value f width x y < 2 ^ width
lane_fits Padd width x y = mod_below (x + y) (2 ^ width) (pow_pos width)
lane_fits Psub width x y = mod_below (x + 2 ^ width - y) (2 ^ width) (pow_pos width)
lane_fits PcmpEq width x y = let some = pow_pos width in grind arith
lane_fits PcmpGt width x y = let some = pow_pos width in grind arith

-- The sum of `count` lanes from lane n on, and the lanes below it.
pub lanes_fit : (f : LaneFn) (width a b n count : ℕ) → lanes_from f width a b n count + 2 ^ (width * n) ≤ 2 ^ (width * (n + count))
lanes_fit f width a b n zero = let e : n + 0 ≡ n = omega arith in rw e (omega arith)
lanes_fit f width a b n (suc count) =
    let rest : lanes_from f width a b (suc n) count + 2 ^ (width * suc n) ≤ 2 ^ (width * (suc n + count)) =
    lanes_fit f width a b (suc n) count in
    let same : suc n + count ≡ n + suc count = omega arith in
    let q = 2 ^ (width * n) in
    let some : 0 < q = pow_pos (width * n) in
    let next : 2 ^ (width * suc n) ≡ q * 2 ^ width =
    ap (λ k. 2 ^ k) (let e : width * suc n ≡ width * n + width = omega arith in e) ∙ pow-add 2 (width * n) width in
    let fits =
    mul-add-lt (lane_value f width (lane width n a) (lane width n b)) q (q - 1) (2 ^ width)
    (lane_fits f width (lane width n a) (lane width n b)) (omega (arith, some)) in
    omega (arith, rw same at rest, next, fits, some)
