-- What is written otherwise than words have it is read back: the parts of a frame, and numbers that a long slot has room for.
use Rattle.std.proofs.Common.{◌≡◌, refl, ap, ℕ, ◌+◌, ◌-◌, ◌*◌, ◌/◌, ◌%◌, ◌<◌, ◌≤◌, true, false, ltb, leb, Some, lit<, arith}
use Rattle.std.proofs.lemmas.Bool.{le-leb}
use Rattle.std.proofs.lemmas.Bool.Decides.{nat_tests}
use Rattle.std.proofs.Math.Nat.{mul-mod_right}
use Rattle.asm_canonical.proofs.FieldRanges.{is_below}
use Rattle.std.proofs.Math.Nat.{mod-eq_of_lt}
use Rattle.ia_insn.specs.declared.insn.Op.TheVariants as op
use Rattle.ia_insn.specs.declared.choices.Unit.{Unit as ExecutionUnit}
use Rattle.ia_insn.specs.declared.choices.Unit.TheVariants as unit
use Rattle.ia_insn.specs.Ranges.{IsNumberOf}
use Rattle.asm_text.proofs.WayBack.{ReadsBack}

-- X2
pub movl_back : (r1 imm : ℕ) → imm < 18446744073709551616 → ReadsBack (op.Movl r1 imm)
movl_back r1 imm l =
    let s : imm % 18446744073709551616 ≡ imm = mod-eq_of_lt l in
    record {
      choice = refl;
      fits = rw (le-leb imm 18446744073709551615 (omega (arith, l))) refl;
      label = refl;
      slot = refl;
      bare = refl;
      op = ap (λ n. Some (op.Movl r1 n)) s;
    }

-- I19, M37, B9, F15 and X1.
pub break_back : (u : ExecutionUnit) (imm : ℕ) → IsNumberOf u imm → ReadsBack (op.Break u imm)
break_back unit.M imm h =
    record { choice = refl; fits = rw (le-leb imm 2097151 (omega (arith, h))) refl; label = refl; slot = refl; bare = refl; op = refl }
break_back unit.I imm h =
    record { choice = refl; fits = rw (le-leb imm 2097151 (omega (arith, h))) refl; label = refl; slot = refl; bare = refl; op = refl }
break_back unit.F imm h =
    record { choice = refl; fits = rw (le-leb imm 2097151 (omega (arith, h))) refl; label = refl; slot = refl; bare = refl; op = refl }
break_back unit.B imm h =
    record { choice = refl; fits = rw (le-leb imm 2097151 (omega (arith, h))) refl; label = refl; slot = refl; bare = refl; op = refl }
break_back unit.X imm h =
    record {
      choice = refl;
      fits = rw (le-leb imm 4611686018427387903 (omega (arith, h))) refl;
      label = refl;
      slot = refl;
      bare = refl;
      op = refl;
    }
break_back unit.L imm h = absurd h

-- I18, M48, B9, F16 and X5.
pub nop_back : (u : ExecutionUnit) (imm : ℕ) → IsNumberOf u imm → ReadsBack (op.Nop u imm)
nop_back unit.M imm h =
    record { choice = refl; fits = rw (le-leb imm 2097151 (omega (arith, h))) refl; label = refl; slot = refl; bare = refl; op = refl }
nop_back unit.I imm h =
    record { choice = refl; fits = rw (le-leb imm 2097151 (omega (arith, h))) refl; label = refl; slot = refl; bare = refl; op = refl }
nop_back unit.F imm h =
    record { choice = refl; fits = rw (le-leb imm 2097151 (omega (arith, h))) refl; label = refl; slot = refl; bare = refl; op = refl }
nop_back unit.B imm h =
    record { choice = refl; fits = rw (le-leb imm 2097151 (omega (arith, h))) refl; label = refl; slot = refl; bare = refl; op = refl }
nop_back unit.X imm h =
    record {
      choice = refl;
      fits = rw (le-leb imm 4611686018427387903 (omega (arith, h))) refl;
      label = refl;
      slot = refl;
      bare = refl;
      op = refl;
    }
nop_back unit.L imm h = absurd h

-- M34
pub alloc_back : (r1 sof sol sor : ℕ) → sof ≤ 96 → sol ≤ sof → 8 * sor ≤ sof → ReadsBack (op.Alloc r1 sof sol sor)
alloc_back r1 sof sol sor hf hl ho =
    let i1 : leb sol 96 ≡ true = le-leb sol 96 (omega (arith, hf, hl)) in
    let i2 : leb (sof - sol) 96 ≡ true = le-leb (sof - sol) 96 (omega (arith, hf)) in
    let i3 : leb (8 * sor) 96 ≡ true = le-leb (8 * sor) 96 (omega (arith, hf, ho)) in
    let i4 : 8 * sor % 8 ≡ 0 = mul-mod_right 8 sor in
    let s1 : ltb sol 256 ≡ true = is_below sol 96 256 (omega (arith, hf, hl)) (lit< tt) in
    let s2 : ltb (sof - sol) 256 ≡ true = is_below (sof - sol) 96 256 (omega (arith, hf)) (lit< tt) in
    let s3 : ltb (8 * sor) 256 ≡ true = is_below (8 * sor) 96 256 (omega (arith, hf, ho)) (lit< tt) in
    let e1 : 0 + sol + (sof - sol) ≡ sof = omega (arith, hl) in
    let e2 : 0 + sol ≡ sol = omega arith in
    let e3 : 8 * sor / 8 ≡ sor = omega arith in
    let c1 : ltb 96 sof ≡ false = grind (arith, nat_tests, hf) in
    record {
      choice = refl;
      fits = rw (i1, i2, i3, i4) refl;
      label = refl;
      slot = refl;
      bare = refl;
      op = rw (s1, s2, s3, e1, e2, e3, c1) refl;
    }
