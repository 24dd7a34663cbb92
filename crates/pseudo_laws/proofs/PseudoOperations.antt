-- Each pseudo-operation by its row.
use Rattle.std.proofs.Common.{◌≡◌, refl, ℕ, pos, Bool, true, false, [], ◌∷◌, ◌++◌, Some, codes}
use Rattle.std.specs.Prelude.{◌+◌, ◌-◌, ◌/◌, ◌-ℤ◌, nat_lt, if◌then◌else◌, None}
use Rattle.asm_lexemes.specs.declared.tokens.Token.TheVariants as t
use Rattle.asm_forms.specs.declared.items.NumberField.TheVariants.{Imm14, Position}
use Rattle.asm_forms.specs.Items.{has_room}
use Rattle.asm_instructions.specs.Operands.{small, long}
use Rattle.ia_insn.specs.declared.choices.CmpKind.TheVariants as cmp
use Rattle.ia_insn.specs.declared.choices.Rel.TheVariants as rel
use Rattle.ia_insn.specs.declared.choices.Unit.{Unit as ExecutionUnit}
use Rattle.ia_insn.specs.declared.choices.Unit.TheVariants as unit
use Rattle.ia_insn.specs.declared.insn.Op.TheVariants as op
use Rattle.ia_insn.specs.Ranges.{IsHintOf}
use Rattle.pseudo_laws.specs.Laws.{reads, unc_text, letter, HasLetter, RegisterCompares, NumberCompares, MovesToBranches, PseudoOperations}

compares_of : (unc four_bytes : Bool) → RegisterCompares unc four_bytes
compares_of true true =
    record {
      eq = λ p q a b. refl;
      lt = λ p q a b. refl;
      ltu = λ p q a b. refl;
      not_eq = λ p q a b. refl;
      ge = λ p q a b. refl;
      geu = λ p q a b. refl;
      greater = λ p q a b. refl;
      gtu = λ p q a b. refl;
      less = λ p q a b. refl;
      leu = λ p q a b. refl;
    }
compares_of true false =
    record {
      eq = λ p q a b. refl;
      lt = λ p q a b. refl;
      ltu = λ p q a b. refl;
      not_eq = λ p q a b. refl;
      ge = λ p q a b. refl;
      geu = λ p q a b. refl;
      greater = λ p q a b. refl;
      gtu = λ p q a b. refl;
      less = λ p q a b. refl;
      leu = λ p q a b. refl;
    }
compares_of false true =
    record {
      eq = λ p q a b. refl;
      lt = λ p q a b. refl;
      ltu = λ p q a b. refl;
      not_eq = λ p q a b. refl;
      ge = λ p q a b. refl;
      geu = λ p q a b. refl;
      greater = λ p q a b. refl;
      gtu = λ p q a b. refl;
      less = λ p q a b. refl;
      leu = λ p q a b. refl;
    }
compares_of false false =
    record {
      eq = λ p q a b. refl;
      lt = λ p q a b. refl;
      ltu = λ p q a b. refl;
      not_eq = λ p q a b. refl;
      ge = λ p q a b. refl;
      geu = λ p q a b. refl;
      greater = λ p q a b. refl;
      gtu = λ p q a b. refl;
      less = λ p q a b. refl;
      leu = λ p q a b. refl;
    }

number_compares_of : (unc four_bytes : Bool) → NumberCompares unc four_bytes
number_compares_of true true = record {
  eq = λ p q s n b h. rw h (refl {a = Some (op.CmpImm true rel.Eq cmp.Unc p q (long s n) b)});
  lt = λ p q s n b h. rw h (refl {a = Some (op.CmpImm true rel.Lt cmp.Unc p q (long s n) b)});
  ltu = λ p q s n b h. rw h (refl {a = Some (op.CmpImm true rel.Ltu cmp.Unc p q (long s n) b)});
  not_eq = λ p q s n b h. rw h (refl {a = Some (op.CmpImm true rel.Eq cmp.Unc q p (long s n) b)});
  ge = λ p q s n b h. rw h (refl {a = Some (op.CmpImm true rel.Lt cmp.Unc q p (long s n) b)});
  geu = λ p q s n b h. rw h (refl {a = Some (op.CmpImm true rel.Ltu cmp.Unc q p (long s n) b)});
  less = λ p q s n b h. rw h (refl {a = Some (op.CmpImm true rel.Lt cmp.Unc p q (long s n -ℤ pos 1) b)});
  greater = λ p q s n b h. rw h (refl {a = Some (op.CmpImm true rel.Lt cmp.Unc q p (long s n -ℤ pos 1) b)});
}
number_compares_of true false = record {
  eq = λ p q s n b h. rw h (refl {a = Some (op.CmpImm false rel.Eq cmp.Unc p q (long s n) b)});
  lt = λ p q s n b h. rw h (refl {a = Some (op.CmpImm false rel.Lt cmp.Unc p q (long s n) b)});
  ltu = λ p q s n b h. rw h (refl {a = Some (op.CmpImm false rel.Ltu cmp.Unc p q (long s n) b)});
  not_eq = λ p q s n b h. rw h (refl {a = Some (op.CmpImm false rel.Eq cmp.Unc q p (long s n) b)});
  ge = λ p q s n b h. rw h (refl {a = Some (op.CmpImm false rel.Lt cmp.Unc q p (long s n) b)});
  geu = λ p q s n b h. rw h (refl {a = Some (op.CmpImm false rel.Ltu cmp.Unc q p (long s n) b)});
  less = λ p q s n b h. rw h (refl {a = Some (op.CmpImm false rel.Lt cmp.Unc p q (long s n -ℤ pos 1) b)});
  greater = λ p q s n b h. rw h (refl {a = Some (op.CmpImm false rel.Lt cmp.Unc q p (long s n -ℤ pos 1) b)});
}
number_compares_of false true = record {
  eq = λ p q s n b h. rw h (refl {a = Some (op.CmpImm true rel.Eq cmp.Normal p q (long s n) b)});
  lt = λ p q s n b h. rw h (refl {a = Some (op.CmpImm true rel.Lt cmp.Normal p q (long s n) b)});
  ltu = λ p q s n b h. rw h (refl {a = Some (op.CmpImm true rel.Ltu cmp.Normal p q (long s n) b)});
  not_eq = λ p q s n b h. rw h (refl {a = Some (op.CmpImm true rel.Eq cmp.Normal q p (long s n) b)});
  ge = λ p q s n b h. rw h (refl {a = Some (op.CmpImm true rel.Lt cmp.Normal q p (long s n) b)});
  geu = λ p q s n b h. rw h (refl {a = Some (op.CmpImm true rel.Ltu cmp.Normal q p (long s n) b)});
  less = λ p q s n b h. rw h (refl {a = Some (op.CmpImm true rel.Lt cmp.Normal p q (long s n -ℤ pos 1) b)});
  greater = λ p q s n b h. rw h (refl {a = Some (op.CmpImm true rel.Lt cmp.Normal q p (long s n -ℤ pos 1) b)});
}
number_compares_of false false = record {
  eq = λ p q s n b h. rw h (refl {a = Some (op.CmpImm false rel.Eq cmp.Normal p q (long s n) b)});
  lt = λ p q s n b h. rw h (refl {a = Some (op.CmpImm false rel.Lt cmp.Normal p q (long s n) b)});
  ltu = λ p q s n b h. rw h (refl {a = Some (op.CmpImm false rel.Ltu cmp.Normal p q (long s n) b)});
  not_eq = λ p q s n b h. rw h (refl {a = Some (op.CmpImm false rel.Eq cmp.Normal q p (long s n) b)});
  ge = λ p q s n b h. rw h (refl {a = Some (op.CmpImm false rel.Lt cmp.Normal q p (long s n) b)});
  geu = λ p q s n b h. rw h (refl {a = Some (op.CmpImm false rel.Ltu cmp.Normal q p (long s n) b)});
  less = λ p q s n b h. rw h (refl {a = Some (op.CmpImm false rel.Lt cmp.Normal p q (long s n -ℤ pos 1) b)});
  greater = λ p q s n b h. rw h (refl {a = Some (op.CmpImm false rel.Lt cmp.Normal q p (long s n -ℤ pos 1) b)});
}

moves_of : (ret imp : Bool) → MovesToBranches ret imp
moves_of true true = record { taken = λ b1 r2. refl; none = λ b1 r2. refl; dynamic = λ b1 r2. refl }
moves_of true false = record { taken = λ b1 r2. refl; none = λ b1 r2. refl; dynamic = λ b1 r2. refl }
moves_of false true = record { taken = λ b1 r2. refl; none = λ b1 r2. refl; dynamic = λ b1 r2. refl }
moves_of false false = record { taken = λ b1 r2. refl; none = λ b1 r2. refl; dynamic = λ b1 r2. refl }

tbit_of : (unc : Bool) (p q r3 n : ℕ) → has_room Position false n ≡ true
    → reads (codes "tbit.nz" ++ unc_text unc) (t.Pr p ∷ t.Comma ∷ t.Pr q ∷ t.Equals ∷ t.Gr r3 ∷ t.Comma ∷ t.Number false n ∷ [])
    ≡ Some (op.Tbit unc q p r3 (small n))
tbit_of true p q r3 n h = rw h (refl {a = Some (op.Tbit true q p r3 (small n))})
tbit_of false p q r3 n h = rw h (refl {a = Some (op.Tbit false q p r3 (small n))})

tnat_of : (unc : Bool) (p q r3 : ℕ) → reads (codes "tnat.nz" ++ unc_text unc) (t.Pr p ∷ t.Comma ∷ t.Pr q ∷ t.Equals ∷ t.Gr r3 ∷ [])
    ≡ Some (op.Tnat unc q p r3)
tnat_of true p q r3 = refl
tnat_of false p q r3 = refl

break_of : (u : ExecutionUnit) → HasLetter u → reads (codes "break" ++ letter u) [] ≡ Some (op.Break u 0)
break_of unit.L h = absurd h
break_of u h = refl

nop_of : (u : ExecutionUnit) → HasLetter u → reads (codes "nop" ++ letter u) [] ≡ Some (op.Nop u 0)
nop_of unit.L h = absurd h
nop_of u h = refl

hint_of : (u : ExecutionUnit) → IsHintOf u 0 → reads (codes "hint" ++ letter u) [] ≡ Some (op.Hint u 0)
hint_of unit.F h = absurd h
hint_of unit.L h = absurd h
hint_of unit.X h = absurd h
hint_of u h = refl

pub others : PseudoOperations
others = record {
  compares = compares_of;
  number_compares = number_compares_of;
  mov = λ r1 r3. refl;
  mov_number = λ r1 s n h. rw h (refl {a = Some (op.AddImm22 r1 (long s n) 0)});
  add =
      λ r1 s n r3 h. rw h (refl {a = Some (if has_room Imm14 s n then op.AddImm14 false r1 (long s n) r3 else op.AddImm22 r1 (long s n)
      r3)});
  shl = λ r1 r2 n h. rw h (refl {a = Some (op.DepZ r1 r2 (small n) (64 - small n))});
  shr = λ r1 r3 n h. rw h (refl {a = Some (op.Extr true r1 r3 (small n) (64 - small n))});
  shr_u = λ r1 r3 n h. rw h (refl {a = Some (op.Extr false r1 r3 (small n) (64 - small n))});
  tbit_nz = tbit_of;
  tnat_nz = tnat_of;
  mov_to_br = moves_of;
  mov_to_pr = λ r2. refl;
  mov_to_ar = λ a r2. refl;
  mov_from_ar = λ a r1. refl;
  movl = λ r1. refl;
  break = break_of;
  nop = nop_of;
  hint = hint_of;
  bare_break = refl;
  bare_nop = refl;
  bare_hint = refl;
  bare_break_number = λ n h. rw h (refl {a = Some (op.Break unit.X n)});
  bare_nop_number = λ n h. rw h (refl {a = Some (op.Nop unit.X n)});
  bare_hint_number = λ n h. rw h (refl {a = Some (op.Hint unit.I n)});
  bare_check = λ r2. refl;
  alloc =
      λ r1 i l o r a b d e. rw (a, b, d, e) (refl {a = if nat_lt 96 (small i + small l + small o) then None else Some
      (op.Alloc r1 (small i + small l + small o) (small i + small l) (small r / 8))});
}
