-- Which instruction each pseudo-operation is (volume 3, chapter 2): of each line the name, with its completers, and what stands
-- after it.
use Rattle.std.specs.Prelude.{◌≡◌, ℕ, ◌+◌, ◌-◌, ◌/◌, ℤ, pos, ◌-ℤ◌, Bool, true, false, nat_lt, if◌then◌else◌, List, [], ◌∷◌, ◌++◌, Option, Some, None, codes}
use Rattle.std.specs.List.{find}
use Rattle.std.specs.Option.{option_and_then}
use Rattle.asm_lexemes.specs.declared.tokens.Token.{Token}
use Rattle.asm_lexemes.specs.declared.tokens.Token.TheVariants as t
use Rattle.asm_forms.specs.declared.items.NumberField.{NumberField}
use Rattle.asm_forms.specs.declared.items.NumberField.TheVariants.{Imm8, Less8, Imm14, Imm21, Imm22, Imm62, Position, Frame, Rotating}
use Rattle.asm_forms.specs.Items.{has_room, taken}
use Rattle.asm_forms.specs.Naming.{named_forms, completers}
use Rattle.asm_forms.specs.Rows.{row_of}
use Rattle.asm_forms.specs.Spelled.{is_spelled}
use Rattle.asm_instructions.specs.Instructions.{op_of}
use Rattle.asm_instructions.specs.Operands.{long, small}
use Rattle.ia_insn.specs.declared.choices.CmpKind.{CmpKind}
use Rattle.ia_insn.specs.declared.choices.CmpKind.TheVariants.{Normal, Unc}
use Rattle.ia_insn.specs.declared.choices.Rel.{Rel}
use Rattle.ia_insn.specs.declared.choices.Rel.TheVariants as rel
use Rattle.ia_insn.specs.declared.choices.Unit.{Unit as ExecutionUnit}
use Rattle.ia_insn.specs.declared.choices.Unit.TheVariants as unit
use Rattle.ia_insn.specs.declared.insn.Op.{Op}
use Rattle.ia_insn.specs.declared.insn.Op.TheVariants as op
use Rattle.ia_insn.specs.declared.registers.Ar.{Ar}
use Rattle.ia_insn.specs.declared.registers.Ar.TheVariants.{Pfs}
use Rattle.ia_insn.specs.Ranges.{IsHintOf}

-- The instruction of a line: that of the first form which the name names and whose operands these are.
abbrev pub reads : List ℕ → List Token → Option Op
reads name xs =
    option_and_then (λ f. option_and_then (λ cs. op_of f cs (taken (row_of f).items xs)) (completers f name))
    (find (is_spelled xs) (named_forms name))

-- `.unc` or nothing, and the type of a compare that has it
abbrev pub unc_text : Bool → List ℕ
unc_text unc = if unc then codes ".unc" else []

abbrev unc_kind : Bool → CmpKind
unc_kind unc = if unc then Unc else Normal

abbrev compare_text : Bool → List ℕ
compare_text four_bytes = if four_bytes then codes "cmp4" else codes "cmp"

-- The line `cmp.relation p,q=a,b`, or `cmp4`, with `.unc` or without, is a compare of the machine with these targets and
-- registers.
abbrev Compares : Bool → Bool → List ℕ → Rel → (ℕ → ℕ → ℕ) → (ℕ → ℕ → ℕ) → Type 0
Compares unc four_bytes relation machine first second =
    (p q a b : ℕ) → reads (compare_text four_bytes ++ relation ++ unc_text unc)
    (t.Pr p ∷ t.Comma ∷ t.Pr q ∷ t.Equals ∷ t.Gr a ∷ t.Comma ∷ t.Gr b ∷ [])
    ≡ Some (op.Cmp four_bytes machine (unc_kind unc) (first p q) (first q p) (second a b) (second b a))

-- The line `cmp.relation p,q=n,b`, or `cmp4`, of a number that has room in the field, is a compare of the machine with these
-- targets and this number.
abbrev ComparesNumber : Bool → Bool → List ℕ → NumberField → Rel → (ℕ → ℕ → ℕ) → (ℤ → ℤ) → Type 0
ComparesNumber unc four_bytes relation field machine first lowered =
    (p q : ℕ) (negative : Bool) (n b : ℕ) → has_room field negative n ≡ true
    → reads (compare_text four_bytes ++ relation ++ unc_text unc)
    (t.Pr p ∷ t.Comma ∷ t.Pr q ∷ t.Equals ∷ t.Number negative n ∷ t.Comma ∷ t.Gr b ∷ [])
    ≡ Some (op.CmpImm four_bytes machine (unc_kind unc) (first p q) (first q p) (lowered (long negative n)) b)

-- As they are written, and exchanged.
abbrev kept : ℕ → ℕ → ℕ
kept x y = x

abbrev exchanged : ℕ → ℕ → ℕ
exchanged x y = y

-- A number as it is written, and lowered by one.
abbrev same : ℤ → ℤ
same z = z

abbrev one_less : ℤ → ℤ
one_less z = z -ℤ pos 1

-- The compares of two registers.
pub record RegisterCompares (unc four_bytes : Bool) : Type 0 where
  pub eq : Compares unc four_bytes (codes ".eq") rel.Eq kept kept
  pub lt : Compares unc four_bytes (codes ".lt") rel.Lt kept kept
  pub ltu : Compares unc four_bytes (codes ".ltu") rel.Ltu kept kept
  pub not_eq : Compares unc four_bytes (codes ".ne") rel.Eq exchanged kept
  pub ge : Compares unc four_bytes (codes ".ge") rel.Lt exchanged kept
  pub geu : Compares unc four_bytes (codes ".geu") rel.Ltu exchanged kept
  pub greater : Compares unc four_bytes (codes ".gt") rel.Lt kept exchanged
  pub gtu : Compares unc four_bytes (codes ".gtu") rel.Ltu kept exchanged
  pub less : Compares unc four_bytes (codes ".le") rel.Lt exchanged exchanged
  pub leu : Compares unc four_bytes (codes ".leu") rel.Ltu exchanged exchanged

-- The compares of a number and a register.
pub record NumberCompares (unc four_bytes : Bool) : Type 0 where
  pub eq : ComparesNumber unc four_bytes (codes ".eq") Imm8 rel.Eq kept same
  pub lt : ComparesNumber unc four_bytes (codes ".lt") Imm8 rel.Lt kept same
  pub ltu : ComparesNumber unc four_bytes (codes ".ltu") Imm8 rel.Ltu kept same
  pub not_eq : ComparesNumber unc four_bytes (codes ".ne") Imm8 rel.Eq exchanged same
  pub ge : ComparesNumber unc four_bytes (codes ".ge") Imm8 rel.Lt exchanged same
  pub geu : ComparesNumber unc four_bytes (codes ".geu") Imm8 rel.Ltu exchanged same
  pub less : ComparesNumber unc four_bytes (codes ".le") Less8 rel.Lt kept one_less
  pub greater : ComparesNumber unc four_bytes (codes ".gt") Less8 rel.Lt exchanged one_less

-- The letter of a unit, which an L slot has not.
abbrev pub letter : ExecutionUnit → List ℕ
letter unit.M = codes ".m"
letter unit.I = codes ".i"
letter unit.F = codes ".f"
letter unit.B = codes ".b"
letter unit.X = codes ".x"
letter unit.L = []

abbrev pub HasLetter : ExecutionUnit → Type 0
HasLetter unit.L = ⊥
HasLetter u = Unit {0}

-- mov b1=r2 without a tag, with `.ret` and `.imp` or without, and this whether hint
abbrev pub MovesToBranch : Bool → Bool → List ℕ → ℕ → Type 0
MovesToBranch ret imp whether wh =
    (b1 r2 : ℕ) → reads (codes "mov" ++ (if ret then codes ".ret" else []) ++ whether ++ (if imp then codes ".imp" else []))
    (t.Br b1 ∷ t.Equals ∷ t.Gr r2 ∷ [])
    ≡ Some (op.MovToBr b1 r2 ret imp wh (pos 0))

pub record MovesToBranches (ret imp : Bool) : Type 0 where
  pub taken : MovesToBranch ret imp (codes ".sptk") 0
  pub none : MovesToBranch ret imp [] 1
  pub dynamic : MovesToBranch ret imp (codes ".dptk") 2

-- The others.
pub record PseudoOperations : Type 0 where
  pub compares : (unc four_bytes : Bool) → RegisterCompares unc four_bytes
  pub number_compares : (unc four_bytes : Bool) → NumberCompares unc four_bytes
  -- mov r1=r3
  pub mov : (r1 r3 : ℕ) → reads (codes "mov") (t.Gr r1 ∷ t.Equals ∷ t.Gr r3 ∷ []) ≡ Some (op.AddImm14 false r1 (pos 0) r3)
  -- mov r1=n
  pub mov_number : (r1 : ℕ) (negative : Bool) (n : ℕ) → has_room Imm22 negative n ≡ true
      → reads (codes "mov") (t.Gr r1 ∷ t.Equals ∷ t.Number negative n ∷ []) ≡ Some (op.AddImm22 r1 (long negative n) 0)
  -- add r1=n,r3
  pub add : (r1 : ℕ) (negative : Bool) (n r3 : ℕ) → has_room Imm22 negative n ≡ true
      → reads (codes "add") (t.Gr r1 ∷ t.Equals ∷ t.Number negative n ∷ t.Comma ∷ t.Gr r3 ∷ [])
      ≡ Some (if has_room Imm14 negative n then op.AddImm14 false r1 (long negative n) r3 else op.AddImm22 r1 (long negative n) r3)
  -- shl r1=r2,n
  pub shl : (r1 r2 n : ℕ) → has_room Position false n ≡ true
      → reads (codes "shl") (t.Gr r1 ∷ t.Equals ∷ t.Gr r2 ∷ t.Comma ∷ t.Number false n ∷ []) ≡ Some (op.DepZ r1 r2 (small n) (64 - small n))
  -- shr r1=r3,n and shr.u r1=r3,n
  pub shr : (r1 r3 n : ℕ) → has_room Position false n ≡ true
      → reads (codes "shr") (t.Gr r1 ∷ t.Equals ∷ t.Gr r3 ∷ t.Comma ∷ t.Number false n ∷ [])
      ≡ Some (op.Extr true r1 r3 (small n) (64 - small n))
  pub shr_u : (r1 r3 n : ℕ) → has_room Position false n ≡ true
      → reads (codes "shr.u") (t.Gr r1 ∷ t.Equals ∷ t.Gr r3 ∷ t.Comma ∷ t.Number false n ∷ [])
      ≡ Some (op.Extr false r1 r3 (small n) (64 - small n))
  -- tbit.nz p,q=r3,n and tnat.nz p,q=r3
  pub tbit_nz : (unc : Bool) (p q r3 n : ℕ) → has_room Position false n ≡ true
      → reads (codes "tbit.nz" ++ unc_text unc) (t.Pr p ∷ t.Comma ∷ t.Pr q ∷ t.Equals ∷ t.Gr r3 ∷ t.Comma ∷ t.Number false n ∷ [])
      ≡ Some (op.Tbit unc q p r3 (small n))
  pub tnat_nz : (unc : Bool) (p q r3 : ℕ) → reads (codes "tnat.nz" ++ unc_text unc) (t.Pr p ∷ t.Comma ∷ t.Pr q ∷ t.Equals ∷ t.Gr r3 ∷ [])
      ≡ Some (op.Tnat unc q p r3)
  -- mov b1=r2, without a tag
  pub mov_to_br : (ret imp : Bool) → MovesToBranches ret imp
  -- mov pr=r2, to all but p0
  pub mov_to_pr : (r2 : ℕ) → reads (codes "mov") (t.Predicates ∷ t.Equals ∷ t.Gr r2 ∷ []) ≡ Some (op.MovToPr r2 0x1fffe)
  -- mov of an application register, without a unit.
  pub mov_to_ar : (a : Ar) (r2 : ℕ) → reads (codes "mov") (t.Ar a ∷ t.Equals ∷ t.Gr r2 ∷ []) ≡ Some (op.MovToAr a r2)
  pub mov_from_ar : (a : Ar) (r1 : ℕ) → reads (codes "mov") (t.Gr r1 ∷ t.Equals ∷ t.Ar a ∷ []) ≡ Some (op.MovFromAr r1 a)
  -- movl r1=label, whose number is 0 until the name is put in
  pub movl : (r1 : ℕ) → reads (codes "movl") (t.Gr r1 ∷ t.Equals ∷ t.Name ∷ []) ≡ Some (op.Movl r1 0)
  -- `break`, `nop` and `hint` with a unit letter and without a number
  pub break : (u : ExecutionUnit) → HasLetter u → reads (codes "break" ++ letter u) [] ≡ Some (op.Break u 0)
  pub nop : (u : ExecutionUnit) → HasLetter u → reads (codes "nop" ++ letter u) [] ≡ Some (op.Nop u 0)
  pub hint : (u : ExecutionUnit) → IsHintOf u 0 → reads (codes "hint" ++ letter u) [] ≡ Some (op.Hint u 0)
  -- `break`, `nop`, `hint` and `chk.s` without a letter: until the slot is known their unit is X, or I of `hint` and `chk.s`
  pub bare_break : reads (codes "break") [] ≡ Some (op.Break unit.X 0)
  pub bare_nop : reads (codes "nop") [] ≡ Some (op.Nop unit.X 0)
  pub bare_hint : reads (codes "hint") [] ≡ Some (op.Hint unit.I 0)
  pub bare_break_number : (n : ℕ) → has_room Imm62 false n ≡ true → reads (codes "break") (t.Number false n ∷ []) ≡ Some (op.Break unit.X n)
  pub bare_nop_number : (n : ℕ) → has_room Imm62 false n ≡ true → reads (codes "nop") (t.Number false n ∷ []) ≡ Some (op.Nop unit.X n)
  pub bare_hint_number : (n : ℕ) → has_room Imm21 false n ≡ true → reads (codes "hint") (t.Number false n ∷ []) ≡ Some (op.Hint unit.I n)
  pub bare_check : (r2 : ℕ) → reads (codes "chk.s") (t.Gr r2 ∷ t.Comma ∷ t.Name ∷ []) ≡ Some (op.ChkS unit.I r2 (pos 0))
  -- alloc r1=ar.pfs,i,l,o,r
  pub alloc : (r1 i l o r : ℕ) → has_room Frame false i ≡ true → has_room Frame false l ≡ true → has_room Frame false o ≡ true
      → has_room Rotating false r ≡ true
      → reads (codes "alloc") (t.Gr r1 ∷ t.Equals ∷ t.Ar Pfs ∷ t.Comma ∷ t.Number false i ∷ t.Comma ∷ t.Number false l ∷ t.Comma ∷ t.Number
      false o ∷ t.Comma ∷ t.Number false r ∷ [])
      ≡ (if nat_lt 96 (small i + small l + small o) then None else Some
      (op.Alloc r1 (small i + small l + small o) (small i + small l) (small r / 8)))
