-- It is decided whether a table lists an instruction.
use Rattle.std.proofs.Common.{ℕ, ◌+◌, ◌-◌, ◌*◌, ◌%◌, ◌^◌, List, [], ◌∷◌, Option, Some, None, get_or}
use Rattle.std.specs.Prelude.{ℤ, pos, negsuc, unsigned_abs}
use Rattle.std.proofs.Math.Decide.{ℕ_discrete, dec_le, dec_lt}
use Rattle.ia_insn.specs.Signed.{twos, FitsSigned}
use Rattle.ia_insn.specs.declared.insn.Insn.{Insn}
use Rattle.insn_rows.specs.declared.row.Coding.{Coding}
use Rattle.insn_rows.specs.declared.row.Coding.TheVariants as c
use Rattle.insn_rows.specs.declared.row.Check.{Check}
use Rattle.insn_rows.specs.declared.row.Check.TheVariants as ch
use Rattle.insn_rows.specs.declared.row.Operand.{Operand}
use Rattle.insn_rows.specs.declared.row.Row.{Row}
use Rattle.insn_rows.specs.declared.value.Value.{Value}
use Rattle.insn_rows.specs.declared.value.Value.TheVariants as v
use Rattle.insn_rows.specs.Values.{at}
use Rattle.ia_insn.specs.Ranges.{IsAccessSize, IsIncrement}
use Rattle.insn_rows.specs.Codings.{Takes}
use Rattle.insn_rows.specs.Rows.{operand_width, operands, AllTake, AreOther, IsFrame, Agrees, HasWord}
use Rattle.insn_rows.specs.Arms.{opcode_of, values_of}
use Rattle.insn_rows.specs.Codes.{IsListedBy, IsRowIndexOf}
use Rattle.insn_rows.proofs.RowBack.{no_row}
use Rattle.insn_rows.proofs.Laws.{AsRow, as_row, from_row}
use Rattle.insn_rows.proofs.Decided.{alike, either, both, three, differ}

fits_signed : (width : ℕ) (z : ℤ) → Dec (FitsSigned width z)
fits_signed width (pos n) = dec_lt n (2 ^ (width - 1))
fits_signed width (negsuc n) = dec_lt n (2 ^ (width - 1))

size : (n : ℕ) → Dec (IsAccessSize n)
size n = either (ℕ_discrete n 1) (either (ℕ_discrete n 2) (either (ℕ_discrete n 4) (ℕ_discrete n 8)))

increment : (z : ℤ) → Dec (IsIncrement z)
increment z =
    let n = unsigned_abs z in
    either (ℕ_discrete n 1) (either (ℕ_discrete n 4) (either (ℕ_discrete n 8) (ℕ_discrete n 16)))

takes : (coding : Coding) (w : ℕ) (x : Value) → Dec (Takes coding w x)
takes c.Absent w v.Absent = yes tt
takes c.NoPredicate w (v.Pr n) = ℕ_discrete n 0
takes c.Gr w (v.Gr n) = dec_lt n (2 ^ w)
takes c.LowGr w (v.Gr n) = dec_le n 3
takes c.Target w (v.Gr n) = both (differ n 0) (dec_lt n (2 ^ w))
takes c.Pr w (v.Pr n) = dec_lt n (2 ^ w)
takes c.Br w (v.Br n) = dec_lt n (2 ^ w)
takes c.Flag w (v.Flag b) = yes tt
takes c.Small w (v.Small n) = dec_lt n (2 ^ w)
takes (c.UpTo most) w (v.Small n) = dec_le n most
takes c.LoadHint w (v.Small n) = both (dec_le n 3) (differ n 2)
takes c.StoreHint w (v.Small n) = either (ℕ_discrete n 0) (ℕ_discrete n 3)
takes c.LessOne w (v.Small n) = both (dec_le 1 n) (dec_le n (2 ^ w))
takes c.From63 w (v.Small n) = dec_le n 63
takes (c.Size least most) w (v.Small n) = three (size n) (both (dec_le least n) (dec_le n most))
takes c.Increment w (v.Short z) = increment z
takes c.Wide w (v.Wide n) = dec_lt n (2 ^ w)
takes c.PredicateMask w (v.Mask n) = both (dec_lt n (2 ^ (w + 1))) (ℕ_discrete (n % 2) 0)
takes c.Signed w (v.Signed z) = fits_signed w z
takes c.RotatingMask w (v.Signed z) = both (fits_signed (w + 16) z) (ℕ_discrete (twos (w + 16) z % 2 ^ 16) 0)
takes c.Short w (v.Short z) = fits_signed w z
takes c.Displacement w (v.Displacement z) = fits_signed w z
takes coding w x = no (λ h. h)

all_take : (os : List Operand) (xs : List Value) → Dec (AllTake os xs)
all_take [] [] = yes tt
all_take (o ∷ os) (x ∷ xs) = both (takes o.coding (operand_width o) x) (all_take os xs)
all_take [] (x ∷ xs) = no (λ h. h)
all_take (o ∷ os) [] = no (λ h. h)

other : (x y : Value) → Dec (AreOther x y)
other (v.Gr m) (v.Gr n) = differ m n
other (v.Pr m) (v.Pr n) = differ m n
other x y = no (λ h. h)

frame : (x y z : Value) → Dec (IsFrame x y z)
frame (v.Small sof) (v.Small sol) (v.Small sor) = three (dec_le sof 96) (both (dec_le sol sof) (dec_le (8 * sor) sof))
frame x y z = no (λ h. h)

agrees : (check : Check) (xs : List Value) → Dec (Agrees check xs)
agrees ch.Free xs = yes tt
agrees (ch.Differ i j) xs = other (at xs i) (at xs j)
agrees (ch.Frame i j k) xs = frame (at xs i) (at xs j) (at xs k)

has_word : (r : Row) (xs : List Value) → Dec (HasWord r xs)
has_word r xs =
    alike (both (all_take (operands r) xs) (agrees r.format.check xs)) (λ h. record { takes = h.0; agrees = h.1 })
    (λ h. (h.takes, h.agrees))

-- The row at the index of its opcode has a word for an instruction.
pub as_row_decided : (rows : List Row) (p : Option ℕ) (i : Insn) → Dec (AsRow rows p i)
as_row_decided rows None i = no (λ h. h)
as_row_decided rows (Some n) i = has_word (get_or rows n no_row) (values_of i)

pub listed_by : (rows : List Row) (p : Option ℕ) (i : Insn) → IsRowIndexOf rows p (opcode_of i.op) → Dec (IsListedBy rows i)
listed_by rows p i here = alike (as_row_decided rows p i) (from_row rows p i here) (λ l. as_row rows p i l.0 here l.1)
