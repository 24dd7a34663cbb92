-- An instruction with its target put in is listed as before and of the same class, and its target is inside.
use Rattle.std.proofs.Common.{arith, ◌≡◌, ℕ, ◌<◌, ◌≤◌, refl, sym, subst, true, List, length, Option, Some, None, IsSome, ℤ}
use Rattle.std.specs.Prelude.{IfSome, unwrap_or}
use Rattle.ia_insn.specs.declared.insn.Insn.{Insn}
use Rattle.ia_insn.specs.declared.insn.Op.{Op}
use Rattle.ia_insn.specs.declared.insn.Op.TheVariants as op
use Rattle.ia_insn.specs.declared.choices.BranchKind.TheVariants as branch
use Rattle.ia_insn.specs.declared.choices.Unit.{Unit as ExecutionUnit}
use Rattle.ia_insn.specs.declared.choices.Unit.TheVariants as units
use Rattle.ia_insn.specs.Displacements.{displacement}
use Rattle.ia_program.specs.Listed.{IsListed}
use Rattle.ia_program.specs.Fits.{Fits}
use Rattle.ia_program.specs.Targets.{IsBundleAt}
use Rattle.ia_program.proofs.ListedSlots.{unit_listed}
use Rattle.slot_layouts.specs.declared.classes.SlotClass.{SlotClass}
use Rattle.slot_layouts.specs.declared.classes.SlotClass.TheVariants.{A, I, M, F, B, Loop, X}
use Rattle.slot_layouts.specs.Classes.{class_of, has_place}
use Rattle.slot_layouts.specs.Laws.{PlaceIsFit}
use Rattle.asm_build.specs.declared.address.Address.{Address}
use Rattle.asm_build.specs.declared.address.Address.TheVariants.{Bundle, Byte}
use Rattle.asm_build.specs.Addresses.{IsInside, IsReachable, addressed, reach}
use Rattle.asm_build.proofs.AddressedTargets.{IfSome-weaken, fit_stays, target_inside}
use Rattle.loose_items.specs.declared.item.Item.{Item}
use Rattle.loose_text.specs.LooseTexts.{IsTargetOf}
use Rattle.bundling.specs.Bundled.{put_in}
use Rattle.bundling.proofs.Locating.{breaks_inside}

-- Each class has a place.
unit_for : SlotClass → ExecutionUnit
unit_for A = units.M
unit_for I = units.I
unit_for M = units.M
unit_for F = units.F
unit_for B = units.B
unit_for Loop = units.B
unit_for X = units.L

slot_for : SlotClass → ℕ
slot_for Loop = 2
slot_for X = 1
slot_for class = 0

slot_small : (class : SlotClass) → slot_for class < 3
unfolding slot_for
slot_small A = omega arith
slot_small I = omega arith
slot_small M = omega arith
slot_small F = omega arith
slot_small B = omega arith
slot_small Loop = omega arith
slot_small X = omega arith

place_there : (class : SlotClass) → has_place class (unit_for class) (slot_for class) ≡ true
unfolding unit_for slot_for
place_there A = refl
place_there I = refl
place_there M = refl
place_there F = refl
place_there B = refl
place_there Loop = refl
place_there X = refl

-- What fits a slot is listed.
listed_stays : PlaceIsFit → (i : Insn) (a : Address) (n : ℕ) → IsReachable a → n < reach → IsListed i
    → IfSome (addressed i.op a n) (λ y. IsListed (record { qp = i.qp; op = y }))
listed_stays law i a n within here listed =
    let class = class_of i.op in
    let u = unit_for class in
    let slot = slot_for class in
    let fits : Fits i u slot = (law i u slot (slot_small class) listed).0 (place_there class) in
    IfSome-weaken (λ y. Fits (record { qp = i.qp; op = y }) u slot) (λ y. IsListed (record { qp = i.qp; op = y })) (addressed i.op a n)
    (λ y f. unit_listed (record { qp = i.qp; op = y }) u slot f.kind)
    (fit_stays i a n u slot within here fits)

class_stays : (x : Op) (a : Address) (n : ℕ) → IfSome (addressed x a n) (λ y. class_of y ≡ class_of x)
class_stays (op.ChkS u r2 disp) (Bundle m) n = refl
class_stays (op.ChkA clear r1 disp) (Bundle m) n = refl
class_stays (op.Br branch.Cond wh many clr disp) (Bundle m) n = refl
class_stays (op.Br kind wh many clr disp) (Bundle m) n = refl
class_stays (op.BrCall b1 wh many clr disp) (Bundle m) n = refl
class_stays (op.Movl r1 imm) (Bundle m) n = refl
class_stays (op.Movl r1 imm) (Byte at) n = refl
class_stays x a n = tt

chosen : (P : Op → Type 0) (o : Option Op) (x : Op) → IsSome o → IfSome o P → P (unwrap_or o x)
chosen P None x some p = absurd (cc)
chosen P (Some y) x some p = p

-- An instruction in the own-th of n bundles, with its target put in.
pub record IsPutIn (count own : ℕ) (x : Op) (i : Insn) : Type 0 where
  pub listed : IsListed i
  pub class : class_of i.op ≡ class_of x
  pub target : IfSome (displacement i.op) (IsBundleAt count own)

-- Each instruction below a count is in one of n bundles.
abbrev pub IsInto : (ℕ → ℕ) → ℕ → ℕ → Type 0
IsInto f items count = (n : ℕ) → n < items → f n < count

no_target : (count own : ℕ) (o : Option ℤ) → o ≡ None → IfSome o (IsBundleAt count own)
no_target count own o is = subst (λ o. IfSome o (IsBundleAt count own)) (sym is) tt

with_target : PlaceIsFit → (count own : ℕ) (i : Insn) (a : Address) → IsListed i → own < reach → IsReachable a → IsInside count a
    → IsSome (addressed i.op a own)
    → IsPutIn count own i.op (record { qp = i.qp; op = unwrap_or (addressed i.op a own) i.op })
with_target law count own i a listed here within inside some = record {
  listed =
      chosen (λ y. IsListed (record { qp = i.qp; op = y })) (addressed i.op a own) i.op some (listed_stays law i a own within here listed);
  class = chosen (λ y. class_of y ≡ class_of i.op) (addressed i.op a own) i.op some (class_stays i.op a own);
  target =
      chosen (λ y. IfSome (displacement y) (IsBundleAt count own)) (addressed i.op a own) i.op some (target_inside count i.op a own inside);
}

-- Whether a bundle can be put in says nothing of which bundle it is.
some_elsewhere : (x : Op) (m n own : ℕ) → IsSome (addressed x (Bundle m) own) → IsSome (addressed x (Bundle n) own)
some_elsewhere (op.ChkS u r2 disp) m n own some = refl
some_elsewhere (op.ChkA clear r1 disp) m n own some = refl
some_elsewhere (op.Br kind wh many clr disp) m n own some = refl
some_elsewhere (op.BrCall b1 wh many clr disp) m n own some = refl
some_elsewhere (op.Movl r1 imm) m n own some = refl
some_elsewhere x m n own some = absurd (cc)

pub is_put_in : PlaceIsFit → (items : List Item) (count own : ℕ) (f : ℕ → ℕ) (i : Insn) (target : Option Address) → IsListed i
    → IsTargetOf items i.op target
    → own < reach → count ≤ reach → IsInto f (length items) count
    → IsPutIn count own i.op (record { qp = i.qp; op = put_in f own i.op target })
is_put_in law items count own f i None listed aimed here few into =
    record { listed = listed; class = refl; target = no_target count own (displacement i.op) aimed }
is_put_in law items count own f i (Some (Bundle m)) listed (some, begins) here few into =
    let inside : f m < count = into m (breaks_inside items m begins) in
    with_target law count own i (Bundle (f m)) listed here (omega (arith, inside, few)) inside (some_elsewhere i.op m (f m) own (some own))
is_put_in law items count own f i (Some (Byte at)) listed (some, small) here few into =
    with_target law count own i (Byte at) listed here small tt (some own)
