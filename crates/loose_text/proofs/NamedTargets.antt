-- What names mean in a loose text.
use Rattle.std.proofs.Common.{◌≡◌, ◌∙◌, refl, subst, ℕ, zero, suc, ◌+◌, ◌<◌, Bool, true, false, List, [], ◌∷◌, ◌++◌, map, length, get_or, Option, Some, None, ℤ, arith}
use Rattle.std.specs.Prelude.{is_some, IfSome, slice_get, if◌then◌else◌}
use Rattle.ia_insn.specs.declared.insn.Op.{Op}
use Rattle.ia_insn.specs.declared.insn.Op.TheVariants as op
use Rattle.ia_insn.specs.Displacements.{displacement}
use Rattle.asm_build.specs.declared.address.Address.{Address}
use Rattle.asm_build.specs.declared.address.Address.TheVariants as address
use Rattle.asm_build.specs.Addresses.{addressed, IsInside}
use Rattle.asm_build.specs.Names.{named, addressed_by}
use Rattle.asm_build.specs.TextParts.{Labels, address_of, AreLabelsBelow}
use Rattle.asm_build.proofs.LabelValues.{label_within}
use Rattle.loose_text.specs.declared.item.ItemLine.{ItemLine}
use Rattle.loose_text.specs.LooseParts.{LooseParts, items_of}
use Rattle.loose_text.specs.LooseReading.{unnamed_item, target_of, loose_of}
use Rattle.loose_text.specs.LooseTexts.{BreaksAt, IsPlace, IsTargetOf}
use Rattle.loose_text.specs.SoundParts.{IsMarked, MayBeNamed, IsSound}

-- A name that means something that fits does so wherever the operation stands.
anywhere : (x : Op) (a : Address) (m n : ℕ) → is_some (addressed x a m) ≡ is_some (addressed x a n)
anywhere (op.ChkS unit r2 disp) (address.Bundle k) m n = refl
anywhere (op.ChkA clear r1 disp) (address.Bundle k) m n = refl
anywhere (op.Br kind wh many clr disp) (address.Bundle k) m n = refl
anywhere (op.BrCall b1 wh many clr disp) (address.Bundle k) m n = refl
anywhere (op.Movl r1 imm) (address.Bundle k) m n = refl
anywhere (op.Movl r1 imm) (address.Byte at) m n = refl
anywhere x a m n = refl

-- A marked instruction that there is.
marked_breaks : (lines : List ItemLine) (fresh : Bool) (n : ℕ)
    → get_or (map (λ (l : ItemLine). l.item.breaks) lines ++ fresh ∷ []) n false ≡ true → n < length lines → BreaksAt (items_of lines) n
marked_breaks [] fresh n h inside = absurd (omega (arith, inside))
marked_breaks (l ∷ ls) fresh zero h inside = h
marked_breaks (l ∷ ls) fresh (suc n) h inside = marked_breaks ls fresh n h (omega (arith, inside))

pub breaks_at : (s : LooseParts) (n : ℕ) → IsMarked s n → n < length s.items → BreaksAt (items_of s.items) n
breaks_at s n h inside = marked_breaks s.items s.fresh n h inside

known_place : (s : LooseParts) (a : Address) → MayBeNamed s a → IsInside (length s.items) a → IsPlace (items_of s.items) a
known_place s (address.Bundle n) h inside = breaks_at s n h inside
known_place s (address.Byte at) h inside = h

-- What the name of an operation means, where it means something that fits.
unnamed_has_none : (o : Option ℤ) (x : Op) → is_some (if is_some o then None else Some x) ≡ true → o ≡ None
unnamed_has_none None x h = refl
unnamed_has_none (Some z) x h = cc

address_fits : (s : LooseParts) (x : Op) (n : ℕ) (o : Option Address) → IfSome o (MayBeNamed s) → IfSome o (IsInside (length s.items))
    → is_some (addressed_by o x n) ≡ true → IsTargetOf (items_of s.items) x o
address_fits s x n None known inside h = cc
address_fits s x n (Some a) known inside h = (λ m. anywhere x a m n ∙ h, known_place s a known inside)

pub target_fits : (s : LooseParts) (x : Op) (n : ℕ) (target : Option (List ℕ)) → IsSound s → AreLabelsBelow (length s.items) s.declared
    → is_some (named s.declared.labels n x target) ≡ true
    → IsTargetOf (items_of s.items) x (target_of s.declared.labels target)
target_fits s x n None sound below h = unnamed_has_none (displacement x) x h
target_fits s x n (Some name) sound below h =
    address_fits s x n (address_of s.declared.labels name) (label_within (MayBeNamed s) s.declared.labels name sound.labels)
    (label_within (IsInside (length s.items)) s.declared.labels name below) h

-- Of the n-th instruction, where each name means something that fits.
found_here : (b : Bool) (line : ℕ) (rest : Option ℕ) → (if b then rest else Some line) ≡ None → (b ≡ true) × (rest ≡ None)
found_here true line rest h = (refl, h)
found_here false line rest h = cc

each_named : (labels : Labels) (from : ℕ) (lines : List ItemLine) (n : ℕ) → unnamed_item labels from lines ≡ None
    → IfSome (slice_get lines n) (λ l. is_some (named labels (from + n) l.item.insn.op l.target) ≡ true)
each_named labels from [] n none = tt
each_named labels from (l ∷ ls) zero none =
    let here = found_here (is_some (named labels from l.item.insn.op l.target)) l.item.line (unnamed_item labels (from + 1) ls) none in
    subst (λ k. is_some (named labels k l.item.insn.op l.target) ≡ true) (omega arith) here.0
each_named labels from (l ∷ ls) (suc n) none =
    let here = found_here (is_some (named labels from l.item.insn.op l.target)) l.item.line (unnamed_item labels (from + 1) ls) none in
    subst (λ k. IfSome (slice_get ls n) (λ l. is_some (named labels k l.item.insn.op l.target) ≡ true)) (omega arith)
    (each_named labels (from + 1) ls n here.1)

targets_at : (s : LooseParts) (lines : List ItemLine) (n k : ℕ) → IsSound s → AreLabelsBelow (length s.items) s.declared
    → IfSome (slice_get lines n) (λ l. is_some (named s.declared.labels k l.item.insn.op l.target) ≡ true)
    → IfSome (slice_get (items_of lines) n) (λ i. IfSome (slice_get (map (λ (l : ItemLine). target_of s.declared.labels l.target) lines) n)
    (IsTargetOf (items_of s.items) i.insn.op))
targets_at s [] n k sound below h = tt
targets_at s (l ∷ ls) zero k sound below h = target_fits s l.item.insn.op k l.target sound below h
targets_at s (l ∷ ls) (suc n) k sound below h = targets_at s ls n k sound below h

pub each_target : (s : LooseParts) → IsSound s → AreLabelsBelow (length s.items) s.declared
    → unnamed_item s.declared.labels 0 s.items ≡ None → (n : ℕ)
    → IfSome (slice_get (loose_of s).items n) (λ i. IfSome (slice_get (loose_of s).targets n) (IsTargetOf (loose_of s).items i.insn.op))
each_target s sound below none n = targets_at s s.items n (0 + n) sound below (each_named s.declared.labels 0 s.items n none)
