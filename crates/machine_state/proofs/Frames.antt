-- Frames that are written: renamed ones, and those of previous function states.
use Rattle.std.proofs.Common.{ℕ, zero, suc, List, [], ◌∷◌, ◌+◌, ◌/◌, ◌%◌, ◌^◌, ◌≡◌, length, arith, refl, ◌∙◌, ap}
use Rattle.std.proofs.lemmas.Nat.{field_of}
use Rattle.std.proofs.Math.Pow.{mod-mod-pow}
use Rattle.std.specs.Option.{option_map}
use Rattle.ia_meaning.specs.declared.limits.TheConstants.{STACK_LIMIT}
use Rattle.ia_meaning.specs.declared.state.Cell.{Cell}
use Rattle.ia_meaning.specs.declared.state.FrameShape.{FrameShape}
use Rattle.ia_meaning.specs.State.{Registers}
use Rattle.ia_meaning.specs.declared.write.Write.TheVariants.{SetFrame}
use Rattle.ia_meaning.specs.declared.write.FrameCause.TheVariants.{Renamed}
use Rattle.ia_meaning.specs.Writes.{resized, put}
use Rattle.ia_meaning.specs.Frames.{marked_frame, return_fault}
use Rattle.frame_shapes.specs.Faults.{kind_of, return_fault_within, ReturnFaultIsThat}

-- Cells that end where the frame does are neither cut nor filled up.
resized-whole : (n : ℕ) (cells : List Cell) → length cells ≡ n → resized n cells ≡ cells
resized-whole zero [] h = refl
resized-whole zero (c ∷ cells) h = absurd (omega arith)
resized-whole (suc n) [] h = absurd (omega arith)
resized-whole (suc n) (c ∷ cells) h = ap (λ x. c ∷ x) (resized-whole n cells (omega arith))

pub renamed : (r : Registers) (f : FrameShape) → length r.cells ≡ f.base + f.sof → put (SetFrame Renamed f) r ≡ record r { frame = f }
renamed r f h = rw (resized-whole (f.base + f.sof) r.cells h) refl

-- A field in a number's low bits.
low_field : (n above width low : ℕ) → n % 2 ^ (above + width + low) / 2 ^ low % 2 ^ width ≡ n / 2 ^ low % 2 ^ width
low_field n above width low = ap (λ q. q % 2 ^ width) (field_of n (above + width) low) ∙ mod-mod-pow (n / 2 ^ low) above width

-- A frame's marker is in the low bits.
marked_low : (base pfs : ℕ) → marked_frame base (pfs % 2 ^ 38) ≡ marked_frame base pfs
unfolding marked_frame
marked_low base pfs =
    rw (
      mod-mod-pow pfs 31 7,
      low_field pfs 24 7 7,
      low_field pfs 20 4 14,
      low_field pfs 13 7 18,
      low_field pfs 6 7 25,
      low_field pfs 0 6 32,
    ) refl

pub return_fault_low : ReturnFaultIsThat → (limit base pfs : ℕ) → limit ≡ STACK_LIMIT
    → option_map kind_of (return_fault_within limit base (marked_frame base (pfs % 2 ^ 38))) ≡ return_fault base (marked_frame base pfs)
return_fault_low same limit base pfs e = rw (e, marked_low base pfs) (same base (marked_frame base pfs))
