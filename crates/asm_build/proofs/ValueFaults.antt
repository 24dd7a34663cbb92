-- The faults of what a line says, each where those that are looked for before it are not there.
use Rattle.std.proofs.Common.{◌≡◌, refl, ap, inl, inr, ℕ, ◌+◌, ◌*◌, ◌<◌, min, arith, length, List, Option, Some, None, true}
use Rattle.std.specs.Prelude.{is_some}
use Rattle.first_fault.specs.Stages.{IsFirstFault}
use Rattle.ia_program.specs.declared.limits.TheConstants.{DATA_LIMIT}
use Rattle.asm_reading.specs.declared.line.Line.TheVariants as line
use Rattle.asm_build.specs.declared.reason.Reason.TheVariants.{Twice, Limit}
use Rattle.asm_build.specs.declared.text_parts.Section.TheVariants as section
use Rattle.asm_build.specs.TextParts.{TextParts, address_of, value_stages, MayStand, IsIn, numbers_bytes}
use Rattle.asm_build.proofs.Numbers.{most_numbers, length_numbers}

-- What is there is not missing.
pub not_none : {T : Type 0} (o : Option T) → is_some o ≡ true → o ≡ None → ⊥
not_none None h e = cc
not_none (Some x) h e = cc

pub twice_there : (s : TextParts) (name : List ℕ) → MayStand s (line.Label name) → is_some (address_of s.labels name) ≡ true
    → IsFirstFault (value_stages s (line.Label name)) Twice
twice_there s name stands again = inr (stands, inl (tt, refl, not_none (address_of s.labels name) again))

-- The data of a line have no room.
pub data_full : (s : TextParts) (size : ℕ) (values : List ℕ) (count most : ℕ) → IsIn section.Data s → count ≡ length values
    → most ≡ min size 8
    → DATA_LIMIT < length s.bytes + count * most → IsFirstFault (value_stages s (line.Numbers size values)) Limit
data_full s size values count most stands counted is more =
    let over : DATA_LIMIT < length s.bytes + length values * min size 8 = rw (counted, is) at more in
    let all : length (numbers_bytes (min size 8) values) ≡ length values * min size 8 = length_numbers (min size 8) values (omega arith) in
    inr (stands, inr (tt, inr (tt, inr (tt, inl (tt, refl, λ room. omega (arith, room, over, all, ap length (most_numbers size values)))))))
