use Rattle.std.proofs.Common.{◌≡◌, true, subst, [], ◌∷◌}
use Rattle.insn_rows.specs.declared.bits.Bits.{Bits}
use Rattle.insn_rows.specs.Scattered.{list_of}
use Rattle.insn_rows.specs.WellMade.{are_apart_fields}
use Rattle.insn_rows.proofs.Masks.{put_below, put_two, put_three, put_four}
use Rattle.insn_rows.proofs.bits.Bits.put.Goals as goal

pub returns-in-Two-clause-within : goal.returns-in-Two-clause-within
returns-in-Two-clause-within c =
    let P : Bits → Type 0 = λ b. are_apart_fields (list_of b) ≡ true in
    let below = put_below (c.in-Two.a ∷ c.in-Two.b ∷ []) c.args.number (subst P c.in-Two.is c.requires.apart) in
    rw (c.put-in-Two.ensures.value, c.put-in-Two-2.ensures.value, put_two c.in-Two.a c.in-Two.b c.args.number) below

pub returns-in-Three-clause-within : goal.returns-in-Three-clause-within
returns-in-Three-clause-within c =
    let P : Bits → Type 0 = λ b. are_apart_fields (list_of b) ≡ true in
    let below = put_below (c.in-Three.a ∷ c.in-Three.b ∷ c.in-Three.c ∷ []) c.args.number (subst P c.in-Three.is c.requires.apart) in
    rw (
      c.put-in-Three.ensures.value,
      c.put-in-Three-2.ensures.value,
      c.put-in-Three-3.ensures.value,
      put_three c.in-Three.a c.in-Three.b c.in-Three.c c.args.number,
    ) below

pub returns-in-Four-clause-within : goal.returns-in-Four-clause-within
returns-in-Four-clause-within c =
    let P : Bits → Type 0 = λ b. are_apart_fields (list_of b) ≡ true in
    let below =
    put_below (c.in-Four.a ∷ c.in-Four.b ∷ c.in-Four.c ∷ c.in-Four.d ∷ []) c.args.number (subst P c.in-Four.is c.requires.apart) in
    rw (
      c.put-in-Four.ensures.value,
      c.put-in-Four-2.ensures.value,
      c.put-in-Four-3.ensures.value,
      c.put-in-Four-4.ensures.value,
      put_four c.in-Four.a c.in-Four.b c.in-Four.c c.in-Four.d c.args.number,
    ) below
