-- The last instruction of a text.
use Rattle.std.proofs.Common.{◌≡◌, ◌+◌, ℕ, zero, suc, List, [], ◌∷◌, length, get_or, ap, arith}
use Rattle.loose_items.specs.declared.item.Item.{Item}
use Rattle.stop_placer.specs.Packs.{ends_written}

-- A `;;` stands behind the text where one stands behind its last instruction.
pub ends_at_last : (items : List Item) (i : ℕ) (x : Item) → i + 1 ≡ length items → x ≡ get_or items i x → x.written ≡ ends_written items
ends_at_last [] i x e is = absurd (omega (arith, e))
ends_at_last (a ∷ []) zero x e is = ap (λ (item : Item). item.written) is
ends_at_last (a ∷ []) (suc i) x e is = absurd (omega (arith, e))
ends_at_last (a ∷ b ∷ items) zero x e is = absurd (omega (arith, e))
ends_at_last (a ∷ b ∷ items) (suc i) x e is = ends_at_last (b ∷ items) i x (omega (arith, e)) is
