-- The slots of a window by their numbers.
use Rattle.std.proofs.Common.{◌≡◌, ℕ, ◌<◌, ◌⊎◌, List, [], ◌∷◌, ◌++◌, length, length-append, get_or, refl, sym, ◌∙◌, arith, inl, inr}
use Rattle.std.proofs.lemmas.Bool.{cases_lt}
use Rattle.std.proofs.lemmas.List.{get_or_default, get_or_push, get_or_append_left}
use Rattle.std.proofs.lemmas.Option.{slice_get_cases}
use Rattle.group_checker.specs.declared.window.EarlierSlot.{EarlierSlot}
use Rattle.group_checker.specs.Windows.{IsAt}

-- A number has one slot.
pub at_once : (xs : List EarlierSlot) (m : ℕ) (a b : EarlierSlot) → IsAt xs m a → IsAt xs m b → a ≡ b
at_once xs m a b h k = sym h.is ∙ get_or_default xs m a b h.short ∙ k.is

-- Each number below the length has its slot.
pub earlier_at : (xs : List EarlierSlot) (m : ℕ) (d : EarlierSlot) → m < length xs → IsAt xs m (get_or xs m d)
earlier_at xs m d l = record { short = l; is = get_or_default xs m (get_or xs m d) d l }

-- Each number below the length has some slot.
pub some_at : (xs : List EarlierSlot) (m : ℕ) → m < length xs → (e : EarlierSlot) × IsAt xs m e
some_at xs m l = elim (slice_get_cases xs m).1 [
  | inl (x, short, is, at) ↦ (x, record { short = short; is = at })
  | inr (beyond, is) ↦ absurd (omega arith)
]

-- What an index answers.
pub indexed : (xs : List EarlierSlot) (m : ℕ) (a : EarlierSlot) → m < length xs → a ≡ get_or xs m a → IsAt xs m a
indexed xs m a l e = record { short = l; is = sym e }

pub at_push : (xs : List EarlierSlot) (e : EarlierSlot) (m : ℕ) (b : EarlierSlot) → IsAt (xs ++ e ∷ []) m b
    → IsAt xs m b ⊎ ((m ≡ length xs) × (b ≡ e))
at_push xs e m b h = elim (cases_lt m (length xs)) [
  | inl l ↦ inl (record { short = l; is = sym (get_or_append_left xs (e ∷ []) b m l) ∙ h.is })
  | inr l ↦ (let at : length xs ≡ m = omega (arith, h.short, length-append xs (e ∷ [])) in inr (sym at, sym h.is ∙ get_or_push xs e b m at))
]

pub pushed_left : (xs : List EarlierSlot) (e : EarlierSlot) (m : ℕ) (b : EarlierSlot) → IsAt xs m b → IsAt (xs ++ e ∷ []) m b
pushed_left xs e m b h =
    record { short = omega (arith, h.short, length-append xs (e ∷ [])); is = get_or_append_left xs (e ∷ []) b m h.short ∙ h.is }

pub pushed_last : (xs : List EarlierSlot) (e : EarlierSlot) → IsAt (xs ++ e ∷ []) (length xs) e
pushed_last xs e = record { short = omega (arith, length-append xs (e ∷ [])); is = get_or_push xs e e (length xs) refl }
