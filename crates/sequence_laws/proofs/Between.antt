-- The order of places of a program that has a sequence's instructions, and the first instruction at or after a place.
use Rattle.std.proofs.Common.{get_or, ◌≡◌, ℕ, zero, suc, ◌+◌, ◌<◌, ◌≤◌, length, Option, Some, None, ◌⊎◌, inl, inr, refl, sym, ap, ◌∙◌, subst, arith}
use Rattle.std.proofs.lemmas.Bool.{cases_lt, cases_eq}
use Rattle.std.specs.Prelude.{IsSome, slice_get}
use Rattle.std.proofs.lemmas.Option.{slice_get_cases}
use Rattle.ia_insn.specs.declared.insn.Insn.{Insn}
use Rattle.ia_program.specs.declared.place.Place.{Place}
use Rattle.ia_program.specs.Places.{insn_at, IsBefore, IsNext, IsPlaceOf}
use Rattle.ia_program.specs.Programs.{Program}
use Rattle.ia_meaning.specs.Sequence.{first_of}
use Rattle.flow_facts.specs.Graphs.{InsnSequence, sequence_insn}
use Rattle.order_laws.proofs.Falling.{before_trans, not_before_itself, place_cases}
use Rattle.flow_facts.proofs.Numbering.{cases_place}
use Rattle.sequence_laws.specs.Spreads.{IsSpread, DoesLike, IsFiller, IsHead}
use Rattle.sequence_laws.proofs.Rows.{sequence_insn_is}

-- The n-th instruction of the sequence stands in the program too, and does the same there.
pub record IsThere (sequence : InsnSequence) (p : Program) (at : ℕ → Place) (n : ℕ) : Type 0 where
  pub insn : Insn
  pub other : Insn
  pub in_sequence : sequence_insn sequence.insns (first_of n) ≡ Some insn
  pub in_program : insn_at p.bundles (at n) ≡ Some other
  pub like : DoesLike insn other

-- The n-th instruction is the first one at or after the place.
pub record IsFirstFrom (sequence : InsnSequence) (at : ℕ → Place) (n : ℕ) (place : Place) : Type 0 where
  pub inside : n < length sequence.insns
  pub from : ¬ IsBefore (at n) place
  pub first : (k : ℕ) → k < n → IsBefore (at k) place

-- What stands at a place of the program: an instruction of the sequence, or a `nop` where the sequence has none.
pub data Stands (sequence : InsnSequence) (p : Program) (at : ℕ → Place) (place : Place) : Type 0 where
  own : (n : ℕ) → n < length sequence.insns → place ≡ at n → Stands sequence p at place
  filler : (i : Insn) → insn_at p.bundles place ≡ Some i → IsFiller i → ((n : ℕ) → n < length sequence.insns → place ≡ at n → ⊥)
      → Stands sequence p at place

-- A number below the bound whose place it is, or none.
own_or_none : (at : ℕ → Place) (place : Place) (bound : ℕ) → ((n : ℕ) × (n < bound) × (place ≡ at n))
    ⊎ ((n : ℕ) → n < bound → place ≡ at n → ⊥)
own_or_none at place zero = inr (λ n inside is. omega arith)
own_or_none at place (suc bound) = of (own_or_none at place bound) (cases_place place (at bound))
  where
    above : ((n : ℕ) → n < bound → place ≡ at n → ⊥) → (place ≡ at bound → ⊥) → (n : ℕ) → n < suc bound → place ≡ at n → ⊥
    above none apart n inside is = elim (cases_eq n bound) [
      | inl same ↦ apart (is ∙ ap at same)
      | inr less ↦ none n (omega arith) is
    ]

    of : ((n : ℕ) × (n < bound) × (place ≡ at n)) ⊎ ((n : ℕ) → n < bound → place ≡ at n → ⊥) → (place ≡ at bound) ⊎ (place ≡ at bound → ⊥)
        → ((n : ℕ) × (n < suc bound) × (place ≡ at n)) ⊎ ((n : ℕ) → n < suc bound → place ≡ at n → ⊥)
    of (inl (n, inside, is)) same = inl (n, omega arith, is)
    of (inr none) (inl same) = inl (bound, omega arith, same)
    of (inr none) (inr apart) = inr (above none apart)

module _ (sequence : InsnSequence) (p : Program) (at : ℕ → Place) (spread : IsSpread sequence p at) where
  -- Each instruction of the sequence has a place in the program.
  pub there : (n : ℕ) → n < length sequence.insns → IsThere sequence p at n
  there n inside = of (slice_get_cases sequence.insns n).1
    where
      of : ((i : Insn) × (n < length sequence.insns) × (slice_get sequence.insns n ≡ Some i) × (get_or sequence.insns n i ≡ i))
          ⊎ ((length sequence.insns ≤ n) × (slice_get sequence.insns n ≡ None)) → IsThere sequence p at n
      of (inl (i, below, is, read)) =
          let (j, here, like) = spread.there n i is in
          record { insn = i; other = j; in_sequence = sequence_insn_is sequence.insns n ∙ is; in_program = here; like = like }
      of (inr (past, none)) = absurd (omega arith)

  -- The place of an instruction of the sequence is one of the program's places.
  pub at_place : (n : ℕ) → n < length sequence.insns → IsPlaceOf p.bundles (at n)
  at_place n inside = let t = there n inside in rw t.in_program refl

  -- Of two instructions the first is the one whose place comes first.
  pub in_order : (n m : ℕ) → n < length sequence.insns → m < length sequence.insns → IsBefore (at n) (at m) → n < m
  in_order n m inside below before = of (cases_lt n m) (cases_eq n m)
    where
      of : (n < m) ⊎ (m ≤ n) → (n ≡ m) ⊎ (n ≡ m → ⊥) → n < m
      of (inl less) same = less
      of (inr more) (inl same) = absurd (not_before_itself (at m) (subst (λ (k : ℕ). IsBefore (at k) (at m)) same before))
      of (inr more) (inr apart) =
          absurd (not_before_itself (at n) (before_trans (at n) (at m) (at n) before (spread.rises m n (omega arith) inside)))

  -- Two instructions at one place are one.
  pub at_once : (n m : ℕ) → n < length sequence.insns → m < length sequence.insns → at n ≡ at m → n ≡ m
  at_once n m inside below same = of (cases_lt n m) (cases_lt m n)
    where
      of : (n < m) ⊎ (m ≤ n) → (m < n) ⊎ (n ≤ m) → n ≡ m
      of (inl less) more = absurd (not_before_itself (at m) (subst (λ (q : Place). IsBefore q (at m)) same (spread.rises n m less below)))
      of (inr up) (inl more) =
          absurd (not_before_itself (at n) (subst (λ (q : Place). IsBefore q (at n)) (sym same) (spread.rises m n more inside)))
      of (inr up) (inr down) = omega arith

  -- An instruction is the first at its own place.
  pub first_at : (n : ℕ) → n < length sequence.insns → IsFirstFrom sequence at n (at n)
  first_at n inside = record { inside = inside; from = not_before_itself (at n); first = λ k less. spread.rises k n less inside }

  -- One instruction at most is the first at or after a place.
  pub first_once : (n m : ℕ) (place : Place) → IsFirstFrom sequence at n place → IsFirstFrom sequence at m place → n ≡ m
  first_once n m place f g = of (cases_lt n m) (cases_lt m n)
    where
      of : (n < m) ⊎ (m ≤ n) → (m < n) ⊎ (n ≤ m) → n ≡ m
      of (inl less) more = absurd (f.from (g.first n less))
      of (inr up) (inl more) = absurd (g.from (f.first m more))
      of (inr up) (inr down) = omega arith

  -- An instruction that is first in its bundle is the first at or after the bundle's first place.
  pub first_landing : (n : ℕ) (bundle : ℕ) → n < length sequence.insns → (at n).bundle ≡ bundle → IsHead at n
      → IsFirstFrom sequence at n (first_of bundle)
  first_landing n bundle inside is head = record {
    inside = inside;
    from = from;
    first = λ k less. inl (omega (arith, head k less, is));
  }
    where
      from : ¬ IsBefore (at n) (first_of bundle)
      from (inl less) = omega (arith, is)
      from (inr (same, less)) = omega arith

  -- The next instruction of the sequence, where there is one, is the first at or after the next place of the program.
  pub first_next : (n : ℕ) (next : Place) → n + 1 < length sequence.insns → IsNext p.bundles (at n) next
      → IsFirstFrom sequence at (n + 1) next
  first_next n next inside is = record {
    inside = inside;
    from = λ before. is.first (at (n + 1)) (at_place (n + 1) inside) (spread.rises n (n + 1) (omega arith) inside) before;
    first = λ k less. below k (cases_eq k n) less;
  }
    where
      below : (k : ℕ) → (k ≡ n) ⊎ (k ≡ n → ⊥) → k < n + 1 → IsBefore (at k) next
      below k (inl same) less = subst (λ (m : ℕ). IsBefore (at m) next) (sym same) is.after
      below k (inr apart) less = before_trans (at k) (at n) next (spread.rises k n (omega arith) (omega arith)) is.after

  -- No instruction but the next one is the first at or after the next place of the program.
  pub first_behind_own : (m n : ℕ) (next : Place) → m < length sequence.insns → IsNext p.bundles (at m) next
      → IsFirstFrom sequence at n next → n ≡ m + 1
  first_behind_own m n next inside is f = of (cases_lt m n) (cases_eq n (m + 1))
    where
      of : (m < n) ⊎ (n ≤ m) → (n ≡ m + 1) ⊎ (n ≡ m + 1 → ⊥) → n ≡ m + 1
      of low (inl same) = same
      of (inl less) (inr apart) =
          absurd (is.first (at (m + 1)) (at_place (m + 1) (omega (arith, f.inside)))
          (spread.rises m (m + 1) (omega arith) (omega (arith, f.inside))) (f.first (m + 1) (omega arith)))
      of (inr up) (inr apart) = absurd (f.from (elim (cases_eq n m) [
        | inl same ↦ subst (λ (k : ℕ). IsBefore (at k) next) (sym same) is.after
        | inr less ↦ before_trans (at n) (at m) next (spread.rises n m (omega arith) inside) is.after
      ]))

  -- Past a `nop` the first one stays the same.
  pub first_past_filler : (n : ℕ) (place next : Place) → ((k : ℕ) → k < length sequence.insns → place ≡ at k → ⊥)
      → IsNext p.bundles place next → IsFirstFrom sequence at n place → IsFirstFrom sequence at n next
  first_past_filler n place next none is f = record {
    inside = f.inside;
    from = λ before. is.first (at n) (at_place n f.inside) (of (place_cases place (at n))) before;
    first = λ k less. before_trans (at k) place next (f.first k less) is.after;
  }
    where
      of : IsBefore place (at n) ⊎ ((place ≡ at n) ⊎ IsBefore (at n) place) → IsBefore place (at n)
      of (inl before) = before
      of (inr (inl same)) = absurd (none n f.inside same)
      of (inr (inr after)) = absurd (f.from after)

  -- What is first at or after the place behind a `nop` is first at or after the `nop`.
  pub first_before_filler : (n : ℕ) (place next : Place) → ((k : ℕ) → k < length sequence.insns → place ≡ at k → ⊥)
      → IsNext p.bundles place next → IsFirstFrom sequence at n next → IsFirstFrom sequence at n place
  first_before_filler n place next none is f = record {
    inside = f.inside;
    from = λ before. f.from (before_trans (at n) place next before is.after);
    first = λ k less. of k (omega (arith, f.inside)) (f.first k less) (place_cases (at k) place);
  }
    where
      of : (k : ℕ) → k < length sequence.insns → IsBefore (at k) next → IsBefore (at k) place ⊎ ((at k ≡ place) ⊎ IsBefore place (at k))
          → IsBefore (at k) place
      of k inside before (inl less) = less
      of k inside before (inr (inl same)) = absurd (none k inside (sym same))
      of k inside before (inr (inr after)) = absurd (is.first (at k) (at_place k inside) after before)

  -- At each place stands an instruction of the sequence or a `nop`.
  pub stands : (place : Place) → IsPlaceOf p.bundles place → Stands sequence p at place
  stands place is = of (insn_at p.bundles place) refl is (own_or_none at place (length sequence.insns))
    where
      of : (o : Option Insn) → insn_at p.bundles place ≡ o → IsSome o
          → ((n : ℕ) × (n < length sequence.insns) × (place ≡ at n)) ⊎ ((n : ℕ) → n < length sequence.insns → place ≡ at n → ⊥)
          → Stands sequence p at place
      of None here is owns = absurd cc
      of (Some i) here is (inl (n, inside, at_n)) = own n inside at_n
      of (Some i) here is (inr none) = elim (spread.fillers place i here) [
        | inl (n, inside, at_n) ↦ absurd (none n inside at_n)
        | inr nop ↦ filler i here nop none
      ]
