-- The stated programs are programs.
use Rattle.std.proofs.Common.{◌≡◌, ℕ, zero, suc, ◌+◌, ◌-◌, ◌≤◌, [], ◌∷◌, ◌++◌, length, map, Bool, true, false, None, refl, arith, rules, length-append, add-one}
use Rattle.std.specs.Prelude.{◌==◌, ◌%◌, if◌then◌else◌}
use Rattle.std.proofs.lemmas.Bool.Decides.{nat_tests}
use Rattle.std.specs.List.{range_with_len}
use Rattle.std.proofs.lemmas.List.FromFn.{length-map-range_with_len, map-range_with_len_more}
use Rattle.ia_insn.specs.declared.insn.Insn.{Insn}
use Rattle.ia_insn.specs.Displacements.{displacement}
use Rattle.ia_program.specs.declared.limits.TheConstants.{BUNDLE_LIMIT}
use Rattle.ia_program.specs.Bundles.{Bundle, IsBundle}
use Rattle.ia_program.specs.Programs.{IsProgram}
use Rattle.trial_maker.specs.declared.draws.Trio.{Trio}
use Rattle.trial_maker.specs.Draws.{third_state, state_before, draws_of}
use Rattle.trial_maker.specs.Trials.{mii, bundle_of, last_bundle, first_bundles, trial_program}
use Rattle.trial_maker.proofs.Fitting.{sets_fit, changes_fit, last_fits}
use Rattle.trial_maker.proofs.Closed.{IsClosed, AreClosed, closed_program}

-- A bundle of M, I and I with a stop at its end is closed, if its instructions fit and have no target.
mii_closed : (a b c : Insn) → IsBundle (mii a b c) → displacement a.op ≡ None → displacement b.op ≡ None → displacement c.op ≡ None
    → IsClosed (mii a b c)
mii_closed a b c fit free_a free_b free_c =
    record { fit = fit; three = refl; stop = search rules; free = λ slot. grind (arith, nat_tests) }

either : (here : Bool) (x y : Bundle) → IsClosed x → IsClosed y → IsClosed (if here then x else y)
either true x y p q = p
either false x y p q = q

bundle_closed : (number : ℕ) (draws : Trio) → IsClosed (bundle_of number draws)
bundle_closed number draws =
    either (number % 4 == 0) _ _ (mii_closed _ _ _ (sets_fit number draws) refl refl refl)
    (mii_closed _ _ _ (changes_fit draws) refl refl refl)

last_closed : IsClosed last_bundle
last_closed = mii_closed _ _ _ last_fits refl refl refl

-- Closed bundles of numbers, and one more.
all_closed : (f : ℕ → Bundle) → ((n : ℕ) → IsClosed (f n)) → (last : Bundle) → IsClosed last → (from count : ℕ)
    → AreClosed (map f (range_with_len from count) ++ last ∷ [])
all_closed f each last closed from zero zero = closed
all_closed f each last closed from zero (suc n) = tt
all_closed f each last closed from (suc count) zero = each from
all_closed f each last closed from (suc count) (suc n) = all_closed f each last closed (from + 1) count n

-- One bundle more, and the state before the next.
pub one_state_more : (seed number : ℕ) → state_before seed (number + 1) ≡ third_state (state_before seed number)
unfolding state_before
one_state_more seed number = rw add-one refl

pub one_bundle_more : (seed number : ℕ) → first_bundles seed (number + 1)
    ≡ first_bundles seed number ++ bundle_of number (draws_of seed number) ∷ []
unfolding first_bundles
one_bundle_more seed number = map-range_with_len_more (λ (n : ℕ). bundle_of n (draws_of seed n)) 0 number number (omega arith)

pub trial_is_program : (seed bundles : ℕ) → 1 ≤ bundles → bundles ≤ BUNDLE_LIMIT → IsProgram (trial_program seed bundles)
unfolding first_bundles
trial_is_program seed bundles some most =
    let f = λ (number : ℕ). bundle_of number (draws_of seed number) in
    let count = length-map-range_with_len f 0 (bundles - 1) in
    let all = first_bundles seed (bundles - 1) ++ last_bundle ∷ [] in
    let size : length all ≡ bundles = simp (length-append, count) (omega arith) in
    closed_program all (all_closed f (λ number. bundle_closed number (draws_of seed number)) last_bundle last_closed 0 (bundles - 1))
    (omega (arith, size)) (omega (arith, size))
