-- Marks of one number more, and of those of two lists.
use Rattle.std.proofs.Common.{◌≡◌, ◌∙◌, ℕ, zero, suc, ◌+◌, ◌<◌, Bool, true, false, ◌||◌, ◌==◌, List, [], ◌∷◌, ◌++◌, length, get_or, set, take, refl, sym, ap, subst, arith}
use Rattle.std.proofs.lemmas.Bool.Decides.{nat_tests}
use Rattle.std.proofs.lemmas.Grind.{common_steps}
use Rattle.std.proofs.lemmas.List.Folds.{list_any-append}
use Rattle.std.proofs.lemmas.List.{append_assoc, append-nil, take_more}
use Rattle.std.proofs.Math.Bool.{or_assoc}
use Rattle.std.proofs.Math.Nat.{zero-add}
use Rattle.std.specs.Prelude.{slice_index_or, Contains, ◌↔◌, IsTrue}
use Rattle.std.proofs.lemmas.Bool.{or_right}
use Rattle.ia_insn.specs.declared.insn.Insn.{Insn}
use Rattle.ia_program.specs.declared.bundle.Slots.{Slots}
use Rattle.ia_program.specs.declared.bundle.Slots.TheVariants.{Three, Long}
use Rattle.asm_printing.specs.SlotTexts.{target_of}
use Rattle.ia_program.specs.Bundles.{Bundle}
use Rattle.ia_program.specs.declared.relations.Relation.{Relation}
use Rattle.asm_build.specs.CanonicalText.{is_among, listed_once, bundle_targets, targets_from, bundles_text}
use Rattle.asm_build.specs.Marks.{AreMarks, Marked, marked_texts}

one_each : (marks : List Bool) (k n : ℕ) → k < length marks → n < length marks
    → get_or (set marks k true) n false ≡ (get_or marks n false || is_among (k ∷ []) n)
one_each marks k n h inside = grind (arith, common_steps, nat_tests)

pub one_marked : (marks : List Bool) (k : ℕ) → k < length marks → Marked marks (set marks k true) (k ∷ [])
one_marked marks k h = record { same = grind (arith, common_steps); each = λ n inside. one_each marks k n h inside }

or_nothing : (b : Bool) → b ≡ (b || false)
or_nothing true = refl
or_nothing false = refl

pub none_marked : (marks : List Bool) → Marked marks marks []
none_marked marks = record { same = refl; each = λ n inside. or_nothing (get_or marks n false) }

eqb_same : (n : ℕ) → (n == n) ≡ true
eqb_same n = grind (arith, nat_tests)

among_both : (n : ℕ) (xs ys : List ℕ) → is_among (xs ++ ys) n ≡ (is_among xs n || is_among ys n)
among_both n xs ys = list_any-append (λ m. m == n) xs ys

pub both_marked : (a b c : List Bool) (xs ys : List ℕ) → Marked a b xs → Marked b c ys → Marked a c (xs ++ ys)
both_marked a b c xs ys g h = record {
  same = h.same ∙ g.same;
  each =
      λ n inside. h.each n (omega (arith, g.same)) ∙ rw (g.each n inside, among_both n xs ys)
      (or_assoc (get_or a n false) (is_among xs n) (is_among ys n));
}

pub more_marks : (count : ℕ) (xs ys : List ℕ) (a b : List Bool) → AreMarks count xs a → Marked a b ys → AreMarks count (xs ++ ys) b
more_marks count xs ys a b g h = record {
  count = h.same ∙ g.count;
  each = λ n inside. h.each n (omega (arith, g.count)) ∙ rw (g.each n inside) (sym (among_both n xs ys));
}

among_here : (xs : List ℕ) (n x k : ℕ) → (Contains xs n → is_among xs n ≡ true) → k < length (x ∷ xs) → slice_index_or (x ∷ xs) k n ≡ n
    → is_among (x ∷ xs) n ≡ true
among_here xs n x zero more less is = rw (is, eqb_same n) refl
among_here xs n x (suc k) more less is = rw (more (k, omega (arith, less), is)) (or_right (x == n) true refl)

pub among_from : (xs : List ℕ) (n : ℕ) → Contains xs n → is_among xs n ≡ true
among_from [] n h = absurd (omega (arith, h.1))
among_from (x ∷ xs) n h = among_here xs n x h.0 (among_from xs n) h.1 h.2

contains_here : (xs : List ℕ) (n x : ℕ) (b : Bool) → (x == n) ≡ b → (is_among xs n ≡ true → Contains xs n) → is_among (x ∷ xs) n ≡ true
    → Contains (x ∷ xs) n
contains_here xs n x true e more h = (0, omega arith, grind (arith, nat_tests, e))
contains_here xs n x false e more h =
    let rest = more (sym (ap (λ b. b || is_among xs n) e) ∙ h) in (suc rest.0, omega (arith, rest.1), rest.2)

pub among_to : (xs : List ℕ) (n : ℕ) → is_among xs n ≡ true → Contains xs n
among_to [] n h = absurd cc
among_to (x ∷ xs) n h = contains_here xs n x (x == n) refl (among_to xs n) h

-- A test that tells whether a list contains a number.
pub same_test : (r : Bool) (xs : List ℕ) (n : ℕ) → (IsTrue r ↔ Contains xs n) → r ≡ is_among xs n
same_test true xs n h = sym (among_from xs n (h.0 refl))
same_test false xs n h = of (is_among xs n) refl
  where
    of : (b : Bool) → is_among xs n ≡ b → false ≡ is_among xs n
    of true e = h.1 (among_to xs n e) ∙ sym e
    of false e = sym e

-- The targets of a bundle's slots, one after the other.
pub three_marked : (n : ℕ) (slots : Slots) (a b c : Insn) (m o p q : List Bool) → slots ≡ Three a b c
    → Marked m o (listed_once (target_of n a.op)) → Marked o p (listed_once (target_of n b.op))
    → Marked p q (listed_once (target_of n c.op))
    → Marked m q (bundle_targets n slots)
three_marked n slots a b c m o p q is f g h =
    let first = listed_once (target_of n a.op) in
    let second = listed_once (target_of n b.op) in
    let third = listed_once (target_of n c.op) in
    rw is (both_marked m o q first (second ++ third) f (both_marked o p q second third g h))

pub long_marked : (n : ℕ) (slots : Slots) (a b : Insn) (m o p : List Bool) → slots ≡ Long a b → Marked m o (listed_once (target_of n a.op))
    → Marked o p (listed_once (target_of n b.op)) → Marked m p (bundle_targets n slots)
long_marked n slots a b m o p is f g = rw is (both_marked m o p (listed_once (target_of n a.op)) (listed_once (target_of n b.op)) f g)

targets_of_both : (n : ℕ) (xs bs : List Bundle) → targets_from n (xs ++ bs) ≡ targets_from n xs ++ targets_from (n + length xs) bs
targets_of_both n [] bs = let none : n + 0 ≡ n = omega arith in rw none refl
targets_of_both n (b ∷ xs) bs =
    let same : (n + 1) + length xs ≡ n + length (b ∷ xs) = omega arith in
    rw (targets_of_both (n + 1) xs bs, same) (sym (append_assoc (bundle_targets n b.slots) (targets_from (n + 1) xs)
    (targets_from (n + length (b ∷ xs)) bs)))

next_targets : (bs : List Bundle) (at : ℕ) (b : Bundle) → at < length bs → b ≡ get_or bs at b
    → targets_from 0 (take (at + 1) bs) ≡ targets_from 0 (take at bs) ++ bundle_targets at b.slots
next_targets bs at b less is =
    let before : take (at + 1) bs ≡ take at bs ++ b ∷ [] = take_more bs at b less ∙ ap (λ x. take at bs ++ x ∷ []) (sym is) in
    let count : length (take at bs) ≡ at = grind (arith, common_steps) in
    ap (targets_from 0) before ∙ targets_of_both 0 (take at bs) (b ∷ [])
    ∙ rw (count, zero-add at) (ap (λ x. targets_from 0 (take at bs) ++ x) (append-nil (bundle_targets at b.slots)))

-- One bundle more.
pub next_bundle : (count : ℕ) (bs : List Bundle) (at : ℕ) (bundle : Bundle) (slots : Slots) (a b : List Bool) → at < length bs
    → bundle ≡ get_or bs at bundle → slots ≡ bundle.slots → AreMarks count (targets_from 0 (take at bs)) a
    → Marked a b (bundle_targets at slots) → AreMarks count (targets_from 0 (take (at + 1) bs)) b
next_bundle count bs at bundle slots a b less is same g h =
    let marked : Marked a b (bundle_targets at bundle.slots) = subst (λ s. Marked a b (bundle_targets at s)) same h in
    rw (next_targets bs at bundle less is) (more_marks count (targets_from 0 (take at bs)) (bundle_targets at bundle.slots) a b g marked)

-- The texts of bundles by marks and by the lists that they mark.
pub texts_alike : (count : ℕ) (entries targets : List ℕ) (relations : List Relation) (entry_marks target_marks : List Bool) (n : ℕ)
    (bs : List Bundle) → AreMarks count entries entry_marks → AreMarks count targets target_marks
    → n + length bs ≡ count → marked_texts entry_marks target_marks relations n bs ≡ bundles_text entries targets relations n bs
texts_alike count entries targets relations em tm n [] e t h = refl
texts_alike count entries targets relations em tm n (b ∷ bs) e t h =
    rw (
      e.each n (omega (arith, h)),
      t.each n (omega (arith, h)),
      texts_alike count entries targets relations em tm (n + 1) bs e t (omega (arith, h)),
    ) refl
