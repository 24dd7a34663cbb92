-- Declared entries rise, so a binary search finds each.
use Rattle.std.proofs.Common.{◌≡◌, ℕ, suc, ◌+◌, ◌<◌, ◌≤◌, List, length, get_or, Result, Ok, Err, subst, ◌∙◌, arith, rules, inl, inr, add-one}
use Rattle.std.specs.Prelude.{◌↔◌, IsTrue, Contains}
use Rattle.std.specs.Result.{is_ok}
use Rattle.std.specs.List.Sorted.{IsBinarySearchResult}
use Rattle.std.specs.Ordering.{nat_cmp}
use Rattle.std.proofs.lemmas.Bool.{cases_lt}
use Rattle.std.proofs.lemmas.List.{get_or_default}
use Rattle.std.proofs.lemmas.List.Sorted.{IsNonDecreasingBy-from_all_adjacent, searched}
use Rattle.ia_program.specs.Programs.{AreEntries, IsEntryAt}

rise : (count : ℕ) (entries : List ℕ) → AreEntries count entries → (i j : ℕ) → i ≤ j → j < length entries
    → get_or entries i 0 ≤ get_or entries j 0
rise count entries are i j le inside = IsNonDecreasingBy-from_all_adjacent (λ n. n) entries
    (λ k d within.
    let at : IsEntryAt count entries (suc k) = subst (IsEntryAt count entries) (add-one k) (are (k + 1) within) in
    rw (get_or_default entries k d 0 (omega arith), get_or_default entries (k + 1) d 0 within, add-one k) (omega (arith, at.rises)))
    i j 0 le inside

-- What such a search returns says whether the bundle is one of them.
pub found : (count : ℕ) (entries : List ℕ) (bundle : ℕ) (r : Result ℕ ℕ) → AreEntries count entries
    → IsBinarySearchResult (λ y. nat_cmp y bundle) entries r → IsTrue (is_ok r) ↔ Contains entries bundle
found count entries bundle (Ok i) are search_result =
    let at = searched entries bundle (Ok i) search_result (rise count entries are) in
    (λ yes. (i, at.0, get_or_default entries i bundle 0 at.0 ∙ at.1), λ has. search rules)
found count entries bundle (Err i) are search_result =
    let at = searched entries bundle (Err i) search_result (rise count entries are) in (
      λ yes. absurd (cc),
      λ has. elim (cases_lt has.0 i) [
        | inl below ↦ absurd (omega (arith, at.1 has.0 below, get_or_default entries has.0 bundle 0 has.1, has.2))
        | inr above ↦ absurd (omega (arith, at.2 has.0 above has.1, get_or_default entries has.0 bundle 0 has.1, has.2))
      ],
    )
