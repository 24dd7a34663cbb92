-- Where indirect branches arrive, and what the relations of entries ask of predicates.
use Rattle.std.proofs.Common.{◌≡◌, ℕ, zero, suc, ◌<◌, ◌≤◌, ◌==◌, Bool, true, false, List, [], ◌∷◌, length, get_or, replicate, Option, Some, None, Ok, Err, refl, arith, eqb-true, eq-eqb, cond, if◌then◌else◌}
use Rattle.std.proofs.lemmas.Bool.{and_parts}
use Rattle.std.proofs.lemmas.List.{get_or-replicate}
use Rattle.std.specs.Prelude.{IfSome, IfOk, IsTrue, ◌↔◌}
use Rattle.std.specs.List.{list_any}
use Rattle.ia_program.specs.declared.ending.FaultKind.TheVariants.{BadRelation}
use Rattle.ia_program.specs.declared.relations.Relation.{Relation}
use Rattle.ia_program.specs.Programs.{Program, IsProgram, relation_at, relations_at}
use Rattle.ia_meaning.specs.Landings.{breaks_relation, are_both_one, arrived, IsBroken}

-- Where a branch arrives it breaks no relation, and what holds of the entry whose address it is holds of it.
pub arrived_keeps : (p : Program) (low : List Bool) (o : Option ℕ) (Good : ℕ → Type 0) → IfSome o Good
    → IfOk (arrived p low o) (λ to. Good to × (breaks_relation p low to ≡ false))
arrived_keeps p low None Good h = tt
arrived_keeps p low (Some bundle) Good h = chosen (breaks_relation p low bundle) refl
  where
    chosen : (b : Bool) → breaks_relation p low bundle ≡ b → IfOk (if b then Err BadRelation else Ok bundle)
        (λ to. Good to × (breaks_relation p low to ≡ false))
    chosen true e = tt
    chosen false e = (h, e)

-- Of a list none of whose relations passes a test none passes it among those of a bundle.
none_passes : (test : Relation → Bool) (bundle : ℕ) (rs : List Relation) → ((n : ℕ) → n < length rs → test (relation_at rs n) ≡ false)
    → list_any test (relations_at rs bundle) ≡ false
none_passes test bundle [] none = refl
none_passes test bundle (r ∷ rs) none =
    kept (r.bundle == bundle) (none zero (omega arith)) (none_passes test bundle rs (λ n inside. none (suc n) (omega arith)))
  where
    kept : (b : Bool) → test r ≡ false → list_any test (relations_at rs bundle) ≡ false
        → list_any test (cond b (r ∷ relations_at rs bundle) (relations_at rs bundle)) ≡ false
    kept true first rest = grind arith
    kept false first rest = rest

-- One of the relations has this bundle and passes a test.
abbrev Passes : (Relation → Bool) → ℕ → List Relation → Type 0
Passes test bundle rs = (n : ℕ) × (n < length rs) × ((relation_at rs n).bundle ≡ bundle) × (test (relation_at rs n) ≡ true)

-- Where a test finds a relation of the bundle, one of the relations passes it.
passing_found : (test : Relation → Bool) (bundle : ℕ) (rs : List Relation) → list_any test (relations_at rs bundle) ≡ true
    → Passes test bundle rs
passing_found test bundle [] found = absurd (cc)
passing_found test bundle (r ∷ rs) found = of (r.bundle == bundle) (test r) refl refl (passing_found test bundle rs) found
  where
    later : Passes test bundle rs → Passes test bundle (r ∷ rs)
    later (n, inside, here, passes) = (suc n, omega (arith, inside), here, passes)

    of : (a b : Bool) → (r.bundle == bundle) ≡ a → test r ≡ b → (list_any test (relations_at rs bundle) ≡ true → Passes test bundle rs)
        → list_any test (cond a (r ∷ relations_at rs bundle) (relations_at rs bundle)) ≡ true → Passes test bundle (r ∷ rs)
    of true true e f rest h = (zero, omega arith, eqb-true r.bundle bundle e, f)
    of true false e f rest h = later (rest (grind (arith, f, h)))
    of false b e f rest h = later (rest h)

passing_is_found : (test : Relation → Bool) (bundle : ℕ) (rs : List Relation) → Passes test bundle rs
    → list_any test (relations_at rs bundle) ≡ true
passing_is_found test bundle [] (n, inside, here, passes) = absurd (omega (arith, inside))
passing_is_found test bundle (r ∷ rs) (zero, inside, here, passes) =
    let same : (r.bundle == bundle) ≡ true = eq-eqb r.bundle bundle here in
    rw (same, passes) refl
passing_is_found test bundle (r ∷ rs) (suc n, inside, here, passes) =
    kept (r.bundle == bundle) (passing_is_found test bundle rs (n, omega (arith, inside), here, passes))
  where
    kept : (b : Bool) → list_any test (relations_at rs bundle) ≡ true
        → list_any test (cond b (r ∷ relations_at rs bundle) (relations_at rs bundle)) ≡ true
    kept true h = grind arith
    kept false h = h

-- The test of relations.
pub relation_decides : (p : Program) (low : List Bool) (bundle : ℕ) → IsTrue (breaks_relation p low bundle) ↔ IsBroken p low bundle
relation_decides p low bundle = (
  (λ h. broken (passing_found (are_both_one low) bundle p.relations h)),
  (λ b. passing_is_found (are_both_one low) bundle p.relations (b.n, b.inside, b.here, rw (b.one, b.other) refl)),
)
  where
    broken : Passes (are_both_one low) bundle p.relations → IsBroken p low bundle
    broken (n, inside, here, passes) =
        let ones = and_parts (get_or low (relation_at p.relations n).p false) (get_or low (relation_at p.relations n).q false) passes in
        record { n = n; inside = inside; here = here; one = ones.0; other = ones.1 }

-- Among the first sixteen predicates of the zero state only p0 is 1.
zero_low : (n : ℕ) → 1 ≤ n → n ≤ 15 → get_or (true ∷ replicate 15 false) n false ≡ false
zero_low zero some most = absurd (omega arith)
zero_low (suc n) some most = get_or-replicate 15 n false false (omega arith)

-- The zero state breaks no relation.
pub zero_keeps : (p : Program) (bundle : ℕ) → IsProgram p → breaks_relation p (true ∷ replicate 15 false) bundle ≡ false
zero_keeps p bundle program = none_passes (are_both_one (true ∷ replicate 15 false)) bundle p.relations (λ n inside.
    let at = program.relations n inside in
    let one : get_or (true ∷ replicate 15 false) (relation_at p.relations n).p false ≡ false =
    zero_low (relation_at p.relations n).p at.some (omega (arith, at.apart, at.static)) in
    rw one refl)
