-- What accesses have in all.
use Rattle.std.proofs.Common.{◌≡◌, ℕ, ◌*◌, ◌%◌, ◌^◌, ◌<◌, Bool, true, false, ◌&&◌, ◌||◌, eqb, eq-eqb, None, if◌then◌else◌, List, [], ◌∷◌, ◌++◌, refl, sym, ap, ◌∙◌, arith, inl, inr, true≢false}
use Rattle.std.specs.Prelude.{Contains, bit_or}
use Rattle.std.specs.Option.{is_some}
use Rattle.std.specs.List.{list_any}
use Rattle.std.specs.Int.{bit_at}
use Rattle.std.proofs.lemmas.Bool.{cases_Bool, cases_lt, and_from, le-leb, ne_eqb}
use Rattle.std.proofs.lemmas.Bool.Decides.{nat_tests}
use Rattle.std.proofs.lemmas.List.Folds.{list_any-append}
use Rattle.std.proofs.lemmas.Nat.Bits.{bit_at_mask_inside, bit_at_mask_below}
use Rattle.ia_meaning.specs.Arithmetic.{bit}
use Rattle.ia_meaning.specs.Names.{is_rotating}
use Rattle.resource_sets.specs.declared.access.Kind.{Kind}
use Rattle.resource_sets.specs.declared.access.Kind.TheVariants.{Read, BranchRead, Write, AllocWrite, LoopWrite, OrWrite, AndWrite, Spill, Fill}
use Rattle.resource_sets.specs.declared.access.Resource.{Resource}
use Rattle.resource_sets.specs.declared.access.Access.{Access}
use Rattle.resource_sets.specs.declared.masking.Summary.{Summary}
use Rattle.resource_sets.specs.Clashes.{is_resource, clash_of, clash, writes_guard}
use Rattle.resource_sets.specs.ResourceSets.{has_resource}
use Rattle.resource_sets.specs.InsnAccesses.{may_clash, is_first, is_second, is_barred, is_made, IsSummary}
use Rattle.resource_sets.proofs.Members.{any_of, some_of}
use Rattle.resource_sets.proofs.AccessSets.{same_resource, resource_itself}
use Rattle.resource_sets.proofs.BitWords.{or_false, bit_or_at}

-- A test of one more access.
one_more : (p : Access → Bool) (accesses : List Access) (a : Access) → list_any p (accesses ++ a ∷ []) ≡ (list_any p accesses || p a)
one_more p accesses a = list_any-append p accesses (a ∷ []) ∙ ap (λ (t : Bool). list_any p accesses || t) (or_false (p a))

-- What one more access adds.
pub summary_more : (accesses : List Access) (a : Access) (old new : Summary) (word : ℕ)
    → ((q : Resource) → has_resource new.barred q ≡ (has_resource old.barred q || (is_first a.kind && is_resource a.resource q)))
    → ((q : Resource) → has_resource new.made q ≡ (has_resource old.made q || (is_second a.kind && is_resource a.resource q)))
    → new.written ≡ bit_or old.written word → ((g : ℕ) → g < 64 → bit word g ≡ writes_guard g a.resource a.kind)
    → IsSummary accesses old → IsSummary (accesses ++ a ∷ []) new
summary_more accesses a old new word b m w writes h = record {
  barred =
      λ q. b q ∙ ap (λ (t : Bool). t || (is_first a.kind && is_resource a.resource q)) (h.barred q)
      ∙ sym (one_more (λ x. is_first x.kind && is_resource x.resource q) accesses a);
  made =
      λ q. m q ∙ ap (λ (t : Bool). t || (is_second a.kind && is_resource a.resource q)) (h.made q)
      ∙ sym (one_more (λ x. is_second x.kind && is_resource x.resource q) accesses a);
  written =
      λ g l. ap (λ (n : ℕ). bit n g) w ∙ bit_or_at old.written word g ∙ (λ i. h.written g l i || writes g l i)
      ∙ sym (one_more (λ x. writes_guard g x.resource x.kind) accesses a);
}

-- An access that clashes with a later one isn't a read.
clash_first : (first second : Kind) → is_some (clash_of first second) ≡ true → is_first first ≡ true
unfolding clash_of
clash_first Read second h = absurd (true≢false (sym h))
clash_first Fill second h = absurd (true≢false (sym h))
clash_first first second h = refl

-- An access with which an earlier one clashes isn't one that a branch makes.
clash_second : (first second : Kind) → is_some (clash_of first second) ≡ true → is_second second ≡ true
unfolding clash_of
clash_second Spill BranchRead h = absurd (true≢false (sym h))
clash_second first BranchRead h = absurd (true≢false (sym h))
clash_second first second h = refl

clash_parts : (a b : Access) → is_some (clash a b) ≡ true → (is_resource a.resource b.resource ≡ true)
    × (is_some (clash_of a.kind b.kind) ≡ true)
clash_parts a b h = of (is_resource a.resource b.resource) h
  where
    of : (t : Bool) → is_some (if t then clash_of a.kind b.kind else None) ≡ true → (t ≡ true) × (is_some (clash_of a.kind b.kind) ≡ true)
    of true e = (refl, e)
    of false e = absurd (true≢false (sym e))

-- An access that clashes with later ones is no read, and of a resource of theirs.
meets_made : (a : Access) (seconds : List Access) (t : Summary) → IsSummary seconds t → list_any (λ b. is_some (clash a b)) seconds ≡ true
    → (is_first a.kind ≡ true) × (has_resource t.made a.resource ≡ true)
meets_made a seconds t g h =
    let (b, of_second, broken) = some_of (λ (b : Access). is_some (clash a b)) seconds h in
    let (same, kinds) = clash_parts a b broken in
    let made = any_of (λ (x : Access). is_second x.kind && is_resource x.resource a.resource) seconds b of_second
    (and_from _ _ (clash_second a.kind b.kind kinds) (ap (is_resource b.resource) (same_resource a.resource b.resource same)
    ∙ resource_itself b.resource)) in
    (clash_first a.kind b.kind kinds, g.made a.resource ∙ made)

-- Where no resource is barred by the one and made by the other no accesses clash.
pub apart : (firsts seconds : List Access) (s t : Summary) → IsSummary firsts s → IsSummary seconds t
    → ((q : Resource) → (has_resource s.barred q && has_resource t.made q) ≡ false) → may_clash firsts seconds ≡ false
apart firsts seconds s t f g none = elim (cases_Bool (may_clash firsts seconds)) [
  | inr e ↦ e
  | inl h ↦ (
      let (a, of_first, some) = some_of (λ (a : Access). list_any (λ (b : Access). is_some (clash a b)) seconds) firsts h in
      let (first, made) = meets_made a seconds t g some in
      let barred =
      any_of (λ (x : Access). is_first x.kind && is_resource x.resource a.resource) firsts a of_first
      (and_from _ _ first (resource_itself a.resource)) in
      absurd (true≢false (sym (and_from _ _ (f.barred a.resource ∙ barred) made) ∙ none a.resource))
      )
]

-- An access that is a read, or of no resource that is made, clashes with none.
pub one_apart : (a : Access) (seconds : List Access) (t : Summary) → IsSummary seconds t
    → (is_first a.kind && has_resource t.made a.resource) ≡ false → may_clash (a ∷ []) seconds ≡ false
one_apart a seconds t g none = or_false _ ∙ (elim (cases_Bool (list_any (λ b. is_some (clash a b)) seconds)) [
  | inr e ↦ e
  | inl h ↦ (let (first, made) = meets_made a seconds t g h in absurd (true≢false (sym (and_from _ _ first made) ∙ none)))
])

pub rotating_bit : (y : ℕ) → y < 64 → bit 18446744073709486080 y ≡ is_rotating y
rotating_bit y m = elim (cases_lt y 16) [
  | inl l ↦ ne_eqb (bit_at 18446744073709486080 y) 1 (λ q. omega (arith, bit_at_mask_below 16 64 y l)) ∙ grind (arith, nat_tests)
  | inr l ↦ eq-eqb (bit_at 18446744073709486080 y) 1 (bit_at_mask_inside 16 64 y l m) ∙ sym (le-leb 16 y l)
]
