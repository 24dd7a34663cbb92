-- The labels of the bundles so far: those that are entries or targets, each with its number.
use Rattle.std.proofs.Common.{◌≡◌, ◌≢◌, ◌∙◌, ℕ, ◌+◌, ◌<◌, ◌≤◌, ◌^◌, ◌⊎◌, true, false, ◌||◌, List, [], drop, Some, None, Ordering, Less, Equal, Greater, refl, sym, ap, subst, inl, inr, arith}
use Rattle.std.specs.List.{AllByRecursion}
use Rattle.std.specs.Cmp.Lexicographic.{slice_cmp}
use Rattle.std.specs.Map.{values_of}
use Rattle.std.specs.BTreeMap.{insert_entry}
use Rattle.std.specs.Ordering.{nat_cmp, is_eq}
use Rattle.std.proofs.lemmas.Cmp.{nat_list_cmp_total, tied_itself}
use Rattle.std.proofs.lemmas.Fmt.{decimal_injective}
use Rattle.std.proofs.lemmas.Map.Lookups.{exact_bytes}
use Rattle.std.proofs.lemmas.Bool.{true≢false}
use Rattle.ia_program.specs.declared.limits.TheConstants.{BUNDLE_LIMIT}
use Rattle.ia_program.proofs.Tests.{last_or_below}
use Rattle.asm_printing.specs.SlotTexts.{label_text}
use Rattle.asm_build.specs.declared.address.Address.TheVariants.{Bundle}
use Rattle.asm_build.specs.Addresses.{IsInside}
use Rattle.asm_build.specs.CanonicalText.{is_among}
use Rattle.asm_build.specs.TextParts.{Labels, address_of}
use Rattle.asm_build.proofs.LabelValues.{kept_among}
use Rattle.asm_build.proofs.PutIn.{put_here, put_elsewhere}

-- The labels of two bundles differ.
differ : (m n : ℕ) → m < 2 ^ 32 → n < 2 ^ 32 → m ≢ n → is_eq (slice_cmp nat_cmp (label_text m) (label_text n)) ≡ false
differ m n a b other = by (slice_cmp nat_cmp (label_text m) (label_text n)) refl
  where
    by : (r : Ordering) → slice_cmp nat_cmp (label_text m) (label_text n) ≡ r → is_eq r ≡ false
    by Less h = refl
    by Equal h =
        absurd (other (decimal_injective m n (omega (arith, a)) (omega (arith, b))
        (ap (drop 1) (exact_bytes (label_text m) (label_text n) h))))
    by Greater h = refl

-- The bundles before the n-th that are entries or targets have labels, and no other has. Each is one of `count` bundles.
pub record HasLabels (entries targets : List ℕ) (count n : ℕ) (labels : Labels) : Type 0 where
  pub named : (m : ℕ) → m < n → (is_among entries m || is_among targets m) ≡ true → address_of labels (label_text m) ≡ Some (Bundle m)
  pub later : (m : ℕ) → n ≤ m → m < 2 ^ 32 → address_of labels (label_text m) ≡ None
  pub inside : AllByRecursion (IsInside count) (values_of labels)

-- None at first.
pub no_labels : (entries targets : List ℕ) (count : ℕ) → HasLabels entries targets count 0 []
no_labels entries targets count = record {
  named = λ m less is. absurd (omega (arith, less));
  later = λ m more low. refl;
  inside = tt;
}

-- The label of the n-th bundle.
pub one_label : (entries targets : List ℕ) (count n : ℕ) (labels : Labels) → n < count → count ≤ BUNDLE_LIMIT
    → HasLabels entries targets count n labels
    → HasLabels entries targets count (n + 1) (insert_entry (slice_cmp nat_cmp) labels (label_text n) (Bundle n))
one_label entries targets count n labels less few h = record {
  named = λ m before is. at m (last_or_below m n (omega (arith, before))) is;
  later =
      λ m more low. put_elsewhere (slice_cmp nat_cmp) nat_list_cmp_total labels (label_text n) (Bundle n) (label_text m)
      (differ m n low (omega (arith, less, few)) (λ e. omega (arith, e, more))) ∙ h.later m (omega (arith, more)) low;
  inside = kept_among (IsInside count) labels (label_text n) (Bundle n) h.inside less;
}
  where
    at : (m : ℕ) → (m ≡ n) ⊎ (m < n) → (is_among entries m || is_among targets m) ≡ true
        → address_of (insert_entry (slice_cmp nat_cmp) labels (label_text n) (Bundle n)) (label_text m) ≡ Some (Bundle m)
    at m (inl e) is =
        subst (λ k. address_of (insert_entry (slice_cmp nat_cmp) labels (label_text n) (Bundle n)) (label_text k) ≡ Some (Bundle k)) (sym e)
        (put_here (slice_cmp nat_cmp) labels (label_text n) (Bundle n) (tied_itself nat_list_cmp_total (label_text n)))
    at m (inr before) is =
        put_elsewhere (slice_cmp nat_cmp) nat_list_cmp_total labels (label_text n) (Bundle n) (label_text m)
        (differ m n (omega (arith, before, less, few)) (omega (arith, less, few)) (λ e. omega (arith, e, before))) ∙ h.named m before is

-- A bundle without a label.
pub same_labels : (entries targets : List ℕ) (count n : ℕ) (labels : Labels) → (is_among entries n || is_among targets n) ≡ false
    → HasLabels entries targets count n labels → HasLabels entries targets count (n + 1) labels
same_labels entries targets count n labels other h = record {
  named = λ m before is. at m (last_or_below m n (omega (arith, before))) is;
  later = λ m more low. h.later m (omega (arith, more)) low;
  inside = h.inside;
}
  where
    at : (m : ℕ) → (m ≡ n) ⊎ (m < n) → (is_among entries m || is_among targets m) ≡ true
        → address_of labels (label_text m) ≡ Some (Bundle m)
    at m (inl e) is = absurd (true≢false (sym is ∙ ap (λ k. is_among entries k || is_among targets k) e ∙ other))
    at m (inr before) is = h.named m before is
