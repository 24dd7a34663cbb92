-- What holds of the address of each label.
use Rattle.std.proofs.Common.{◌≡◌, ℕ, Bool, true, false, cond, List, [], ◌∷◌, Some}
use Rattle.std.specs.Prelude.{IfSome}
use Rattle.std.specs.List.{AllByRecursion}
use Rattle.std.specs.Map.{lookup, values_of}
use Rattle.std.specs.BTreeMap.{insert_entry, is_at}
use Rattle.std.specs.Cmp.Lexicographic.{slice_cmp}
use Rattle.std.specs.Ordering.{nat_cmp, match_ordering}
use Rattle.std.specs.declared.cmp.Ordering.TheVariants.{Less, Equal, Greater}
use Rattle.asm_build.specs.declared.address.Address.{Address}
use Rattle.asm_build.specs.Addresses.{IsReachable}
use Rattle.asm_build.specs.TextParts.{Labels, address_of}

-- What holds of each label's value holds of the value that is found.
pub found_among : (P : Address → Type 0) (test : List ℕ → Bool) (labels : Labels) → AllByRecursion P (values_of labels)
    → IfSome (lookup test labels) P
found_among P test [] all = tt
found_among P test (e ∷ es) all =
    elim (test e.0) as (λ b. IfSome (cond b (Some e.1) (lookup test es)) P) [ true ↦ all.0 | false ↦ found_among P test es all.1 ]

pub label_within : (P : Address → Type 0) (labels : Labels) (name : List ℕ) → AllByRecursion P (values_of labels)
    → IfSome (address_of labels name) P
label_within P labels name all = found_among P (is_at (slice_cmp nat_cmp name)) labels all

-- What holds of each label's value and of one more holds with that one inserted.
pub kept_among : (P : Address → Type 0) (labels : Labels) (name : List ℕ) (a : Address) → AllByRecursion P (values_of labels) → P a
    → AllByRecursion P (values_of (insert_entry (slice_cmp nat_cmp) labels name a))
kept_among P [] name a all p = (p, tt)
kept_among P (e ∷ es) name a all p =
    elim (slice_cmp nat_cmp name e.0) as (λ o. AllByRecursion P (values_of
    (match_ordering o ((name, a) ∷ e ∷ es) ((e.0, a) ∷ es) (e ∷ insert_entry (slice_cmp nat_cmp) es name a)))) [
      | Less ↦ (p, all)
      | Equal ↦ (p, all.1)
      | Greater ↦ (all.0, kept_among P es name a all.1 p)
    ]

-- Labels stay within reach with one more that is.
pub label_added : (name : List ℕ) (a : Address) (before labels : Labels) → AllByRecursion IsReachable (values_of before) → IsReachable a
    → labels ≡ insert_entry (slice_cmp nat_cmp) before name a
    → AllByRecursion IsReachable (values_of labels)
label_added name a before labels all within grown = rw grown (kept_among IsReachable before name a all within)
