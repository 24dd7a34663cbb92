-- The declared entries of a text are the bundles that its lines `.entry` name.
use Rattle.std.proofs.Common.{◌≡◌, ◌∙◌, refl, sym, ap, subst, inl, inr, ◌⊎◌, ℕ, ◌≤◌, Bool, true, false, List, [], ◌∷◌, length, Option, Some, None, Result, Ok, Err, arith}
use Rattle.std.specs.Prelude.{Contains, nat_lt, if◌then◌else◌}
use Rattle.std.specs.BTreeSet.{insert_key}
use Rattle.std.specs.Ordering.{nat_cmp}
use Rattle.std.specs.Cmp.{nat_cmp_is}
use Rattle.std.specs.declared.cmp.Ordering.TheVariants.{Less, Equal, Greater}
use Rattle.std.proofs.lemmas.Bool.{cases_order, cases_eq, ne_eqb}
use Rattle.ia_program.specs.declared.limits.TheConstants.{ENTRY_LIMIT}
use Rattle.asm_build.specs.declared.address.Address.{Address}
use Rattle.asm_build.specs.declared.address.Address.TheVariants as address
use Rattle.asm_build.specs.declared.text_parts.EntryLine.{EntryLine}
use Rattle.asm_build.specs.declared.reason.Reason.TheVariants.{Limit}
use Rattle.asm_build.specs.declared.reason.TextError.{TextError}
use Rattle.asm_build.specs.declared.reason.TextError.TheVariants as error
use Rattle.asm_build.specs.Names.{bundle_at, declared, declared_by, and_then, all_declared}
use Rattle.asm_build.specs.TextParts.{Labels, address_of}
use Rattle.asm_build.proofs.Membership.{first_there, later_there, first_or_later, none_there}
use Rattle.asm_build.proofs.SaidLines.{names_of}

-- What a set with one more contains.
put_there : (k : ℕ) (ns : List ℕ) → Contains (insert_key nat_cmp ns k) k
put_there k [] = first_there k []
put_there k (n ∷ ns) = elim (cases_order k n) [
  | inl same ↦ rw (sym (nat_cmp_is k n Equal same)) (subst (Contains (n ∷ ns)) (sym same) (first_there n ns))
  | inr (inl less) ↦ rw (sym (nat_cmp_is k n Less less)) (first_there k (n ∷ ns))
  | inr (inr more) ↦ rw (sym (nat_cmp_is k n Greater more)) (later_there n k (insert_key nat_cmp ns k) (put_there k ns))
]

still_there : (k m : ℕ) (ns : List ℕ) → Contains ns m → Contains (insert_key nat_cmp ns k) m
still_there k m [] is = absurd (none_there m is)
still_there k m (n ∷ ns) is = elim (cases_order k n) [
  | inl same ↦ rw (sym (nat_cmp_is k n Equal same)) is
  | inr (inl less) ↦ rw (sym (nat_cmp_is k n Less less)) (later_there k m (n ∷ ns) is)
  | inr (inr more) ↦ rw (sym (nat_cmp_is k n Greater more)) (elim (first_or_later n m ns is) [
    | inl first ↦ subst (Contains (n ∷ insert_key nat_cmp ns k)) first (first_there n (insert_key nat_cmp ns k))
    | inr later ↦ later_there n m (insert_key nat_cmp ns k) (still_there k m ns later)
  ])
]

in_front : (k m n : ℕ) (ns : List ℕ) → (k ≡ m) ⊎ Contains ns m → (k ≡ m) ⊎ Contains (n ∷ ns) m
in_front k m n ns (inl put) = inl put
in_front k m n ns (inr before) = inr (later_there n m ns before)

was_there : (k m : ℕ) (ns : List ℕ) → Contains (insert_key nat_cmp ns k) m → (k ≡ m) ⊎ Contains ns m
was_there k m [] is = first_or_later k m [] is
was_there k m (n ∷ ns) is = elim (cases_order k n) [
  | inl same ↦ inr (rw (sym (nat_cmp_is k n Equal same)) at is)
  | inr (inl less) ↦ first_or_later k m (n ∷ ns) (rw (sym (nat_cmp_is k n Less less)) at is)
  | inr (inr more) ↦ elim (first_or_later n m (insert_key nat_cmp ns k) (rw (sym (nat_cmp_is k n Greater more)) at is)) [
    | inl first ↦ inr (subst (Contains (n ∷ ns)) first (first_there n ns))
    | inr later ↦ in_front k m n ns (was_there k m ns later)
  ]
]

-- A bundle but the first is named by one of these, by way of its label.
abbrev pub IsDeclaredBy : Labels → List (List ℕ) → ℕ → Type 0
IsDeclaredBy labels names n = (1 ≤ n) × (name : List ℕ) × Contains names name × (address_of labels name ≡ Some (address.Bundle n))

-- The entries with those of some lines: a bundle is one of them exactly where it was or they name it.
record Adds (labels : Labels) (names : List (List ℕ)) (entries out : List ℕ) : Type 0 where
  pub kept : (n : ℕ) → Contains entries n → Contains out n
  pub named : (n : ℕ) → IsDeclaredBy labels names n → Contains out n
  pub only : (n : ℕ) → Contains out n → Contains entries n ⊎ IsDeclaredBy labels names n

none_more : (labels : Labels) (entries : List ℕ) → Adds labels [] entries entries
none_more labels entries = record {
  kept = λ n is. is;
  named = λ n h. absurd (none_there h.1 h.2);
  only = λ n is. inl is;
}

-- One bundle, by its label.
one_kept : (m n : ℕ) (entries : List ℕ) → Contains entries n → Contains (declared entries m) n
one_kept m n entries is = elim (cases_eq m 0) [
  | inl first ↦ rw first is
  | inr other ↦ rw (ne_eqb m 0 other) (still_there m n entries is)
]

one_put : (n : ℕ) (entries : List ℕ) → 1 ≤ n → Contains (declared entries n) n
one_put n entries some = rw (ne_eqb n 0 (λ z. omega (arith, z, some))) (put_there n entries)

one_only : (m n : ℕ) (entries : List ℕ) → Contains (declared entries m) n → ((1 ≤ n) × (m ≡ n)) ⊎ Contains entries n
one_only m n entries is = elim (cases_eq m 0) [
  | inl first ↦ inr (rw first at is)
  | inr other ↦ by other (was_there m n entries (rw (ne_eqb m 0 other) at is))
]
  where
    by : (m ≡ 0 → ⊥) → (m ≡ n) ⊎ Contains entries n → ((1 ≤ n) × (m ≡ n)) ⊎ Contains entries n
    by other (inl same) = inl (some, same)
      where
        some : 1 ≤ n
        some = grind (arith, other, same)
    by other (inr before) = inr before

same_bundle : (m n : ℕ) (o : Option Address) → o ≡ Some (address.Bundle m) → o ≡ Some (address.Bundle n) → m ≡ n
same_bundle m n o h k = cc

-- The entries of a line and of those after it.
one_more : (labels : Labels) (name : List ℕ) (names : List (List ℕ)) (m : ℕ) (entries out : List ℕ)
    → address_of labels name ≡ Some (address.Bundle m)
    → Adds labels names (declared entries m) out → Adds labels (name ∷ names) entries out
one_more labels name names m entries out found later = record {
  kept = λ n is. later.kept n (one_kept m n entries is);
  named = λ n (some, other, among, is). by n some other is (first_or_later name other names among);
  only = λ n is. at n (later.only n is);
}
  where
    by : (n : ℕ) → 1 ≤ n → (other : List ℕ) → address_of labels other ≡ Some (address.Bundle n) → (name ≡ other) ⊎ Contains names other
        → Contains out n
    by n some other is (inl same) =
        let bundle : n ≡ m = same_bundle n m (address_of labels other) is (sym (ap (address_of labels) same) ∙ found) in
        later.kept n (subst (λ k. Contains (declared entries k) n) bundle (one_put n entries some))
    by n some other is (inr among) = later.named n (some, other, among, is)

    last : (n : ℕ) → ((1 ≤ n) × (m ≡ n)) ⊎ Contains entries n → Contains entries n ⊎ IsDeclaredBy labels (name ∷ names) n
    last n (inl (some, same)) = inr (some, name, first_there name names, found ∙ ap (λ k. Some (address.Bundle k)) same)
    last n (inr before) = inl before

    at : (n : ℕ) → Contains (declared entries m) n ⊎ IsDeclaredBy labels names n → Contains entries n ⊎ IsDeclaredBy labels (name ∷ names) n
    at n (inl before) = last n (one_only m n entries before)
    at n (inr (some, other, among, is)) = inr (some, other, later_there name other names among, is)

-- A line that is declared names a bundle.
record Declares (o : Option Address) (line : ℕ) (entries : List ℕ) (next : List ℕ → Result (List ℕ) TextError) (out : List ℕ) : Type 0 where
  pub bundle : ℕ
  pub found : o ≡ Some (address.Bundle bundle)
  pub rest : next (declared entries bundle) ≡ Ok out

limit_passed : (line : ℕ) (b : Bool) (m : ℕ) (entries : List ℕ) (next : List ℕ → Result (List ℕ) TextError) (out : List ℕ)
    → and_then (if b then Err (error.Fault line Limit) else Ok (declared entries m)) next ≡ Ok out → next (declared entries m) ≡ Ok out
limit_passed line true m entries next out is = cc
limit_passed line false m entries next out is = is

declares : (o : Option Address) (line : ℕ) (entries : List ℕ) (next : List ℕ → Result (List ℕ) TextError) (out : List ℕ)
    → and_then (declared_by (bundle_at o) line entries) next ≡ Ok out → Declares o line entries next out
declares None line entries next out is = cc
declares (Some (address.Byte at)) line entries next out is = cc
declares (Some (address.Bundle m)) line entries next out is =
    record { bundle = m; found = refl; rest = limit_passed line (nat_lt ENTRY_LIMIT (length (declared entries m))) m entries next out is }

same_entries : (entries out : List ℕ) (r : Result (List ℕ) TextError) → r ≡ Ok entries → r ≡ Ok out → entries ≡ out
same_entries entries out r h k = cc

all_add : (labels : Labels) (entries out : List ℕ) (lines : List EntryLine) → all_declared labels entries lines ≡ Ok out
    → Adds labels (names_of lines) entries out
all_add labels entries out [] is = subst (Adds labels [] entries) (same_entries entries out (Ok entries) refl is) (none_more labels entries)
all_add labels entries out (l ∷ ls) is =
    let here = declares (address_of labels l.name) l.line entries (λ more. all_declared labels more ls) out is in
    one_more labels l.name (names_of ls) here.bundle entries out here.found (all_add labels (declared entries here.bundle) out ls here.rest)

-- A bundle is a declared entry exactly where a line names it.
pub entry_named : (labels : Labels) (out : List ℕ) (lines : List EntryLine) (n : ℕ) → all_declared labels [] lines ≡ Ok out → Contains out n
    → IsDeclaredBy labels (names_of lines) n
entry_named labels out lines n is h = by ((all_add labels [] out lines is).only n h)
  where
    by : Contains [] n ⊎ IsDeclaredBy labels (names_of lines) n → IsDeclaredBy labels (names_of lines) n
    by (inl none) = absurd (none_there n none)
    by (inr named) = named

pub named_entry : (labels : Labels) (out : List ℕ) (lines : List EntryLine) (n : ℕ) → all_declared labels [] lines ≡ Ok out
    → IsDeclaredBy labels (names_of lines) n → Contains out n
named_entry labels out lines n is h = (all_add labels [] out lines is).named n h
