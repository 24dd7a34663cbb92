-- The bits of sets of resources, and the lists of what they have.
use Rattle.std.proofs.Common.{◌≡◌, ℕ, zero, suc, ◌+◌, ◌-◌, ◌*◌, ◌/◌, ◌%◌, ◌^◌, ◌<◌, ◌≤◌, Bool, true, false, cond, ◌&&◌, ◌||◌, eqb, eq-eqb, List, [], ◌∷◌, ◌++◌, length, length-append, append_assoc, add-one, zero-add, pow-suc, refl, sym, ap, subst, ◌∙◌, arith, inl, inr}
use Rattle.std.specs.Prelude.{bit_or, bit_and, nat_lt, filter, count_ones}
use lib.Count.{ones-le, ones_step}
use Rattle.std.specs.Int.{Width, w8, w64, w128}
use mir.Val.{bits, bool_byte}
use Rattle.std.proofs.lemmas.Bool.{and_right, cases_eq, ne_eqb, lt-ltb}
use Rattle.std.proofs.lemmas.Nat.Bits.{bit_at-suc, bit_at_lowest}
use Rattle.std.proofs.lemmas.List.{append-nil}
use Rattle.ia_meaning.specs.Arithmetic.{bit}
use Rattle.resource_sets.specs.declared.access.Resource.{Resource}
use Rattle.resource_sets.specs.declared.access.Resource.TheVariants.{Gr, Pr, Br, Unat, Pfs, Lc, Ec, Cfm}
use Rattle.resource_sets.specs.declared.sets.ResourceSet.{ResourceSet}
use Rattle.resource_sets.specs.Clashes.{is_resource}
use Rattle.resource_sets.specs.ResourceSets.{has_resource, numbered, others, resources_in}
use Rattle.resource_sets.proofs.BitWords.{or_false, bit_none, bit_more, bit_or_at, bit_and_at}

-- One more bit below a limit.
below_more : (w : Width) (limit a r n : ℕ) → r < limit → limit ≤ bits w
    → (nat_lt n limit && bit (bit_or a (1 * 2 ^ r % 2 ^ bits w)) n) ≡ ((nat_lt n limit && bit a n) || eqb r n)
below_more w limit a r n l m = elim (cases_eq n r) [
  | inl e ↦ rw (e, lt-ltb r limit l, bit_more w a r r (omega arith), eq-eqb r r refl) refl
  | inr e ↦ rw (bit_more w a r n (omega arith), ne_eqb n r e, ne_eqb r n (λ q. e (sym q)), or_false (bit a n)) (sym (or_false _))
]

pub register_inserted : (s : ResourceSet) (r : ℕ) → r < 128 → (q : Resource)
    → has_resource (record s { registers = bit_or s.registers (1 * 2 ^ r % 2 ^ 128) }) q ≡ (has_resource s q || is_resource (Gr r) q)
register_inserted s r l (Gr n) = below_more w128 128 s.registers r n l (omega arith)
register_inserted s r l q = sym (or_false (has_resource s q))

pub predicate_inserted : (s : ResourceSet) (p : ℕ) → p < 64 → (q : Resource)
    → has_resource (record s { predicates = bit_or s.predicates (1 * 2 ^ p % 2 ^ 64) }) q ≡ (has_resource s q || is_resource (Pr p) q)
predicate_inserted s p l (Pr n) = below_more w64 64 s.predicates p n l (omega arith)
predicate_inserted s p l q = sym (or_false (has_resource s q))

pub branch_inserted : (s : ResourceSet) (b : ℕ) → b < 8 → (q : Resource)
    → has_resource (record s { branches = bit_or s.branches (1 * 2 ^ b % 2 ^ 8) }) q ≡ (has_resource s q || is_resource (Br b) q)
branch_inserted s b l (Br n) = below_more w8 8 s.branches b n l (omega arith)
branch_inserted s b l q = sym (or_false (has_resource s q))

either_below : (t x y : Bool) → (t && (x || y)) ≡ ((t && x) || (t && y))
either_below true x y = refl
either_below false x y = refl

both_below : (t x y : Bool) → (t && (x && y)) ≡ ((t && x) && (t && y))
both_below true x y = refl
both_below false x y = refl

abbrev pub either : ResourceSet → ResourceSet → ResourceSet
either s t = record {
  registers = bit_or s.registers t.registers;
  predicates = bit_or s.predicates t.predicates;
  branches = bit_or s.branches t.branches;
  unat = s.unat || t.unat;
  pfs = s.pfs || t.pfs;
  lc = s.lc || t.lc;
  ec = s.ec || t.ec;
  cfm = s.cfm || t.cfm;
}

pub has_either : (s t : ResourceSet) (q : Resource) → has_resource (either s t) q ≡ (has_resource s q || has_resource t q)
has_either s t (Gr n) = ap (λ (b : Bool). nat_lt n 128 && b) (bit_or_at s.registers t.registers n) ∙ either_below (nat_lt n 128) _ _
has_either s t (Pr n) = ap (λ (b : Bool). nat_lt n 64 && b) (bit_or_at s.predicates t.predicates n) ∙ either_below (nat_lt n 64) _ _
has_either s t (Br n) = ap (λ (b : Bool). nat_lt n 8 && b) (bit_or_at s.branches t.branches n) ∙ either_below (nat_lt n 8) _ _
has_either s t Unat = refl
has_either s t Pfs = refl
has_either s t Lc = refl
has_either s t Ec = refl
has_either s t Cfm = refl

abbrev pub both : ResourceSet → ResourceSet → ResourceSet
both s t = record {
  registers = bit_and s.registers t.registers;
  predicates = bit_and s.predicates t.predicates;
  branches = bit_and s.branches t.branches;
  unat = s.unat && t.unat;
  pfs = s.pfs && t.pfs;
  lc = s.lc && t.lc;
  ec = s.ec && t.ec;
  cfm = s.cfm && t.cfm;
}

pub has_both : (s t : ResourceSet) (q : Resource) → has_resource (both s t) q ≡ (has_resource s q && has_resource t q)
has_both s t (Gr n) = ap (λ (b : Bool). nat_lt n 128 && b) (bit_and_at s.registers t.registers n) ∙ both_below (nat_lt n 128) _ _
has_both s t (Pr n) = ap (λ (b : Bool). nat_lt n 64 && b) (bit_and_at s.predicates t.predicates n) ∙ both_below (nat_lt n 64) _ _
has_both s t (Br n) = ap (λ (b : Bool). nat_lt n 8 && b) (bit_and_at s.branches t.branches n) ∙ both_below (nat_lt n 8) _ _
has_both s t Unat = refl
has_both s t Pfs = refl
has_both s t Lc = refl
has_both s t Ec = refl
has_both s t Cfm = refl

-- Sets without a common bit have no common resource.
pub none_met : (s t : ResourceSet) → bit_and s.registers t.registers ≡ 0 → bit_and s.predicates t.predicates ≡ 0
    → bit_and s.branches t.branches ≡ 0
    → (s.unat && t.unat) ≡ false → (s.pfs && t.pfs) ≡ false → (s.lc && t.lc) ≡ false → (s.ec && t.ec) ≡ false → (s.cfm && t.cfm) ≡ false
    → (q : Resource) → (has_resource s q && has_resource t q) ≡ false
none_met s t r p b u f l e c q = sym (has_both s t q) ∙ of q
  where
    of : (q : Resource) → has_resource (both s t) q ≡ false
    of (Gr n) = and_right (nat_lt n 128) _ (ap (λ (m : ℕ). bit m n) r ∙ bit_none n)
    of (Pr n) = and_right (nat_lt n 64) _ (ap (λ (m : ℕ). bit m n) p ∙ bit_none n)
    of (Br n) = and_right (nat_lt n 8) _ (ap (λ (m : ℕ). bit m n) b ∙ bit_none n)
    of Unat = u
    of Pfs = f
    of Lc = l
    of Ec = e
    of Cfm = c

-- One more resource of a sort.
pub number_more : (h : Resource → Bool) (sort : ℕ → Resource) (old : List Resource) (limit n : ℕ) → n < limit
    → old ++ filter h (numbered sort (limit - n) n) ≡ (old ++ filter h (sort n ∷ [])) ++ filter h (numbered sort (limit - (n + 1)) (n + 1))
unfolding numbered
number_more h sort old limit n l =
    let e : limit - n ≡ suc (limit - (n + 1)) = omega arith in
    rw (e, add-one n) (of (h (sort n)) (filter h (numbered sort (limit - suc n) (suc n))))
  where
    of : (b : Bool) (rest : List Resource) → old ++ cond b (sort n ∷ rest) rest ≡ (old ++ cond b (sort n ∷ []) []) ++ rest
    of true rest = sym (append_assoc old (sort n ∷ []) rest)
    of false rest = sym (append_assoc old [] rest)

-- At the limit no resource more is added.
pub number_none : (h : Resource → Bool) (sort : ℕ → Resource) (old : List Resource) (limit n : ℕ) → n ≡ limit
    → old ++ filter h (numbered sort (limit - n) n) ≡ old
unfolding numbered
number_none h sort old limit n e =
    let z : limit - n ≡ 0 = omega arith in
    rw z (append-nil old)

-- How many resources of a sort a set has.
count_more : (b : Bool) (x : Resource) (rest : List Resource) → length (cond b (x ∷ rest) rest) ≡ bool_byte b + length rest
count_more true x rest = omega arith
count_more false x rest = sym (zero-add (length rest))

count_numbered : (h : Resource → Bool) (sort : ℕ → Resource) (left n w : ℕ) → w < 2 ^ left
    → ((m : ℕ) → m < left → h (sort (n + m)) ≡ bit w m) → length (filter h (numbered sort left n)) ≡ count_ones w
unfolding numbered
count_numbered h sort zero n w l e = omega (arith, ones-le 0 w l)
count_numbered h sort (suc left) n w l e =
    let rest : length (filter h (numbered sort left (suc n))) ≡ count_ones (w / 2)
    = count_numbered h sort left (suc n) (w / 2) (omega (arith, pow-suc 2 left)) (λ m k. let same : n + suc m ≡ suc n + m = omega arith in
    subst (λ (x : ℕ). h (sort x) ≡ bit (w / 2) m) same (e (suc m) (omega arith) ∙ ap (λ (x : ℕ). eqb x 1) (bit_at-suc w m))) in
    let first : h (sort n) ≡ eqb (w % 2) 1 =
    (let same : n + 0 ≡ n = omega arith in subst (λ (x : ℕ). h (sort x) ≡ eqb (w % 2) 1) same
    (e 0 (omega arith) ∙ ap (λ (x : ℕ). eqb x 1) (bit_at_lowest w))) in
    count_more (h (sort n)) (sort n) (filter h (numbered sort left (suc n)))
    ∙ (λ i. bool_byte (first i) + rest i) ∙ ap (λ (x : ℕ). x + count_ones (w / 2)) (lowest (w % 2) (omega arith)) ∙ sym (ones_step w)
  where
    lowest : (d : ℕ) → d < 2 → bool_byte (eqb d 1) ≡ d
    lowest zero l = refl
    lowest (suc zero) l = refl
    lowest (suc (suc d)) l = absurd (omega arith)

below : (m limit : ℕ) (b : Bool) → m < limit → (nat_lt m limit && b) ≡ b
below m limit b l = rw (lt-ltb m limit l) refl

pub count_all : (s : ResourceSet) → s.registers < 2 ^ 128 → s.predicates < 2 ^ 64 → s.branches < 2 ^ 8
    → count_ones s.registers + (count_ones s.predicates + count_ones s.branches)
    + ((((bool_byte s.unat + bool_byte s.pfs) + bool_byte s.lc) + bool_byte s.ec) + bool_byte s.cfm) ≡ length (resources_in s)
unfolding resources_in
count_all s r p b =
    let h : Resource → Bool = has_resource s in
    let e1 = count_numbered h Gr 128 0 s.registers r (λ m l. rw (zero-add m) (below m 128 (bit s.registers m) l)) in
    let e2 = count_numbered h Pr 64 0 s.predicates p (λ m l. rw (zero-add m) (below m 64 (bit s.predicates m) l)) in
    let e3 = count_numbered h Br 8 0 s.branches b (λ m l. rw (zero-add m) (below m 8 (bit s.branches m) l)) in
    let o5 = count_more s.cfm Cfm [] in
    let o4 = count_more s.ec Ec (filter h (Cfm ∷ [])) in
    let o3 = count_more s.lc Lc (filter h (Ec ∷ Cfm ∷ [])) in
    let o2 = count_more s.pfs Pfs (filter h (Lc ∷ Ec ∷ Cfm ∷ [])) in
    let o1 = count_more s.unat Unat (filter h (Pfs ∷ Lc ∷ Ec ∷ Cfm ∷ [])) in
    let g = filter h (numbered Gr 128 0) in
    let q = filter h (numbered Pr 64 0) in
    let k = filter h (numbered Br 8 0) in
    sum_of (count_ones s.registers) (count_ones s.predicates) (count_ones s.branches) (bool_byte s.unat) (bool_byte s.pfs) (bool_byte s.lc)
    (bool_byte s.ec) (bool_byte s.cfm)
    g q k (filter h others) e1 e2 e3 (o1 ∙ ap (λ (x : ℕ). bool_byte s.unat + x)
    (o2 ∙ ap (λ (x : ℕ). bool_byte s.pfs + x) (o3 ∙ ap (λ (x : ℕ). bool_byte s.lc + x) (o4 ∙ ap (λ (x : ℕ). bool_byte s.ec + x) o5))))
  where
    sum_of : (r p b u f l e c : ℕ) (gs ps bs os : List Resource) → length gs ≡ r → length ps ≡ p → length bs ≡ b
        → length os ≡ u + (f + (l + (e + (c + 0))))
        → r + (p + b) + ((((u + f) + l) + e) + c) ≡ length (((gs ++ ps) ++ bs) ++ os)
    sum_of r p b u f l e c gs ps bs os x y z w =
        omega (arith, length-append ((gs ++ ps) ++ bs) os, length-append (gs ++ ps) bs, length-append gs ps)
