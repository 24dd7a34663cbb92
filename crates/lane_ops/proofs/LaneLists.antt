-- What operations on vectors leave, lane by lane.
use Rattle.std.proofs.Common.{◌≡◌, refl, sym, ap, subst, ◌∙◌, ℕ, ℤ, zero, suc, ◌+◌, ◌-◌, ◌*◌, ◌%◌, ◌^◌, ◌<◌, ◌≤◌, Bool, true, false, cond, ltb, nat_lt, length, List, [], ◌∷◌, map, replicate, arith}
use Rattle.std.specs.Prelude.{int_lt, pos, negsuc, if◌then◌else◌}
use Rattle.std.specs.Simd.Lanes.{zip2, sel_l, top, Each1}
use Rattle.std.proofs.lemmas.Bool.{ltb-true, ltb-false, lt-ltb, le-ltb, ltb_from_iff}
use Rattle.std.proofs.lemmas.Simd.{tops_compared, zip2_splat, length-zip2, length-replicate, below_from_Fits}
use Rattle.std.proofs.Math.Nat.{mod-eq_of_lt, add-mod_left}
use mir.Syntax.{Width}
use mir.Val.{bits, hbits, Fits}

-- Two functions that agree on the lanes.
alike : (f g : ℕ → ℕ → ℕ) (most : ℕ) → ((x y : ℕ) → x < most → y < most → f x y ≡ g x y) → (xs ys : List ℕ) → Each1 (λ x. x < most) xs
    → Each1 (λ y. y < most) ys → zip2 f xs ys ≡ zip2 g xs ys
alike f g most same [] ys a b = refl
alike f g most same (x ∷ xs) [] a b = refl
alike f g most same (x ∷ xs) (y ∷ ys) a b = rw (same x y a.0 b.0, alike f g most same xs ys a.1 b.1) refl

zip2-maps : (f : ℕ → ℕ → ℕ) (g h : ℕ → ℕ) (xs ys : List ℕ) → zip2 f (map g xs) (map h ys) ≡ zip2 (λ x y. f (g x) (h y)) xs ys
zip2-maps f g h [] ys = refl
zip2-maps f g h (x ∷ xs) [] = refl
zip2-maps f g h (x ∷ xs) (y ∷ ys) = ap (λ zs. f (g x) (h y) ∷ zs) (zip2-maps f g h xs ys)

-- Of two vectors to each lane of which k was put.
zip2-splats : (f g : ℕ → ℕ → ℕ) (k n : ℕ) (xs ys : List ℕ) → length xs ≡ n → length ys ≡ n
    → zip2 f (zip2 g xs (replicate n k)) (zip2 g ys (replicate n k)) ≡ zip2 (λ x y. f (g x k) (g y k)) xs ys
zip2-splats f g k n xs ys a b = rw (zip2_splat g xs n k a, zip2_splat g ys n k b) (zip2-maps f (λ x. g x k) (λ y. g y k) xs ys)

zip2-turn : (f : ℕ → ℕ → ℕ) (xs ys : List ℕ) → zip2 f ys xs ≡ zip2 (λ x y. f y x) xs ys
zip2-turn f [] [] = refl
zip2-turn f [] (y ∷ ys) = refl
zip2-turn f (x ∷ xs) [] = refl
zip2-turn f (x ∷ xs) (y ∷ ys) = ap (λ zs. f y x ∷ zs) (zip2-turn f xs ys)

picked : (t : ℕ → ℕ → Bool) (p q n : ℕ) (xs ys : List ℕ) → length xs ≡ n → length ys ≡ n
    → sel_l (zip2 t xs ys) (replicate n p) (replicate n q) ≡ zip2 (λ x y. cond (t x y) p q) xs ys
picked t p q zero [] ys a b = refl
picked t p q (suc n) [] ys a b = absurd (omega (arith, a))
picked t p q n (x ∷ xs) [] a b = refl
picked t p q zero (x ∷ xs) (y ∷ ys) a b = absurd (omega (arith, a))
picked t p q (suc n) (x ∷ xs) (y ∷ ys) a b = ap (λ zs. cond (t x y) p q ∷ zs) (picked t p q n xs ys (omega (arith, a)) (omega (arith, b)))

-- Ones in the lanes where a comparison holds.
pub compared : (w : Width) (t : ℕ → ℕ → Bool) (n : ℕ) (xs ys : List ℕ) → length xs ≡ n → length ys ≡ n
    → sel_l (map (top (hbits w)) (zip2 (λ x y. cond (t x y) (2 ^ bits w - 1) 0) xs ys)) (replicate n (2 ^ bits w - 1)) (replicate n 0)
    ≡ zip2 (λ x y. cond (t x y) (2 ^ bits w - 1) 0) xs ys
compared w t n xs ys a b =
    ap (λ ms. sel_l ms (replicate n (2 ^ bits w - 1)) (replicate n 0)) (tops_compared w t xs ys) ∙ picked t (2 ^ bits w - 1) 0 n xs ys a b

-- A difference that wraps.
pub differences : (w : Width) (xs ys : List ℕ) → Each1 (Fits w) xs → Each1 (Fits w) ys
    → zip2 (λ x y. (x + (2 ^ bits w - y)) % 2 ^ bits w) xs ys ≡ zip2 (λ x y. (x + 2 ^ bits w - y) % 2 ^ bits w) xs ys
differences w xs ys a b =
    alike _ _ (2 ^ bits w) (λ x y h k. ap (λ n. n % 2 ^ bits w) (let e : x + (2 ^ bits w - y) ≡ x + 2 ^ bits w - y = omega (arith, k) in e))
    xs ys (below_from_Fits w xs a) (below_from_Fits w ys b)

-- Half of the room is put to a number.
half-put : (h x : ℕ) → x < 2 * h → (x + h) % (2 * h) ≡ (if nat_lt x h then x + h else x - h)
half-put h x below = by (nat_lt x h) refl
  where
    by : (b : Bool) → nat_lt x h ≡ b → (x + h) % (2 * h) ≡ (if b then x + h else x - h)
    by true e = let l : x < h = ltb-true _ _ e in mod-eq_of_lt (let b : x + h < 2 * h = omega (arith, l) in b)
    by false e =
        let g : h ≤ x = ltb-false _ _ e in
        let split : x + h ≡ 2 * h + (x - h) = omega (arith, g) in
        ap (λ n. n % (2 * h)) split ∙ add-mod_left (2 * h) (x - h) ∙ mod-eq_of_lt (let b : x - h < 2 * h = omega (arith, below, g) in b)

-- The number below 2 * h that these bits are, as a signed one.
abbrev signed_by : ℕ → ℕ → ℤ
signed_by h n = if nat_lt n h then pos n else negsuc (2 * h - suc n)

-- The order of signed numbers is that of the numbers to which half of the room is put.
order : (h x y : ℕ) → x < 2 * h → y < 2 * h → ltb ((y + h) % (2 * h)) ((x + h) % (2 * h)) ≡ int_lt (signed_by h y) (signed_by h x)
order h x y a b = rw (half-put h x a, half-put h y b) (by (nat_lt x h) (nat_lt y h) refl refl)
  where
    by : (p q : Bool) → nat_lt x h ≡ p → nat_lt y h ≡ q → ltb (if q then y + h else y - h) (if p then x + h else x - h)
        ≡ int_lt (if q then pos y else negsuc (2 * h - suc y)) (if p then pos x else negsuc (2 * h - suc x))
    by true true e f =
        sym (ltb_from_iff {m = y + h} {n = x + h} (λ t. let l = ltb-true y x t in omega (arith, l), λ l. lt-ltb y x (omega (arith, l))))
    by true false e f = let l = ltb-true _ _ e in let g = ltb-false _ _ f in lt-ltb _ _ (omega (arith, b, g))
    by false true e f = let g = ltb-false _ _ e in le-ltb _ _ (omega (arith, a, g))
    by false false e f =
        let g = ltb-false _ _ e in
        let k = ltb-false _ _ f in
        sym (ltb_from_iff {m = y - h} {n = x - h} (
          λ t. let l = ltb-true (2 * h - suc x) (2 * h - suc y) t in omega (arith, l, a, b, g, k),
          λ l. lt-ltb (2 * h - suc x) (2 * h - suc y) (omega (arith, l, a, b, g, k)),
        ))

-- Ones in the lanes of the first vector that are greater as signed numbers.
pub greater : (w : Width) (h n : ℕ) (xs ys : List ℕ) → 2 * h ≡ 2 ^ bits w → (length xs ≡ n) × Each1 (Fits w) xs
    → (length ys ≡ n) × Each1 (Fits w) ys
    → sel_l (map (top (hbits w)) (zip2 (λ y x. cond (ltb y x) (2 ^ bits w - 1) 0) (zip2 (λ y k. (y + k) % (2 * h)) ys (replicate n h))
    (zip2 (λ x k. (x + k) % (2 * h)) xs (replicate n h)))) (replicate n (2 ^ bits w - 1)) (replicate n 0)
    ≡ zip2 (λ x y. cond (int_lt (signed_by h y) (signed_by h x)) (2 ^ bits w - 1) 0) xs ys
greater w h n xs ys e a b =
    let put = λ (x k : ℕ). (x + k) % (2 * h) in
    let ones = 2 ^ bits w - 1 in
    let long = λ (zs : List ℕ) (l : length zs ≡ n). length-zip2 put zs (replicate n h) (l ∙ sym (length-replicate n h)) ∙ l in
    let below = λ (zs : List ℕ) (f : Each1 (Fits w) zs). subst (λ m. Each1 (λ z. z < m) zs) (sym e) (below_from_Fits w zs f) in
    compared w ltb n (zip2 put ys (replicate n h)) (zip2 put xs (replicate n h)) (long ys b.0) (long xs a.0)
    ∙ zip2-splats (λ y x. cond (ltb y x) ones 0) put h n ys xs b.0 a.0
    ∙ zip2-turn (λ y x. cond (ltb (put y h) (put x h)) ones 0) xs ys
    ∙ alike _ _ (2 * h) (λ x y l m. ap (λ t. cond t ones 0) (order h x y l m)) xs ys (below xs a.1) (below ys b.1)
