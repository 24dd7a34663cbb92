-- Lists of which some items are seen as another list has them.
use Rattle.std.proofs.Common.{◌≡◌, ◌<◌, ◌+◌, ℕ, suc, Bool, List, [], ◌∷◌, ◌&&◌, ◌||◌, true, false, if◌then◌else◌, length, get_or, set, take, drop, refl, sym, ◌∙◌, ap, arith}
use Rattle.std.specs.Prelude.{◌==◌, ◌≤◌, nat_le, nat_lt}
use Rattle.std.proofs.lemmas.Bool.Decides.{nat_tests}
use Rattle.std.proofs.lemmas.List.{same_lists, places, length-set, get_or-set_same, get_or-set_other, get_or_read}
use borrow.Rule.Slice.PartMut.{put_mid}
use Rattle.ia_meaning.specs.Views.{seen_in}
use Rattle.ia_meaning.proofs.Views.{seen_at, length_seen}

either : {X : Type 0} (a b : Bool) (x y : X) → (if a then y else (if b then y else x)) ≡ (if a || b then y else x)
either true b x y = refl
either false b x y = refl

-- What is seen for one cause or another is seen for the one of what is seen for the other.
pub seen_or : {X : Type 0} (p q : ℕ → Bool) (n : ℕ) (base now : List X)
    → seen_in p n (seen_in q n base now) now ≡ seen_in (λ k. p k || q k) n base now
seen_or p q n [] now = refl
seen_or p q n (x ∷ base) [] = refl
seen_or p q n (x ∷ base) (y ∷ now) = rw (seen_or p q (suc n) base now, either (p n) (q n) x y) refl

-- A list of which each item is that of one of the two is so seen.
pub seen_by_items : {X : Type 0} (sees : ℕ → Bool) (base now list : List X) → length now ≡ length base → length list ≡ length base
    → ((k : ℕ) (d : X) → k < length base → get_or list k d ≡ (if sees k then get_or now k d else get_or base k d))
    → list ≡ seen_in sees 0 base now
seen_by_items sees base now list e l items = same_lists list (seen_in sees 0 base now) (l ∙ sym (length_seen sees 0 base now))
    (λ k d h.
    let start : 0 + k ≡ k = omega arith in
    items k d (omega arith) ∙ sym (seen_at sees 0 k base now d e ∙ ap (λ i. if sees i then get_or now k d else get_or base k d) start))

one_item : {X : Type 0} (base now : List X) (n : ℕ) (x : X) (k : ℕ) (d : X) → n < length base → x ≡ get_or now n d
    → get_or (set base n x) k d ≡ (if k == n then get_or now k d else get_or base k d)
one_item base now n x k d h e = grind (arith, nat_tests, get_or-set_same, get_or-set_other)

-- A list with one item written is the list that is seen now.
pub seen_one : {X : Type 0} (base now : List X) (n : ℕ) (x : X) → length now ≡ length base → n < length base → x ≡ get_or now n x
    → set base n x ≡ seen_in (λ k. k == n) 0 base now
seen_one base now n x e h read =
    seen_by_items (λ k. k == n) base now (set base n x) e (length-set base n x)
    (λ k d _. one_item base now n x k d h (get_or_read now n x (omega arith) read d))

part_item : {X : Type 0} (base now : List X) (a n : ℕ) (mid : List X) (k : ℕ) (d : X) → length now ≡ length base → a + n ≤ length base
    → mid ≡ take n (drop a now) → k < length base → get_or (put_mid a n base mid) k d
    ≡ (if nat_le a k && nat_lt k (a + n) then get_or now k d else get_or base k d)
part_item base now a n mid k d e h is inside = grind (arith, nat_tests, places)

-- A list with a part written is the list that is seen now.
pub seen_part : {X : Type 0} (base now : List X) (a n : ℕ) (mid : List X) → length now ≡ length base → a + n ≤ length base
    → mid ≡ take n (drop a now) → put_mid a n base mid ≡ seen_in (λ k. nat_le a k && nat_lt k (a + n)) 0 base now
seen_part base now a n mid e h is =
    seen_by_items (λ k. nat_le a k && nat_lt k (a + n)) base now (put_mid a n base mid) e (rw is (grind (arith, places)))
    (λ k d inside. part_item base now a n mid k d e h is inside)
