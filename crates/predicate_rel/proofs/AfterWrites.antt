-- Which predicates are 1 after writes.
use Rattle.std.proofs.Common.{◌≡◌, ◌≢◌, ℕ, zero, suc, ◌+◌, ◌-◌, ◌%◌, ◌<◌, ◌≤◌, ◌⊎◌, inl, inr, Bool, true, false, not, ◌&&◌, ◌==◌, nat_lt, if◌then◌else◌, List, [], ◌∷◌, length, get_or, set, Option, Some, None, refl, sym, ap, ◌∙◌, arith, length-set, get_or-set_same, get_or-set_other}
use Rattle.std.specs.List.{AllByRecursion as Each}
use Rattle.std.proofs.lemmas.Bool.{cases_eq, cases_lt}
use Rattle.std.proofs.lemmas.Bool.Decides.{nat_tests}
use Rattle.ia_meaning.specs.declared.state.FrameShape.{FrameShape}
use Rattle.ia_meaning.specs.declared.turn.Turn.{Turn}
use Rattle.ia_meaning.specs.State.{Registers, IsFrame}
use Rattle.ia_meaning.specs.declared.write.Write.{Write}
use Rattle.ia_meaning.specs.declared.write.Write.TheVariants.{SetPredicate, SetLc, SetEc, SetFrame}
use Rattle.ia_meaning.specs.declared.write.FrameCause.TheVariants.{Renamed}
use Rattle.ia_meaning.specs.Writes.{put, apply}
use Rattle.ia_meaning.specs.Arithmetic.{bit}
use Rattle.ia_meaning.specs.Names.{predicate_index, holds, predicate_spot, set_predicate}
use Rattle.ia_meaning.specs.Moves.{is_masked, masked_writes, predicate_writes}
use Rattle.ia_meaning.specs.Frames.{rotated}
use Rattle.ia_meaning.specs.Loops.{written, turn_writes}
use Rattle.ia_meaning.specs.Steps.{spilled}
use Rattle.ia_meaning.proofs.WriteLists.{may_write}
use Rattle.ia_meaning.proofs.PredicateIndexes.{holds_by_place, holds_zero, holds_at_place, low_place, high_place, place_high, place_below, place_by_base}
use Rattle.rotation.proofs.Indexes.{predicates_apart}
use Rattle.predicate_rel.specs.Rules.{is_target, is_moved, name_before}
use Rattle.predicate_rel.proofs.TestTruth.{TestWritten}

-- Names and places of predicates stay.
pub record SameNames (r now : Registers) : Type 0 where
  pub pr : now.frame.rrbs.pr ≡ r.frame.rrbs.pr
  pub predicates : now.predicates ≡ r.predicates

pub same_holds : (r now : Registers) → SameNames r now → (x : ℕ) → holds now x ≡ holds r x
same_holds r now s x = holds_by_place now r x (λ n.
    ap (λ (bs : List Bool). get_or bs (predicate_index now.frame x) false) s.predicates
    ∙ ap (λ (k : ℕ). get_or r.predicates k false) (place_by_base now.frame r.frame x s.pr))

-- A write that touches no predicate and keeps their names.
abbrev pub IsPlain : ℕ → Write → Type 0
IsPlain pr (SetPredicate n b) = ⊥
IsPlain pr (SetFrame cause f) = f.rrbs.pr ≡ pr
IsPlain pr w = Unit {0}

put_plain : (pr : ℕ) (w : Write) (r : Registers) → r.frame.rrbs.pr ≡ pr → IsPlain pr w
    → ((put w r).frame.rrbs.pr ≡ pr) × ((put w r).predicates ≡ r.predicates)
put_plain pr (SetPredicate n b) r e h = absurd h
put_plain pr (SetFrame cause f) r e h = (h, refl)
put_plain pr w r e h = (e, refl)

plain_names : (pr : ℕ) (ws : List Write) (r : Registers) → r.frame.rrbs.pr ≡ pr → Each (IsPlain pr) ws
    → ((apply ws r).frame.rrbs.pr ≡ pr) × ((apply ws r).predicates ≡ r.predicates)
plain_names pr [] r e h = (e, refl)
plain_names pr (w ∷ ws) r e h =
    let one = put_plain pr w r e h.0 in
    let rest = plain_names pr ws (put w r) one.0 h.1 in
    (rest.0, rest.1 ∙ one.1)

pub apply_plain : (ws : List Write) (r : Registers) → Each (IsPlain r.frame.rrbs.pr) ws → SameNames r (apply ws r)
apply_plain ws r h = let n = plain_names r.frame.rrbs.pr ws r refl h in record { pr = n.0; predicates = n.1 }

pub spilled_names : (o : Option (ℕ × Bool)) (r : Registers) → SameNames r (spilled o r)
spilled_names None r = record { pr = refl; predicates = refl }
spilled_names (Some b) r = record { pr = refl; predicates = refl }

pub names_then : (r s t : Registers) → SameNames r s → SameNames s t → SameNames r t
names_then r s t h k = record { pr = k.pr ∙ h.pr; predicates = k.predicates ∙ h.predicates }

-- A write that touches none of p1 to p15.
abbrev pub IsHigh : Write → Type 0
IsHigh (SetPredicate n b) = 16 ≤ n
IsHigh w = Unit {0}

put_high : (w : Write) (r : Registers) (x : ℕ) → x < 16 → IsHigh w → get_or (put w r).predicates x false ≡ get_or r.predicates x false
put_high (SetPredicate n b) r x i h = get_or-set_other r.predicates n x b false (λ e. absurd (omega arith))
put_high w r x i h = refl

apply_high : (ws : List Write) (r : Registers) (x : ℕ) → x < 16 → Each IsHigh ws
    → get_or (apply ws r).predicates x false ≡ get_or r.predicates x false
apply_high [] r x i h = refl
apply_high (w ∷ ws) r x i h = apply_high ws (put w r) x i h.1 ∙ put_high w r x i h.0

pub high_holds : (ws : List Write) (r : Registers) → Each IsHigh ws → (x : ℕ) → x < 16 → holds (apply ws r) x ≡ holds r x
high_holds ws r h x i = holds_by_place (apply ws r) r x (λ n.
    ap (λ (k : ℕ). get_or (apply ws r).predicates k false) (low_place (apply ws r).frame x i)
    ∙ apply_high ws r x i h
    ∙ sym (ap (λ (k : ℕ). get_or r.predicates k false) (low_place r.frame x i)))

-- One write of a predicate.
abbrev set_one : FrameShape → ℕ → Bool → Registers → Registers
set_one f p b s = apply (set_predicate (predicate_spot f p) b []) s

one_frame : (f : FrameShape) (p : ℕ) (b : Bool) (s : Registers) → (set_one f p b s).frame ≡ s.frame
unfolding predicate_spot
one_frame f zero b s = refl
one_frame f (suc p) b s = refl

one_long : (f : FrameShape) (p : ℕ) (b : Bool) (s : Registers) → length (set_one f p b s).predicates ≡ length s.predicates
unfolding predicate_spot
one_long f zero b s = refl
one_long f (suc p) b s = length-set s.predicates (predicate_index f (suc p)) b

one_same : (f : FrameShape) (p : ℕ) (b : Bool) (s : Registers) → s.frame ≡ f → length s.predicates ≡ 64 → p ≢ 0 → p < 64
    → holds (set_one f p b s) p ≡ b
unfolding predicate_spot holds
one_same f zero b s e l i k = absurd (i refl)
one_same f (suc p) b s e l i k = rw e (get_or-set_same s.predicates (predicate_index f (suc p)) b false (rw l (place_below f (suc p) k)))

one_other : (f : FrameShape) → IsFrame f → (p : ℕ) (b : Bool) (s : Registers) → s.frame ≡ f → p < 64 → (x : ℕ) → x < 64 → x ≢ p
    → holds (set_one f p b s) x ≡ holds s x
unfolding predicate_spot holds
one_other f h zero b s e k x i n = refl
one_other f h (suc p) b s e k zero i n = refl
one_other f h (suc p) b s e k (suc x) i n =
    rw e (get_or-set_other s.predicates (predicate_index f (suc p))
    (predicate_index f (suc x)) b false (predicates_apart f h (suc x) (suc p) i k n))

one_then : (f : FrameShape) (p : ℕ) (b : Bool) (ws : List Write) (s : Registers)
    → apply (set_predicate (predicate_spot f p) b ws) s ≡ apply ws (set_one f p b s)
unfolding predicate_spot
one_then f zero b ws s = refl
one_then f (suc p) b ws s = refl

-- Which predicates are targets.
is_target_not : (p q x : ℕ) → x ≢ 0 → is_target p q x ≡ false → (x ≢ p) × (x ≢ q)
is_target_not p q x h e = ((λ z. grind (arith, nat_tests)), (λ z. grind (arith, nat_tests)))

is_target_of : (p q x : ℕ) → is_target p q x ≡ true → (x ≢ 0) × ((x ≡ p) ⊎ (x ≡ q))
is_target_of p q x e = ((λ z. grind (arith, nat_tests)), grind (arith, nat_tests))

-- The two writes of a test.
module _ (s : Registers) (p q : ℕ) (b c : Bool) (frame : IsFrame s.frame) (long : length s.predicates ≡ 64) (p_small : p < 64)
    (q_small : q < 64) (ne : p ≢ q) where
  abbrev After : Registers
  After = apply (set_predicate (predicate_spot s.frame p) b (set_predicate (predicate_spot s.frame q) c [])) s

  abbrev Mid : Registers
  Mid = set_one s.frame p b s

  after_mid : After ≡ set_one s.frame q c Mid
  after_mid = one_then s.frame p b (set_predicate (predicate_spot s.frame q) c []) s

  new_other : (x : ℕ) → x < 64 → x ≢ p → x ≢ q → holds After x ≡ holds s x
  new_other x i np nq =
      rw after_mid (one_other s.frame frame q c Mid (one_frame s.frame p b s) q_small x i nq
      ∙ one_other s.frame frame p b s refl p_small x i np)

  new_first : p ≢ 0 → holds After p ≡ b
  new_first h =
      rw after_mid (one_other s.frame frame q c Mid (one_frame s.frame p b s) q_small p p_small ne
      ∙ one_same s.frame p b s refl long h p_small)

  new_second : q ≢ 0 → holds After q ≡ c
  new_second h = rw after_mid (one_same s.frame q c Mid (one_frame s.frame p b s) (one_long s.frame p b s ∙ long) h q_small)

  others : (x : ℕ) → x < 64 → is_target p q x ≡ false → holds After x ≡ holds s x
  others zero i e = holds_zero After ∙ sym (holds_zero s)
  others (suc x) i e = let n = is_target_not p q (suc x) (λ z. absurd (omega arith)) e in new_other (suc x) i n.0 n.1

  targets : (x : ℕ) → is_target p q x ≡ true → ((x ≡ p) × (holds After x ≡ b)) ⊎ ((x ≡ q) × (holds After x ≡ c))
  targets x e = let t = is_target_of p q x e in of t.0 t.1
    where
      of : x ≢ 0 → (x ≡ p) ⊎ (x ≡ q) → ((x ≡ p) × (holds After x ≡ b)) ⊎ ((x ≡ q) × (holds After x ≡ c))
      of z (inl u) = inl (u, ap (holds After) u ∙ new_first (λ w. z (u ∙ w)))
      of z (inr u) = inr (u, ap (holds After) u ∙ new_second (λ w. z (u ∙ w)))

  pub test_written : TestWritten s p q b c After
  test_written = record { other = others; target = targets }

-- A write of a predicate under the mask of a move.
abbrev IsUnder : ℕ → Write → Type 0
IsUnder mask (SetPredicate n b) = is_masked mask n ≡ true
IsUnder mask w = ⊥

masked_under : (left n mask v : ℕ) → Each (IsUnder mask) (masked_writes left n mask v)
masked_under zero n mask v = tt
masked_under (suc left) n mask v =
    may_write (IsUnder mask) (is_masked mask n) (SetPredicate n (bit v n)) (masked_writes left (suc n) mask v) (λ t. t)
    (masked_under left (suc n) mask v)

-- What stands at the other places stays.
put_under : (mask : ℕ) (w : Write) (r : Registers) (k : ℕ) → is_masked mask k ≡ false → IsUnder mask w
    → ((put w r).frame ≡ r.frame) × (get_or (put w r).predicates k false ≡ get_or r.predicates k false)
put_under mask (SetPredicate n b) r k off on =
    (refl, get_or-set_other r.predicates n k b false (λ same. let e : is_masked mask k ≡ true = ap (is_masked mask) same ∙ on in cc))
put_under mask w r k off on = absurd on

apply_under : (mask : ℕ) (ws : List Write) (r : Registers) (k : ℕ) → is_masked mask k ≡ false → Each (IsUnder mask) ws
    → ((apply ws r).frame ≡ r.frame) × (get_or (apply ws r).predicates k false ≡ get_or r.predicates k false)
apply_under mask [] r k off h = (refl, refl)
apply_under mask (w ∷ ws) r k off h =
    let one = put_under mask w r k off h.0 in
    let rest = apply_under mask ws (put w r) k off h.1 in
    (rest.0 ∙ one.0, rest.1 ∙ one.1)

-- The mask has one bit for all predicates that rotate.
masked_place : (f : FrameShape) (mask x : ℕ) → is_masked mask (predicate_index f x) ≡ is_masked mask x
masked_place f mask x = of (cases_lt x 16)
  where
    of : (x < 16) ⊎ (16 ≤ x) → is_masked mask (predicate_index f x) ≡ is_masked mask x
    of (inl l) = ap (is_masked mask) (low_place f x l)
    of (inr g) = high_masked (predicate_index f x) (place_high f x g) ∙ sym (high_masked x g)
      where
        high_masked : (n : ℕ) → 16 ≤ n → is_masked mask n ≡ bit mask 16
        high_masked n h = let e : nat_lt n 16 ≡ false = grind (arith, nat_tests) in rw e refl

unmoved : (mask x : ℕ) → is_moved mask x ≡ false → x ≢ 0 → is_masked mask x ≡ false
unmoved mask x h n = by_test (x == 0) (is_masked mask x) refl h
  where
    by_test : (z t : Bool) → (x == 0) ≡ z → (not z && t) ≡ false → t ≡ false
    by_test true t e k = absurd (n (grind (arith, nat_tests)))
    by_test false t e k = k

-- A move leaves the predicates that aren't under its mask.
pub moved_other : (mask v : ℕ) (r : Registers) (x : ℕ) → is_moved mask x ≡ false → holds (apply (predicate_writes mask v) r) x ≡ holds r x
unfolding predicate_writes
moved_other mask v r x h = holds_by_place (apply (masked_writes 63 1 mask v) r) r x (λ n.
    let there : is_masked mask (predicate_index r.frame x) ≡ false = masked_place r.frame mask x ∙ unmoved mask x h n in
    let same = apply_under mask (masked_writes 63 1 mask v) r (predicate_index r.frame x) there (masked_under 63 1 mask v) in
    ap (λ (f : FrameShape). get_or (apply (masked_writes 63 1 mask v) r).predicates (predicate_index f x) false) same.0 ∙ same.1)

-- The registers after a rotation, where p63 was written under its old name.
pub record Turned (r : Registers) (b : Bool) (now : Registers) : Type 0 where
  pub frame : now.frame ≡ rotated r.frame
  pub predicates : now.predicates ≡ set r.predicates (predicate_index r.frame 63) b

turned_by : (lc ec : Option ℕ) (p63 : Option Bool) (rotates : Bool) (b : Bool) (f : FrameShape) (n : ℕ) (r : Registers) → p63 ≡ Some b
    → rotates ≡ true
    → ((apply (written SetLc lc (written SetEc ec (written (SetPredicate n) p63
    (if rotates then SetFrame Renamed (rotated f) ∷ [] else [])))) r).frame ≡ rotated f)
    × ((apply (written SetLc lc (written SetEc ec (written (SetPredicate n) p63
    (if rotates then SetFrame Renamed (rotated f) ∷ [] else [])))) r).predicates ≡ set r.predicates n b)
turned_by lc ec None rotates b f n r e t = absurd (cc)
turned_by lc ec (Some c) false b f n r e t = absurd (cc)
turned_by None None (Some c) true b f n r e t = (refl, ap (set r.predicates n) (let same : c ≡ b = cc in same))
turned_by None (Some k) (Some c) true b f n r e t = (refl, ap (set r.predicates n) (let same : c ≡ b = cc in same))
turned_by (Some j) None (Some c) true b f n r e t = (refl, ap (set r.predicates n) (let same : c ≡ b = cc in same))
turned_by (Some j) (Some k) (Some c) true b f n r e t = (refl, ap (set r.predicates n) (let same : c ≡ b = cc in same))

pub turned : (t : Turn) (b : Bool) (r : Registers) → t.rotates ≡ true → t.p63 ≡ Some b → Turned r b (apply (turn_writes t r.frame) r)
turned t b r rotates p63 =
    let h = turned_by t.lc t.ec t.p63 t.rotates b r.frame (predicate_index r.frame 63) r p63 rotates in
    record { frame = h.0; predicates = h.1 }

rotated_pr : (f : FrameShape) → (rotated f).rrbs.pr ≡ (f.rrbs.pr + 47) % 48
unfolding rotated
rotated_pr f = refl

-- The name before a rotation.
before_low : (p : ℕ) → p < 16 → name_before p ≡ p
before_low p h = grind (arith, nat_tests)

before_high : (p : ℕ) → 16 ≤ p → name_before p ≡ p - 1
before_high p h = grind (arith, nat_tests)

-- The place of a name after the rotation.
before_place : (f : FrameShape) → IsFrame f → (p : ℕ) → p < 64 → p ≢ 16 → predicate_index (rotated f) p ≡ predicate_index f (name_before p)
before_place f h p i n = of (cases_lt p 16)
  where
    of : (p < 16) ⊎ (16 ≤ p) → predicate_index (rotated f) p ≡ predicate_index f (name_before p)
    of (inl l) = rw (before_low p l, low_place (rotated f) p l, low_place f p l) refl
    of (inr g) =
        let k : 16 ≤ p - 1 = omega arith in
        let r = h.predicates in
        rw (before_high p g, high_place (rotated f) p g, high_place f (p - 1) k, rotated_pr f) (omega arith)

-- p16 stands where p63 stood.
last_place : (f : FrameShape) → IsFrame f → predicate_index (rotated f) 16 ≡ predicate_index f 63
last_place f h =
    let r = h.predicates in rw (high_place (rotated f) 16 (omega arith), high_place f 63 (omega arith), rotated_pr f) (omega arith)

module _ (r now : Registers) (b : Bool) (frame : IsFrame r.frame) (long : length r.predicates ≡ 64) (t : Turned r b now) where
  at_place : (x : ℕ) → x ≢ 0 → holds now x ≡ get_or (set r.predicates (predicate_index r.frame 63) b)
      (predicate_index (rotated r.frame) x) false
  at_place x n =
      holds_at_place now x n ∙ ap (λ (f : FrameShape). get_or now.predicates (predicate_index f x) false) t.frame
      ∙ ap (λ (bs : List Bool). get_or bs (predicate_index (rotated r.frame) x) false) t.predicates

  pub turned_holds : (x : ℕ) → x < 64 → x ≢ 16 → holds now x ≡ holds r (name_before x)
  turned_holds x i n = of (cases_eq x 0)
    where
      of : (x ≡ 0) ⊎ (x ≢ 0) → holds now x ≡ holds r (name_before x)
      of (inl e) = rw e (holds_zero now ∙ sym (holds_zero r))
      of (inr z) =
          let some : name_before x ≢ 0 = λ w. grind (arith, nat_tests) in
          let below : name_before x < 64 = grind (arith, nat_tests) in
          let differ : name_before x ≢ 63 = λ w. grind (arith, nat_tests) in
          at_place x z
          ∙ ap (λ (k : ℕ). get_or (set r.predicates (predicate_index r.frame 63) b) k false) (before_place r.frame frame x i n)
          ∙ get_or-set_other r.predicates (predicate_index r.frame 63)
          (predicate_index r.frame (name_before x)) b false (predicates_apart r.frame frame (name_before x) 63 below (omega arith)
          differ)
          ∙ sym (holds_at_place r (name_before x) some)

  pub turned_last : holds now 16 ≡ b
  turned_last =
      at_place 16 (λ e. absurd (omega arith))
      ∙ ap (λ (k : ℕ). get_or (set r.predicates (predicate_index r.frame 63) b) k false) (last_place r.frame frame)
      ∙ get_or-set_same r.predicates (predicate_index r.frame 63) b false (rw long (place_below r.frame 63 (omega arith)))
