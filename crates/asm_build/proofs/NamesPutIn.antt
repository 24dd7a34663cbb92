-- The names of printed bundles are put in again, and give the bundles back.
use Rattle.std.proofs.Common.{◌≡◌, ◌∙◌, ℕ, ◌+◌, ◌<◌, true, false, ◌==◌, List, [], ◌∷◌, ◌++◌, Some, None, is_some, ℤ, pos, negsuc, refl, ap}
use Rattle.std.specs.Prelude.{IfSome, unwrap_or, ◌+ℤ◌, ◌-ℤ◌, ◌≤ℤ◌, ◌<ℤ◌, not, find}
use Rattle.std.specs.Option.{option_map}
use Rattle.std.proofs.lemmas.Bool.{eq-eqb, or_left, or_right}
use Rattle.std.proofs.lemmas.List.Folds.{list_any-append}
use lib.Dec.{ltb→lt}
use lib.IntN.{+ℤ_comm, +ℤ-neg_ℤ_cancel}
use Rattle.ia_insn.specs.declared.insn.Insn.{Insn}
use Rattle.ia_insn.specs.declared.insn.Op.{Op}
use Rattle.ia_insn.specs.declared.insn.Op.TheVariants as op
use Rattle.ia_insn.specs.Displacements.{displacement}
use Rattle.ia_program.specs.declared.bundle.Slots.{Slots}
use Rattle.ia_program.specs.declared.bundle.Slots.TheVariants as slots
use Rattle.ia_program.specs.Bundles.{Bundle}
use Rattle.ia_program.specs.Targets.{IsBundleAt}
use Rattle.asm_printing.specs.SlotTexts.{label_text, natural_of, target_of}
use Rattle.asm_text.specs.ReadBack.{untargeted}
use Rattle.asm_build.specs.declared.address.Address.TheVariants as address
use Rattle.asm_build.specs.declared.draft.BundleLines.{BundleLines}
use Rattle.asm_build.specs.declared.draft.SlotName.{SlotName}
use Rattle.asm_build.specs.CanonicalText.{is_among, listed_once, bundle_targets, targets_from}
use Rattle.asm_build.specs.Marks.{IsSound, AreSound}
use Rattle.asm_build.specs.Names.{addressed_by, named, is_named, put_in, slot_names, slots_named, bundle_named, bundles_named, unnamed_slot, unnamed_bundle, or_else}
use Rattle.asm_build.specs.TextParts.{Labels, address_of}
use Rattle.asm_build.proofs.UntargetedSlots.{until_named}
use Rattle.asm_build.proofs.WrittenBundles.{name_in, slots_until, HasNames, AreLinesOf}
use Rattle.asm_build.proofs.WrittenTexts.{AreAllLinesOf, AreGood}

-- The bundles of these numbers are what their labels name.
abbrev pub AreLabelled : Labels → ℕ → List ℕ → Type 0
AreLabelled labels count ns = (m : ℕ) → m < count → is_among ns m ≡ true → address_of labels (label_text m) ≡ Some (address.Bundle m)

first_labelled : (labels : Labels) (count : ℕ) (xs ys : List ℕ) → AreLabelled labels count (xs ++ ys) → AreLabelled labels count xs
first_labelled labels count xs ys h m less is = h m less (list_any-append (λ k. k == m) xs ys ∙ or_left (is_among xs m) (is_among ys m) is)

second_labelled : (labels : Labels) (count : ℕ) (xs ys : List ℕ) → AreLabelled labels count (xs ++ ys) → AreLabelled labels count ys
second_labelled labels count xs ys h m less is =
    h m less (list_any-append (λ k. k == m) xs ys ∙ or_right (is_among xs m) (is_among ys m) is)

-- The bundle of a target by its number.
natural_is : (z : ℤ) → pos 0 ≤ℤ z → pos (natural_of z) ≡ z
natural_is (pos n) h = refl
natural_is (negsuc n) h = absurd h.le

natural_below : (z : ℤ) (count : ℕ) → pos 0 ≤ℤ z → z <ℤ pos count → natural_of z < count
natural_below (pos n) count h less = ltb→lt n count less.lt
natural_below (negsuc n) count h less = absurd h.le

-- The distance of a target is the one between the two bundles' numbers.
distance_back : (n count : ℕ) (disp : ℤ) → IsBundleAt count n disp → pos (natural_of (pos n +ℤ disp)) -ℤ pos n ≡ disp
distance_back n count disp h = ap (λ z. z -ℤ pos n) (natural_is (pos n +ℤ disp) h.0 ∙ +ℤ_comm (pos n) disp) ∙ +ℤ-neg_ℤ_cancel disp (pos n)

found_target : (labels : Labels) (count n : ℕ) (disp : ℤ) → IsBundleAt count n disp
    → AreLabelled labels count (natural_of (pos n +ℤ disp) ∷ [])
    → address_of labels (label_text (natural_of (pos n +ℤ disp))) ≡ Some (address.Bundle (natural_of (pos n +ℤ disp)))
found_target labels count n disp inside h =
    let m = natural_of (pos n +ℤ disp) in
    h m (natural_below (pos n +ℤ disp) count inside.0 inside.1) (or_left (m == m) false (eq-eqb m m refl))

-- The operation with its displacement again.
operation_back : (labels : Labels) (count n : ℕ) (x : Op) → IfSome (displacement x) (IsBundleAt count n)
    → AreLabelled labels count (listed_once (target_of n x))
    → named labels n (untargeted x) (option_map label_text (target_of n x)) ≡ Some x
operation_back labels count n (op.ChkS unit r2 disp) inside h =
    ap (λ o. addressed_by o (op.ChkS unit r2 (pos 0)) n) (found_target labels count n disp inside h)
    ∙ ap (λ d. Some (op.ChkS unit r2 d)) (distance_back n count disp inside)
operation_back labels count n (op.ChkA clear r1 disp) inside h =
    ap (λ o. addressed_by o (op.ChkA clear r1 (pos 0)) n) (found_target labels count n disp inside h)
    ∙ ap (λ d. Some (op.ChkA clear r1 d)) (distance_back n count disp inside)
operation_back labels count n (op.Br kind wh many clr disp) inside h =
    ap (λ o. addressed_by o (op.Br kind wh many clr (pos 0)) n) (found_target labels count n disp inside h)
    ∙ ap (λ d. Some (op.Br kind wh many clr d)) (distance_back n count disp inside)
operation_back labels count n (op.BrCall b1 wh many clr disp) inside h =
    ap (λ o. addressed_by o (op.BrCall b1 wh many clr (pos 0)) n) (found_target labels count n disp inside h)
    ∙ ap (λ d. Some (op.BrCall b1 wh many clr d)) (distance_back n count disp inside)
operation_back labels count n x inside h = refl

-- What a slot's name gives.
slot_back : (labels : Labels) (count n : ℕ) (i : Insn) (name : SlotName) → IsSound count n i → name.target ≡ name_in n i
    → AreLabelled labels count (listed_once (target_of n i.op))
    → named labels n (untargeted i.op) name.target ≡ Some i.op
slot_back labels count n i name sound e h = ap (named labels n (untargeted i.op)) e ∙ operation_back labels count n i.op sound.target h

insn_back : (labels : Labels) (n : ℕ) (i : Insn) (name : SlotName) → named labels n (untargeted i.op) name.target ≡ Some i.op
    → put_in labels n (until_named i) name ≡ i
insn_back labels n i name e = ap (λ o. record { qp = i.qp; op = unwrap_or o (untargeted i.op) }) e

is_back : (labels : Labels) (n : ℕ) (i : Insn) (name : SlotName) → named labels n (untargeted i.op) name.target ≡ Some i.op
    → is_named labels n (until_named i, name) ≡ true
is_back labels n i name e = ap is_some e

-- The slots of a bundle are given back, and each name means what fits.
record SlotsBack (labels : Labels) (n : ℕ) (contents : Slots) (l : BundleLines) : Type 0 where
  pub same : slots_named labels n (slots_until contents) l ≡ contents
  pub all : find (λ s. not (is_named labels n s)) (slot_names (slots_until contents) l) ≡ None

slots_back : (labels : Labels) (count n : ℕ) (contents : Slots) (l : BundleLines) → AreSound count n contents → HasNames n contents l
    → AreLabelled labels count (bundle_targets n contents) → SlotsBack labels n contents l
slots_back labels count n (slots.Three a b c) l sound names h =
    let ta = listed_once (target_of n a.op) in
    let tb = listed_once (target_of n b.op) in
    let tc = listed_once (target_of n c.op) in
    let rest = second_labelled labels count ta (tb ++ tc) h in
    let x = slot_back labels count n a l.first sound.0 names.0 (first_labelled labels count ta (tb ++ tc) h) in
    let y = slot_back labels count n b l.second sound.1.0 names.1.0 (first_labelled labels count tb tc rest) in
    let z = slot_back labels count n c l.third sound.1.1 names.1.1 (second_labelled labels count tb tc rest) in
    record {
      same =
          ap (λ i. slots.Three i (put_in labels n (until_named b) l.second) (put_in labels n (until_named c) l.third))
          (insn_back labels n a l.first x)
          ∙ ap (λ i. slots.Three a i (put_in labels n (until_named c) l.third)) (insn_back labels n b l.second y)
          ∙ ap (λ i. slots.Three a b i) (insn_back labels n c l.third z);
      all = rw (is_back labels n a l.first x, is_back labels n b l.second y, is_back labels n c l.third z) refl;
    }
slots_back labels count n (slots.Long a b) l sound names h =
    let ta = listed_once (target_of n a.op) in
    let tb = listed_once (target_of n b.op) in
    let x = slot_back labels count n a l.first sound.0 names.0 (first_labelled labels count ta tb h) in
    let y = slot_back labels count n b l.second sound.1 names.1 (second_labelled labels count ta tb h) in
    record {
      same =
          ap (λ i. slots.Long i (put_in labels n (until_named b) l.second)) (insn_back labels n a l.first x)
          ∙ ap (λ i. slots.Long a i) (insn_back labels n b l.second y);
      all = rw (is_back labels n a l.first x, is_back labels n b l.second y) refl;
    }

-- A bundle is given back.
bundle_back : (labels : Labels) (count n : ℕ) (b : Bundle) (l : BundleLines) → AreSound count n b.slots → AreLinesOf n b l
    → AreLabelled labels count (bundle_targets n b.slots) → bundle_named labels n l ≡ b
bundle_back labels count n b l sound is h =
    let back = slots_back labels count n b.slots l sound is.names h in
    ap (λ (c : Bundle). record { template = c.template; slots = slots_named labels n c.slots l }) is.bundle
    ∙ ap (λ contents. record { template = b.template; slots = contents }) back.same

names_mean : (labels : Labels) (count n : ℕ) (b : Bundle) (l : BundleLines) → AreSound count n b.slots → AreLinesOf n b l
    → AreLabelled labels count (bundle_targets n b.slots) → unnamed_slot labels n l ≡ None
names_mean labels count n b l sound is h =
    let back = slots_back labels count n b.slots l sound is.names h in
    ap (λ (c : Bundle). option_map (λ s. s.1.line) (find (λ s. not (is_named labels n s)) (slot_names c.slots l))) is.bundle
    ∙ ap (λ o. option_map (λ s. s.1.line) o) back.all

-- The bundles from the n-th on are given back.
pub bundles_back : (labels : Labels) (count n : ℕ) (bs : List Bundle) (ls : List BundleLines) → AreGood count n bs → AreAllLinesOf n bs ls
    → AreLabelled labels count (targets_from n bs) → bundles_named labels n ls ≡ bs
bundles_back labels count n [] [] good are h = refl
bundles_back labels count n (b ∷ bs) [] good are h = absurd are
bundles_back labels count n [] (l ∷ ls) good are h = absurd are
bundles_back labels count n (b ∷ bs) (l ∷ ls) good are h =
    let here =
    bundle_back labels count n b l good.0.1 are.0 (first_labelled labels count (bundle_targets n b.slots)
    (targets_from (n + 1) bs) h) in
    let later =
    bundles_back labels count (n + 1) bs ls good.1 are.1 (second_labelled labels count (bundle_targets n b.slots)
    (targets_from (n + 1) bs) h) in
    ap (λ c. c ∷ bundles_named labels (n + 1) ls) here ∙ ap (λ cs. b ∷ cs) later

-- Each name in the bundles from the n-th on means what fits.
pub all_names_mean : (labels : Labels) (count n : ℕ) (bs : List Bundle) (ls : List BundleLines) → AreGood count n bs → AreAllLinesOf n bs ls
    → AreLabelled labels count (targets_from n bs) → unnamed_bundle labels n ls ≡ None
all_names_mean labels count n [] [] good are h = refl
all_names_mean labels count n (b ∷ bs) [] good are h = absurd are
all_names_mean labels count n [] (l ∷ ls) good are h = absurd are
all_names_mean labels count n (b ∷ bs) (l ∷ ls) good are h =
    let here =
    names_mean labels count n b l good.0.1 are.0 (first_labelled labels count (bundle_targets n b.slots) (targets_from (n + 1) bs) h) in
    let later =
    all_names_mean labels count (n + 1) bs ls good.1 are.1 (second_labelled labels count (bundle_targets n b.slots)
    (targets_from (n + 1) bs) h) in
    ap (λ o. or_else o (unnamed_bundle labels (n + 1) ls)) here ∙ later
