-- The instructions of a loose text with their targets put in, as the sequence and as the program have them.
use Rattle.std.proofs.Common.{arith, ◌≡◌, ℕ, zero, suc, ◌+◌, ◌<◌, refl, sym, ◌∙◌, ap, subst, ℤ, pos, ◌+ℤ◌, ◌-ℤ◌, List, [], ◌∷◌, length, Option, Some, None, slice_get, nat_abs}
use Rattle.std.specs.Prelude.{unwrap_or, ◌↔◌, ◌≢◌, is_some, true, IfSome}
use Rattle.std.proofs.Math.IntN.{+ℤ_comm, -ℤ-+ℤ_cancel}
use Rattle.std.proofs.lemmas.Option.{slice_get_within}
use Rattle.ia_insn.specs.declared.insn.Insn.{Insn}
use Rattle.ia_insn.specs.declared.insn.Op.{Op}
use Rattle.ia_insn.specs.declared.insn.Op.TheVariants as op
use Rattle.ia_insn.specs.declared.choices.BranchKind.TheVariants as branch
use Rattle.ia_program.specs.declared.place.Place.{Place}
use Rattle.ia_program.specs.Bundles.{slot_insn}
use Rattle.ia_program.specs.Places.{bundle_insn, insn_at}
use Rattle.ia_program.specs.Listed.{IsListed}
use Rattle.ia_program.specs.Programs.{IsCall}
use Rattle.ia_meaning.specs.Actions.{action_of}
use Rattle.ia_meaning.specs.Sequence.{first_of}
use Rattle.predicate_rel.specs.Edges.{displacement_of, target_at}
use Rattle.predicate_rel.proofs.EdgeEnds.{same_displacement}
use Rattle.slot_layouts.specs.Filled.{filled}
use Rattle.asm_build.specs.declared.address.Address.{Address}
use Rattle.asm_build.specs.declared.address.Address.TheVariants.{Bundle, Byte}
use Rattle.asm_build.specs.Addresses.{addressed}
use Rattle.loose_items.specs.declared.item.Item.{Item}
use Rattle.loose_text.specs.LooseTexts.{Loose, IsLoose, IsTargetOf, BreaksAt}
use Rattle.bundling.specs.Chunk.{Chunk}
use Rattle.bundling.specs.Chunks.{AreChunks}
use Rattle.bundling.specs.Bundled.{relocated, put_in, targeted_from, targeted, layout_of, place_of, bundles_from}
use Rattle.bundling.proofs.Lists.{element}
use Rattle.bundling.proofs.Locating.{AreLayouts, part_of, IsAt, put_at, in_chunk, bundle_at, in_bundle, placed, part_there}

-- The instruction of an item that counts as f n.
abbrev pub put : (ℕ → ℕ) → ℕ → Item → Option Address → Insn
put f n item target = record { qp = item.insn.qp; op = put_in f (f n) item.insn.op target }

pub length-targeted : (f : ℕ → ℕ) (n : ℕ) (items : List Item) (targets : List (Option Address)) → length targets ≡ length items
    → length (targeted_from f n items targets) ≡ length items
length-targeted f n [] targets same = refl
length-targeted f n (item ∷ items) [] same = absurd (omega arith)
length-targeted f n (item ∷ items) (target ∷ targets) same = ap suc (length-targeted f (n + 1) items targets (omega arith))

targeted_at : (f : ℕ → ℕ) (first n : ℕ) (items : List Item) (targets : List (Option Address)) (item : Item) (target : Option Address)
    → slice_get items n ≡ Some item → slice_get targets n ≡ Some target
    → slice_get (targeted_from f first items targets) n ≡ Some (put f (first + n) item target)
targeted_at f first n [] targets item target there aim = absurd (cc)
targeted_at f first n (x ∷ items) [] item target there aim = absurd (cc)
targeted_at f first zero (x ∷ items) (y ∷ targets) item target there aim =
    let number : first ≡ first + 0 = omega arith in
    let one : x ≡ item = cc in
    let two : y ≡ target = cc in
    ap (λ (n : ℕ). Some (put f n x y)) number ∙ ap (λ (x : Item). Some (put f (first + 0) x y)) one
    ∙ ap (λ (y : Option Address). Some (put f (first + 0) item y)) two
targeted_at f first (suc n) (x ∷ items) (y ∷ targets) item target there aim =
    let number : first + 1 + n ≡ first + suc n = omega arith in
    targeted_at f (first + 1) n items targets item target there aim ∙ ap (λ (n : ℕ). Some (put f n item target)) number

-- The n-th instruction, and what it is with its target put in.
pub record IsItemAt (s : Loose) (n : ℕ) : Type 0 where
  pub item : Item
  pub target : Option Address
  pub there : slice_get s.items n ≡ Some item
  pub aim : slice_get s.targets n ≡ Some target
  pub listed : IsListed item.insn
  pub aimed : IsTargetOf s.items item.insn.op target
  pub put_in : (f : ℕ → ℕ) → slice_get (targeted f s) n ≡ Some (put f n item target)

pub item_at : (s : Loose) (n : ℕ) → IsLoose s → n < length s.items → IsItemAt s n
item_at s n loose less =
    let same = loose.targets in
    let one = element s.items n less in
    let two = element s.targets n (omega arith) in
    let number : 0 + n ≡ n = omega arith in
    record {
      item = one.0;
      target = two.0;
      there = one.1;
      aim = two.1;
      listed = subst (λ (o : Option Item). IfSome o (λ i. IsListed i.insn)) one.1 (loose.listed n);
      aimed = subst (λ (o : Option (Option Address)). IfSome o (IsTargetOf s.items one.0.insn.op)) two.1
          (subst (λ (o : Option Item). IfSome o (λ i. IfSome (slice_get s.targets n) (IsTargetOf s.items i.insn.op))) one.1
          (loose.named n));
      put_in = λ f. targeted_at f 0 n s.items s.targets one.0 two.0 one.1 two.1 ∙ ap (λ (n : ℕ). Some (put f n one.0 two.0)) number;
    }

-- There are as many of them as items.
pub within_items : (s : Loose) (f : ℕ → ℕ) (n : ℕ) (i : Insn) → IsLoose s → slice_get (targeted f s) n ≡ Some i → n < length s.items
within_items s f n i loose there =
    subst (λ m. n < m) (length-targeted f 0 s.items s.targets loose.targets) (slice_get_within (targeted f s) n i there)

-- What stands at a slot of a bundle is what its layout puts there.
pub insn_there : (cs : List Chunk) (insns : List Insn) (k slot : ℕ) (c : Chunk) → slice_get cs k ≡ Some c
    → insn_at (bundles_from cs insns) (in_bundle k slot) ≡ slot_insn (filled (layout_of c).0 (layout_of c).1 (part_of cs k c insns)).slots
    slot
unfolding insn_at
insn_there cs insns k slot c there = ap (λ o. bundle_insn o slot) (bundle_at cs insns k c there)

-- Each instruction stands at its place.
pub stands : AreLayouts → (cs : List Chunk) (items : List Item) (insns : List Insn) (n k j : ℕ) (c : Chunk) (i : Insn) → AreChunks cs items
    → IsAt cs n k j c
    → slice_get insns n ≡ Some i → insn_at (bundles_from cs insns) (place_of cs n) ≡ Some i
stands laws cs items insns n k j c i are at there =
    let put = put_at laws cs items k c are at.there in
    let place = placed laws cs items n k j c are at in
    let laid = laws.holds c.wanted c.end (layout_of c).0 (layout_of c).1 (part_of cs k c insns) put.laid in
    ap (insn_at (bundles_from cs insns)) place.place
    ∙ insn_there cs insns k place.slot c at.there
    ∙ laid.holds j place.slot i place.there (part_there cs insns n k j c at ∙ there)

pub has_instructions : AreLayouts → (s : Loose) (cs : List Chunk) (f : ℕ → ℕ) (n : ℕ) → IsLoose s → AreChunks cs s.items
    → n < length s.items
    → insn_at (bundles_from cs (targeted f s)) (place_of cs n) ≡ slice_get (targeted f s) n
has_instructions laws s cs f n loose are less =
    let one = in_chunk cs s.items n are less in
    let there = (item_at s n loose less).put_in f in
    stands laws cs s.items (targeted f s) n one.bundle one.offset one.chunk _ are one.at there ∙ sym there

-- A call stays one.
call_addressed : (x : Op) (a : Address) (n : ℕ) → IsCall x ↔ IsCall (unwrap_or (addressed x a n) x)
call_addressed (op.ChkS unit r2 disp) (Bundle m) n = ((λ h. h), (λ h. h))
call_addressed (op.ChkA clear r1 disp) (Bundle m) n = ((λ h. h), (λ h. h))
call_addressed (op.Br kind wh many clr disp) (Bundle m) n = ((λ h. h), (λ h. h))
call_addressed (op.BrCall b1 wh many clr disp) (Bundle m) n = ((λ h. h), (λ h. h))
call_addressed (op.Movl r1 imm) (Bundle m) n = ((λ h. h), (λ h. h))
call_addressed (op.Movl r1 imm) (Byte at) n = ((λ h. h), (λ h. h))
call_addressed x a n = ((λ h. h), (λ h. h))

pub call_put : (f : ℕ → ℕ) (own : ℕ) (x : Op) (target : Option Address) → IsCall x ↔ IsCall (put_in f own x target)
call_put f own x None = ((λ h. h), (λ h. h))
call_put f own x (Some a) = call_addressed x (relocated f a) own

-- A target leads to an instruction that begins a bundle, by whatever it counts.
pub record LeadsTo (items : List Item) (x : Op) (target : Option Address) : Type 0 where
  pub number : ℕ
  pub begins : BreaksAt items number
  pub leads : (f : ℕ → ℕ) (own : ℕ) → target_at own (displacement_of (action_of (put_in f own x target))) ≡ Some (first_of (f number))

leads_back : (m own : ℕ) → target_at own (Some (pos m -ℤ pos own)) ≡ Some (first_of m)
leads_back m own =
    let back : pos own +ℤ (pos m -ℤ pos own) ≡ pos m = +ℤ_comm (pos own) (pos m -ℤ pos own) ∙ -ℤ-+ℤ_cancel (pos m) (pos own) in
    ap (λ (z : ℤ). Some (first_of (nat_abs z))) back

leads_on : (x : Op) (m own named by : ℕ) (place : Place) → is_some (addressed x (Bundle named) by) ≡ true
    → target_at own (displacement_of (action_of (unwrap_or (addressed x (Bundle m) own) x))) ≡ Some place
    → (n other : ℕ) → target_at other (displacement_of (action_of (unwrap_or (addressed x (Bundle n) other) x))) ≡ Some (first_of n)
leads_on (op.ChkS unit r2 disp) m own named by place some leads n other = leads_back n other
leads_on (op.ChkA clear r1 disp) m own named by place some leads n other = leads_back n other
leads_on (op.Br branch.Cond wh many clr disp) m own named by place some leads n other = leads_back n other
leads_on (op.Br kind wh many clr disp) m own named by place some leads n other = leads_back n other
leads_on (op.BrCall b1 wh many clr disp) m own named by place some leads n other = leads_back n other
leads_on (op.Movl r1 imm) m own named by place some leads n other = absurd (cc)
leads_on x m own named by place some leads n other = absurd (cc)

leads_nowhere : (x : Op) (at own : ℕ) (place : Place) → is_some (addressed x (Byte at) own) ≡ true
    → target_at own (displacement_of (action_of (unwrap_or (addressed x (Byte at) own) x))) ≢ Some place
leads_nowhere (op.Movl r1 imm) at own place some leads = cc
leads_nowhere x at own place some leads = cc

pub leads_to : (items : List Item) (x : Op) (target : Option Address) (f : ℕ → ℕ) (own : ℕ) (place : Place) → IsTargetOf items x target
    → target_at own (displacement_of (action_of (put_in f own x target))) ≡ Some place → LeadsTo items x target
leads_to items x None f own place aimed leads =
    let none : displacement_of (action_of x) ≡ None = same_displacement x ∙ aimed in
    let nowhere : target_at own None ≡ Some place = subst (λ o. target_at own o ≡ Some place) none leads in absurd (cc)
leads_to items x (Some (Bundle m)) f own place (some, begins) leads =
    record { number = m; begins = begins; leads = λ g other. leads_on x (f m) own m own place (some own) leads (g m) other }
leads_to items x (Some (Byte at)) f own place (some, small) leads = absurd (leads_nowhere x at own place (some own) leads)
