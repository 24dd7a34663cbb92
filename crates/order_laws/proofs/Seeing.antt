-- The view of a clean slot agrees with the state on all that the slot accesses, so both have one effect.
use Rattle.std.proofs.Common.{ℕ, zero, suc, ◌+◌, ◌<◌, ◌≤◌, ◌≡◌, ◌≢◌, ◌⊎◌, ◌&&◌, ◌||◌, if◌then◌else◌, Bool, true, false, List, [], ◌∷◌, Some, length, take, get_or, refl, sym, ◌∙◌, ap, subst, arith, inl, inr, true≢false}
use Rattle.std.specs.Prelude.{⊤, ◌==◌, min}
use Rattle.std.proofs.lemmas.Bool.{or_left, or_right}
use Rattle.std.proofs.lemmas.Bool.Decides.{nat_tests}
use Rattle.std.proofs.lemmas.List.{ext_get_or, get_or-take, length-take}
use Rattle.ia_insn.specs.declared.insn.Insn.{Insn}
use Rattle.ia_program.specs.declared.place.Place.{Place}
use Rattle.ia_program.specs.Listed.{IsListed}
use Rattle.ia_program.specs.Programs.{Program}
use Rattle.ia_meaning.specs.declared.action.Action.{Action}
use Rattle.ia_meaning.specs.declared.action.Action.TheVariants as action
use Rattle.ia_meaning.specs.declared.action.CallTarget.TheVariants.{Direct, Indirect}
use Rattle.ia_meaning.specs.State.{Registers, Memory}
use Rattle.ia_meaning.specs.declared.write.Write.{Write as RegisterWrite}
use Rattle.ia_meaning.specs.declared.write.Write.TheVariants.{SetStatic, SetUnat}
use Rattle.ia_meaning.specs.Writes.{put, apply}
use Rattle.ia_meaning.specs.Names.{is_rotating, holds, predicate_index}
use Rattle.ia_meaning.specs.Effects.{Site, effect}
use Rattle.resource_sets.specs.declared.access.Resource.{Resource}
use Rattle.resource_sets.specs.declared.access.Resource.TheVariants.{Pr, Unat, Lc, Ec, Cfm}
use Rattle.resource_sets.specs.declared.access.Kind.{Kind}
use Rattle.resource_sets.specs.declared.access.Kind.TheVariants.{Read, BranchRead, Write, AllocWrite, LoopWrite, OrWrite, AndWrite, Spill, Fill}
use Rattle.resource_sets.specs.declared.access.Access.{Access}
use Rattle.resource_sets.specs.AccessLaws.{PredicateAt, location, location_of, SameIn, AgreesOn, Agree, HasAccess}
use Rattle.ia_meaning.specs.Actions.{is_branch, is_indirect, is_alloc, insn_action}
use Rattle.resource_sets.specs.Regularity.{HasNamedAccess, IsPredicate, IsCountOrFrame, GoesBy, IsRegular, IsInRange}
use Rattle.ia_meaning.proofs.PredicateIndexes.{holds_zero, place_some}
use Rattle.ia_meaning.proofs.Views.{seen_at, length_seen, view_plain}
use Rattle.resource_sets.proofs.Dependence.{place_same, depends}
use Rattle.resource_sets.proofs.Regularity.{regular, guards, named_accesses, in_range, agree_by}
use Rattle.ia_meaning.specs.Views.{sees_guard, sees_static, sees_predicate, sees_branch, sees_pfs, seen_in, view}
use Rattle.order_laws.specs.Agreement.{AllSeeTheStart}
use Rattle.order_laws.proofs.Untouched.{SameAt, Mem, each_mem, TouchedBy, same_apply, length_predicates, length_branches}
use Rattle.resource_sets.proofs.Locations.{predicate_at}
use Rattle.order_laws.proofs.Gathering.{joined, access_to, IsGathering, ClashesWithNone, EarlierWrite, no_clash, change_of, strict_clash, frame_same, fill_same, pr_same, read_same}

-- UNAT apart, the same writes leave the same.
pub apply_unat : (ws : List RegisterWrite) (r : Registers) (u : ℕ)
    → (x : ℕ) × (apply ws (record r { unat = u }) ≡ record (apply ws r) { unat = x })
apply_unat [] r u = (u, refl)
apply_unat (SetUnat v ∷ ws) r u = apply_unat ws (record r { unat = v }) v
apply_unat (SetStatic n c ∷ ws) r u = apply_unat ws (put (SetStatic n c) r) u
apply_unat (w ∷ ws) r u = apply_unat ws (put w r) u

-- What is seen is as earlier slots left it.
seen_here : {X : Type 0} (sees : ℕ → Bool) (k : ℕ) (base now : List X) (d : X) → length now ≡ length base → sees k ≡ true
    → get_or (seen_in sees 0 base now) k d ≡ get_or now k d
seen_here sees k base now d e h =
    let same : 0 + k ≡ k = omega arith in
    seen_at sees 0 k base now d e ∙ ap (λ i. if sees i then get_or now k d else get_or base k d) same
    ∙ ap (λ b. if b then get_or now k d else get_or base k d) h

-- A choice of two that are the same.
same_choices : {X : Type 0} (b : Bool) (x y z : X) → x ≡ z → y ≡ z → (if b then x else y) ≡ z
same_choices true x y z e f = e
same_choices false x y z e f = f

-- Lists with the same first items.
take_same : {X : Type 0} (d : X) (n : ℕ) (xs ys : List X) → length xs ≡ length ys → ((k : ℕ) → k < n → get_or xs k d ≡ get_or ys k d)
    → take n xs ≡ take n ys
take_same d n xs ys e same = ext_get_or d (take n xs) (take n ys) (length-take n xs ∙ ap (min n) e ∙ sym (length-take n ys))
    (λ k h.
    let inside : k < n = omega (arith, length-take n xs) in
    get_or-take n xs k d inside ∙ same k inside ∙ sym (get_or-take n ys k d inside))

sees_itself : (n : ℕ) → (n == n) ≡ true
sees_itself n = grind (arith, nat_tests)

-- An item that isn't seen is the start's.
seen_other : {X : Type 0} (sees : ℕ → Bool) (n k : ℕ) (base now : List X) (d : X) → sees (n + k) ≡ false
    → get_or (seen_in sees n base now) k d ≡ get_or base k d
seen_other sees n k [] now d e = refl
seen_other sees n k (x ∷ base) [] d e = refl
seen_other sees n zero (x ∷ base) (y ∷ now) d e = let same : n ≡ n + 0 = omega arith in ap (λ b. if b then y else x) (ap sees same ∙ e)
seen_other sees n (suc k) (x ∷ base) (y ∷ now) d e =
    let same : suc n + k ≡ n + suc k = omega arith in seen_other sees (suc n) k base now d (ap sees same ∙ e)

other_place : (b c : Bool) (n m : ℕ) → n ≢ m → c ≡ false → ((b && (n == m)) || c) ≡ false
other_place false c n m e k = k
other_place true c n m e k = grind (arith, nat_tests)

from_start : (sees : ℕ → Bool) (n : ℕ) → sees n ≡ false → sees (0 + n) ≡ false
from_start sees n e = let same : 0 + n ≡ n = omega arith in ap sees same ∙ e

pub all_see_the_start : AllSeeTheStart
all_see_the_start insn now base = record {
  statics = refl;
  cells = refl;
  frame = refl;
  predicates = λ n e k. seen_other (sees_predicate insn base.frame) 0 n base.predicates now.predicates false
      (from_start (sees_predicate insn base.frame) n (other_place (is_branch (insn_action insn))
      (sees_static (insn_action insn) n) n (predicate_index base.frame insn.qp) e k));
  branches =
      λ n e. seen_other (sees_branch (insn_action insn)) 0 n base.branches now.branches 0 (from_start (sees_branch (insn_action insn)) n e);
  unat = refl;
  pfs = λ e. ap (λ b. if b then now.pfs else base.pfs) e;
  lc = refl;
  ec = refl;
}

-- The qualifying predicate of a branch is as earlier slots left it.
branch_holds : (insn : Insn) (now base s : Registers) → is_branch (insn_action insn) ≡ true → length now.predicates ≡ length base.predicates
    → now.predicates ≡ s.predicates
    → (is_rotating insn.qp ≡ true → base.frame ≡ s.frame) → (q : ℕ) → insn.qp ≡ q → holds (view insn now base) q ≡ holds s q
unfolding holds
branch_holds insn now base s b l m f zero is = refl
branch_holds insn now base s b l m f (suc n) is =
    let place = predicate_index base.frame (suc n) in
    let guard : sees_guard insn base.frame place ≡ true =
    ap (λ t. t && (place == predicate_index base.frame insn.qp)) b ∙ ap (λ q. place == predicate_index base.frame q) is
    ∙ sees_itself place in
    let sees : sees_predicate insn base.frame place ≡ true =
    or_left (sees_guard insn base.frame place) (sees_static (insn_action insn) place) guard in
    seen_here (sees_predicate insn base.frame) place base.predicates now.predicates false l sees
    ∙ ap (λ (t : List Bool). get_or t place false) m
    ∙ ap (λ t. get_or s.predicates t false) (place_same base.frame s.frame (suc n) (λ r. f (ap is_rotating is ∙ r)))

-- Kinds that write.
abbrev IsWriteKind : Kind → Type 0
IsWriteKind Read = ⊥
IsWriteKind BranchRead = ⊥
IsWriteKind Fill = ⊥
IsWriteKind k = ⊤

agrees_by : (v w : Registers) (x y : ℕ) (k : Kind) (q : Resource) → (k ≡ Read → SameIn q v w) → (k ≡ BranchRead → SameIn q v w)
    → (k ≡ Fill → x ≡ y) → (IsWriteKind k → q ≡ Cfm → v.frame ≡ w.frame) → AgreesOn v w x y k q
agrees_by v w x y Read q r b f c = r refl
agrees_by v w x y BranchRead q r b f c = b refl
agrees_by v w x y Fill q r b f c = f refl
agrees_by v w x y Write Cfm r b f c = c tt refl
agrees_by v w x y Write q r b f c = tt
agrees_by v w x y AllocWrite Cfm r b f c = c tt refl
agrees_by v w x y AllocWrite q r b f c = tt
agrees_by v w x y LoopWrite Cfm r b f c = c tt refl
agrees_by v w x y LoopWrite q r b f c = tt
agrees_by v w x y OrWrite Cfm r b f c = c tt refl
agrees_by v w x y OrWrite q r b f c = tt
agrees_by v w x y AndWrite Cfm r b f c = c tt refl
agrees_by v w x y AndWrite q r b f c = tt
agrees_by v w x y Spill Cfm r b f c = c tt refl
agrees_by v w x y Spill q r b f c = tt

module _ (p : Program) (past : List Place) (base : Registers) (ws : List RegisterWrite) (u : ℕ) (j : Insn)
    (way : IsGathering p past base ws u) (clean : ClashesWithNone p past j (joined base ws u)) (listed : IsListed j)
    (na : is_alloc (insn_action j) ≡ false) where
  abbrev S : Registers
  S = joined base ws u

  abbrev N : Registers
  N = apply ws base

  abbrev V : Registers
  V = view j N base

  apart : S ≡ record N { unat = (apply_unat ws base u).0 }
  apart = (apply_unat ws base u).1

  reg : (a : Access) → HasNamedAccess j a → IsRegular j a
  reg a h = regular j a h

  acc : (a : Access) → HasNamedAccess j a → HasAccess j a
  acc a h = named_accesses j a h

  range : (a : Access) → HasNamedAccess j a → IsInRange a.resource
  range a h = in_range j a listed (acc a h)

  qp_frame : is_rotating j.qp ≡ true → base.frame ≡ S.frame
  qp_frame r = let g = guards j in sym (frame_same p past base ws u j way clean Read 0 (acc _ (g.framed r)) tt (holds_zero S))

  plain_qp : is_branch (insn_action j) ≡ false → (q : ℕ) → j.qp ≡ q → holds base q ≡ holds S q
  plain_qp b zero e = holds_zero base ∙ sym (holds_zero S)
  plain_qp b (suc q) e =
      let g = guards j in
      let h : HasNamedAccess j (access_to (Pr j.qp) Read 0) = g.plain (rw e refl) b in
      subst (λ x. holds base x ≡ holds S x) e
      (pr_same p past base ws u j way clean j.qp 0 (acc _ h) (range _ h) (holds_zero S) (λ r. acc _ (g.framed r)))

  pub qp_same : holds V j.qp ≡ holds S j.qp
  qp_same = go (is_branch (insn_action j)) refl
    where
      go : (b : Bool) → is_branch (insn_action j) ≡ b → holds V j.qp ≡ holds S j.qp
      go false e = ap (λ (v : Registers). holds v j.qp) (view_plain j N base e) ∙ plain_qp e j.qp refl
      go true e =
          branch_holds j N base S e (length_predicates ws base) (sym (ap (λ (r : Registers). r.predicates) apart)) qp_frame j.qp refl

  pub guard_now : (g : ℕ) → (g ≡ 0) ⊎ (g ≡ j.qp) → holds V g ≡ true → holds S g ≡ true
  guard_now g (inl e) h = rw e (holds_zero S)
  guard_now g (inr e) h = ap (holds S) e ∙ sym qp_same ∙ sym (ap (holds V) e) ∙ h

  -- What it reads as most instructions do.
  reads : (a : Access) → HasNamedAccess j a → a.kind ≡ Read → holds S a.guard ≡ true → SameIn a.resource base S
  reads a h k g =
      let r = reg a h in
      read_same p past base ws u j way clean a.resource a.guard (subst (λ x. HasAccess j (access_to a.resource x a.guard)) k (acc a h))
      (range a h) g (λ f. acc _ (r.framed f))

  counts : (q : Resource) → IsCountOrFrame q → SameIn q base S → SameIn q V S
  counts Lc c h = h
  counts Ec c h = h
  counts Cfm c h = h
  counts q c h = absurd c

  branch_now : (b : ℕ) → sees_branch (insn_action j) b ≡ true → get_or V.branches b 0 ≡ get_or S.branches b 0
  branch_now b e =
      seen_here (sees_branch (insn_action j)) b base.branches N.branches 0 (length_branches ws base) e
      ∙ sym (ap (λ (r : Registers). get_or r.branches b 0) apart)

  pfs_now : sees_pfs (insn_action j) ≡ true → V.pfs ≡ S.pfs
  pfs_now e = ap (λ b. if b then N.pfs else base.pfs) e ∙ sym (ap (λ (r : Registers). r.pfs) apart)

  -- What a branch goes by.
  goes_by : (f : Action) (q : Resource) → insn_action j ≡ f → GoesBy f q → SameIn q V S
  goes_by (action.JumpIndirect b2) q is e = rw e (branch_now b2 (ap (λ f. sees_branch f b2) is ∙ sees_itself b2))
  goes_by (action.Call b1 (Indirect b2)) q is e = rw e (branch_now b2 (ap (λ f. sees_branch f b2) is ∙ sees_itself b2))
  goes_by (action.Return b2) q is (inl e) = rw e (branch_now b2 (ap (λ f. sees_branch f b2) is ∙ sees_itself b2))
  goes_by (action.Return b2) q is (inr e) = rw e (pfs_now (ap sees_pfs is))
  goes_by (action.Call b1 (Direct disp)) q is e = absurd e
  goes_by f q is e = absurd e

  plain_view : is_branch (insn_action j) ≡ false → (q : Resource) → SameIn q base S → SameIn q V S
  plain_view e q h = subst (λ v. SameIn q v S) (sym (view_plain j N base e)) h

  module _ (a : Access) (h : HasNamedAccess j a) (on : holds V a.guard ≡ true) where
    on_now : holds S a.guard ≡ true
    on_now = let r = reg a h in guard_now a.guard r.guard on

    by_read : a.kind ≡ Read → SameIn a.resource V S
    by_read k = go (is_branch (insn_action j)) refl
      where
        go : (b : Bool) → is_branch (insn_action j) ≡ b → SameIn a.resource V S
        go false e = plain_view e a.resource (reads a h k on_now)
        go true e = let r = reg a h in counts a.resource (r.branch_read e k) (reads a h k on_now)

    by_branch_read : a.kind ≡ BranchRead → SameIn a.resource V S
    by_branch_read k = go (is_branch (insn_action j)) refl
      where
        way_of : (a.resource ≡ Pr j.qp) ⊎ GoesBy (insn_action j) a.resource → SameIn a.resource V S
        way_of (inl e) = rw e qp_same
        way_of (inr e) = goes_by (insn_action j) a.resource refl e

        go : (b : Bool) → is_branch (insn_action j) ≡ b → SameIn a.resource V S
        go false e = let r = reg a h in plain_view e a.resource (reads (record a { kind = Read }) (r.reads_too e k) refl on_now)
        go true e = let r = reg a h in way_of (r.branch_goes e k)

    by_fill : a.kind ≡ Fill → u ≡ S.unat
    by_fill k =
        let r = reg a h in
        fill_same p past base ws u j way clean Fill a.guard (subst (λ q. HasAccess j (access_to q Fill a.guard)) (r.fill k)
        (subst (λ x. HasAccess j (access_to a.resource x a.guard)) k (acc a h))) tt on_now

    by_frame : (k : Kind) → a.kind ≡ k → IsWriteKind k → a.resource ≡ Cfm → V.frame ≡ S.frame
    by_frame Write k c q =
        sym (frame_same p past base ws u j way clean Write a.guard (subst (λ x. HasAccess j (access_to x Write a.guard)) q
        (subst (λ x. HasAccess j (access_to a.resource x a.guard)) k (acc a h))) tt on_now)
    by_frame AllocWrite k c q = let r = reg a h in absurd (true≢false (sym (r.alloc_write k).0 ∙ na))
    by_frame LoopWrite k c q = let r = reg a h in let e : Pr 63 ≡ Cfm = sym (r.loop_write k) ∙ q in absurd (cc)
    by_frame OrWrite k c q = let r = reg a h in absurd (subst IsPredicate q (r.or_write k))
    by_frame AndWrite k c q = let r = reg a h in absurd (subst IsPredicate q (r.and_write k))
    by_frame Spill k c q = let r = reg a h in let e : Unat ≡ Cfm = sym (r.spill k).1 ∙ q in absurd (cc)
    by_frame Read k c q = absurd c
    by_frame BranchRead k c q = absurd c
    by_frame Fill k c q = absurd c

    agrees : AgreesOn V S u S.unat a.kind a.resource
    agrees = agrees_by V S u S.unat a.kind a.resource by_read by_branch_read by_fill (by_frame a.kind refl)

  -- Where it reads each predicate, all places of predicates are as they were.
  predicates_same : holds V j.qp ≡ true → ((n : ℕ) → 1 ≤ n → n < 64 → HasAccess j (access_to (Pr n) Read j.qp))
      → base.predicates ≡ S.predicates
  predicates_same on h =
      ext_get_or false base.predicates S.predicates (sym (length_predicates ws (record base { unat = u })))
      (λ n _. sym (go n (same_apply (PredicateAt n) ws (record base { unat = u }))))
    where
      touched : (n : ℕ) (w : RegisterWrite) → Mem w ws → location w ≡ PredicateAt n → ⊥
      touched n w m t =
          let o : EarlierWrite p past base S w = each_mem (EarlierWrite p past base S) w ws way.origins m in
          let q = predicate_at base.frame o.access.resource n (o.names ∙ ap Some t) in
          let r : IsInRange (Pr q.0) = subst IsInRange q.1 o.range in
          no_clash p past base S j o.access (access_to (Pr q.0) Read j.qp) clean o.trace (h q.0 r.0 r.1) q.1
          (change_of o.access.kind o.plain) (strict_clash o.access.kind Read o.plain tt) (sym qp_same ∙ on)

      go : (n : ℕ) → TouchedBy (PredicateAt n) ws ⊎ SameAt (PredicateAt n) S (record base { unat = u })
          → SameAt (PredicateAt n) S (record base { unat = u })
      go n (inl x) = absurd (touched n x.0 x.1 x.2)
      go n (inr x) = x

  -- Nothing is written at the place of p0.
  first_kept : SameAt (PredicateAt 0) S (record base { unat = u })
  first_kept = go (same_apply (PredicateAt 0) ws (record base { unat = u }))
    where
      untouched : (w : RegisterWrite) → Mem w ws → location w ≡ PredicateAt 0 → ⊥
      untouched w m t =
          let o : EarlierWrite p past base S w = each_mem (EarlierWrite p past base S) w ws way.origins m in
          let q = predicate_at base.frame o.access.resource 0 (o.names ∙ ap Some t) in
          let r : IsInRange (Pr q.0) = subst IsInRange q.1 o.range in
          let at : location_of base.frame (Pr q.0) ≡ Some (PredicateAt 0) = ap (location_of base.frame) (sym q.1) ∙ o.names ∙ ap Some t in
          let there : predicate_index base.frame q.0 ≡ 0 = cc in
          place_some base.frame q.0 (λ e. absurd (omega (arith, r.0))) there

      go : TouchedBy (PredicateAt 0) ws ⊎ SameAt (PredicateAt 0) S (record base { unat = u })
          → SameAt (PredicateAt 0) S (record base { unat = u })
      go (inl x) = absurd (untouched x.0 x.1 x.2)
      go (inr x) = x

  -- An indirect branch sees the first sixteen predicates as earlier slots left them.
  statics_now : is_indirect (insn_action j) ≡ true → take 16 V.predicates ≡ take 16 S.predicates
  statics_now e =
      take_same false 16 V.predicates S.predicates (length_seen (sees_predicate j base.frame) 0 base.predicates N.predicates
      ∙ sym (length_predicates ws (record base { unat = u }))) each
    where
      left : (n : ℕ) → get_or N.predicates n false ≡ get_or S.predicates n false
      left n = ap (λ (r : Registers). get_or r.predicates n false) (sym apart)

      each : (n : ℕ) → n < 16 → get_or V.predicates n false ≡ get_or S.predicates n false
      each zero h =
          seen_at (sees_predicate j base.frame) 0 0 base.predicates N.predicates false (length_predicates ws base)
          ∙ same_choices (sees_predicate j base.frame 0) _ _ _ (left 0) (sym first_kept)
      each (suc n) h =
          let sees : sees_static (insn_action j) (suc n) ≡ true = rw e (grind (arith, nat_tests)) in
          seen_here (sees_predicate j base.frame) (suc n) base.predicates N.predicates false (length_predicates ws base)
          (or_right (sees_guard j base.frame (suc n)) (sees_static (insn_action j) (suc n)) sees)
          ∙ left (suc n)

  pub agree : Agree j V S u S.unat
  agree = agree_by j V S u S.unat (λ a h on. agrees a h on)
      (λ b on h. ap (λ (r : Registers). r.predicates) (view_plain j N base b) ∙ predicates_same on h)
      (λ e on h. statics_now e)

  pub same_effect : (site : Site) (m : Memory) → effect site j V m u ≡ effect site j S m S.unat
  same_effect site m = depends site j V S m u S.unat agree
