-- What slots see where their group runs all at once.
use Rattle.std.proofs.Common.{ℕ, zero, suc, ◌+◌, ◌≡◌, ◌&&◌, ◌||◌, if◌then◌else◌, Bool, true, false, List, [], ◌∷◌, length, get_or, refl, sym, ◌∙◌, ap, arith, true≢false}
use Rattle.std.specs.Prelude.{◌==◌}
use Rattle.ia_insn.specs.declared.insn.Insn.{Insn}
use Rattle.ia_meaning.specs.declared.state.FrameShape.{FrameShape}
use Rattle.ia_meaning.specs.declared.action.Action.{Action}
use Rattle.ia_meaning.specs.declared.action.Action.TheVariants as action
use Rattle.ia_meaning.specs.State.{Registers}
use Rattle.ia_meaning.specs.Names.{predicate_index}
use Rattle.ia_meaning.specs.Actions.{is_branch, insn_action}
use Rattle.ia_meaning.specs.Views.{sees_static, sees_predicate, sees_branch, sees_pfs, seen_in, view}

-- Where nothing is seen the list is the start's.
pub seen_none : {X : Type 0} (sees : ℕ → Bool) → ((n : ℕ) → sees n ≡ false) → (n : ℕ) (base now : List X) → seen_in sees n base now ≡ base
seen_none sees h n [] now = refl
seen_none sees h n (x ∷ base) [] = refl
seen_none sees h n (x ∷ base) (y ∷ now) = rw (h n, seen_none sees h (suc n) base now) refl

same_choice : {X : Type 0} (b : Bool) (d : X) → d ≡ (if b then d else d)
same_choice true d = refl
same_choice false d = refl

-- An item of the list is that of one of the two.
pub seen_at : {X : Type 0} (sees : ℕ → Bool) (n k : ℕ) (base now : List X) (d : X) → length now ≡ length base
    → get_or (seen_in sees n base now) k d ≡ (if sees (n + k) then get_or now k d else get_or base k d)
seen_at sees n k [] [] d e = same_choice (sees (n + k)) d
seen_at sees n k [] (y ∷ now) d e = absurd (omega arith)
seen_at sees n k (x ∷ base) [] d e = absurd (omega arith)
seen_at sees n zero (x ∷ base) (y ∷ now) d e = let same : n + 0 ≡ n = omega arith in rw same refl
seen_at sees n (suc k) (x ∷ base) (y ∷ now) d e =
    let same : n + suc k ≡ suc n + k = omega arith in
    seen_at sees (suc n) k base now d (omega arith) ∙ ap (λ i. if sees i then get_or now k d else get_or base k d) (sym same)

-- There are as many as at the start.
pub length_seen : {X : Type 0} (sees : ℕ → Bool) (n : ℕ) (base now : List X) → length (seen_in sees n base now) ≡ length base
length_seen sees n [] now = refl
length_seen sees n (x ∷ base) [] = refl
length_seen sees n (x ∷ base) (y ∷ now) = ap suc (length_seen sees (suc n) base now)

-- What is no branch sees nothing of earlier slots.
sees_no_branch : (f : Action) (b : ℕ) → is_branch f ≡ false → sees_branch f b ≡ false
sees_no_branch (action.JumpIndirect b2) b e = absurd (true≢false e)
sees_no_branch (action.Call b1 callee) b e = absurd (true≢false e)
sees_no_branch (action.Return b2) b e = absurd (true≢false e)
sees_no_branch f b e = refl

sees_no_pfs : (f : Action) → is_branch f ≡ false → sees_pfs f ≡ false
sees_no_pfs (action.Return b2) e = absurd (true≢false e)
sees_no_pfs f e = refl

sees_no_static : (f : Action) (n : ℕ) → is_branch f ≡ false → sees_static f n ≡ false
sees_no_static (action.JumpIndirect b2) n e = absurd (true≢false e)
sees_no_static (action.Call b1 callee) n e = absurd (true≢false e)
sees_no_static (action.Return b2) n e = absurd (true≢false e)
sees_no_static f n e = refl

sees_no_predicate : (insn : Insn) (f : FrameShape) (n : ℕ) → is_branch (insn_action insn) ≡ false → sees_predicate insn f n ≡ false
sees_no_predicate insn f n e =
    ap (λ b. (b && (n == predicate_index f insn.qp)) || sees_static (insn_action insn) n) e ∙ sees_no_static (insn_action insn) n e

-- An instruction other than a branch sees the registers of the start.
pub view_plain : (insn : Insn) (now base : Registers) → is_branch (insn_action insn) ≡ false → view insn now base ≡ base
view_plain insn now base e =
    let predicates =
    seen_none (sees_predicate insn base.frame) (λ n. sees_no_predicate insn base.frame n e) 0 base.predicates now.predicates in
    let branches = seen_none (sees_branch (insn_action insn)) (λ n. sees_no_branch (insn_action insn) n e) 0 base.branches now.branches in
    let pfs = ap (λ b. if b then now.pfs else base.pfs) (sees_no_pfs (insn_action insn) e) in
    ap (λ l. record base {
      predicates = l;
      branches = seen_in (sees_branch (insn_action insn)) 0 base.branches now.branches;
      pfs = if sees_pfs (insn_action insn) then now.pfs else base.pfs;
    }) predicates
    ∙ ap (λ l. record base { branches = l; pfs = if sees_pfs (insn_action insn) then now.pfs else base.pfs }) branches
    ∙ ap (λ x. record base { pfs = x }) pfs
