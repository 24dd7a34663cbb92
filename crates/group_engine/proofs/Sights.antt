-- What instructions see of the registers that steer branches.
use Rattle.std.proofs.Common.{◌≡◌, ℕ, Bool, List, true, false, ◌&&◌, if◌then◌else◌, refl, sym, ap, ◌∙◌}
use Rattle.std.specs.Prelude.{Some, None, ◌==◌, nat_le, nat_lt}
use Rattle.ia_insn.specs.declared.insn.Insn.{Insn}
use Rattle.ia_meaning.specs.declared.action.Action.{Action}
use Rattle.ia_meaning.specs.declared.action.Action.TheVariants.{JumpIndirect, Call, Return}
use Rattle.ia_meaning.specs.declared.action.CallTarget.TheVariants.{Indirect}
use Rattle.ia_meaning.specs.State.{Registers}
use Rattle.ia_meaning.specs.Names.{predicate_index}
use Rattle.ia_meaning.specs.Actions.{insn_action, is_branch}
use Rattle.ia_meaning.specs.Views.{sees_static, sees_branch, sees_pfs, seen_in, view}
use Rattle.group_engine.specs.declared.branch_inputs.BranchInputs.{BranchInputs}
use Rattle.group_engine.specs.Kept.{branch_inputs_of}
use Rattle.group_engine.specs.Views.{target_register}
use Rattle.ia_meaning.proofs.Views.{seen_none}
use Rattle.group_engine.proofs.Seen.{seen_or}

-- What has a target in a branch register sees the static predicates and that register, and no other action does.
pub static_seen : (f : Action) (b : ℕ) (base now : List Bool) → target_register f ≡ Some b
    → seen_in (λ n. nat_le 1 n && nat_lt n 16) 0 base now ≡ seen_in (sees_static f) 0 base now
static_seen (JumpIndirect b2) b base now e = refl
static_seen (Call b1 (Indirect b2)) b base now e = refl
static_seen (Return b2) b base now e = refl
static_seen f b base now e = absurd (cc)

sees_no_static : (f : Action) (n : ℕ) → target_register f ≡ None → sees_static f n ≡ false
sees_no_static (JumpIndirect b2) n e = absurd (cc)
sees_no_static (Call b1 (Indirect b2)) n e = absurd (cc)
sees_no_static (Return b2) n e = absurd (cc)
sees_no_static f n e = refl

pub static_unseen : (f : Action) (base now : List Bool) → target_register f ≡ None → base ≡ seen_in (sees_static f) 0 base now
static_unseen f base now e = sym (seen_none (sees_static f) (λ n. sees_no_static f n e) 0 base now)

pub branch_seen : (f : Action) (b : ℕ) (base now : List ℕ) → target_register f ≡ Some b
    → seen_in (λ n. n == b) 0 base now ≡ seen_in (sees_branch f) 0 base now
branch_seen (JumpIndirect b2) b base now e = let same : b ≡ b2 = cc in rw same refl
branch_seen (Call b1 (Indirect b2)) b base now e = let same : b ≡ b2 = cc in rw same refl
branch_seen (Return b2) b base now e = let same : b ≡ b2 = cc in rw same refl
branch_seen f b base now e = absurd (cc)

sees_no_branch : (f : Action) (n : ℕ) → target_register f ≡ None → sees_branch f n ≡ false
sees_no_branch (JumpIndirect b2) n e = absurd (cc)
sees_no_branch (Call b1 (Indirect b2)) n e = absurd (cc)
sees_no_branch (Return b2) n e = absurd (cc)
sees_no_branch f n e = refl

pub branch_unseen : (f : Action) (base now : List ℕ) → target_register f ≡ None → base ≡ seen_in (sees_branch f) 0 base now
branch_unseen f base now e = sym (seen_none (sees_branch f) (λ n. sees_no_branch f n e) 0 base now)

-- What it sees where it has a target, and where it has none.
pub ruleset target_sights = (static_seen, static_unseen, branch_seen, branch_unseen)

-- What a branch of an action sees of the registers that steer it, where its qualifying predicate stands at this place.
abbrev pub sighted : Action → ℕ → BranchInputs → BranchInputs → BranchInputs
sighted f place latest start = record {
  predicates = seen_in (λ n. n == place) 0 (seen_in (sees_static f) 0 start.predicates latest.predicates) latest.predicates;
  branches = seen_in (sees_branch f) 0 start.branches latest.branches;
  pfs = if sees_pfs f then latest.pfs else start.pfs;
}

-- A branch sees its qualifying predicate.
guard_seen : (f : Action) (place : ℕ) (base now : List Bool) → is_branch f ≡ true
    → seen_in (λ n. n == place) 0 base now ≡ seen_in (λ n. is_branch f && (n == place)) 0 base now
guard_seen f place base now e = rw e refl

-- What a branch sees of the registers that steer it is what the view has of them.
pub sight_is : (insn : Insn) (now base : Registers) (f : Action) (qp : ℕ) (latest : BranchInputs) → is_branch f ≡ true
    → insn_action insn ≡ f → insn.qp ≡ qp → branch_inputs_of now ≡ latest
    → sighted f (predicate_index base.frame qp) latest (branch_inputs_of base) ≡ branch_inputs_of (view insn now base)
sight_is insn now base f qp latest branch action_is qp_is latest_is =
    let place = predicate_index base.frame insn.qp in
    rw (
      ← action_is,
      ← qp_is,
      ← latest_is,
      guard_seen (insn_action insn) place
          (seen_in (sees_static (insn_action insn)) 0 base.predicates now.predicates) now.predicates (ap is_branch action_is ∙ branch),
      seen_or (λ n. is_branch (insn_action insn) && (n == place)) (sees_static (insn_action insn)) 0 base.predicates now.predicates,
    )
    refl
