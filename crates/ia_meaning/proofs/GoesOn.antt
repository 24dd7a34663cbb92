-- How a run goes on after an effect.
use Rattle.std.proofs.Common.{◌≡◌, ℕ, zero, suc, Bool, List, Option, Some, None, Result, Ok, take, refl, sym, subst, arith}
use Rattle.std.specs.Prelude.{⊤, ℤ, IfSome, IfOk}
use Rattle.ia_insn.specs.declared.registers.Ar.{Ar}
use Rattle.ia_insn.specs.declared.registers.Ar.TheVariants.{Pfs}
use Rattle.ia_insn.specs.declared.insn.Op.{Op}
use Rattle.ia_insn.specs.declared.insn.Insn.{Insn}
use Rattle.ia_insn.specs.Displacements.{displacement}
use Rattle.ia_program.specs.declared.ending.FaultKind.{FaultKind}
use Rattle.ia_program.specs.declared.place.Place.{Place}
use Rattle.ia_program.specs.Runs.{IsLeaving}
use Rattle.ia_meaning.specs.declared.next.Next.{Next}
use Rattle.ia_meaning.specs.declared.next.Next.TheVariants.{Falls, Goes}
use Rattle.ia_meaning.specs.declared.action.CallTarget.TheVariants.{Direct, Indirect}
use Rattle.ia_meaning.specs.State.{Registers, Memory}
use Rattle.ia_meaning.specs.Outcomes.{Outcome}
use Rattle.ia_meaning.specs.Landings.{target_of}
use Rattle.ia_meaning.specs.declared.action.Action.{Action}
use Rattle.ia_meaning.specs.declared.action.Action.TheVariants.{Test, ToApplication, CheckNat, CheckAlat, Jump, JumpIndirect, Loop, Call, Return}
use Rattle.ia_meaning.specs.Actions.{action_of, moved}
use Rattle.ia_meaning.specs.Effects.{Site, act, guarded, effect}
use Rattle.ia_meaning.specs.Names.{holds}
use Rattle.ia_meaning.specs.Steps.{settled}
use Rattle.ia_meaning.proofs.Inversions.{ApplicationCases, ActCases, SkipCases, guarded_cases}

-- Where a branch is taken, the bundle that it goes to is a good one.
abbrev pub IsGoodNext : (ℕ → Type 0) → Next → Type 0
IsGoodNext Good (Goes bundle) = Good bundle
IsGoodNext Good way = ⊤

-- The way that an outcome goes on.
abbrev pub IsGoodWay : (ℕ → Type 0) → Outcome → Type 0
IsGoodWay Good o = IsGoodNext Good o.next

-- The entry at which an indirect branch arrives is a good one.
lands_on : (Good : ℕ → Type 0) (o : Result ℕ FaultKind) (to : ℕ) → IfOk o Good → o ≡ Ok to → Good to
lands_on Good o to h e = subst (λ o. IfOk o Good) e h

application_on : (Good : ℕ → Type 0) (ar : Ar) (x : ℕ) (m : Memory) → ApplicationCases (IsGoodWay Good) ar x m
application_on Good Pfs x m = λ _. tt
application_on Good ar x m = tt

-- How many bundles from its own the target of an action is, where the action has it from the instruction.
abbrev pub action_displacement : Action → Option ℤ
action_displacement (CheckNat r2 disp) = Some disp
action_displacement (CheckAlat clear r1 disp) = Some disp
action_displacement (Jump disp) = Some disp
action_displacement (Loop kind disp) = Some disp
action_displacement (Call b1 (Direct disp)) = Some disp
action_displacement action = None

-- The target, where there is one, is a good bundle.
abbrev pub IsGoodTarget : (ℕ → Type 0) → ℕ → Option ℤ → Type 0
IsGoodTarget Good bundle target = IfSome target (λ disp. Good (target_of bundle disp))

-- The bundles at which indirect branches arrive, with these first sixteen predicates, are good.
abbrev pub AreGoodLandings : (ℕ → Type 0) → Site → List Bool → Type 0
AreGoodLandings Good s low = (address : ℕ) → IfOk (s.arrival low address) Good

-- An effect goes on by falling, to the action's target, to a bundle that the site gives, or not at all. An action without a row
-- here falls or goes to its target.
act_on : (Good : ℕ → Type 0) (s : Site) (action : Action) (r : Registers) (m : Memory) (unat : ℕ)
    → AreGoodLandings Good s (take 16 r.predicates) → IsGoodTarget Good s.bundle (action_displacement action)
    → ActCases (IsGoodWay Good) s action r m unat
act_on Good s (ToApplication ar r2 w) r m unat landings target = (λ kind. tt, λ a _ _. application_on Good ar (moved w a.value) m)
act_on Good s (JumpIndirect b2) r m unat landings target = (λ kind. tt, λ to e. lands_on Good _ to (landings _) e)
act_on Good s (Call b1 (Indirect b2)) r m unat landings target = (λ kind. tt, λ to e. lands_on Good _ to (landings _) e)
act_on Good s (Return b2) r m unat landings target = (λ kind. tt, λ to _ e. lands_on Good _ to (landings _) e)
act_on Good s action r m unat landings target = search (target)

-- A skipped action goes on in a good way where its target is a good bundle.
skip_on : (Good : ℕ → Type 0) (s : Site) (action : Action) (r : Registers) (m : Memory)
    → IsGoodTarget Good s.bundle (action_displacement action) → SkipCases (IsGoodWay Good) s action r m
skip_on Good s (Test kind p1 p2 r2 r3 c) r m target = (λ _. tt, λ _. tt)
skip_on Good s (Loop kind disp) r m target = (λ _. target, λ _. tt)
skip_on Good s _ r m target = tt

-- The target of an operation's action is that of the operation.
same_displacement : (o : Op) → action_displacement (action_of o) ≡ displacement o
same_displacement o = grind arith

-- An instruction falls, goes to its target or to a bundle that the site gives, or ends the run.
pub effect_on : (Good : ℕ → Type 0) (s : Site) (insn : Insn) (r : Registers) (m : Memory) (unat : ℕ)
    → AreGoodLandings Good s (take 16 r.predicates) → IsGoodTarget Good s.bundle (displacement insn.op)
    → IsGoodWay Good (effect s insn r m unat)
effect_on Good s insn r m unat landings target =
    let good : IsGoodTarget Good s.bundle (action_displacement (action_of insn.op)) =
    subst (IsGoodTarget Good s.bundle) (sym (same_displacement insn.op)) target in
    guarded_cases (IsGoodWay Good) s insn.qp (action_of insn.op) r m unat (λ _. act_on Good s (action_of insn.op) r m unat landings good)
    (λ _. skip_on Good s (action_of insn.op) r m good)

settled_as : (Good : ℕ → Type 0) (next : Option Place) (m : Memory) (way : Next) (o : Outcome) → IsGoodWay Good o
    → IsGoodWay Good (settled next m way o)
settled_as Good next m way o h = grind arith

-- An outcome that goes on in a good way does so also where there may be no next place.
pub settled_on : (Good : ℕ → Type 0) (next : Option Place) (m : Memory) (o : Outcome) → IsGoodWay Good o
    → IsGoodWay Good (settled next m o.next o)
settled_on Good next m o h = settled_as Good next m o.next o h

-- A slot falls through to a next place.
pub record FallsTo (next : Option Place) (o : Outcome) : Type 0 where
  pub falls : o.next ≡ Falls
  pub place : Place
  pub is : next ≡ Some place

falls_as : (next : Option Place) (m : Memory) (way : Next) (o : Outcome) → o.next ≡ way → (settled next m way o).next ≡ Falls
    → FallsTo next o
falls_as None m way o e h = absurd (grind arith)
falls_as (Some place) m way o e h = record { falls = h; place = place; is = refl }

pub falls_to : (next : Option Place) (m : Memory) (o : Outcome) → (settled next m o.next o).next ≡ Falls → FallsTo next o
falls_to next m o h = falls_as next m o.next o refl h

-- A leaving operation that is executed doesn't fall through.
act_leaves : (s : Site) (o : Op) (r : Registers) (m : Memory) (unat : ℕ) → IsLeaving o → (act s (action_of o) r m unat).next ≡ Falls → ⊥
act_leaves s o r m unat h e = grind arith

guarded_leaves : (s : Site) (qp : ℕ) (o : Op) (r : Registers) (m : Memory) (unat : ℕ) → qp ≡ 0 → IsLeaving o
    → (guarded s qp (action_of o) r m unat).next ≡ Falls → ⊥
unfolding holds
guarded_leaves s zero o r m unat z h e = act_leaves s o r m unat h e
guarded_leaves s (suc p) o r m unat z h e = absurd (omega arith)

-- A leaving instruction under p0 doesn't fall through.
pub effect_leaves : (s : Site) (insn : Insn) (r : Registers) (m : Memory) (unat : ℕ) → insn.qp ≡ 0 → IsLeaving insn.op
    → (effect s insn r m unat).next ≡ Falls → ⊥
effect_leaves s insn r m unat z h e = guarded_leaves s insn.qp insn.op r m unat z h e
