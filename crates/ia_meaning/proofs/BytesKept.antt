-- An instruction that accesses no memory leaves its bytes.
use Rattle.std.proofs.Common.{◌≡◌, ℕ, true, false, List, Option, None, refl}
use Rattle.ia_insn.specs.declared.insn.Insn.{Insn}
use Rattle.ia_insn.specs.declared.registers.Ar.{Ar}
use Rattle.ia_insn.specs.declared.registers.Ar.TheVariants.{Pfs}
use Rattle.ia_program.specs.declared.place.Place.{Place}
use Rattle.ia_meaning.specs.declared.next.Next.{Next}
use Rattle.ia_meaning.specs.declared.next.Next.TheVariants.{Falls}
use Rattle.ia_meaning.specs.declared.action.Action.{Action}
use Rattle.ia_meaning.specs.declared.action.Action.TheVariants.{Compute, Fetch, Test, ToPredicates, ToBranch, ToApplication, FromMemory, ToMemory, Exchange, CheckNat, CheckAlat, InvalidateAll, Invalidate, Allocate, Jump, JumpIndirect, Loop, Call, Return, ClearBases, Stop, Idle}
use Rattle.ia_meaning.specs.declared.action.CallTarget.TheVariants.{Direct, Indirect}
use Rattle.ia_meaning.specs.State.{Registers, Memory}
use Rattle.ia_meaning.specs.Names.{holds}
use Rattle.ia_meaning.specs.Actions.{accesses_memory, insn_action}
use Rattle.ia_meaning.specs.Outcomes.{Outcome}
use Rattle.ia_meaning.specs.Effects.{Site, effect}
use Rattle.ia_meaning.specs.Steps.{settled}
use Rattle.ia_meaning.proofs.Inversions.{ApplicationCases, ActCases, SkipCases, guarded_cases}

abbrev Keeps : List ℕ → Outcome → Type 0
Keeps bytes o = o.memory.bytes ≡ bytes

application_keeps : (a : Ar) (x : ℕ) (m : Memory) → ApplicationCases (Keeps m.bytes) a x m
application_keeps Pfs x m = λ _. refl
application_keeps a x m = refl

act_keeps : (s : Site) (action : Action) (r : Registers) (m : Memory) (unat : ℕ) → accesses_memory action ≡ false
    → ActCases (Keeps m.bytes) s action r m unat
act_keeps s (Compute r1 r2 r3 f) r m unat h = (λ k. refl, λ d a b _ _ _. refl)
act_keeps s (Fetch r1 source) r m unat h = (λ k. refl, λ d _. refl)
act_keeps s (Test kind p1 p2 r2 r3 c) r m unat h = (λ k. refl, λ a b _ _. refl)
act_keeps s (ToPredicates r2 mask w) r m unat h = (λ k. refl, λ a _ _. refl)
act_keeps s (ToBranch b1 r2) r m unat h = (λ k. refl, λ a _ _. refl)
act_keeps s (ToApplication a r2 w) r m unat h = (λ k. refl, λ c _ _. application_keeps a _ m)
act_keeps s (FromMemory size kind r1 r3 u) r m unat h = absurd (cc)
act_keeps s (ToMemory size kind r3 r2 u) r m unat h = absurd (cc)
act_keeps s (Exchange size r1 r3 r2 inc) r m unat h = absurd (cc)
act_keeps s (CheckNat r2 disp) r m unat h = (λ k. refl, λ a _ _. refl, λ a _ _. refl)
act_keeps s (CheckAlat clear r1 disp) r m unat h = (λ k. refl, λ d _ _. refl, λ d _ _ es _. refl)
act_keeps s InvalidateAll r m unat h = refl
act_keeps s (Invalidate r1) r m unat h = (λ k. refl, λ d _. refl)
act_keeps s (Allocate r1 sof sol sor) r m unat h = (λ k. refl, λ d _ _ _. refl)
act_keeps s (Jump disp) r m unat h = refl
act_keeps s (JumpIndirect b2) r m unat h = (λ k. refl, λ to _. refl)
act_keeps s (Loop kind disp) r m unat h = (λ _. refl, λ _. refl)
act_keeps s (Call b1 (Direct disp)) r m unat h = refl
act_keeps s (Call b1 (Indirect b2)) r m unat h = (λ k. refl, λ to _. refl)
act_keeps s (Return b2) r m unat h = (λ k. refl, λ to _ _. refl)
act_keeps s (ClearBases pred_only) r m unat h = refl
act_keeps s (Stop unit imm) r m unat h = refl
act_keeps s (Idle unit) r m unat h = refl

skip_keeps : (s : Site) (action : Action) (r : Registers) (m : Memory) → SkipCases (Keeps m.bytes) s action r m
skip_keeps s (Test kind p1 p2 r2 r3 c) r m = (λ _. refl, λ _. refl)
skip_keeps s (Loop kind disp) r m = (λ _. refl, λ _. refl)
skip_keeps s action r m = refl

settled_keeps : (next : Option Place) (m : Memory) (way : Next) (o : Outcome) → Keeps m.bytes o → Keeps m.bytes (settled next m way o)
settled_keeps None m Falls o h = refl
settled_keeps next m way o h = h

-- An instruction leaves the bytes where it accesses none: also where it falls off the program's end, and where its qualifying
-- predicate is 0.
pub bytes_kept : (s : Site) (insn : Insn) (next : Option Place) (r : Registers) (m : Memory) (unat : ℕ)
    → (holds r insn.qp ≡ true → accesses_memory (insn_action insn) ≡ false)
    → (let o = effect s insn r m unat in settled next m o.next o).memory.bytes ≡ m.bytes
bytes_kept s insn next r m unat h =
    settled_keeps next m _ (effect s insn r m unat)
    (guarded_cases (Keeps m.bytes) s insn.qp (insn_action insn) r m unat (λ t. act_keeps s (insn_action insn) r m unat (h t))
    (λ _. skip_keeps s (insn_action insn) r m))
