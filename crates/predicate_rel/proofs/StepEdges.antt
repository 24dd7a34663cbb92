-- A step that doesn't end the run follows an edge or lands on an entry.
use Rattle.std.proofs.Common.{◌≡◌, ℕ, ◌-◌, ◌/◌, ◌⊎◌, inl, inr, Bool, true, false, not, ◌&&◌, ◌==◌, nat_le, if◌then◌else◌, List, take, Option, Some, None, Err, refl, sym, ap, subst, arith}
use Rattle.std.specs.Prelude.{ℤ, IfSome, IsSomeAnd}
use Rattle.std.proofs.lemmas.Bool.Decides.{nat_tests}
use Rattle.std.proofs.lemmas.Result.{IfOk-weaker}
use Rattle.ia_insn.specs.declared.choices.BranchKind.TheVariants.{Cond}
use Rattle.ia_insn.specs.declared.insn.Insn.{Insn}
use Rattle.ia_insn.specs.declared.insn.Op.{Op}
use Rattle.ia_insn.specs.declared.insn.Op.TheVariants as op
use Rattle.ia_insn.specs.Displacements.{displacement}
use Rattle.ia_program.specs.declared.ending.FaultKind.TheVariants.{BadLanding}
use Rattle.ia_program.specs.declared.ending.How.TheVariants as how
use Rattle.ia_program.specs.declared.place.Place.{Place}
use Rattle.ia_program.specs.Addresses.{bundle_address}
use Rattle.ia_program.specs.Places.{insn_at}
use Rattle.ia_program.specs.Programs.{Program, IsProgram, IsEntry}
use Rattle.ia_program.specs.Runs.{IsLeaving}
use Rattle.ia_meaning.specs.declared.next.Next.{Next}
use Rattle.ia_meaning.specs.declared.next.Next.TheVariants as next
use Rattle.ia_meaning.specs.State.{Registers, Memory, State}
use Rattle.ia_meaning.specs.Landings.{is_entry, landing, arrival, breaks_relation}
use Rattle.ia_meaning.specs.Outcomes.{Outcome}
use Rattle.ia_meaning.specs.declared.action.Action.{Action}
use Rattle.ia_meaning.specs.declared.action.CallTarget.TheVariants.{Indirect}
use Rattle.ia_meaning.specs.declared.action.Action.TheVariants.{Test, JumpIndirect, Loop, Call, Return}
use Rattle.ia_meaning.specs.Actions.{action_of, is_indirect}
use Rattle.ia_meaning.specs.Effects.{Site, site, act, skip, effect}
use Rattle.ia_meaning.specs.Sequence.{first_of, next_of, is_stopped}
use Rattle.ia_meaning.specs.Steps.{Step, settled, registers_after, outcome_of, how_falling, place_after, step_by, step_of, seq_step}
use Rattle.ia_meaning.proofs.Sequences.{entry_decides}
use Rattle.ia_meaning.specs.Names.{holds}
use Rattle.ia_meaning.proofs.Arrivals.{arrived_keeps}
use Rattle.ia_meaning.proofs.Inversions.{act_cases}
use Rattle.ia_meaning.proofs.GoesOn.{IsGoodNext, IsGoodWay, IsGoodTarget, AreGoodLandings, effect_on, settled_on, FallsTo, falls_to, effect_leaves}
use Rattle.ia_meaning.proofs.StepHere.{by_insn}
use Rattle.state_laws.specs.Kept.{KeepsState}
use Rattle.predicate_rel.specs.declared.edge.Edge.{Edge}
use Rattle.predicate_rel.specs.declared.edge.Edge.TheVariants.{Falls, Taken}
use Rattle.predicate_rel.specs.Edges.{leaves, may_fall, displacement_of, target_at, edge_of, HasEdge}
use Rattle.predicate_rel.specs.Steps.{edge_by, IsIndirect, LandsOnEntry, FollowsEdge, GoesAlong}
use Rattle.predicate_rel.proofs.EdgeEnds.{same_displacement, is_edge_end}

-- A site on which no branch lands.
abbrev closed : Site → Site
closed s = record { bundle = s.bundle; arrival = λ _ _. Err BadLanding }

-- What isn't an indirect branch does the same there.
act_closed : (s : Site) (o : Op) (r : Registers) (m : Memory) (unat : ℕ) → is_indirect (action_of o) ≡ false
    → act s (action_of o) r m unat ≡ act (closed s) (action_of o) r m unat
act_closed s (op.BrInd b2 wh many clr) r m unat n = absurd (cc)
act_closed s (op.BrRet b2 wh many clr) r m unat n = absurd (cc)
act_closed s (op.BrCallInd b1 b2 wh many clr) r m unat n = absurd (cc)
act_closed s (op.Br Cond wh many clr disp) r m unat n = refl
act_closed s (op.Br kind wh many clr disp) r m unat n = refl
act_closed s o r m unat n = refl

skip_closed : (s : Site) (action : Action) (r : Registers) (m : Memory) → skip s action r m ≡ skip (closed s) action r m
skip_closed s (Loop kind disp) r m = refl
skip_closed s action r m = refl

effect_closed : (s : Site) (insn : Insn) (r : Registers) (m : Memory) (unat : ℕ) → is_indirect (action_of insn.op) ≡ false
    → effect s insn r m unat ≡ effect (closed s) insn r m unat
effect_closed s insn r m unat n = rw (act_closed s insn.op r m unat n, skip_closed s (action_of insn.op) r m) refl

-- Where an instruction in a bundle goes to: its target, or, where it is an indirect branch, an entry whose relations the
-- first sixteen predicates don't break.
abbrev IsWayOf : Program → ℕ → List Bool → Insn → ℕ → Type 0
IsWayOf p bundle low insn to =
    (target_at bundle (displacement_of (action_of insn.op)) ≡ Some (first_of to))
    ⊎ (IsIndirect insn × IsEntry p to × (breaks_relation p low to ≡ false))

-- An address on which a branch lands is that of an entry.
landing_entry : (p : Program) (address : ℕ) → IfSome (landing p address) (IsEntry p)
unfolding landing
landing_entry p address =
    chosen ((address - bundle_address 0) / 16) (nat_le (bundle_address 0) address) (is_entry p ((address - bundle_address 0) / 16)) refl
  where
    chosen : (n : ℕ) (a b : Bool) → is_entry p n ≡ b → IfSome (if a && b then Some n else None) (IsEntry p)
    chosen n true true e = (entry_decides p n).0 e
    chosen n true false e = tt
    chosen n false b e = tt

module _ (p : Program) (bundle : ℕ) (insn : Insn) (r : Registers) (m : Memory) (unat : ℕ) where
  abbrev Low : List Bool
  Low = take 16 r.predicates

  to_target : IsGoodTarget (IsWayOf p bundle Low insn) bundle (displacement insn.op)
  to_target = of (displacement insn.op) (same_displacement insn.op)
    where
      of : (d : Option ℤ) → displacement_of (action_of insn.op) ≡ d → IsGoodTarget (IsWayOf p bundle Low insn) bundle d
      of None e = tt
      of (Some disp) e = inl (ap (target_at bundle) e)

  to_entry : is_indirect (action_of insn.op) ≡ true → AreGoodLandings (IsWayOf p bundle Low insn) (site p bundle) Low
  to_entry indirect address =
      IfOk-weaker (arrival p Low address) _ _ (λ to kept. inr (indirect, kept.0, kept.1))
      (arrived_keeps p Low (landing p address) (IsEntry p) (landing_entry p address))

  effect_goes : IsGoodWay (IsWayOf p bundle Low insn) (effect (site p bundle) insn r m unat)
  effect_goes = by_test (is_indirect (action_of insn.op)) refl
    where
      by_test : (b : Bool) → is_indirect (action_of insn.op) ≡ b → IsGoodWay (IsWayOf p bundle Low insn)
          (effect (site p bundle) insn r m unat)
      by_test true e = effect_on (IsWayOf p bundle Low insn) (site p bundle) insn r m unat (to_entry e) to_target
      by_test false e = subst (IsGoodWay (IsWayOf p bundle Low insn)) (sym (effect_closed (site p bundle) insn r m unat e))
          (effect_on (IsWayOf p bundle Low insn) (closed (site p bundle)) insn r m unat (λ address. tt) to_target)

-- An indirect branch leaves the predicates as they are.
abbrev LeavesPredicates : Registers → Outcome → Type 0
LeavesPredicates r o = (registers_after o r).predicates ≡ r.predicates

indirect_act : (s : Site) (action : Action) (r : Registers) (m : Memory) (unat : ℕ) → is_indirect action ≡ true
    → LeavesPredicates r (act s action r m unat)
indirect_act s (JumpIndirect b2) r m unat e = act_cases (LeavesPredicates r) s (JumpIndirect b2) r m unat (λ kind. refl, λ to k. refl)
indirect_act s (Call b1 (Indirect b2)) r m unat e =
    act_cases (LeavesPredicates r) s (Call b1 (Indirect b2)) r m unat (λ kind. refl, λ to k. refl)
indirect_act s (Return b2) r m unat e = act_cases (LeavesPredicates r) s (Return b2) r m unat (λ kind. refl, λ to k l. refl)
indirect_act s action r m unat e = absurd (cc)

indirect_skip : (s : Site) (action : Action) (r : Registers) (m : Memory) → is_indirect action ≡ true
    → LeavesPredicates r (skip s action r m)
indirect_skip s (Test kind p1 p2 r2 r3 c) r m e = absurd (cc)
indirect_skip s (Loop kind disp) r m e = absurd (cc)
indirect_skip s action r m e = refl

indirect_leaves : (s : Site) (insn : Insn) (r : Registers) (m : Memory) (unat : ℕ) → is_indirect (action_of insn.op) ≡ true
    → LeavesPredicates r (effect s insn r m unat)
indirect_leaves s insn r m unat e = by_guard (holds r insn.qp)
  where
    by_guard : (b : Bool) → LeavesPredicates r (if b then act s (action_of insn.op) r m unat else skip s (action_of insn.op) r m)
    by_guard true = indirect_act s (action_of insn.op) r m unat e
    by_guard false = indirect_skip s (action_of insn.op) r m e

settled_leaves : (r : Registers) (next : Option Place) (m : Memory) (way : Next) (o : Outcome) → LeavesPredicates r o
    → LeavesPredicates r (settled next m way o)
settled_leaves r None m next.Falls o h = refl
settled_leaves r next m way o h = h

-- An instruction that falls through may do so.
leaving_op : (o : Op) → leaves (action_of o) ≡ true → IsLeaving o
leaving_op (op.Br Cond wh many clr disp) h = tt
leaving_op (op.Br kind wh many clr disp) h = absurd (cc)
leaving_op (op.BrCall b1 wh many clr disp) h = tt
leaving_op (op.BrInd b2 wh many clr) h = tt
leaving_op (op.BrRet b2 wh many clr) h = tt
leaving_op (op.BrCallInd b1 b2 wh many clr) h = tt
leaving_op (op.Break unit imm) h = tt
leaving_op o h = absurd (cc)

falling_may : (s : Site) (insn : Insn) (r : Registers) (m : Memory) (unat : ℕ) → (effect s insn r m unat).next ≡ next.Falls
    → may_fall insn ≡ true
falling_may s insn r m unat e = by_tests (insn.qp == 0) (leaves (action_of insn.op)) refl refl
  where
    by_tests : (a b : Bool) → (insn.qp == 0) ≡ a → leaves (action_of insn.op) ≡ b → not (a && b) ≡ true
    by_tests false b i j = refl
    by_tests true false i j = refl
    by_tests true true i j =
        let z : insn.qp ≡ 0 = grind (arith, nat_tests) in
        absurd (effect_leaves s insn r m unat z (leaving_op insn.op j) e)

-- What is shown of a step.
abbrev IsAlong : Program → State → Step → Type 0
IsAlong p s step =
    HasEdge p s.place (edge_by step.how) step.state.place
    ⊎ (IsSomeAnd (insn_at p.bundles s.place) IsIndirect × (step.how ≡ Some how.Taken) × (step.state.place.slot ≡ 0)
    × IsEntry p step.state.place.bundle × (breaks_relation p (take 16 step.state.registers.predicates) step.state.place.bundle
    ≡ false))

-- A fall, with a stop or without one.
pub edge_falling : (stopped : Bool) → edge_by (how_falling stopped) ≡ Falls
edge_falling true = refl
edge_falling false = refl

module _ (p : Program) (s : State) (insn : Insn) (program : IsProgram p) (here : insn_at p.bundles s.place ≡ Some insn) where
  abbrev Here : Outcome
  Here = effect (site p s.place.bundle) insn s.registers s.memory s.registers.unat

  has_edge : (e : Edge) (to : Place) → edge_of p.bundles s.place (Some insn) e ≡ Some to → HasEdge p s.place e to
  has_edge e to leads = is_edge_end p s.place insn e (Some to) program here (sym leads)

  falling : (outcome_of p s insn).next ≡ next.Falls → IsAlong p s (step_by p s (outcome_of p s insn) next.Falls)
  falling e =
      let f : FallsTo (next_of p.bundles s.place) Here = falls_to (next_of p.bundles s.place) s.memory Here e in
      let may = falling_may (site p s.place.bundle) insn s.registers s.memory s.registers.unat f.falls in
      let leads : edge_of p.bundles s.place (Some insn) Falls ≡ Some f.place = rw may f.is in
      let edge : HasEdge p s.place Falls f.place = has_edge Falls f.place leads in
      let there : place_after s.place (next_of p.bundles s.place) ≡ f.place = ap (place_after s.place) f.is in
      inl (rw (edge_falling (is_stopped p.bundles s.place), there) edge)

  abbrev Way : ℕ → Type 0
  Way = IsWayOf p s.place.bundle (take 16 s.registers.predicates) insn

  going : (bundle : ℕ) → Way bundle → IsAlong p s (step_by p s (outcome_of p s insn) (next.Goes bundle))
  going bundle (inl leads) = inl (has_edge Taken (first_of bundle) leads)
  going bundle (inr (indirect, entry, kept)) =
      let left : (registers_after (outcome_of p s insn) s.registers).predicates ≡ s.registers.predicates =
      settled_leaves s.registers (next_of p.bundles s.place) s.memory Here.next Here
      (indirect_leaves (site p s.place.bundle) insn s.registers s.memory s.registers.unat indirect) in
      inr (rw here indirect, refl, refl, entry, rw left kept)

  stepping : (way : Next) → (outcome_of p s insn).next ≡ way → IsGoodNext Way way → (step_by p s (outcome_of p s insn) way).end ≡ None
      → IsAlong p s (step_by p s (outcome_of p s insn) way)
  stepping next.Falls e good goes = falling e
  stepping (next.Goes bundle) e good goes = going bundle good
  stepping (next.Breaks imm) e good goes = absurd (cc)
  stepping (next.Faults kind) e good goes = absurd (cc)

  along_here : (step_of p s (Some insn)).end ≡ None → IsAlong p s (step_of p s (Some insn))
  along_here goes =
      stepping (outcome_of p s insn).next refl
      (settled_on Way (next_of p.bundles s.place) s.memory Here (effect_goes p s.place.bundle insn s.registers s.memory s.registers.unat))
      goes

pub goes_along : KeepsState → GoesAlong
goes_along keeps p s program is goes =
    of (by_insn (λ step. step.end ≡ None → IsAlong p s step) p s is.place (λ insn here. along_here p s insn program here) goes)
  where
    of : IsAlong p s (seq_step p s) → FollowsEdge p s ⊎ LandsOnEntry p s
    of (inl edge) = inl edge
    of (inr (indirect, taken, slot, entry, kept)) = inr (record {
      indirect = indirect;
      taken = taken;
      start = record { state = keeps p s program is; slot = slot; entry = entry; promised = kept };
    })
