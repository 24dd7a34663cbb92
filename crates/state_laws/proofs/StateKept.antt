-- A step keeps a state of the program.
use Rattle.std.proofs.Common.{◌≡◌, ◌≢◌, ℕ, zero, suc, ◌+◌, ◌/◌, ◌^◌, ◌<◌, inl, inr, Bool, true, false, List, [], length, Option, Some, None, subst, arith, rules}
use Rattle.std.specs.Prelude.{IfSome}
use Rattle.std.specs.List.{AllByRecursion as Each}
use Rattle.std.proofs.lemmas.Nat.{mod_below}
use Rattle.std.proofs.lemmas.List.Elements.{All-nil}
use Rattle.ia_insn.specs.declared.choices.CmpKind.{CmpKind}
use Rattle.ia_insn.specs.declared.choices.CmpKind.TheVariants.{Normal, Unc, And, Or, OrAndcm}
use Rattle.ia_insn.specs.declared.choices.BranchKind.{BranchKind}
use Rattle.ia_insn.specs.declared.choices.BranchKind.TheVariants as branch
use Rattle.ia_insn.specs.declared.choices.StoreKind.{StoreKind}
use Rattle.ia_insn.specs.declared.choices.StoreKind.TheVariants as store
use Rattle.ia_insn.specs.declared.choices.LoadKind.{LoadKind}
use Rattle.ia_insn.specs.declared.choices.Update.{Update}
use Rattle.ia_insn.specs.declared.choices.Update.TheVariants as update
use Rattle.ia_insn.specs.declared.registers.Ar.{Ar}
use Rattle.ia_insn.specs.declared.registers.Ar.TheVariants as ar
use Rattle.ia_insn.specs.declared.insn.Insn.{Insn}
use Rattle.ia_insn.specs.Ranges.{IsAccessSize}
use Rattle.ia_program.specs.declared.ending.FaultKind.{FaultKind}
use Rattle.ia_program.specs.declared.place.Place.{Place}
use Rattle.ia_program.specs.Places.{insn_at}
use Rattle.ia_program.specs.Listed.{IsListed}
use Rattle.ia_program.specs.Programs.{Program, IsProgram}
use Rattle.ia_program.proofs.OperandRanges.{ranges_of_listed}
use Rattle.ia_program.proofs.InOrder.{bundle_small}
use Rattle.ia_program.proofs.ListedSlots.{listed_at}
use Rattle.ia_meaning.specs.declared.next.Next.{Next}
use Rattle.ia_meaning.specs.declared.next.Next.TheVariants.{Falls, Goes, Breaks, Faults}
use Rattle.ia_meaning.specs.declared.state.Cell.{Cell}
use Rattle.ia_meaning.specs.declared.state.FrameShape.{FrameShape}
use Rattle.ia_meaning.specs.declared.state.Spot.{Spot}
use Rattle.ia_meaning.specs.declared.state.AlatEntry.{AlatEntry}
use Rattle.ia_meaning.specs.declared.turn.Turn.{Turn}
use Rattle.ia_meaning.specs.declared.action.CallTarget.TheVariants.{Direct, Indirect}
use Rattle.ia_meaning.specs.State.{zero_cell, Registers, Memory, State, IsWord, HasReservedZeros, AreRegisters, IsKey, IsAlatEntry, IsMemory, IsState}
use Rattle.ia_meaning.specs.declared.write.Write.{Write}
use Rattle.ia_meaning.specs.declared.write.Write.TheVariants.{SetPredicate, SetFrame}
use Rattle.ia_meaning.specs.declared.write.FrameCause.TheVariants.{Renamed}
use Rattle.ia_meaning.specs.Names.{spot, predicate_spot}
use Rattle.ia_meaning.specs.Arithmetic.{immediate, bit}
use Rattle.ia_meaning.specs.Outcomes.{Outcome, falls, goes, faults}
use Rattle.ia_meaning.specs.declared.action.Action.{Action}
use Rattle.ia_meaning.specs.declared.action.Action.TheVariants.{Compute, Fetch, Test, ToPredicates, ToBranch, ToApplication, FromMemory, ToMemory, Exchange, CheckNat, CheckAlat, InvalidateAll, Invalidate, Allocate, Jump, JumpIndirect, Loop, Call, Return, ClearBases, Stop, Idle}
use Rattle.ia_meaning.specs.Actions.{action_of, result_of, moved}
use Rattle.ia_meaning.specs.Moves.{test_writes, is_masked, masked_writes, predicate_writes, has_reserved_zeros}
use Rattle.ia_meaning.specs.Loads.{base_writes, store_spills, load_alat}
use Rattle.ia_meaning.specs.Frames.{call_writes, rotated}
use Rattle.ia_meaning.specs.Loops.{counted_turn, while_turn, simple_turn, turn_of, turn_writes}
use Rattle.ia_meaning.specs.Effects.{Site, site, effect}
use Rattle.ia_meaning.specs.Sequence.{next_of}
use Rattle.ia_meaning.specs.Steps.{settled, outcome_of, step_by, step_of}
use Rattle.ia_meaning.proofs.Inversions.{MayInvalidate, LoadCases, ApplicationCases, ActCases, SkipCases, guarded_cases}
use Rattle.ia_meaning.proofs.Inside.{stays_inside}
use Rattle.ia_meaning.proofs.StepHere.{by_insn}
use Rattle.ia_meaning.proofs.DataAccesses.{is_access}
use Rattle.ia_meaning.proofs.WriteLists.{may_write, each_written}
use Rattle.ia_meaning.proofs.PredicateIndexes.{place_some}
use Rattle.state_laws.specs.Kept.{KeepsState}
use Rattle.state_laws.proofs.Words.{word_word, loaded_word}
use Rattle.state_laws.proofs.Values.{look_word, spot_key, source_word}
use Rattle.state_laws.proofs.InRange.{IsInRange, apply_keeps, spilled_keeps, spot_in_range, predicate_in_range}
use Rattle.state_laws.proofs.Memories.{AreEntries, invalidated_entries, load_entries, entries_of, with_entries, stored_memory}
use Rattle.state_laws.proofs.FrameParts.{IsFrameWithin, sized_frame, rotated_within, cleared_within, called_within, returned_within, call_state_in_range}
use Rattle.state_laws.proofs.ActionWords.{HasActionWords, action_words}

-- An outcome that keeps a state.
record IsOutcomeInRange (p : Program) (o : Outcome) : Type 0 where
  writes : Each IsInRange o.writes
  memory : IsMemory p o.memory
  spills : IfSome o.spills (λ b. b.0 < 64)

-- What tests and moves write.
test_in_range : (f : FrameShape) (kind : CmpKind) (p q : ℕ) (x : Option Bool)
    → Each IsInRange (test_writes kind (predicate_spot f p) (predicate_spot f q) x)
test_in_range f Normal p q (Some b) = predicate_in_range f p _ _ (predicate_in_range f q _ [] tt)
test_in_range f Normal p q None = predicate_in_range f p _ _ (predicate_in_range f q _ [] tt)
test_in_range f Unc p q (Some b) = predicate_in_range f p _ _ (predicate_in_range f q _ [] tt)
test_in_range f Unc p q None = predicate_in_range f p _ _ (predicate_in_range f q _ [] tt)
test_in_range f Or p q (Some true) = predicate_in_range f p _ _ (predicate_in_range f q _ [] tt)
test_in_range f And p q (Some false) = predicate_in_range f p _ _ (predicate_in_range f q _ [] tt)
test_in_range f And p q None = predicate_in_range f p _ _ (predicate_in_range f q _ [] tt)
test_in_range f OrAndcm p q (Some true) = predicate_in_range f p _ _ (predicate_in_range f q _ [] tt)
test_in_range f kind p q x = tt

masked_in_range : (left n mask x : ℕ) → n ≢ 0 → Each IsInRange (masked_writes left n mask x)
masked_in_range zero n mask x some = tt
masked_in_range (suc left) n mask x some =
    may_write IsInRange (is_masked mask n) (SetPredicate n (bit x n)) (masked_writes left (suc n) mask x) (λ t. some)
    (masked_in_range left (suc n) mask x (λ e. absurd (omega arith)))

moved_in_range : (mask x : ℕ) → Each IsInRange (predicate_writes mask x)
unfolding predicate_writes
moved_in_range mask x = masked_in_range 63 1 mask x (λ e. absurd (omega arith))

-- What a base register becomes.
base_in_range : (u : Update) (e : Spot) (base more : Cell) → Each IsInRange (base_writes u e base more)
base_in_range update.None e base more = tt
base_in_range (update.Reg r2) e base more = spot_in_range e _ [] (word_word (base.value + more.value)) tt
base_in_range (update.Imm imm) e base more = spot_in_range e _ [] (word_word (base.value + immediate imm)) tt

spills_in_range : (kind : StoreKind) (address : ℕ) (x : Cell) → IfSome (store_spills kind address x) (λ b. b.0 < 64)
spills_in_range store.Spill address x = mod_below (address / 8) 64 (omega arith)
spills_in_range kind address x = tt

-- The counts of a loop branch.
record AreCounts (t : Turn) : Type 0 where
  lc : IfSome t.lc IsWord
  ec : IfSome t.ec (λ n. n < 64)

counted_counts : (top : Bool) (lc ec : ℕ) → IsWord lc → ec < 64 → AreCounts (counted_turn top lc ec)
counted_counts top zero zero h k = record { lc = tt; ec = tt }
counted_counts top zero (suc zero) h k = record { lc = tt; ec = omega arith }
counted_counts top zero (suc (suc ec)) h k = record { lc = tt; ec = omega arith }
counted_counts top (suc lc) ec h k = record { lc = omega arith; ec = tt }

while_counts : (top qp : Bool) (ec : ℕ) → ec < 64 → AreCounts (while_turn top qp ec)
while_counts top true ec k = record { lc = tt; ec = tt }
while_counts top false ec k = counted_counts top 0 ec (omega arith) k

simple_counts : (lc : ℕ) → IsWord lc → AreCounts (simple_turn lc)
simple_counts zero h = record { lc = tt; ec = tt }
simple_counts (suc lc) h = record { lc = omega arith; ec = tt }

turn_counts : (kind : BranchKind) (qp : Bool) (lc ec : ℕ) → IsWord lc → ec < 64 → AreCounts (turn_of kind qp lc ec)
turn_counts branch.Wexit qp lc ec h k = while_counts false qp ec k
turn_counts branch.Wtop qp lc ec h k = while_counts true qp ec k
turn_counts branch.Cloop true lc ec h k = simple_counts lc h
turn_counts branch.Cexit true lc ec h k = counted_counts false lc ec h k
turn_counts branch.Ctop true lc ec h k = counted_counts true lc ec h k
turn_counts kind qp lc ec h k = record { lc = tt; ec = tt }

some_of : {X : Type 0} (P : X → Type 0) (o : Option X) (x : X) → IfSome o P → o ≡ Some x → P x
some_of P None x h e = absurd (cc)
some_of P (Some y) x h e = let same : y ≡ x = cc in subst P same h

turn_in_range : (t : Turn) (f : FrameShape) → AreCounts t → IsFrameWithin f → Each IsInRange (turn_writes t f)
turn_in_range t f counts frame =
    each_written IsInRange _ t.lc _ (λ x e. some_of IsWord t.lc x counts.lc e)
    (each_written IsInRange _ t.ec _ (λ x e. some_of (λ n. n < 64) t.ec x counts.ec e)
    (each_written IsInRange _ t.p63 _ (λ x e. place_some f 63 (λ z. absurd (omega arith)))
    (may_write IsInRange t.rotates (SetFrame Renamed (rotated f)) [] (λ t. rotated_within f frame) tt)))

reserved_zeros : (x : ℕ) → has_reserved_zeros x ≡ true → HasReservedZeros x
unfolding has_reserved_zeros
reserved_zeros x h = search rules

module _ (p : Program) (s : Site) (r : Registers) (m : Memory) (unat : ℕ) (below : s.bundle < 2 ^ 31) (h : AreRegisters r)
    (mem : IsMemory p m) where
  -- Outcomes that leave the memory, or change its entries.
  fell : (ws : List Write) → Each IsInRange ws → IsOutcomeInRange p (falls ws m)
  fell ws w = record { writes = w; memory = mem; spills = tt }

  went : (ws : List Write) (to : ℕ) → Each IsInRange ws → IsOutcomeInRange p (goes ws m to)
  went ws to w = record { writes = w; memory = mem; spills = tt }

  failed : (kind : FaultKind) → IsOutcomeInRange p (faults kind m)
  failed kind = record { writes = tt; memory = mem; spills = tt }

  entries : AreEntries (length m.bytes) m.alat
  entries = entries_of p m mem

  fell_with : (ws : List Write) (es : List AlatEntry) → Each IsInRange ws → AreEntries (length m.bytes) es
      → IsOutcomeInRange p (falls ws (record m { alat = es }))
  fell_with ws es w e = record { writes = w; memory = with_entries p m es mem e; spills = tt }

  may_invalidate : (d : Spot) (es : List AlatEntry) → MayInvalidate m.alat d es → AreEntries (length m.bytes) es
  may_invalidate d es (inl e) = rw e entries
  may_invalidate d es (inr e) = rw e (invalidated_entries (length m.bytes) m.alat d entries)

  frame : IsFrameWithin r.frame
  frame = (h.frame, let count = h.cell_count in let most = h.most in omega arith)

  application_in_range : (a : Ar) (x : ℕ) → IsWord x → ApplicationCases (IsOutcomeInRange p) a x m
  application_in_range ar.Unat x w = fell _ (w, tt)
  application_in_range ar.Pfs x w = λ z. fell _ ((w, reserved_zeros x z), tt)
  application_in_range ar.Lc x w = fell _ (w, tt)
  application_in_range ar.Ec x w = fell _ (mod_below x 64 (omega arith), tt)

  load_in_range : (size : ℕ) (kind : LoadKind) (r1 : ℕ) (u : Update) (d e : Spot) (base more : Cell) → r1 ≢ 0 → IsAccessSize size
      → spot r.frame r1 ≡ Some d
      → LoadCases (IsOutcomeInRange p) kind base (record { key = d; address = base.value; size = size }) m unat (base_writes u e base more)
  load_in_range size kind r1 u d e base more some is at =
      let entry : AlatEntry = record { key = d; address = base.value; size = size } in
      let key : IsKey d = spot_key r.frame h.frame frame.1 r1 d some at in
      record {
        loads = λ n i.
            let a = is_access m.bytes base.value size i in
            let good : IsAlatEntry (length m.bytes) entry =
            record { key = key; size = is; aligned = a.aligned; above = a.above; within = a.within } in
            fell_with _ (load_alat kind entry m.alat) (spot_in_range d _ _ (loaded_word m.bytes base.value size mem.bytes is)
            (base_in_range u e base more))
            (load_entries (length m.bytes) kind entry m.alat good entries);
        defers = λ n es f. fell_with _ es (spot_in_range d _ _ (omega arith) (base_in_range u e base more)) (may_invalidate d es f);
        hits = λ n c i es f. fell_with _ es (base_in_range u e base more) (may_invalidate d es f);
      }

  call_in_range : (b1 : ℕ) → Each IsInRange (call_writes s.bundle b1 r.frame r.ec)
  call_in_range b1 = (omega arith, (call_state_in_range r.frame r.ec h.frame h.ec, (called_within r.frame frame, tt)))

  turned_in_range : (kind : BranchKind) (qp : Bool) → Each IsInRange (turn_writes (turn_of kind qp r.lc r.ec) r.frame)
  turned_in_range kind qp = turn_in_range (turn_of kind qp r.lc r.ec) r.frame (turn_counts kind qp r.lc r.ec h.lc h.ec) frame

  act_in_range : (action : Action) → HasActionWords action → ActCases (IsOutcomeInRange p) s action r m unat
  act_in_range (Compute r1 r2 r3 f) l =
      (failed, λ d a b i j k. fell _ (spot_in_range d _ [] (l a.value b.value (look_word r h r2 a j) (look_word r h r3 b k)) tt))
  act_in_range (Fetch r1 source) l = (failed, λ d i. fell _ (spot_in_range d _ [] (source_word s.bundle r source below h) tt))
  act_in_range (Test kind p1 p2 r2 r3 c) l = (failed, λ a b i j. fell _ (test_in_range r.frame kind p1 p2 (result_of c a b)))
  act_in_range (ToPredicates r2 mask w) l = (failed, λ a i n. fell _ (moved_in_range mask (moved w a.value)))
  act_in_range (ToBranch b1 r2) l = (failed, λ a i n. fell _ (look_word r h r2 a i, tt))
  act_in_range (ToApplication a r2 w) l = (failed, λ c i n. application_in_range a (moved w c.value) (l c.value (look_word r h r2 c i)))
  act_in_range (FromMemory size kind r1 r3 u) l = (failed, λ d e base more i j k n. load_in_range size kind r1 u d e base more l.0 l.1 i)
  act_in_range (ToMemory size kind r3 r2 u) l = (
    failed,
    λ e base x i j k n t a. record {
      writes = base_in_range u e base zero_cell;
      memory = stored_memory p m base.value size x.value mem;
      spills = spills_in_range kind base.value x;
    },
  )
  act_in_range (Exchange size r1 r3 r2 inc) l = (
    failed,
    λ d base x i j k n t a. record {
      writes = spot_in_range d _ [] (loaded_word m.bytes base.value size mem.bytes l) tt;
      memory = stored_memory p m base.value size _ mem;
      spills = tt;
    },
  )
  act_in_range (CheckNat r2 disp) l = (failed, λ a i n. went [] _ tt, λ a i n. fell [] tt)
  act_in_range (CheckAlat clear r1 disp) l = (failed, λ d i n. went [] _ tt, λ d i n es f. fell_with [] es tt (may_invalidate d es f))
  act_in_range InvalidateAll l =
      fell_with [] [] tt (record {
        most = omega arith;
        entries = All-nil (IsAlatEntry (length m.bytes));
        apart = λ i j d below within. absurd (omega arith);
      })
  act_in_range (Invalidate r1) l = (failed, λ d i. fell_with [] _ tt (invalidated_entries (length m.bytes) m.alat d entries))
  act_in_range (Allocate r1 sof sol sor) l = (
    failed,
    λ d i same within. fell _ (
      (sized_frame r.frame sof sol sor h.frame l.0 l.1 l.2 same, within),
      spot_in_range d _ [] h.pfs tt,
    ),
  )
  act_in_range (Jump disp) l = went [] _ tt
  act_in_range (JumpIndirect b2) l = (failed, λ to e. went [] to tt)
  act_in_range (Loop kind disp) l = (λ t. went _ _ (turned_in_range kind true), λ t. fell _ (turned_in_range kind true))
  act_in_range (Call b1 (Direct disp)) l = went _ _ (call_in_range b1)
  act_in_range (Call b1 (Indirect b2)) l = (failed, λ to e. went _ to (call_in_range b1))
  act_in_range (Return b2) l =
      (failed, λ to i e. went _ to (returned_within r.frame.base r.pfs i, (mod_below (r.pfs / 2 ^ 52) (2 ^ 6) (omega arith), tt)))
  act_in_range (ClearBases pred_only) l = fell _ (cleared_within pred_only r.frame frame, tt)
  act_in_range (Stop unit imm) l = record { writes = tt; memory = mem; spills = tt }
  act_in_range (Idle unit) l = fell [] tt

  skip_in_range : (action : Action) → SkipCases (IsOutcomeInRange p) s action r m
  skip_in_range (Test kind p1 p2 r2 r3 c) =
      (λ e. fell _ (predicate_in_range r.frame p1 _ _ (predicate_in_range r.frame p2 _ [] tt)), λ e. fell [] tt)
  skip_in_range (Loop kind disp) = (λ t. went _ _ (turned_in_range kind false), λ t. fell _ (turned_in_range kind false))
  skip_in_range action = fell [] tt

  effect_in_range : (insn : Insn) → IsListed insn → IsOutcomeInRange p (effect s insn r m unat)
  effect_in_range insn listed =
      guarded_cases (IsOutcomeInRange p) s insn.qp (action_of insn.op) r m unat
      (λ _. act_in_range (action_of insn.op) (action_words insn.op (ranges_of_listed insn listed))) (λ _. skip_in_range (action_of insn.op))

  settled_in_range : (next : Option Place) (way : Next) (o : Outcome) → IsOutcomeInRange p o → IsOutcomeInRange p (settled next m way o)
  settled_in_range None Falls o f = record { writes = tt; memory = mem; spills = tt }
  settled_in_range None (Goes bundle) o f = f
  settled_in_range None (Breaks imm) o f = f
  settled_in_range None (Faults kind) o f = f
  settled_in_range (Some next) way o f = f

-- The parts of a state but for its place.
record IsStored (p : Program) (s : State) : Type 0 where
  registers : AreRegisters s.registers
  memory : IsMemory p s.memory

step_stored : (p : Program) (s : State) (o : Outcome) (way : Next) → IsState p s → IsOutcomeInRange p o
    → IsStored p (step_by p s o way).state
step_stored p s o Falls is f =
    record { registers = apply_keeps o.writes _ f.writes (spilled_keeps o.spills s.registers f.spills is.registers); memory = f.memory }
step_stored p s o (Goes bundle) is f =
    record { registers = apply_keeps o.writes _ f.writes (spilled_keeps o.spills s.registers f.spills is.registers); memory = f.memory }
step_stored p s o (Breaks imm) is f = record { registers = is.registers; memory = is.memory }
step_stored p s o (Faults kind) is f = record { registers = is.registers; memory = is.memory }

stored_at : (p : Program) (s : State) (insn : Insn) → IsProgram p → IsState p s → insn_at p.bundles s.place ≡ Some insn
    → IsStored p (step_of p s (Some insn)).state
stored_at p s insn program is e =
    let b = bundle_small p.bundles s.place is.place in
    let c = program.counts.bundles in
    let below : s.place.bundle < 2 ^ 31 = omega arith in
    let o : Outcome = effect (site p s.place.bundle) insn s.registers s.memory s.registers.unat in
    let f : IsOutcomeInRange p o =
    effect_in_range p (site p s.place.bundle) s.registers s.memory s.registers.unat below is.registers is.memory insn
    (listed_at p s.place insn program e) in
    step_stored p s (outcome_of p s insn) (outcome_of p s insn).next is
    (settled_in_range p (site p s.place.bundle) s.registers s.memory s.registers.unat below is.registers is.memory
    (next_of p.bundles s.place) o.next o f)

pub keeps_state : KeepsState
keeps_state p s program is =
    let k = by_insn (λ step. IsStored p step.state) p s is.place (λ insn here. stored_at p s insn program is here) in
    record { registers = k.registers; memory = k.memory; place = stays_inside p s program is.place }
