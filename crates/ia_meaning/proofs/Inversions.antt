-- What can come of a slot, by the actions: from these lemmas the facts of outcomes follow. Each case tells where
-- its values come from.
use Rattle.std.proofs.Common.{◌≡◌, ◌≢◌, ℕ, ℤ, ◌+◌, ◌%◌, ◌≤◌, ◌⊎◌, inl, inr, Bool, true, false, not, ◌&&◌, ◌||◌, ◌==◌, nat_lt, List, [], ◌∷◌, Option, Some, None, Result, Ok, Err, refl, arith, if◌then◌else◌}
use Rattle.std.proofs.lemmas.Bool.{and_parts, or_parts}
use Rattle.std.proofs.lemmas.Bool.Decides.{nat_tests}
use Rattle.ia_meaning.specs.declared.limits.TheConstants.{STACK_LIMIT}
use Rattle.ia_insn.specs.declared.choices.CmpKind.{CmpKind}
use Rattle.ia_insn.specs.declared.choices.CmpKind.TheVariants.{Unc}
use Rattle.ia_insn.specs.declared.choices.LoadKind.{LoadKind}
use Rattle.ia_insn.specs.declared.choices.LoadKind.TheVariants as load
use Rattle.ia_insn.specs.declared.choices.StoreKind.{StoreKind}
use Rattle.ia_insn.specs.declared.choices.Update.{Update}
use Rattle.ia_insn.specs.declared.registers.Ar.{Ar}
use Rattle.ia_insn.specs.declared.registers.Ar.TheVariants.{Unat, Pfs, Lc, Ec}
use Rattle.ia_program.specs.declared.ending.FaultKind.{FaultKind}
use Rattle.ia_program.specs.declared.ending.FaultKind.TheVariants.{OutOfFrame, NatConsumed, ReservedField, StackLimit}
use Rattle.ia_meaning.specs.declared.state.Cell.{Cell}
use Rattle.ia_meaning.specs.declared.state.FrameShape.{FrameShape}
use Rattle.ia_meaning.specs.declared.state.Spot.{Spot}
use Rattle.ia_meaning.specs.declared.state.AlatEntry.{AlatEntry}
use Rattle.ia_meaning.specs.declared.action.CallTarget.TheVariants.{Direct, Indirect}
use Rattle.ia_meaning.specs.State.{zero_cell, Registers, Memory}
use Rattle.ia_meaning.specs.declared.write.Write.{Write}
use Rattle.ia_meaning.specs.declared.write.Write.TheVariants.{SetBranch, SetUnat, SetPfs, SetLc, SetEc, SetFrame}
use Rattle.ia_meaning.specs.declared.write.FrameCause.TheVariants.{Resized, Renamed}
use Rattle.ia_meaning.specs.Names.{spot, look, holds, predicate_spot, set_spot, set_predicate}
use Rattle.ia_meaning.specs.Outcomes.{Outcome, falls, goes, breaks, faults, faults_or}
use Rattle.ia_meaning.specs.declared.action.Action.{Action}
use Rattle.ia_meaning.specs.declared.action.Action.TheVariants.{Compute, Fetch, Test, ToPredicates, ToBranch, ToApplication, FromMemory, ToMemory, Exchange, CheckNat, CheckAlat, InvalidateAll, Invalidate, Allocate, Jump, JumpIndirect, Loop, Call, Return, ClearBases, Stop, Idle}
use Rattle.ia_meaning.specs.Actions.{value_of, result_of, moved}
use Rattle.ia_meaning.specs.Moves.{computed, fetched, source_value, test_writes, test_made, test_skipped, predicate_writes, to_predicates, to_branch, has_reserved_zeros, application_written, to_application}
use Rattle.ia_meaning.specs.Loads.{access_fault, loaded, invalidated, has_hit, has_entry, update_register, base_writes, is_speculative, is_check, load_alat, load_nat, deferred, load_hit, load_failed, load_tried, load_checked, from_memory, takes_nat, store_made, to_memory, exchange_made, exchange, check_nat, check_alat, invalidate}
use Rattle.ia_meaning.specs.Frames.{with_sizes, has_zero_bases, allocated, cleared, epilog_of, call_writes, lands, marked_frame, return_fault, returned_frame}
use Rattle.ia_meaning.specs.Loops.{turn_of, turn_writes, turned}
use Rattle.ia_meaning.specs.declared.turn.Turn.{Turn}
use Rattle.ia_meaning.specs.Landings.{target_of}
use Rattle.ia_meaning.specs.Effects.{Site, arrives, act, skip, guarded}

-- A fault may come.
abbrev pub Fails : (Outcome → Type 0) → Memory → Type 0
Fails Q m = (kind : FaultKind) → Q (faults kind m)

-- The entries as they were, or without those of a register.
abbrev pub MayInvalidate : List AlatEntry → Spot → List AlatEntry → Type 0
MayInvalidate es d left = (left ≡ es) ⊎ (left ≡ invalidated es d)

-- Of a load whose registers are found.
pub record LoadCases (Q : Outcome → Type 0) (kind : LoadKind) (base : Cell) (e : AlatEntry) (m : Memory) (unat : ℕ)
    (ws : List Write) : Type 0 where
  pub loads : base.nat ≡ false → access_fault m.bytes e.address e.size ≡ None
      → Q (falls (set_spot e.key (record { value = loaded m.bytes e.address e.size; nat = load_nat kind e.address unat }) ws)
      (record m { alat = load_alat kind e m.alat }))
  pub defers : is_speculative kind ≡ true → (es : List AlatEntry) → MayInvalidate m.alat e.key es
      → Q (falls (set_spot e.key (record { value = 0; nat = true }) ws) (record m { alat = es }))
  pub hits : base.nat ≡ false → is_check kind ≡ true → has_hit m.alat e ≡ true → (es : List AlatEntry) → MayInvalidate m.alat e.key es
      → Q (falls ws (record m { alat = es }))

-- Of a move of x to an application register.
abbrev pub ApplicationCases : (Outcome → Type 0) → Ar → ℕ → Memory → Type 0
ApplicationCases Q Unat x m = Q (falls (SetUnat x ∷ []) m)
ApplicationCases Q Pfs x m = has_reserved_zeros x ≡ true → Q (falls (SetPfs x ∷ []) m)
ApplicationCases Q Lc x m = Q (falls (SetLc x ∷ []) m)
ApplicationCases Q Ec x m = Q (falls (SetEc (x % 64) ∷ []) m)

-- Of a branch that is taken or falls.
abbrev pub TurnCases : (Outcome → Type 0) → Turn → FrameShape → ℕ → Memory → Type 0
TurnCases Q t f bundle m =
    (t.taken ≡ true → Q (goes (turn_writes t f) m bundle)) × (t.taken ≡ false → Q (falls (turn_writes t f) m))

-- What can come of an action that is executed.
abbrev pub ActCases : (Outcome → Type 0) → Site → Action → Registers → Memory → ℕ → Type 0
ActCases Q s (Compute r1 r2 r3 f) r m unat =
    Fails Q m
    × ((d : Spot) (a b : Cell) → spot r.frame r1 ≡ Some d → look r r2 ≡ Some a → look r r3 ≡ Some b
    → Q (falls (set_spot d (record { value = value_of f a.value b.value; nat = a.nat || b.nat }) []) m))
ActCases Q s (Fetch r1 source) r m unat =
    Fails Q m
    × ((d : Spot) → spot r.frame r1 ≡ Some d
    → Q (falls (set_spot d (record { value = source_value s.bundle r source; nat = false }) []) m))
ActCases Q s (Test kind p1 p2 r2 r3 c) r m unat =
    Fails Q m
    × ((a b : Cell) → look r r2 ≡ Some a → look r r3 ≡ Some b
    → Q (falls (test_writes kind (predicate_spot r.frame p1) (predicate_spot r.frame p2) (result_of c a b)) m))
ActCases Q s (ToPredicates r2 mask w) r m unat =
    Fails Q m
    × ((a : Cell) → look r r2 ≡ Some a → a.nat ≡ false → Q (falls (predicate_writes mask (moved w a.value)) m))
ActCases Q s (ToBranch b1 r2) r m unat =
    Fails Q m
    × ((a : Cell) → look r r2 ≡ Some a → a.nat ≡ false → Q (falls (SetBranch b1 a.value ∷ []) m))
ActCases Q s (ToApplication ar r2 w) r m unat =
    Fails Q m
    × ((a : Cell) → look r r2 ≡ Some a → a.nat ≡ false → ApplicationCases Q ar (moved w a.value) m)
ActCases Q s (FromMemory size kind r1 r3 u) r m unat =
    Fails Q m
    × ((d e : Spot) (base more : Cell) → spot r.frame r1 ≡ Some d → spot r.frame r3 ≡ Some e → look r r3 ≡ Some base
    → look r (update_register u) ≡ Some more
    → LoadCases Q kind base (record { key = d; address = base.value; size = size }) m unat (base_writes u e base more))
ActCases Q s (ToMemory size kind r3 r2 u) r m unat =
    Fails Q m
    × ((e : Spot) (base x : Cell) → spot r.frame r3 ≡ Some e → look r r3 ≡ Some base → look r r2 ≡ Some x
    → base.nat ≡ false → (x.nat ≡ false) ⊎ (takes_nat kind ≡ true) → access_fault m.bytes base.value size ≡ None
    → Q (store_made size kind base.value x m (base_writes u e base zero_cell)))
ActCases Q s (Exchange size r1 r3 r2 inc) r m unat =
    Fails Q m
    × ((d : Spot) (base x : Cell) → spot r.frame r1 ≡ Some d → look r r3 ≡ Some base → look r r2 ≡ Some x
    → base.nat ≡ false → x.nat ≡ false → access_fault m.bytes base.value size ≡ None
    → Q (exchange_made size inc d base.value x.value m))
ActCases Q s (CheckNat r2 disp) r m unat =
    Fails Q m
    × ((a : Cell) → look r r2 ≡ Some a → a.nat ≡ true → Q (goes [] m (target_of s.bundle disp)))
    × ((a : Cell) → look r r2 ≡ Some a → a.nat ≡ false → Q (falls [] m))
ActCases Q s (CheckAlat clear r1 disp) r m unat =
    Fails Q m
    × ((d : Spot) → spot r.frame r1 ≡ Some d → has_entry m.alat d ≡ false → Q (goes [] m (target_of s.bundle disp)))
    × ((d : Spot) → spot r.frame r1 ≡ Some d → has_entry m.alat d ≡ true → (es : List AlatEntry) → MayInvalidate m.alat d es
    → Q (falls [] (record m { alat = es })))
ActCases Q s InvalidateAll r m unat = Q (falls [] (record m { alat = [] }))
ActCases Q s (Invalidate r1) r m unat =
    Fails Q m
    × ((d : Spot) → spot r.frame r1 ≡ Some d → Q (falls [] (record m { alat = invalidated m.alat d })))
ActCases Q s (Allocate r1 sof sol sor) r m unat =
    Fails Q m
    × ((d : Spot) → spot (with_sizes r.frame sof sol sor) r1 ≡ Some d
    → (r.frame.sor ≡ sor) ⊎ (has_zero_bases r.frame ≡ true) → r.frame.base + sof ≤ STACK_LIMIT
    → Q (falls (SetFrame Resized (with_sizes r.frame sof sol sor) ∷ set_spot d (record { value = r.pfs; nat = false }) []) m))
ActCases Q s (Jump disp) r m unat = Q (goes [] m (target_of s.bundle disp))
ActCases Q s (JumpIndirect b2) r m unat =
    Fails Q m
    × ((to : ℕ) → arrives s r b2 ≡ Ok to → Q (goes [] m to))
ActCases Q s (Loop kind disp) r m unat = TurnCases Q (turn_of kind true r.lc r.ec) r.frame (target_of s.bundle disp) m
ActCases Q s (Call b1 (Direct disp)) r m unat = Q (goes (call_writes s.bundle b1 r.frame r.ec) m (target_of s.bundle disp))
ActCases Q s (Call b1 (Indirect b2)) r m unat =
    Fails Q m
    × ((to : ℕ) → arrives s r b2 ≡ Ok to → Q (goes (call_writes s.bundle b1 r.frame r.ec) m to))
ActCases Q s (Return b2) r m unat =
    Fails Q m
    × ((to : ℕ) → return_fault r.frame.base (marked_frame r.frame.base r.pfs) ≡ None → arrives s r b2 ≡ Ok to
    → Q (goes (SetFrame Resized (returned_frame r.frame.base r.pfs) ∷ SetEc (epilog_of r.pfs) ∷ []) m to))
ActCases Q s (ClearBases pred_only) r m unat = Q (falls (SetFrame Renamed (cleared pred_only r.frame) ∷ []) m)
ActCases Q s (Stop unit imm) r m unat = Q (breaks imm m)
ActCases Q s (Idle unit) r m unat = Q (falls [] m)

-- What can come of one whose qualifying predicate is 0.
abbrev pub SkipCases : (Outcome → Type 0) → Site → Action → Registers → Memory → Type 0
SkipCases Q s (Test kind p1 p2 r2 r3 c) r m =
    (kind ≡ Unc → Q (falls (set_predicate (predicate_spot r.frame p1) false (set_predicate (predicate_spot r.frame p2) false [])) m))
    × (kind ≢ Unc → Q (falls [] m))
SkipCases Q s (Loop kind disp) r m = TurnCases Q (turn_of kind false r.lc r.ec) r.frame (target_of s.bundle disp) m
SkipCases Q s action r m = Q (falls [] m)

-- The sides of a choice.
either : (Q : Outcome → Type 0) (b : Bool) (x y : Outcome) → (b ≡ true → Q x) → (b ≡ false → Q y) → Q (if b then x else y)
either Q true x y h k = h refl
either Q false x y h k = k refl

case_computed : (Q : Outcome → Type 0) (f : ℕ → ℕ → ℕ) (o : Option Spot) (x y : Option Cell) (m : Memory) → Fails Q m
    → ((d : Spot) (a b : Cell) → o ≡ Some d → x ≡ Some a → y ≡ Some b
    → Q (falls (set_spot d (record { value = f a.value b.value; nat = a.nat || b.nat }) []) m))
    → Q (computed f o x y m)
case_computed Q f (Some d) (Some a) (Some b) m h k = k d a b refl refl refl
case_computed Q f _ _ _ m h k = h OutOfFrame

case_fetched : (Q : Outcome → Type 0) (o : Option Spot) (x : ℕ) (m : Memory) → Fails Q m
    → ((d : Spot) → o ≡ Some d → Q (falls (set_spot d (record { value = x; nat = false }) []) m)) → Q (fetched o x m)
case_fetched Q (Some d) x m h k = k d refl
case_fetched Q None x m h k = h OutOfFrame

case_test : (Q : Outcome → Type 0) (kind : CmpKind) (p q : Option ℕ) (f : Cell → Cell → Option Bool) (x y : Option Cell) (m : Memory)
    → Fails Q m
    → ((a b : Cell) → x ≡ Some a → y ≡ Some b → Q (falls (test_writes kind p q (f a b)) m)) → Q (test_made kind p q f x y m)
case_test Q kind p q f (Some a) (Some b) m h k = k a b refl refl
case_test Q kind p q f _ _ m h k = h OutOfFrame

case_predicates : (Q : Outcome → Type 0) (f : ℕ → ℕ) (mask : ℕ) (x : Option Cell) (m : Memory) → Fails Q m
    → ((a : Cell) → x ≡ Some a → a.nat ≡ false → Q (falls (predicate_writes mask (f a.value)) m)) → Q (to_predicates f mask x m)
case_predicates Q f mask (Some a) m h k = either Q a.nat _ _ (λ _. h NatConsumed) (k a refl)
case_predicates Q f mask None m h k = h OutOfFrame

case_branch : (Q : Outcome → Type 0) (b1 : ℕ) (x : Option Cell) (m : Memory) → Fails Q m
    → ((a : Cell) → x ≡ Some a → a.nat ≡ false → Q (falls (SetBranch b1 a.value ∷ []) m)) → Q (to_branch b1 x m)
case_branch Q b1 (Some a) m h k = either Q a.nat _ _ (λ _. h NatConsumed) (k a refl)
case_branch Q b1 None m h k = h OutOfFrame

case_written : (Q : Outcome → Type 0) (ar : Ar) (x : ℕ) (m : Memory) → Fails Q m → ApplicationCases Q ar x m
    → Q (application_written ar x m)
case_written Q Unat x m h k = k
case_written Q Pfs x m h k = either Q (has_reserved_zeros x) _ _ k (λ _. h ReservedField)
case_written Q Lc x m h k = k
case_written Q Ec x m h k = k

case_application : (Q : Outcome → Type 0) (ar : Ar) (f : ℕ → ℕ) (x : Option Cell) (m : Memory) → Fails Q m
    → ((a : Cell) → x ≡ Some a → a.nat ≡ false → ApplicationCases Q ar (f a.value) m) → Q (to_application ar f x m)
case_application Q ar f (Some a) m h k = either Q a.nat _ _ (λ _. h NatConsumed) (λ e. case_written Q ar (f a.value) m h (k a refl e))
case_application Q ar f None m h k = h OutOfFrame

case_deferred : (Q : Outcome → Type 0) (kind : LoadKind) (d : Spot) (m : Memory) (ws : List Write)
    → ((es : List AlatEntry) → MayInvalidate m.alat d es → Q (falls (set_spot d (record { value = 0; nat = true }) ws)
    (record m { alat = es }))) → Q (deferred kind d m ws)
case_deferred Q load.Sa d m ws h = h (invalidated m.alat d) (inr refl)
case_deferred Q _ d m ws h = h m.alat (inl refl)

case_failed : (Q : Outcome → Type 0) (cause : FaultKind) (kind : LoadKind) (base : Cell) (e : AlatEntry) (m : Memory) (unat : ℕ)
    (ws : List Write)
    → Fails Q m → LoadCases Q kind base e m unat ws → Q (load_failed cause kind e.key m ws)
case_failed Q cause kind base e m unat ws h k =
    either Q (is_speculative kind) _ _ (λ s. case_deferred Q kind e.key m ws (k.defers s)) (λ _. h cause)

case_hit : (Q : Outcome → Type 0) (kind : LoadKind) (d : Spot) (m : Memory) (ws : List Write)
    → ((es : List AlatEntry) → MayInvalidate m.alat d es → Q (falls ws (record m { alat = es }))) → Q (load_hit kind d m ws)
case_hit Q load.CNc d m ws h = h m.alat (inl refl)
case_hit Q _ d m ws h = h (invalidated m.alat d) (inr refl)

case_tried : (Q : Outcome → Type 0) (o : Option FaultKind) (kind : LoadKind) (base : Cell) (e : AlatEntry) (m : Memory) (unat : ℕ)
    (ws : List Write)
    → access_fault m.bytes e.address e.size ≡ o → base.nat ≡ false → Fails Q m → LoadCases Q kind base e m unat ws
    → Q (load_tried o kind e m unat ws)
case_tried Q None kind base e m unat ws is n h k = k.loads n is
case_tried Q (Some cause) kind base e m unat ws is n h k = case_failed Q cause kind base e m unat ws h k

case_checked : (Q : Outcome → Type 0) (kind : LoadKind) (base : Cell) (e : AlatEntry) (m : Memory) (unat : ℕ) (ws : List Write)
    → base.nat ≡ false → Fails Q m → LoadCases Q kind base e m unat ws → Q (load_checked kind e m unat ws)
case_checked Q kind base e m unat ws n h k =
    either Q (is_check kind && has_hit m.alat e) _ _
    (λ t. let both = and_parts (is_check kind) (has_hit m.alat e) t in case_hit Q kind e.key m ws (k.hits n both.0 both.1))
    (λ _. case_tried Q (access_fault m.bytes e.address e.size) kind base e m unat ws refl n h k)

case_load : (Q : Outcome → Type 0) (size : ℕ) (kind : LoadKind) (u : Update) (o p : Option Spot) (x y : Option Cell) (m : Memory) (unat : ℕ)
    → Fails Q m
    → ((d e : Spot) (base more : Cell) → o ≡ Some d → p ≡ Some e → x ≡ Some base → y ≡ Some more
    → LoadCases Q kind base (record { key = d; address = base.value; size = size }) m unat (base_writes u e base more))
    → Q (from_memory size kind u o p x y m unat)
case_load Q size kind u (Some d) (Some e) (Some base) (Some more) m unat h k =
    let entry : AlatEntry = record { key = d; address = base.value; size = size } in
    let ws : List Write = base_writes u e base more in
    let cases : LoadCases Q kind base entry m unat ws = k d e base more refl refl refl refl in
    either Q base.nat _ _ (λ _. case_failed Q NatConsumed kind base entry m unat ws h cases)
    (λ n. case_checked Q kind base entry m unat ws n h cases)
case_load Q size kind u _ _ _ _ m unat h k = h OutOfFrame

no_nat : (a b t : Bool) → (a || (b && not t)) ≡ false → (a ≡ false) × ((b ≡ false) ⊎ (t ≡ true))
no_nat true b t h = absurd (cc)
no_nat false false t h = (refl, inl refl)
no_nat false true true h = (refl, inr refl)
no_nat false true false h = absurd (cc)

case_faults_or : (Q : Outcome → Type 0) (o : Option FaultKind) (m : Memory) (made : Outcome) → Fails Q m → (o ≡ None → Q made)
    → Q (faults_or o m made)
case_faults_or Q None m made h k = k refl
case_faults_or Q (Some cause) m made h k = h cause

case_store : (Q : Outcome → Type 0) (size : ℕ) (kind : StoreKind) (u : Update) (o : Option Spot) (y z : Option Cell) (m : Memory)
    → Fails Q m
    → ((e : Spot) (base x : Cell) → o ≡ Some e → y ≡ Some base → z ≡ Some x → base.nat ≡ false → (x.nat ≡ false) ⊎ (takes_nat kind ≡ true)
    → access_fault m.bytes base.value size ≡ None → Q (store_made size kind base.value x m (base_writes u e base zero_cell)))
    → Q (to_memory size kind u o y z m)
case_store Q size kind u (Some e) (Some base) (Some x) m h k =
    either Q (base.nat || (x.nat && not (takes_nat kind))) _ _ (λ _. h NatConsumed)
    (λ t. let n = no_nat base.nat x.nat (takes_nat kind) t in
    case_faults_or Q (access_fault m.bytes base.value size) m _ h (k e base x refl refl refl n.0 n.1))
case_store Q size kind u _ _ _ m h k = h OutOfFrame

case_exchange : (Q : Outcome → Type 0) (size : ℕ) (inc : Option ℤ) (o : Option Spot) (y z : Option Cell) (m : Memory) → Fails Q m
    → ((d : Spot) (base x : Cell) → o ≡ Some d → y ≡ Some base → z ≡ Some x → base.nat ≡ false → x.nat ≡ false
    → access_fault m.bytes base.value size ≡ None → Q (exchange_made size inc d base.value x.value m))
    → Q (exchange size inc o y z m)
case_exchange Q size inc (Some d) (Some base) (Some x) m h k =
    either Q (base.nat || x.nat) _ _ (λ _. h NatConsumed)
    (λ t. let n = or_parts base.nat x.nat t in
    case_faults_or Q (access_fault m.bytes base.value size) m _ h (k d base x refl refl refl n.0 n.1))
case_exchange Q size inc _ _ _ m h k = h OutOfFrame

case_check_nat : (Q : Outcome → Type 0) (bundle : ℕ) (x : Option Cell) (m : Memory) → Fails Q m
    → ((a : Cell) → x ≡ Some a → a.nat ≡ true → Q (goes [] m bundle)) → ((a : Cell) → x ≡ Some a → a.nat ≡ false → Q (falls [] m))
    → Q (check_nat bundle x m)
case_check_nat Q bundle (Some a) m h k l = either Q a.nat _ _ (k a refl) (l a refl)
case_check_nat Q bundle None m h k l = h OutOfFrame

case_clear : (Q : Outcome → Type 0) (clear : Bool) (d : Spot) (m : Memory)
    → ((es : List AlatEntry) → MayInvalidate m.alat d es → Q (falls [] (record m { alat = es })))
    → Q (falls [] (if clear then record m { alat = invalidated m.alat d } else m))
case_clear Q true d m h = h (invalidated m.alat d) (inr refl)
case_clear Q false d m h = h m.alat (inl refl)

case_check_alat : (Q : Outcome → Type 0) (clear : Bool) (bundle : ℕ) (o : Option Spot) (m : Memory) → Fails Q m
    → ((d : Spot) → o ≡ Some d → has_entry m.alat d ≡ false → Q (goes [] m bundle))
    → ((d : Spot) → o ≡ Some d → has_entry m.alat d ≡ true → (es : List AlatEntry) → MayInvalidate m.alat d es
    → Q (falls [] (record m { alat = es })))
    → Q (check_alat clear bundle o m)
case_check_alat Q clear bundle (Some d) m h k l = either Q (has_entry m.alat d) _ _ (λ t. case_clear Q clear d m (l d refl t)) (k d refl)
case_check_alat Q clear bundle None m h k l = h OutOfFrame

case_invalidate : (Q : Outcome → Type 0) (o : Option Spot) (m : Memory) → Fails Q m
    → ((d : Spot) → o ≡ Some d → Q (falls [] (record m { alat = invalidated m.alat d }))) → Q (invalidate o m)
case_invalidate Q (Some d) m h k = k d refl
case_invalidate Q None m h k = h OutOfFrame

same_or_zero : (a b : ℕ) (t : Bool) → (not (a == b) && not t) ≡ false → (a ≡ b) ⊎ (t ≡ true)
same_or_zero a b true h = inr refl
same_or_zero a b false h = inl (grind (arith, nat_tests))

case_allocated : (Q : Outcome → Type 0) (old new : FrameShape) (o : Option Spot) (pfs : ℕ) (m : Memory) → Fails Q m
    → ((d : Spot) → o ≡ Some d → (old.sor ≡ new.sor) ⊎ (has_zero_bases old ≡ true) → new.base + new.sof ≤ STACK_LIMIT
    → Q (falls (SetFrame Resized new ∷ set_spot d (record { value = pfs; nat = false }) []) m))
    → Q (allocated old new o pfs m)
case_allocated Q old new (Some d) pfs m h k =
    either Q (not (old.sor == new.sor) && not (has_zero_bases old)) _ _ (λ _. h ReservedField)
    (λ t. either Q (nat_lt STACK_LIMIT (new.base + new.sof)) _ _ (λ _. h StackLimit)
    (λ l. k d refl (same_or_zero old.sor new.sor (has_zero_bases old) t) (not_above (new.base + new.sof) l)))
  where
    not_above : (n : ℕ) → nat_lt STACK_LIMIT n ≡ false → n ≤ STACK_LIMIT
    not_above n l = grind (arith, nat_tests)
case_allocated Q old new None pfs m h k = h OutOfFrame

case_lands : (Q : Outcome → Type 0) (ws : List Write) (m : Memory) (o : Result ℕ FaultKind) → Fails Q m
    → ((to : ℕ) → o ≡ Ok to → Q (goes ws m to)) → Q (lands ws m o)
case_lands Q ws m (Ok to) h k = k to refl
case_lands Q ws m (Err kind) h k = h kind

case_return : (Q : Outcome → Type 0) (x : Option FaultKind) (f : FrameShape) (ec : ℕ) (o : Result ℕ FaultKind) (m : Memory) → Fails Q m
    → ((to : ℕ) → x ≡ None → o ≡ Ok to → Q (goes (SetFrame Resized f ∷ SetEc ec ∷ []) m to))
    → Q (faults_or x m (lands (SetFrame Resized f ∷ SetEc ec ∷ []) m o))
case_return Q x f ec o m h k = case_faults_or Q x m _ h (λ free. case_lands Q _ m o h (λ to. k to free))

case_turn : (Q : Outcome → Type 0) (t : Turn) (f : FrameShape) (bundle : ℕ) (m : Memory) → TurnCases Q t f bundle m
    → Q (turned t f bundle m)
case_turn Q t f bundle m h = either Q t.taken _ _ h.0 h.1

-- What holds in each case of an action holds of its effect.
pub act_cases : (Q : Outcome → Type 0) (s : Site) (action : Action) (r : Registers) (m : Memory) (unat : ℕ) → ActCases Q s action r m unat
    → Q (act s action r m unat)
act_cases Q s (Compute r1 r2 r3 f) r m unat h = case_computed Q (value_of f) (spot r.frame r1) (look r r2) (look r r3) m h.0 h.1
act_cases Q s (Fetch r1 source) r m unat h = case_fetched Q (spot r.frame r1) (source_value s.bundle r source) m h.0 h.1
act_cases Q s (Test kind p1 p2 r2 r3 c) r m unat h =
    case_test Q kind (predicate_spot r.frame p1) (predicate_spot r.frame p2) (result_of c) (look r r2) (look r r3) m h.0 h.1
act_cases Q s (ToPredicates r2 mask w) r m unat h = case_predicates Q (moved w) mask (look r r2) m h.0 h.1
act_cases Q s (ToBranch b1 r2) r m unat h = case_branch Q b1 (look r r2) m h.0 h.1
act_cases Q s (ToApplication ar r2 w) r m unat h = case_application Q ar (moved w) (look r r2) m h.0 h.1
act_cases Q s (FromMemory size kind r1 r3 u) r m unat h =
    case_load Q size kind u (spot r.frame r1) (spot r.frame r3) (look r r3) (look r (update_register u)) m unat h.0 h.1
act_cases Q s (ToMemory size kind r3 r2 u) r m unat h = case_store Q size kind u (spot r.frame r3) (look r r3) (look r r2) m h.0 h.1
act_cases Q s (Exchange size r1 r3 r2 inc) r m unat h = case_exchange Q size inc (spot r.frame r1) (look r r3) (look r r2) m h.0 h.1
act_cases Q s (CheckNat r2 disp) r m unat h = case_check_nat Q (target_of s.bundle disp) (look r r2) m h.0 h.1 h.2
act_cases Q s (CheckAlat clear r1 disp) r m unat h = case_check_alat Q clear (target_of s.bundle disp) (spot r.frame r1) m h.0 h.1 h.2
act_cases Q s InvalidateAll r m unat h = h
act_cases Q s (Invalidate r1) r m unat h = case_invalidate Q (spot r.frame r1) m h.0 h.1
act_cases Q s (Allocate r1 sof sol sor) r m unat h =
    case_allocated Q r.frame (with_sizes r.frame sof sol sor) (spot (with_sizes r.frame sof sol sor) r1) r.pfs m h.0 h.1
act_cases Q s (Jump disp) r m unat h = h
act_cases Q s (JumpIndirect b2) r m unat h = case_lands Q [] m (arrives s r b2) h.0 h.1
act_cases Q s (Loop kind disp) r m unat h = case_turn Q (turn_of kind true r.lc r.ec) r.frame (target_of s.bundle disp) m h
act_cases Q s (Call b1 (Direct disp)) r m unat h = h
act_cases Q s (Call b1 (Indirect b2)) r m unat h = case_lands Q (call_writes s.bundle b1 r.frame r.ec) m (arrives s r b2) h.0 h.1
act_cases Q s (Return b2) r m unat h =
    case_return Q (return_fault r.frame.base (marked_frame r.frame.base r.pfs)) (returned_frame r.frame.base r.pfs)
    (epilog_of r.pfs) (arrives s r b2) m h.0 h.1
act_cases Q s (ClearBases pred_only) r m unat h = h
act_cases Q s (Stop unit imm) r m unat h = h
act_cases Q s (Idle unit) r m unat h = h

case_skipped : (Q : Outcome → Type 0) (kind : CmpKind) (p q : Option ℕ) (m : Memory)
    → (kind ≡ Unc → Q (falls (set_predicate p false (set_predicate q false [])) m)) → (kind ≢ Unc → Q (falls [] m))
    → Q (test_skipped kind p q m)
case_skipped Q Unc p q m h k = h refl
case_skipped Q _ p q m h k = k (λ e. absurd (cc))

-- What holds in each case of one whose qualifying predicate is 0 holds of its effect.
pub skip_cases : (Q : Outcome → Type 0) (s : Site) (action : Action) (r : Registers) (m : Memory) → SkipCases Q s action r m
    → Q (skip s action r m)
skip_cases Q s (Test kind p1 p2 r2 r3 c) r m h = case_skipped Q kind (predicate_spot r.frame p1) (predicate_spot r.frame p2) m h.0 h.1
skip_cases Q s (Loop kind disp) r m h = case_turn Q (turn_of kind false r.lc r.ec) r.frame (target_of s.bundle disp) m h
skip_cases Q s _ r m h = h

-- Both together.
pub guarded_cases : (Q : Outcome → Type 0) (s : Site) (qp : ℕ) (action : Action) (r : Registers) (m : Memory) (unat : ℕ)
    → (holds r qp ≡ true → ActCases Q s action r m unat) → (holds r qp ≡ false → SkipCases Q s action r m)
    → Q (guarded s qp action r m unat)
guarded_cases Q s qp action r m unat h k =
    either Q (holds r qp) _ _ (λ t. act_cases Q s action r m unat (h t)) (λ t. skip_cases Q s action r m (k t))
