-- What the fetch-and-adds of a group find and leave.
use Rattle.std.proofs.Common.{◌≡◌, ℕ, ℤ, ◌+◌, ◌*◌, ◌%◌, ◌^◌, inl, inr, Bool, true, false, ◌&&◌, List, [], ◌∷◌, ◌++◌, Option, Some, None, refl, sym, ◌∙◌, ap, subst, true≢false}
use Rattle.std.proofs.lemmas.Nat.{pow_pos, mod_below}
use Rattle.std.proofs.Math.Nat.{mod-eq_of_lt}
use Rattle.ia_insn.specs.declared.insn.Insn.{Insn}
use Rattle.ia_insn.specs.NewValues.{exchanged}
use Rattle.ia_insn.specs.Signed.{twos}
use Rattle.ia_program.specs.declared.limits.TheConstants.{RUN_LIMIT}
use Rattle.ia_program.specs.declared.place.Place.{Place}
use Rattle.ia_program.specs.declared.ending.FaultKind.{FaultKind}
use Rattle.ia_program.specs.Places.{insn_at}
use Rattle.ia_program.specs.Programs.{Program}
use Rattle.ia_meaning.specs.declared.action.Action.TheVariants.{Exchange}
use Rattle.ia_meaning.specs.declared.next.Next.TheVariants.{Faults}
use Rattle.ia_meaning.specs.declared.state.Cell.{Cell}
use Rattle.ia_meaning.specs.declared.state.FrameShape.{FrameShape}
use Rattle.ia_meaning.specs.declared.state.Spot.{Spot}
use Rattle.ia_meaning.specs.State.{Registers, Memory}
use Rattle.ia_meaning.specs.Names.{spot, look, holds, set_spot}
use Rattle.ia_meaning.specs.Actions.{allocates, insn_action, is_alloc, is_branch}
use Rattle.ia_meaning.specs.Outcomes.{Outcome, faults}
use Rattle.ia_meaning.specs.Effects.{Site, site, effect}
use Rattle.ia_meaning.specs.Loads.{access_fault, loaded, stored, untouched, exchange_made}
use Rattle.ia_meaning.specs.Sequence.{next_of, is_stopped}
use Rattle.ia_meaning.specs.Steps.{settled}
use Rattle.ia_meaning.specs.Views.{view}
use Rattle.ia_meaning.specs.ParallelGroups.{Gathered, gathered_from, now_of, outcome_from, slot_outcome, gathers}
use Rattle.ia_meaning.proofs.BytesKept.{bytes_kept}
use Rattle.ia_meaning.proofs.DataAccesses.{stored_is_loaded}
use Rattle.ia_meaning.proofs.Inversions.{ActCases, guarded_cases}
use Rattle.ia_meaning.proofs.PredicateIndexes.{holds_zero}
use Rattle.ia_meaning.proofs.Views.{view_plain}
use Rattle.order_laws.specs.GroupSlots.{GatheredSlot, slot_here, done_by}
use Rattle.order_laws.specs.FetchAdds.{IsFetchAdd, IsNoAccess, AreFetchAdds, sum_of, Finds, FetchAddsFindSums, FetchAddsAreSummed, FetchAddTargetsStand, TwoFetchAdds}
use Rattle.order_laws.specs.OrderExamples.{cell}
use Rattle.order_laws.proofs.GatheredSlots.{IsOn, with_slot, by_slots, no_more}
use Rattle.order_laws.proofs.TargetsStand.{targets_stand}

-- What one fetch-and-add does.
record Added (size address : ℕ) (inc : ℤ) (frame : FrameShape) (r1 : ℕ) (m : Memory) (o : Outcome) : Type 0 where
  pub target : Spot
  pub names : spot frame r1 ≡ Some target
  pub writes : o.writes ≡ set_spot target (record { value = loaded m.bytes address size; nat = false }) []
  pub left : loaded o.memory.bytes address size ≡ exchanged size (Some inc) (loaded m.bytes address size) 0

never : (kind : FaultKind) (next : Option Place) (m : Memory) → IsOn (settled next m (Faults kind) (faults kind m)).next → ⊥
never kind None m on = on
never kind (Some q) m on = on

-- A sum is in the range of its bytes.
sum_fits : (size : ℕ) (inc : ℤ) (old x : ℕ) → exchanged size (Some inc) old x % 2 ^ (8 * size) ≡ exchanged size (Some inc) old 0
sum_fits size inc old x = mod-eq_of_lt (mod_below (old + twos 64 inc) (2 ^ (8 * size)) (pow_pos (8 * size)))

module _ (s : Site) (insn : Insn) (r : Registers) (m : Memory) (unat size address : ℕ) (inc : ℤ) (r1 r3 : ℕ) (base : Cell)
    (action : insn_action insn ≡ Exchange size r1 r3 0 (Some inc)) (guard : insn.qp ≡ 0) (looked : look r r3 ≡ Some base)
    (here : base.value ≡ address) where
  abbrev Q : Outcome → Type 0
  Q o = (next : Option Place) → IsOn (settled next m o.next o).next → Added size address inc r.frame r1 m (settled next m o.next o)

  made : (d : Spot) (b x : Cell) → spot r.frame r1 ≡ Some d → look r r3 ≡ Some b → access_fault m.bytes b.value size ≡ None
      → Q (exchange_made size (Some inc) d b.value x.value m)
  made d b x names is access None on = absurd on
  made d b x names is access (Some q) on =
      let same : Some base ≡ Some b = sym looked ∙ is in
      let cell : base ≡ b = cc in
      let there : b.value ≡ address = ap (λ (c : Cell). c.value) (sym cell) ∙ here in
      let old = loaded m.bytes b.value size in
      subst (λ a. Added size a inc r.frame r1 m (exchange_made size (Some inc) d b.value x.value m)) there
      (record {
        target = d;
        names = names;
        writes = refl;
        left = stored_is_loaded m.bytes b.value size
            (exchanged size (Some inc) old x.value) access ∙ sum_fits size inc old x.value;
      })

  added_by : Q (effect s insn r m unat)
  added_by =
      guarded_cases Q s insn.qp (insn_action insn) r m unat
      (λ _. subst (λ f. ActCases Q s f r m unat) (sym action) (
        λ kind next on. absurd (never kind next m on),
        λ d b x names is _ _ _ access. made d b x names is access,
      ))
      (λ off. absurd (true≢false (sym (holds_zero r) ∙ ap (holds r) (sym guard) ∙ off)))

-- A slot that is one.
slot_adds : (p : Program) (x : GatheredSlot) (size address : ℕ) (inc : ℤ) (add : IsFetchAdd size address inc x) → IsOn (done_by p x).next
    → Added size address inc x.before.base.frame add.r1 x.before.memory (done_by p x)
slot_adds p x size address inc add on =
    let g = x.before in
    let next = next_of p.bundles g.place in
    let plain : is_branch (insn_action x.insn) ≡ false = ap is_branch add.action in
    let of = λ (v : Registers). outcome_from p g.place x.insn v g.memory g.unat in
    let same : view x.insn (now_of g) g.base ≡ g.base = view_plain x.insn (now_of g) g.base plain in
    subst (λ o. Added size address inc g.base.frame add.r1 g.memory o) (sym (ap of same))
    (added_by (site p g.place.bundle) x.insn g.base g.memory g.unat size address inc add.r1 add.r3 add.base add.action add.guard add.looked
    add.there next
    (subst (λ (o : Outcome). IsOn o.next) (ap of same) on))

slot_keeps : (p : Program) (x : GatheredSlot) → IsNoAccess x → (done_by p x).memory.bytes ≡ x.before.memory.bytes
slot_keeps p x h =
    let g = x.before in bytes_kept (site p g.place.bundle) x.insn (next_of p.bundles g.place)
    (view x.insn (now_of g) g.base) g.memory g.unat h

memory_gathered : (b : Bool) (g : Gathered) (o : Outcome) (to : Place) → (gathers b g o to).memory ≡ o.memory
memory_gathered true g o to = refl
memory_gathered false g o to = refl

-- What is there, as a number.
abbrev There : Memory → ℕ → ℕ → ℕ
There m address size = loaded m.bytes address size

-- What is left to be added behind one more slot.
record Left (size address : ℕ) (incs : List ℤ) (g : Gathered) (o : Outcome) (rest : List GatheredSlot) : Type 0 where
  pub incs_left : List ℤ
  pub adds : AreFetchAdds size address incs_left rest
  pub sum : sum_of size (There o.memory address size) incs_left ≡ sum_of size (There g.memory address size) incs

sums_on : (p : Program) (g : Gathered) (insn : Option Insn) (size address : ℕ) (incs : List ℤ) (rest : List GatheredSlot)
    → IsOn (slot_outcome p g insn).next
    → AreFetchAdds size address incs (slot_here g insn ++ rest) → Left size address incs g (slot_outcome p g insn) rest
sums_on p g None size address incs rest on h = record { incs_left = incs; adds = h; sum = refl }
sums_on p g (Some insn) size address [] rest on h =
    record { incs_left = []; adds = h.1; sum = ap (λ b. loaded b address size) (slot_keeps p (record { insn = insn; before = g }) h.0) }
sums_on p g (Some insn) size address (inc ∷ incs) rest on (inl h) =
    record {
      incs_left = inc ∷ incs;
      adds = h.1;
      sum = ap (λ b. sum_of size (loaded b address size) (inc ∷ incs))
          (slot_keeps p (record { insn = insn; before = g }) h.0);
    }
sums_on p g (Some insn) size address (inc ∷ incs) rest on (inr h) =
    let a = slot_adds p (record { insn = insn; before = g }) size address inc h.0 on in
    record { incs_left = incs; adds = h.1; sum = ap (λ n. sum_of size n incs) a.left }

-- What each finds.

found : (p : Program) (x : GatheredSlot) (size address : ℕ) (inc : ℤ) (add : IsFetchAdd size address inc x) → IsOn (done_by p x).next
    → Finds p (There x.before.memory address size) add.r1 x
found p x size address inc add on = let a = slot_adds p x size address inc add on in (a.target, (a.names, a.writes))

module _ (p : Program) (size address : ℕ) (inc : ℤ) (ys : List GatheredSlot) (x : GatheredSlot) (add : IsFetchAdd size address inc x) where
  -- A fetch-and-add finds the sum of what is in memory and the increments.
  abbrev FindsFrom : Memory → List ℤ → Type 0
  FindsFrom m incs = Finds p (sum_of size (There m address size) incs) add.r1 x

  -- The sum is found by the next slot, or by one of the rest.
  front : (g : Gathered) (insn : Option Insn) (rest : List GatheredSlot) (incs : List ℤ) (xs : List GatheredSlot)
      → IsOn (slot_outcome p g insn).next
      → slot_here g insn ++ rest ≡ xs ++ x ∷ ys → AreFetchAdds size address incs xs
      → ((js : List ℤ) (zs : List GatheredSlot) → rest ≡ zs ++ x ∷ ys → AreFetchAdds size address js zs
      → FindsFrom (slot_outcome p g insn).memory js)
      → FindsFrom g.memory incs
  front g None rest incs xs on e adds later = later incs xs e adds
  front g (Some insn) rest incs [] on e adds later =
      let y : GatheredSlot = record { insn = insn; before = g } in
      let same : y ≡ x = cc in
      let here = found p x size address inc add (subst (λ z. IsOn (done_by p z).next) same on) in
      let memory : There x.before.memory address size ≡ There g.memory address size =
      ap (λ (z : GatheredSlot). There z.before.memory address size) (sym same) in
      subst (FindsFrom g.memory) (sym adds) (subst (λ n. Finds p n add.r1 x) memory here)
  front g (Some insn) rest incs (z ∷ zs) on e adds later =
      let y : GatheredSlot = record { insn = insn; before = g } in
      let same : z ≡ y = cc in
      let tail : rest ≡ zs ++ x ∷ ys = cc in
      let left = sums_on p g (Some insn) size address incs zs on (subst (λ w. AreFetchAdds size address incs (w ∷ zs)) same adds) in
      subst (λ n. Finds p n add.r1 x) left.sum (later left.incs_left zs tail left.adds)

  abbrev FindsIn : Bool → Gathered → List GatheredSlot → Gathered → Type 0
  FindsIn begins g slots all =
      (incs : List ℤ) (xs : List GatheredSlot) → slots ≡ xs ++ x ∷ ys → AreFetchAdds size address incs xs → FindsFrom g.memory incs

  finds_none : (begins : Bool) (g : Gathered) → FindsIn begins g [] g
  finds_none begins g incs xs e adds = absurd (no_more xs ys x e)

  finds_on : (begins : Bool) (g : Gathered) (insn : Option Insn) (to : Place) (rest : List GatheredSlot) (all : Gathered)
      → IsOn (slot_outcome p g insn).next
      → FindsIn false (with_slot p begins g insn to) rest all → FindsIn begins g (slot_here g insn ++ rest) all
  finds_on begins g insn to rest all on later incs xs e adds =
      front g insn rest incs xs on e adds (λ js zs t h. subst (λ m. FindsFrom m js)
      (memory_gathered (begins && allocates insn) g (slot_outcome p g insn) to) (later js zs t h))

pub adds_find_sums : FetchAddsFindSums
adds_find_sums p s size address incs inc xs ys x e adds add =
    by_slots p (FindsIn p size address inc ys x add) (finds_none p size address inc ys x add)
    (finds_on p size address inc ys x add) RUN_LIMIT true (gathered_from s) incs xs e adds

-- What they leave.

module _ (p : Program) (size address : ℕ) where
  abbrev LeavesSum : Bool → Gathered → List GatheredSlot → Gathered → Type 0
  LeavesSum begins g slots all =
      (incs : List ℤ) → AreFetchAdds size address incs slots → There all.memory address size
      ≡ sum_of size (There g.memory address size) incs

  sums_none : (begins : Bool) (g : Gathered) → LeavesSum begins g [] g
  sums_none begins g incs h = sym (ap (sum_of size (There g.memory address size)) h)

  sums_with : (begins : Bool) (g : Gathered) (insn : Option Insn) (to : Place) (rest : List GatheredSlot) (all : Gathered)
      → IsOn (slot_outcome p g insn).next
      → LeavesSum false (with_slot p begins g insn to) rest all → LeavesSum begins g (slot_here g insn ++ rest) all
  sums_with begins g insn to rest all on later incs h =
      let left = sums_on p g insn size address incs rest on h in
      later left.incs_left left.adds
      ∙ ap (λ (m : Memory). sum_of size (There m address size) left.incs_left)
      (memory_gathered (begins && allocates insn) g (slot_outcome p g insn) to)
      ∙ left.sum

pub adds_are_summed : FetchAddsAreSummed
adds_are_summed p code s size address incs h =
    by_slots p (LeavesSum p size address) (sums_none p size address) (sums_with p size address) RUN_LIMIT true (gathered_from s) incs h

-- What they give their targets is there.

pub adds_stand : FetchAddTargetsStand
adds_stand p code s w size address inc xs ys x program free known e add =
    targets_stand p code s w xs ys x program free known e (ap is_alloc add.action)

pub two_are_added : TwoFetchAdds
unfolding look spot holds next_of insn_at is_stopped access_fault loaded stored untouched
two_are_added = (
  (inr (
    record { r1 = 4; r3 = 3; base = cell 0x100000; action = refl; guard = refl; looked = refl; there = refl },
    inr (record { r1 = 5; r3 = 3; base = cell 0x100000; action = refl; guard = refl; looked = refl; there = refl }, (λ _. refl, refl)),
  )),
  refl,
  refl,
  refl,
  refl,
)
