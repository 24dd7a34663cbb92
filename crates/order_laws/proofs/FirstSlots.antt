-- A group from its first slot on, which may be an `alloc`.
use Rattle.std.proofs.Common.{◌≡◌, ℕ, zero, suc, ◌+◌, ◌<◌, ◌⊎◌, inl, inr, Bool, true, false, List, [], ◌∷◌, ◌++◌, Option, Some, None, length, refl, sym, ◌∙◌, ap, subst, true≢false}
use Rattle.std.specs.List.{AllByRecursion as Each}
use Rattle.ia_insn.specs.declared.insn.Insn.{Insn}
use Rattle.ia_program.specs.declared.place.Place.{Place}
use Rattle.ia_program.specs.Listed.{IsListed}
use Rattle.ia_program.specs.Places.{insn_at}
use Rattle.ia_program.specs.Programs.{Program, IsProgram}
use Rattle.ia_meaning.specs.declared.next.Next.{Next as NextWay}
use Rattle.ia_meaning.specs.declared.next.Next.TheVariants as next
use Rattle.ia_meaning.specs.declared.state.Cell.{Cell}
use Rattle.ia_meaning.specs.declared.state.FrameShape.{FrameShape}
use Rattle.ia_meaning.specs.declared.state.Spot.{Spot}
use Rattle.ia_meaning.specs.declared.state.Spot.TheVariants.{Static, Stacked}
use Rattle.ia_meaning.specs.declared.action.Action.{Action}
use Rattle.ia_meaning.specs.declared.action.Action.TheVariants as action
use Rattle.ia_meaning.specs.State.{Registers, Memory, State, IsFrame}
use Rattle.ia_meaning.specs.declared.write.Write.{Write as RegisterWrite}
use Rattle.ia_meaning.specs.declared.write.Write.TheVariants.{SetStatic, SetCell, SetFrame}
use Rattle.ia_meaning.specs.declared.write.FrameCause.TheVariants.{Resized}
use Rattle.ia_meaning.specs.Writes.{put, apply, frame_changes}
use Rattle.ia_meaning.specs.Names.{set_spot, holds, predicate_index}
use Rattle.ia_meaning.specs.Actions.{is_branch, is_alloc, insn_action}
use Rattle.ia_meaning.specs.Outcomes.{Outcome}
use Rattle.ia_meaning.specs.Effects.{site, effect}
use Rattle.ia_meaning.specs.Sequence.{next_of}
use Rattle.ia_meaning.specs.Steps.{settled, outcome_of, registers_after, Step, place_after, step_by, seq_step, Group, group_within}
use Rattle.resource_sets.specs.declared.access.Resource.TheVariants.{Pr}
use Rattle.resource_sets.specs.declared.access.Kind.{Kind}
use Rattle.resource_sets.specs.declared.access.Kind.TheVariants.{Read, BranchRead, Write, AllocWrite, LoopWrite, OrWrite, AndWrite, Spill, Fill}
use Rattle.resource_sets.specs.AccessLaws.{TheFrame, location, location_of, naming_frame, writes_registers, IsCovered, ResizesFirst, IsAllocated}
use Rattle.resource_sets.specs.Regularity.{IsInRange}
use Rattle.resource_sets.proofs.Coverage.{covered, cells_inside}
use Rattle.resource_sets.proofs.AllocWrites.{frame_first}
use Rattle.resource_sets.proofs.Regularity.{in_range, guarded, alloc_writes, guards_in_range}
use Rattle.state_laws.proofs.StateKept.{keeps_state}
use Rattle.ia_program.proofs.ListedSlots.{listed_at}
use Rattle.flow_facts.specs.Walks.{Walk}
use Rattle.order_laws.specs.Violations.{HasNoViolation}
use Rattle.order_laws.specs.Traces.{IsKnown}
use Rattle.ia_meaning.proofs.Resizing.{length-resized}
use Rattle.ia_meaning.proofs.StepHere.{step_here, insn_here}
use Rattle.order_laws.specs.OrderLaws.{FitTogether, IsCellBelow}
use Rattle.ia_meaning.specs.ParallelGroups.{gathered_from, slot_outcome, frame_ahead, after_frame, unat_after, gathers, gathered_by, gathered_within}
use Rattle.order_laws.proofs.Untouched.{Mem, each_of}
use Rattle.order_laws.proofs.Gathering.{joined, IsStillOne, IsPlain, EarlierWrite, IsGathering}
use Rattle.ia_meaning.proofs.Views.{view_plain}
use Rattle.order_laws.proofs.Advancing.{has_here, rotating_fits}
use Rattle.order_laws.proofs.GroupOrders.{added, IsGroupOnWalk, Joins, From, slot_is, plain_step, plain_joins, rest_is, ordered, frames_append}

-- A group before its first slot.
begun_way : (p : Program) (r : Registers) → IsFrame r.frame → length r.cells ≡ r.frame.base + r.frame.sof → IsGathering p [] r [] r.unat
begun_way p r f c = record { frame = f; cells = c; origins = tt; fits = tt; inside = tt; unat = inl refl }

pub begun_on : (p : Program) (s : State) (w : Walk) → IsKnown p s w → IsGroupOnWalk p (gathered_from s) [] w
begun_on p s w known = record {
  known = known;
  inside = λ i m. absurd m;
  way = let r = known.state.registers in begun_way p s.registers r.frame r.cell_count;
}

-- An `alloc` that falls off does nothing.
settled_allocated : (new : FrameShape) (n : Option Place) (m : Memory) (way : NextWay) (o : Outcome) → IsAllocated new o
    → IsAllocated new (settled n m way o)
settled_allocated new None m next.Falls o h = record { spills = refl; ways = inl refl }
settled_allocated new n m way o h = h

-- The new frame has the rename bases of the old one, and its base.
new_pr : (f : Action) (old : FrameShape) → (naming_frame f old).rrbs.pr ≡ old.rrbs.pr
new_pr (action.Allocate r1 sof sol sor) old = refl
new_pr f old = refl

no_branch : (f : Action) → is_alloc f ≡ true → is_branch f ≡ false
no_branch (action.Allocate r1 sof sol sor) e = refl
no_branch f e = absurd (true≢false (sym e))

-- A write of a register leaves the frame and the predicates.
set_spot_frame : (d : Spot) (c : Cell) (r : Registers) → (apply (set_spot d c []) r).frame ≡ r.frame
set_spot_frame (Static zero) c r = refl
set_spot_frame (Static (suc n)) c r = refl
set_spot_frame (Stacked n) c r = refl

set_spot_predicates : (d : Spot) (c : Cell) (r : Registers) → (apply (set_spot d c []) r).predicates ≡ r.predicates
set_spot_predicates (Static zero) c r = refl
set_spot_predicates (Static (suc n)) c r = refl
set_spot_predicates (Stacked n) c r = refl

holds_by : (r s : Registers) (g : ℕ) → s.predicates ≡ r.predicates → s.frame.rrbs.pr ≡ r.frame.rrbs.pr → holds s g ≡ holds r g
unfolding holds predicate_index
holds_by r s zero e f = refl
holds_by r s (suc g) e f = rw (e, f) refl

one_fits : (d : Spot) (c : Cell) → FitTogether (set_spot d c [])
one_fits (Static zero) c = tt
one_fits (Static (suc n)) c = (tt, tt)
one_fits (Stacked n) c = (tt, tt)

no_frame : (d : Spot) (c : Cell) (w : RegisterWrite) → Mem w (set_spot d c []) → location w ≡ TheFrame → ⊥
no_frame (Static zero) c w m e = m
no_frame (Static (suc n)) c w (inl m) e = let k : location (SetStatic (suc n) c) ≡ TheFrame = ap location (sym m) ∙ e in cc
no_frame (Static (suc n)) c w (inr m) e = m
no_frame (Stacked n) c w (inl m) e = let k : location (SetCell n c) ≡ TheFrame = ap location (sym m) ∙ e in cc
no_frame (Stacked n) c w (inr m) e = m

each_from_mem : {X : Type 0} (P Q : X → Type 0) (xs : List X) → Each P xs → ((x : X) → Mem x xs → P x → Q x) → Each Q xs
each_from_mem P Q [] h f = tt
each_from_mem P Q (x ∷ xs) h f = (f x (inl refl) h.0, each_from_mem P Q xs h.1 (λ y m k. f y (inr m) k))

-- An `alloc` in first place.
module _ (p : Program) (program : IsProgram p) (s : State) (w : Walk) (known : IsKnown p s w) (j : Insn)
    (at : insn_at p.bundles s.place ≡ Some j) (al : is_alloc (insn_action j) ≡ true) where
  abbrev R : Registers
  R = s.registers

  abbrev O : Outcome
  O = outcome_of p s j

  abbrev New : FrameShape
  New = naming_frame (insn_action j) R.frame

  abbrev Base : Registers
  Base = put (SetFrame Resized New) R

  listed : IsListed j
  listed = listed_at p s.place j program at

  may : IsAllocated New O
  may =
      let e = effect (site p s.place.bundle) j R s.memory R.unat in
      settled_allocated New (next_of p.bundles s.place) s.memory e.next e (frame_first (site p s.place.bundle) j R s.memory R.unat al)

  pub alloc_step : seq_step p s ≡ step_by p s O O.next
  alloc_step = step_here p s j at

  settled_covers : (n : Option Place) (m : Memory) (way : NextWay) (o : Outcome) → Each (IsCovered j.qp (insn_action j) R) o.writes
      → Each (IsCovered j.qp (insn_action j) R) (settled n m way o).writes
  settled_covers None m next.Falls o h = tt
  settled_covers n m way o h = h

  covers : Each (IsCovered j.qp (insn_action j) R) O.writes
  covers =
      let e = effect (site p s.place.bundle) j R s.memory R.unat in
      let f = known.state.registers.frame in
      settled_covers (next_of p.bundles s.place) s.memory e.next e
      (each_of (IsCovered j.qp (insn_action j) R) e.writes (covered (site p s.place.bundle) j R s.memory R.unat f.predicates))

  module _ (d : Spot) (c : Cell) (writes : O.writes ≡ SetFrame Resized New ∷ set_spot d c []) (falls : O.next ≡ next.Falls) where
    abbrev Ws : List RegisterWrite
    Ws = set_spot d c []

    abbrev After : Registers
    After = joined Base Ws R.unat

    new_frame : IsFrame New
    new_frame =
        let kept = keeps_state p s program known.state in
        let by : seq_step p s ≡ step_by p s O next.Falls = alloc_step ∙ ap (step_by p s O) falls in
        let frame : (registers_after O R).frame ≡ New =
        ap (λ l. (registers_after (record O { writes = l }) R).frame) writes
        ∙ ap (λ q. (registers_after (record { writes = SetFrame Resized New ∷ Ws; memory = O.memory; spills = q; next = O.next })
        R).frame) may.spills ∙ set_spot_frame d c Base in
        let f = kept.registers.frame in
        subst IsFrame (ap (λ (x : Step). x.state.registers.frame) by ∙ frame) f

    now_holds : (g : ℕ) → holds After g ≡ holds R g
    now_holds g =
        holds_by R After g (set_spot_predicates d c Base)
        (ap (λ (f : FrameShape). f.rrbs.pr) (set_spot_frame d c Base) ∙ new_pr (insn_action j) R.frame)

    alive : (g : ℕ) → (g ≡ 0) ⊎ (g ≡ j.qp) → holds R g ≡ true → IsStillOne Base After g
    alive g k h = record { on = now_holds g ∙ h; named = λ _. set_spot_frame d c Base; range = range k }
      where
        range : (g ≡ 0) ⊎ (g ≡ j.qp) → (g ≡ 0) ⊎ IsInRange (Pr g)
        range (inl e) = inl e
        range (inr e) = subst (λ x. (x ≡ 0) ⊎ IsInRange (Pr x)) (sym e) (guards_in_range j listed)

    plain : (x : RegisterWrite) → Mem x Ws → (k : IsCovered j.qp (insn_action j) R x) → IsPlain k.access.kind
    plain x m k = go k.access.kind refl k.writing
      where
        frame : k.access.kind ≡ AllocWrite → ⊥
        frame e =
            let of = alloc_writes j k.access k.has e in
            let t : Some TheFrame ≡ Some (location x) = ap (location_of New) (sym of.1) ∙ k.names in
            no_frame d c x m (let y : location x ≡ TheFrame = cc in y)

        go : (l : Kind) → k.access.kind ≡ l → writes_registers l ≡ true → IsPlain l
        go Write e h = tt
        go LoopWrite e h = tt
        go OrWrite e h = tt
        go AndWrite e h = tt
        go AllocWrite e h = absurd (frame e)
        go Read e h = absurd (true≢false (sym h))
        go BranchRead e h = absurd (true≢false (sym h))
        go Spill e h = absurd (true≢false (sym h))
        go Fill e h = absurd (true≢false (sym h))

    origin : (x : RegisterWrite) → Mem x Ws → IsCovered j.qp (insn_action j) R x → EarlierWrite p (s.place ∷ []) Base After x
    origin x m k = record {
      access = k.access;
      trace = record {
        place = s.place;
        inside = inl refl;
        has = has_here p s.place j k.access at k.has;
        alive = inl (alive k.access.guard (guarded j k.access k.has) k.guarded);
      };
      plain = plain x m k;
      range = in_range j k.access listed k.has;
      names = k.names;
      puts = k.puts;
    }

    cell_in : (x : RegisterWrite) → Mem x Ws → IsCovered j.qp (insn_action j) R x → IsCellBelow (length Base.cells) x
    cell_in (SetCell n v) m k =
        let i = cells_inside j.qp (insn_action j) R (SetCell n v) n k (rotating_fits new_frame) refl in
        subst (λ z. n < z) (sym (length-resized (New.base + New.sof) R.cells)) i.1
    cell_in x m k = tt

    here : Each (IsCovered j.qp (insn_action j) R) Ws
    here = let h = subst (Each (IsCovered j.qp (insn_action j) R)) writes covers in h.1

    resized_way : IsGathering p (s.place ∷ []) Base Ws R.unat
    resized_way = record {
      frame = new_frame;
      cells = length-resized (New.base + New.sof) R.cells;
      origins = each_from_mem (IsCovered j.qp (insn_action j) R) (EarlierWrite p (s.place ∷ []) Base After) Ws here origin;
      fits = one_fits d c;
      inside = each_from_mem (IsCovered j.qp (insn_action j) R) (IsCellBelow (length Base.cells)) Ws here cell_in;
      unat = inl refl;
    }

  way_by : (O.writes ≡ []) ⊎ ResizesFirst New O → IsGathering p (s.place ∷ []) (apply (frame_ahead O.writes) R)
      (after_frame O.writes) R.unat
  way_by (inl e) =
      let r = known.state.registers in
      subst (λ l. IsGathering p (s.place ∷ []) (apply (frame_ahead l) R) (after_frame l) R.unat) (sym e)
      (record { frame = r.frame; cells = r.cell_count; origins = tt; fits = tt; inside = tt; unat = inl refl })
  way_by (inr z) =
      subst (λ l. IsGathering p (s.place ∷ []) (apply (frame_ahead l) R) (after_frame l) R.unat) (sym z.writes)
      (resized_way z.target z.cell z.writes z.falls)

  unat_stays : unat_after O.spills R.unat ≡ R.unat
  unat_stays = ap (λ q. unat_after q R.unat) may.spills

  -- The frame write and the others are all writes.
  split : (ws : List RegisterWrite) → frame_ahead ws ++ after_frame ws ≡ ws
  split [] = refl
  split (SetFrame cause f ∷ ws) = refl
  split (x ∷ ws) = refl

  made_in_turn : (ws : List RegisterWrite) → apply (after_frame ws) (apply (frame_ahead ws) R) ≡ apply ws R
  made_in_turn [] = refl
  made_in_turn (SetFrame cause f ∷ ws) = refl
  made_in_turn (x ∷ ws) = refl

  leading_unat : (ws : List RegisterWrite) → record (apply (frame_ahead ws) R) { unat = R.unat } ≡ apply (frame_ahead ws) R
  leading_unat [] = refl
  leading_unat (SetFrame cause f ∷ ws) = refl
  leading_unat (x ∷ ws) = refl

  pub alloc_joins : Joins p (gathered_from s) [] O (gathers true (gathered_from s) O)
  alloc_joins = record {
    way =
        λ q. subst (IsGathering p (s.place ∷ []) (apply (frame_ahead O.writes) R) (after_frame O.writes)) (sym unat_stays)
        (way_by may.ways);
    state = λ q. ap (λ r. record { registers = r; memory = O.memory; place = q })
        (ap (λ k. registers_after (record O { spills = k }) R) may.spills
        ∙ sym (made_in_turn O.writes)
        ∙ ap (apply (after_frame O.writes)) (sym (leading_unat O.writes))
        ∙ ap (λ u. joined (apply (frame_ahead O.writes) R) (after_frame O.writes) u) (sym unat_stays));
    frames = λ q. ap frame_changes (sym (split O.writes)) ∙ frames_append (frame_ahead O.writes) (after_frame O.writes);
  }

  -- The view of an `alloc` that is first is the group's start.
  pub alloc_outcome : slot_outcome p (gathered_from s) (Some j) ≡ O
  alloc_outcome =
      ap (λ v. let e = effect (site p s.place.bundle) j v s.memory R.unat in settled (next_of p.bundles s.place) s.memory e.next e)
      (view_plain j R R (no_branch (insn_action j) al))

-- A whole group from its start.
pub whole : (p : Program) → IsProgram p → HasNoViolation p → (code : List ℕ) (most : ℕ) (s : State) (w : Walk) → IsKnown p s w
    → ordered code (gathered_within (suc most) p true (gathered_from s)) ≡ group_within (suc most) p s
whole p program free code most s w known = go (insn_here p s known.state.place)
  where
    go : (j : Insn) × (insn_at p.bundles s.place ≡ Some j) → ordered code (gathered_within (suc most) p true (gathered_from s))
        ≡ group_within (suc most) p s
    go (j, at) = ap (From p code most true (gathered_from s)) at ∙ by_action (is_alloc (insn_action j)) refl
      where
        by_action : (b : Bool) → is_alloc (insn_action j) ≡ b → From p code most true (gathered_from s) (Some j) ≡ added []
            (group_within (suc most) p s)
        by_action false e =
            ap (λ b. At b (slot_outcome p (gathered_from s) (Some j))) e
            ∙ slot_is p program code most (rest_is p program free code most) false (gathered_from s) [] w (begun_on p s w known)
            (slot_outcome p (gathered_from s) (Some j))
            (plain_step p program free (gathered_from s) [] w (begun_on p s w known) j at e)
            (plain_joins p program free (gathered_from s) [] w (begun_on p s w known) j at e)
          where
            At : Bool → Outcome → Group
            At b o =
                ordered code (gathered_by p b (gathered_from s) o o.next
                (gathered_within most p false (gathers b (gathered_from s) o (place_after s.place (next_of p.bundles s.place)))))
        by_action true e =
            ap (λ b. At b (slot_outcome p (gathered_from s) (Some j))) e
            ∙ ap (At true) (alloc_outcome p program s w known j at e)
            ∙ slot_is p program code most (rest_is p program free code most) true (gathered_from s) [] w (begun_on p s w known)
            (outcome_of p s j)
            (alloc_step p program s w known j at e) (alloc_joins p program s w known j at e)
          where
            At : Bool → Outcome → Group
            At b o =
                ordered code (gathered_by p b (gathered_from s) o o.next
                (gathered_within most p false (gathers b (gathered_from s) o (place_after s.place (next_of p.bundles s.place)))))
