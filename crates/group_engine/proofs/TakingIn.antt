-- What a group takes in of a slot.
use Rattle.std.proofs.Common.{◌≡◌, ℕ, Bool, true, false, List, [], ◌∷◌, ◌++◌, refl, sym, ap, ◌∙◌}
use Rattle.ia_insn.specs.declared.insn.Insn.{Insn}
use Rattle.ia_program.specs.declared.place.Place.{Place}
use Rattle.ia_program.specs.Programs.{Program}
use Rattle.ia_meaning.specs.declared.next.Next.TheVariants.{Falls}
use Rattle.ia_meaning.specs.declared.write.Write.{Write}
use Rattle.ia_meaning.specs.declared.write.Write.TheVariants.{SetFrame}
use Rattle.ia_meaning.specs.State.{Registers, Memory}
use Rattle.ia_meaning.specs.Writes.{apply}
use Rattle.ia_meaning.specs.Actions.{insn_action}
use Rattle.ia_meaning.specs.Outcomes.{Outcome}
use Rattle.ia_meaning.specs.Effects.{site, guarded}
use Rattle.ia_meaning.specs.Views.{view}
use Rattle.ia_meaning.specs.ParallelGroups.{Gathered, now_of, frame_ahead, after_frame, unat_after, gathers}
use Rattle.ia_meaning.proofs.WriteLists.{apply_append}
use Rattle.slot_effects.specs.declared.change.Change.{Change}
use Rattle.slot_effects.specs.declared.change.Change.TheVariants.{Stored, Exchanged}
use Rattle.slot_effects.specs.declared.slot_effect.SlotEffect.{SlotEffect}
use Rattle.slot_effects.specs.Changes.{writes_of, memory_after, spills_of, outcome_making, MayMake}
use Rattle.slot_effects.specs.Outcomes.{outcome_of_effect}
use Rattle.group_engine.specs.declared.branch_inputs.BranchInputs.{BranchInputs}
use Rattle.group_engine.specs.Kept.{branch_inputs_of, Kept, keeping}
use Rattle.group_engine.specs.Views.{seen_by}
use Rattle.group_engine.specs.Groups.{with_frame_ahead, IsEffectOf}
use Rattle.group_engine.proofs.Collecting.{seen_look, look_with_pfs, writes_seen, memory_seen, spills_seen}
use Rattle.group_engine.proofs.Keeping.{latest_kept}

-- The write of a frame that comes first, and then the others, are all writes.
pub frame_apart : (ws : List Write) (r : Registers) → apply (after_frame ws) (apply (frame_ahead ws) r) ≡ apply ws r
frame_apart [] r = refl
frame_apart (SetFrame cause f ∷ ws) r = refl
frame_apart (w ∷ ws) r = refl

-- What a slot does to memory is the same with any previous function state.
memory_pfs : (r : Registers) (pfs : ℕ) (c : Change) (m : Memory) → memory_after (record r { pfs = pfs }) c m ≡ memory_after r c m
memory_pfs r pfs c m = memory_seen r (record { predicates = r.predicates; branches = r.branches; pfs = pfs }) c m

spills_pfs : (r : Registers) (pfs : ℕ) (c : Change) → spills_of (record r { pfs = pfs }) c ≡ spills_of r c
spills_pfs r pfs c = spills_seen r (record { predicates = r.predicates; branches = r.branches; pfs = pfs }) c

-- A group takes in what a slot does.
pub taken_in : (g : Gathered) (pfs : ℕ) (c : Change) (place : Place)
    → record {
      base = g.base;
      frames = g.frames;
      writes = g.writes ++ writes_of (record g.base { pfs = pfs }) c;
      memory = memory_after g.base c g.memory;
      unat = unat_after (spills_of g.base c) g.unat;
      place = place;
    }
    ≡ gathers false g (outcome_making (record g.base { pfs = pfs }) g.memory c Falls) place
taken_in g pfs c place = rw (memory_pfs g.base pfs c g.memory, spills_pfs g.base pfs c) refl

-- What is kept leaves what all slots so far leave.
pub latest_on : (ws vs : List Write) (base : Registers) (k : Kept) → k.latest ≡ branch_inputs_of (apply ws base)
    → (keeping vs k).latest ≡ branch_inputs_of (apply (ws ++ vs) base)
latest_on ws vs base k e = latest_kept vs k (apply ws base) e ∙ ap branch_inputs_of (sym (apply_append ws vs base))

-- The frame of the group's first slot comes before all other writes.
pub frame_taken : (g : Gathered) (o : Outcome) (place : Place) → g.writes ≡ []
    → with_frame_ahead (gathers false g o place) ≡ gathers true g o place
frame_taken g o place none = rw none refl

-- An effect comes to the same by what a slot sees and by the registers of the start with the previous function state that it
-- sees.
outcome_seen : (r : Registers) (s : BranchInputs) (m : Memory) (e : SlotEffect)
    → outcome_of_effect (record r { pfs = s.pfs }) m e ≡ outcome_of_effect (seen_by r s) m e
outcome_seen r s m e =
    rw (
      writes_seen r s e.change,
      memory_seen r s e.change m,
      spills_seen r s e.change,
      memory_pfs r s.pfs e.change m,
      spills_pfs r s.pfs e.change,
    ) refl

-- A change that may be made by what a slot sees may be made by the registers of the start.
may_seen : (r : Registers) (s : BranchInputs) (m : Memory) (c : Change) → MayMake (seen_by r s) m c → MayMake (record r { pfs = s.pfs }) m c
may_seen r s m (Stored r3 size spills update cell) h = rw (look_with_pfs r s.pfs r3, ← seen_look r s r3) h
may_seen r s m (Exchanged r1 r3 size old value) h = rw (look_with_pfs r s.pfs r3, ← seen_look r s r3) h
may_seen r s m c h = h

-- What a slot does by a view that is that of its instruction.
pub effect_is : (p : Program) (g : Gathered) (insn : Insn) (e : SlotEffect) (s : BranchInputs)
    → s ≡ branch_inputs_of (view insn (now_of g) g.base)
    → outcome_of_effect (seen_by g.base s) g.memory e ≡ guarded (site p g.place.bundle) insn.qp (insn_action insn)
    (seen_by g.base s) g.memory g.unat → MayMake (seen_by g.base s) g.memory e.change → IsEffectOf p g insn e s.pfs
effect_is p g insn e s is value may =
    record {
      value =
          outcome_seen g.base s g.memory e ∙ value ∙ ap (λ (t : BranchInputs). guarded (site p g.place.bundle) insn.qp (insn_action insn)
          (seen_by g.base t) g.memory g.unat) is;
      may = may_seen g.base s g.memory e.change may;
    }

-- Where it goes on is nothing that a group takes in.
pub gathers_falling : (first : Bool) (g : Gathered) (r : Registers) (e : SlotEffect) (place : Place)
    → gathers first g (outcome_of_effect r g.memory e) place ≡ gathers first g (outcome_making r g.memory e.change Falls) place
gathers_falling true g r e place = refl
gathers_falling false g r e place = refl
