-- Induction over the slots of a group, as it is gathered.
use Rattle.std.proofs.Common.{◌≡◌, ℕ, zero, suc, Bool, true, false, ◌&&◌, if◌then◌else◌, List, [], ◌∷◌, ◌++◌, Option, Some, None, refl, sym, ◌∙◌, subst, true≢false}
use Rattle.std.specs.Prelude.{⊤}
use Rattle.std.proofs.lemmas.List.{append-nil}
use Rattle.std.proofs.lemmas.Bool.{and_parts}
use Rattle.ia_insn.specs.declared.insn.Insn.{Insn}
use Rattle.ia_program.specs.declared.limits.TheConstants.{RUN_LIMIT}
use Rattle.ia_program.specs.declared.place.Place.{Place}
use Rattle.ia_program.specs.Places.{insn_at}
use Rattle.ia_program.specs.Programs.{Program}
use Rattle.ia_meaning.specs.declared.next.Next.{Next}
use Rattle.ia_meaning.specs.declared.next.Next.TheVariants.{Falls, Goes, Breaks, Faults}
use Rattle.ia_meaning.specs.Actions.{allocates}
use Rattle.ia_meaning.specs.Outcomes.{Outcome}
use Rattle.ia_meaning.specs.Sequence.{first_of, next_of, is_stopped}
use Rattle.ia_meaning.specs.Steps.{place_after}
use Rattle.ia_meaning.specs.ParallelGroups.{Gathered, gathered_from, slot_outcome, gathers, GatheredGroup, gathered_by, gathered_within}
use Rattle.order_laws.specs.GroupSlots.{GatheredSlot, slot_here, and_slot, slots_within, IsSame, Leads, SlotsLead}

-- The run goes on.
abbrev pub IsOn : Next → Type 0
IsOn Falls = ⊤
IsOn (Goes bundle) = ⊤
IsOn way = ⊥

-- The group with a slot more.
abbrev pub with_slot : Program → Bool → Gathered → Option Insn → Place → Gathered
with_slot p begins g insn to = gathers (begins && allocates insn) g (slot_outcome p g insn) to

-- P speaks of a group that is gathered so far and begins there or not, its slots from there on, and the whole of it. It holds
-- where there are none, and of each slot in front of others of which it holds.
module _ (p : Program) (P : Bool → Gathered → List GatheredSlot → Gathered → Type 0)
    (none : (begins : Bool) (g : Gathered) → P begins g [] g)
    (one_more : (begins : Bool) (g : Gathered) (insn : Option Insn) (to : Place) (rest : List GatheredSlot) (all : Gathered)
    → IsOn (slot_outcome p g insn).next
    → P false (with_slot p begins g insn to) rest all → P begins g (slot_here g insn ++ rest) all) where
  pub by_slots : (most : ℕ) (begins : Bool) (g : Gathered) → P begins g (slots_within most p begins g) (gathered_within most p begins g).all
  by_slots zero begins g = none begins g
  by_slots (suc most) begins g = by_way (by_slots most false (with_slot p begins g insn to)) o.next refl
    where
      insn : Option Insn
      insn = insn_at p.bundles g.place

      o : Outcome
      o = slot_outcome p g insn

      to : Place
      to = place_after g.place (next_of p.bundles g.place)

      rest : List GatheredSlot
      rest = slots_within most p false (with_slot p begins g insn to)

      after : GatheredGroup
      after = gathered_within most p false (with_slot p begins g insn to)

      Later : Type 0
      Later = P false (with_slot p begins g insn to) rest after.all

      last : (q : Place) → IsOn o.next → P begins g (slot_here g insn ++ []) (with_slot p begins g insn q)
      last q on = one_more begins g insn q [] (with_slot p begins g insn q) on (none false (with_slot p begins g insn q))

      by_stop : Later → (b : Bool) → is_stopped p.bundles g.place ≡ b → IsOn o.next
          → P begins g (slot_here g insn ++ (if b then [] else rest)) (gathered_by p (begins && allocates insn) g o Falls after).all
      by_stop later true t on = rw t (last to on)
      by_stop later false t on = rw t (one_more begins g insn to rest after.all on later)

      by_way : Later → (way : Next) → o.next ≡ way → P begins g (and_slot p g insn way rest)
          (gathered_by p (begins && allocates insn) g o way after).all
      by_way later Falls w = by_stop later (is_stopped p.bundles g.place) refl (subst IsOn (sym w) tt)
      by_way later (Goes bundle) w =
          subst (λ l. P begins g l (with_slot p begins g insn (first_of bundle))) (append-nil (slot_here g insn))
          (last (first_of bundle) (subst IsOn (sym w) tt))
      by_way later (Breaks imm) w = none begins g
      by_way later (Faults kind) w = none begins g

-- No slot stands in an empty list.
pub no_more : (xs ys : List GatheredSlot) (x : GatheredSlot) → [] ≡ xs ++ x ∷ ys → ⊥
no_more [] ys x e = cc
no_more (z ∷ xs) ys x e = cc

-- The slots lead to what is gathered.

same : (g : Gathered) → IsSame g g
same g = record { base = refl; frames = refl; writes = refl; memory = refl; unat = refl }

-- A place without an instruction changes nothing.
none_there : (p : Program) (begins : Bool) (g : Gathered) (to : Place) → IsSame g (with_slot p begins g None to)
none_there p true g to = record { base = refl; frames = refl; writes = append-nil g.writes; memory = refl; unat = refl }
none_there p false g to = record { base = refl; frames = refl; writes = append-nil g.writes; memory = refl; unat = refl }

and_then : (g k h : Gathered) → IsSame g k → IsSame k h → IsSame g h
and_then g k h s t =
    record {
      base = t.base ∙ s.base;
      frames = t.frames ∙ s.frames;
      writes = t.writes ∙ s.writes;
      memory = t.memory ∙ s.memory;
      unat = t.unat ∙ s.unat;
    }

leads_from : (p : Program) (begins : Bool) (g k h : Gathered) (xs : List GatheredSlot) → IsSame g k → Leads p false k xs h
    → Leads p begins g xs h
leads_from p begins g k h [] s l = and_then g k h s l
leads_from p begins g k h (x ∷ xs) s l = (
  record {
    same = and_then g k x.before s l.0.same;
    first = l.0.first;
    cause = λ e. absurd (true≢false (let c = l.0.cause e in sym c.0));
    to = l.0.to;
  },
  l.1,
)

leads_on : (p : Program) (begins : Bool) (g : Gathered) (insn : Option Insn) (to : Place) (rest : List GatheredSlot) (all : Gathered)
    → IsOn (slot_outcome p g insn).next
    → Leads p false (with_slot p begins g insn to) rest all → Leads p begins g (slot_here g insn ++ rest) all
leads_on p begins g None to rest all on l = leads_from p begins g (with_slot p begins g None to) all rest (none_there p begins g to) l
leads_on p begins g (Some insn) to rest all on l =
    (record { same = same g; first = begins && allocates (Some insn); cause = and_parts begins (allocates (Some insn)); to = to }, l)

pub slots_lead : SlotsLead
slots_lead p s = by_slots p (Leads p) (λ begins g. same g) (leads_on p) RUN_LIMIT true (gathered_from s)
