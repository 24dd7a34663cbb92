-- A group of a program without violations, gathered to its end.
use Rattle.std.proofs.Common.{◌≡◌, ℕ, zero, suc, ◌⊎◌, inl, inr, Bool, true, false, ◌&&◌, List, [], ◌∷◌, ◌++◌, Option, Some, None, refl, sym, ◌∙◌, ap, subst}
use Rattle.std.specs.Prelude.{Contains}
use Rattle.std.proofs.lemmas.Bool.{false_from_ne_true, and_right}
use Rattle.ia_insn.specs.declared.insn.Insn.{Insn}
use Rattle.ia_program.specs.declared.place.Place.{Place}
use Rattle.ia_program.specs.Places.{insn_at}
use Rattle.ia_program.specs.Programs.{Program, IsProgram}
use Rattle.ia_meaning.specs.declared.next.Next.{Next as NextWay}
use Rattle.ia_meaning.specs.declared.next.Next.TheVariants as next
use Rattle.ia_meaning.specs.State.{Registers, State}
use Rattle.ia_meaning.specs.declared.write.Write.{Write}
use Rattle.ia_meaning.specs.declared.write.Write.TheVariants.{SetFrame}
use Rattle.ia_meaning.specs.Writes.{apply}
use Rattle.ia_meaning.specs.Actions.{is_alloc, insn_action, allocates}
use Rattle.ia_meaning.specs.Outcomes.{Outcome}
use Rattle.ia_meaning.specs.Sequence.{first_of, next_of, is_stopped}
use Rattle.ia_meaning.specs.Steps.{outcome_of, place_after, step_by, seq_step}
use Rattle.ia_meaning.specs.ParallelGroups.{Gathered, gathered_from, slot_outcome, frame_ahead, gathers, GatheredGroup, gathered_by, gathered_within}
use Rattle.ia_meaning.proofs.StepHere.{insn_here}
use Rattle.flow_facts.specs.Walks.{Walk, earlier_in_group}
use Rattle.order_laws.specs.Violations.{HasNoViolation}
use Rattle.order_laws.specs.Traces.{walk_after, IsKnown}
use Rattle.order_laws.specs.GroupSlots.{GatheredSlot, slot_here, slots_within, done_by}
use Rattle.order_laws.proofs.GatheredSlots.{IsOn, with_slot, by_slots, no_more}
use Rattle.order_laws.proofs.Untouched.{Mem}
use Rattle.order_laws.proofs.Gathering.{IsGathering}
use Rattle.order_laws.proofs.NoClashes.{no_alloc}
use Rattle.order_laws.proofs.GroupOrders.{state_of, IsGroupOnWalk, Joins, on_next, plain_step, plain_joins}
use Rattle.order_laws.proofs.FirstSlots.{begun_on, alloc_step, alloc_joins, alloc_outcome}

-- What is known of the slots that a group is gathered of.
pub record IsGathered (p : Program) (g : Gathered) : Type 0 where
  pub past : List Place
  pub way : IsGathering p past g.base g.writes g.unat

-- What is shown of the rest of a group behind some slot.
abbrev RestIsGathered : Program → ℕ → Type 0
RestIsGathered p most =
    (g : Gathered) (past : List Place) (w : Walk) → IsGroupOnWalk p g past w → (i : Place) → Contains (earlier_in_group p w) i
    → IsGathered p (gathered_within most p false g).all

-- The group with one slot more, and the rest.
abbrev From : Program → ℕ → Bool → Gathered → Option Insn → GatheredGroup
From p most begins g x =
    gathered_by p (begins && allocates x) g (slot_outcome p g x) (slot_outcome p g x).next
    (gathered_within most p false (gathers (begins && allocates x) g (slot_outcome p g x)
    (place_after g.place (next_of p.bundles g.place))))

module _ (p : Program) (program : IsProgram p) (most : ℕ) (rest : RestIsGathered p most) (first : Bool) (g : Gathered) (past : List Place)
    (w : Walk) (on : IsGroupOnWalk p g past w) (o : Outcome)
    (step : seq_step p (state_of g) ≡ step_by p (state_of g) o o.next) (joins : Joins p g past o (gathers first g o)) where
  abbrev To : Place
  To = place_after g.place (next_of p.bundles g.place)

  abbrev Rest : GatheredGroup
  Rest = gathered_within most p false (gathers first g o To)

  ends : (q : Place) → IsGathered p (gathers first g o q)
  ends q = record { past = g.place ∷ past; way = joins.way q }

  by_way : (way : NextWay) → o.next ≡ way → IsGathered p (gathered_by p first g o way Rest).all
  by_way (next.Breaks imm) e = record { past = past; way = on.way }
  by_way (next.Faults kind) e = record { past = past; way = on.way }
  by_way (next.Goes bundle) e = ends (first_of bundle)
  by_way next.Falls e = by_stop (is_stopped p.bundles g.place) refl
    where
      by_stop : (b : Bool) → is_stopped p.bundles g.place ≡ b → IsGathered p (gathered_by p first g o next.Falls Rest).all
      by_stop true t = rw t (ends To)
      by_stop false t =
          let k = on_next p program first g past w on o step joins e t in
          rw t (rest (gathers first g o To) (g.place ∷ past) (walk_after p (state_of g) w (seq_step p (state_of g))) k.0 g.place k.1)

  pub slot_gathered : IsGathered p (gathered_by p first g o o.next Rest).all
  slot_gathered = by_way o.next refl

rest_gathered : (p : Program) → IsProgram p → HasNoViolation p → (most : ℕ) → RestIsGathered p most
rest_gathered p program free zero g past w on i c = record { past = past; way = on.way }
rest_gathered p program free (suc most) g past w on i c =
    go (rest_gathered p program free most) (insn_here p (state_of g) on.known.state.place)
  where
    go : RestIsGathered p most → (j : Insn) × (insn_at p.bundles g.place ≡ Some j) → IsGathered p (gathered_within (suc most) p false g).all
    go rest (j, at) =
        let na : is_alloc (insn_action j) ≡ false =
        false_from_ne_true (is_alloc (insn_action j)) (no_alloc p free (state_of g) w on.known j at i c) in
        subst (λ x. IsGathered p (From p most false g x).all) (sym at)
        (slot_gathered p program most rest false g past w on (slot_outcome p g (Some j)) (plain_step p program free g past w on j at na)
        (plain_joins p program free g past w on j at na))

-- The whole group is gathered of slots.
pub group_gathered : (p : Program) → IsProgram p → HasNoViolation p → (most : ℕ) (s : State) (w : Walk) → IsKnown p s w
    → IsGathered p (gathered_within (suc most) p true (gathered_from s)).all
group_gathered p program free most s w known = go (insn_here p s known.state.place)
  where
    g : Gathered
    g = gathered_from s

    on : IsGroupOnWalk p g [] w
    on = begun_on p s w known

    go : (j : Insn) × (insn_at p.bundles s.place ≡ Some j) → IsGathered p (gathered_within (suc most) p true g).all
    go (j, at) = subst (λ x. IsGathered p (From p most true g x).all) (sym at) (by_action (is_alloc (insn_action j)) refl)
      where
        At : Bool → Outcome → GatheredGroup
        At b o = gathered_by p b g o o.next (gathered_within most p false (gathers b g o (place_after s.place (next_of p.bundles s.place))))

        by_action : (b : Bool) → is_alloc (insn_action j) ≡ b → IsGathered p (From p most true g (Some j)).all
        by_action false na =
            subst (λ b. IsGathered p (At b (slot_outcome p g (Some j))).all) (sym na)
            (slot_gathered p program most (rest_gathered p program free most) false g [] w on (slot_outcome p g (Some j))
            (plain_step p program free g [] w on j at na) (plain_joins p program free g [] w on j at na))
        by_action true al =
            subst (λ b. IsGathered p (At b (slot_outcome p g (Some j))).all) (sym al)
            (subst (λ o. IsGathered p (At true o).all) (sym (alloc_outcome p program s w known j at al))
            (slot_gathered p program most (rest_gathered p program free most) true g [] w on (outcome_of p s j)
            (alloc_step p program s w known j at al) (alloc_joins p program s w known j at al)))

-- What a slot writes is among the writes of its group.

mem_left : {X : Type 0} (v : X) (xs ys : List X) → Mem v xs → Mem v (xs ++ ys)
mem_left v [] ys m = absurd m
mem_left v (x ∷ xs) ys (inl e) = inl e
mem_left v (x ∷ xs) ys (inr m) = inr (mem_left v xs ys m)

mem_right : {X : Type 0} (v : X) (xs ys : List X) → Mem v ys → Mem v (xs ++ ys)
mem_right v [] ys m = m
mem_right v (x ∷ xs) ys m = inr (mem_right v xs ys m)

-- The slot is the next one, or one of the rest.
record IsNext (g : Gathered) (slot : Option Insn) (x : GatheredSlot) : Type 0 where
  pub insn : slot ≡ Some x.insn
  pub before : g ≡ x.before

abbrev IsLater : List GatheredSlot → List GatheredSlot → GatheredSlot → Type 0
IsLater rest ys x = (zs : List GatheredSlot) × (rest ≡ zs ++ x ∷ ys)

next_or_later : (g : Gathered) (insn : Option Insn) (rest xs ys : List GatheredSlot) (x : GatheredSlot)
    → slot_here g insn ++ rest ≡ xs ++ x ∷ ys → IsNext g insn x ⊎ IsLater rest ys x
next_or_later g None rest xs ys x e = inr (xs, e)
next_or_later g (Some insn) rest [] ys x e =
    let same : record { insn = insn; before = g } ≡ x = cc in
    inl (record { insn = ap (λ (z : GatheredSlot). Some z.insn) same; before = ap (λ (z : GatheredSlot). z.before) same })
next_or_later g (Some insn) rest (z ∷ zs) ys x e = inr (zs, let tail : rest ≡ zs ++ x ∷ ys = cc in tail)

-- The slots write these, where no `alloc` begins the group.
plain_writes : (b : Bool) (g : Gathered) (o : Outcome) (to : Place) → b ≡ false → (gathers b g o to).writes ≡ g.writes ++ o.writes
plain_writes b g o to h = subst (λ c. (gathers c g o to).writes ≡ g.writes ++ o.writes) (sym h) refl

module _ (p : Program) (ys : List GatheredSlot) (x : GatheredSlot) (plain : is_alloc (insn_action x.insn) ≡ false) (v : Write)
    (m : Mem v (done_by p x).writes) where
  -- The writes so far stay, behind the group's first slot, and what the slot writes is among those of the whole.
  abbrev IsWritten : Bool → Gathered → List GatheredSlot → Gathered → Type 0
  IsWritten begins g slots all =
      (begins ≡ false → Mem v g.writes → Mem v all.writes) × ((xs : List GatheredSlot) → slots ≡ xs ++ x ∷ ys → Mem v all.writes)

  written_none : (begins : Bool) (g : Gathered) → IsWritten begins g [] g
  written_none begins g = (λ b k. k, λ xs e. absurd (no_more xs ys x e))

  written_on : (begins : Bool) (g : Gathered) (insn : Option Insn) (to : Place) (rest : List GatheredSlot) (all : Gathered)
      → IsOn (slot_outcome p g insn).next
      → IsWritten false (with_slot p begins g insn to) rest all → IsWritten begins g (slot_here g insn ++ rest) all
  written_on begins g insn to rest all on later = (stays, λ xs e. written (next_or_later g insn rest xs ys x e))
    where
      o : Outcome
      o = slot_outcome p g insn

      among : (begins && allocates insn) ≡ false → Mem v (g.writes ++ o.writes) → Mem v all.writes
      among e k = later.0 refl (subst (Mem v) (sym (plain_writes (begins && allocates insn) g o to e)) k)

      stays : begins ≡ false → Mem v g.writes → Mem v all.writes
      stays b k = among (ap (λ c. c && allocates insn) b) (mem_left v g.writes o.writes k)

      written : IsNext g insn x ⊎ IsLater rest ys x → Mem v all.writes
      written (inl n) =
          let same : o ≡ done_by p x = ap (slot_outcome p g) n.insn ∙ ap (λ h. slot_outcome p h (Some x.insn)) n.before in
          among (and_right begins (allocates insn) (ap allocates n.insn ∙ plain))
          (mem_right v g.writes o.writes (subst (λ (z : Outcome). Mem v z.writes) (sym same) m))
      written (inr l) = later.1 l.0 l.1

  pub is_written : (most : ℕ) (begins : Bool) (g : Gathered) (xs : List GatheredSlot) → slots_within most p begins g ≡ xs ++ x ∷ ys
      → Mem v (gathered_within most p begins g).all.writes
  is_written most begins g = (by_slots p IsWritten written_none written_on most begins g).1

-- The static registers are those of the group's start.

ahead_statics : (ws : List Write) (r : Registers) → (apply (frame_ahead ws) r).statics ≡ r.statics
ahead_statics [] r = refl
ahead_statics (SetFrame cause f ∷ ws) r = refl
ahead_statics (w ∷ ws) r = refl

first_statics : (b : Bool) (g : Gathered) (o : Outcome) (q : Place) → (gathers b g o q).base.statics ≡ g.base.statics
first_statics true g o q = ahead_statics o.writes g.base
first_statics false g o q = refl

abbrev HasStatics : Bool → Gathered → List GatheredSlot → Gathered → Type 0
HasStatics begins g slots all = all.base.statics ≡ g.base.statics

pub base_statics : (most : ℕ) (p : Program) (begins : Bool) (g : Gathered)
    → (gathered_within most p begins g).all.base.statics ≡ g.base.statics
base_statics most p begins g =
    by_slots p HasStatics (λ b h. refl) (λ b h insn to rest all on later. later
    ∙ first_statics (b && allocates insn) h (slot_outcome p h insn) to) most begins g
