-- A group of a program without violations leaves the same in every order, what its slots one by one leave.
use Rattle.std.proofs.Common.{◌≡◌, ℕ, zero, suc, ◌+◌, inl, inr, Bool, true, false, ◌&&◌, if◌then◌else◌, List, [], ◌∷◌, ◌++◌, Option, Some, None, refl, sym, ◌∙◌, ap, subst, append_assoc}
use Rattle.std.specs.Prelude.{Contains}
use Rattle.std.proofs.lemmas.List.{append-nil}
use Rattle.std.proofs.lemmas.Bool.{false_from_ne_true}
use Rattle.ia_insn.specs.declared.insn.Insn.{Insn}
use Rattle.ia_program.specs.declared.place.Place.{Place}
use Rattle.ia_program.specs.declared.ending.End.{End}
use Rattle.ia_program.specs.declared.ending.How.{How}
use Rattle.ia_program.specs.declared.ending.How.TheVariants as how
use Rattle.ia_program.specs.Listed.{IsListed}
use Rattle.ia_program.specs.Places.{insn_at, IsBefore}
use Rattle.ia_program.specs.Programs.{Program, IsProgram}
use Rattle.ia_meaning.specs.declared.next.Next.{Next as NextWay}
use Rattle.ia_meaning.specs.declared.next.Next.TheVariants as next
use Rattle.ia_meaning.specs.State.{Registers, Memory, State, IsFrame}
use Rattle.ia_meaning.specs.declared.write.Write.{Write}
use Rattle.ia_meaning.specs.declared.write.Write.TheVariants.{SetFrame}
use Rattle.ia_meaning.specs.declared.write.FrameCause.TheVariants.{Resized, Renamed}
use Rattle.ia_meaning.specs.Writes.{frame_changes}
use Rattle.ia_meaning.specs.Outcomes.{Outcome}
use Rattle.ia_meaning.specs.Effects.{site, effect}
use Rattle.ia_meaning.specs.Sequence.{first_of, next_of, is_stopped}
use Rattle.ia_meaning.specs.Steps.{settled, outcome_of, registers_after, how_falling, place_after, Step, step_by, seq_step, Group, group_by, group_within}
use Rattle.resource_sets.specs.AccessLaws.{IsCovered}
use Rattle.ia_meaning.specs.Actions.{is_alloc, insn_action, allocates}
use Rattle.resource_sets.proofs.Coverage.{covered, spills}
use Rattle.resource_sets.proofs.Apart.{apart}
use Rattle.resource_sets.proofs.Regularity.{named_as_found}
use Rattle.flow_facts.specs.Graphs.{over_program}
use Rattle.flow_facts.specs.Walks.{Walk, earlier_in_group}
use Rattle.order_laws.specs.Violations.{HasNoViolation}
use Rattle.order_laws.specs.Traces.{walk_after, IsKnown, group_after}
use Rattle.ia_meaning.proofs.StepHere.{step_here, insn_here}
use Rattle.order_laws.proofs.Walked.{steps_known, walks_group}
use Rattle.ia_program.proofs.ListedSlots.{listed_at}
use Rattle.ia_meaning.specs.WriteOrders.{arranged}
use Rattle.ia_meaning.specs.Views.{view}
use Rattle.ia_meaning.specs.ParallelGroups.{Gathered, now_of, outcome_from, slot_outcome, gathers, GatheredGroup, ends_with, one_more, gathered_by, gathered_within, made}
use Rattle.resource_sets.proofs.Members.{in_head, in_tail, head_in}
use Rattle.order_laws.proofs.Orders.{orders, frames}
use Rattle.order_laws.proofs.Untouched.{Mem, each_of, fit_of}
use Rattle.order_laws.proofs.Gathering.{joined, IsGathering, ClashesWithNone}
use Rattle.order_laws.proofs.Seeing.{qp_same, same_effect}
use Rattle.order_laws.proofs.Advancing.{IsLawful, advance, after_joined}
use Rattle.order_laws.proofs.Falling.{group_before}
use Rattle.order_laws.proofs.NoClashes.{clean_at, no_alloc}

-- The state that the slots so far leave, one by one.
abbrev pub state_of : Gathered → State
state_of g = record { registers = joined g.base g.writes g.unat; memory = g.memory; place = g.place }

-- The frame changes so far.
abbrev pub frames_of : Gathered → List (ℕ × ℕ)
frames_of g = g.frames ++ frame_changes g.writes

abbrev pub added : List (ℕ × ℕ) → Group → Group
added fs group = record group { frames = fs ++ group.frames }

pub frames_append : (xs ys : List Write) → frame_changes (xs ++ ys) ≡ frame_changes xs ++ frame_changes ys
frames_append [] ys = refl
frames_append (SetFrame Resized f ∷ xs) ys = ap (λ t. (f.base, f.base + f.sof) ∷ t) (frames_append xs ys)
frames_append (SetFrame Renamed f ∷ xs) ys = frames_append xs ys
frames_append (w ∷ xs) ys = frames_append xs ys

-- The group with its writes in the order of a code.
abbrev pub ordered : List ℕ → GatheredGroup → Group
ordered code x = made x (arranged code x.all.writes)

-- What its slots leave one by one.
abbrev left_by : GatheredGroup → Group
left_by x = record { state = state_of x.all; last = x.last; slots = x.slots; how = x.how; end = x.end; frames = frames_of x.all }

pub ordered_is : (p : Program) (past : List Place) (code : List ℕ) (x : GatheredGroup)
    → IsGathering p past x.all.base x.all.writes x.all.unat → ordered code x ≡ left_by x
ordered_is p past code x way =
    ap (λ r. record {
      state = record { registers = r; memory = x.all.memory; place = x.all.place };
      last = x.last;
      slots = x.slots;
      how = x.how;
      end = x.end;
      frames = x.all.frames ++ frame_changes (arranged code x.all.writes);
    })
    (orders code x.all.writes (record x.all.base { unat = x.all.unat }) way.fits (inl way.inside))
    ∙ ap (λ f. record { state = state_of x.all; last = x.last; slots = x.slots; how = x.how; end = x.end; frames = x.all.frames ++ f })
    (frames code x.all.writes way.fits)

-- A group under way, its earlier slots, and the walk to its next slot.
pub record IsGroupOnWalk (p : Program) (g : Gathered) (past : List Place) (w : Walk) : Type 0 where
  pub known : IsKnown p (state_of g) w
  pub inside : (i : Place) → Mem i past → Contains (earlier_in_group p w) i
  pub way : IsGathering p past g.base g.writes g.unat

-- What one more slot does joins the group.
pub record Joins (p : Program) (g : Gathered) (past : List Place) (o : Outcome) (after : Place → Gathered) : Type 0 where
  pub way : (q : Place) → IsGathering p (g.place ∷ past) (after q).base (after q).writes (after q).unat
  pub state : (q : Place) → record { registers = registers_after o (state_of g).registers; memory = o.memory; place = q }
      ≡ state_of (after q)
  pub frames : (q : Place) → frames_of g ++ frame_changes o.writes ≡ frames_of (after q)

-- What is shown of the rest of a group, which some slot came before.
abbrev pub RestIs : Program → List ℕ → ℕ → Type 0
RestIs p code most =
    (g : Gathered) (past : List Place) (w : Walk) → IsGroupOnWalk p g past w → (i : Place) → Contains (earlier_in_group p w) i
    → ordered code (gathered_within most p false g) ≡ added (frames_of g) (group_within most p (state_of g))

-- One slot of a group that goes on after it.
module _ (p : Program) (program : IsProgram p) (first : Bool) (g : Gathered) (past : List Place) (w : Walk) (on : IsGroupOnWalk p g past w)
    (o : Outcome)
    (step : seq_step p (state_of g) ≡ step_by p (state_of g) o o.next) (joins : Joins p g past o (gathers first g o)) where
  abbrev S : State
  S = state_of g

  abbrev Next : Place
  Next = place_after g.place (next_of p.bundles g.place)

  -- The next slot of the group.
  pub on_next : o.next ≡ next.Falls → is_stopped p.bundles g.place ≡ false
      → IsGroupOnWalk p (gathers first g o Next) (g.place ∷ past) (walk_after p S w (seq_step p S))
      × Contains (earlier_in_group p (walk_after p S w (seq_step p S))) g.place
  on_next e n = (
    record {
      known = subst (λ x. IsKnown p x W) (ap (λ (x : Step). x.state) by ∙ joins.state Next) (steps_known p S w program on.known goes);
      inside = λ i m. subst (λ l. Contains l i) (sym there) (later i m);
      way = joins.way Next;
    },
    subst (λ l. Contains l g.place) (sym there) (head_in g.place (earlier_in_group p w)),
  )
    where
      by : seq_step p S ≡ step_by p S o next.Falls
      by = step ∙ ap (step_by p S o) e

      W : Walk
      W = walk_after p S w (seq_step p S)

      goes : (seq_step p S).end ≡ None
      goes = ap (λ (x : Step). x.end) by

      falling : (seq_step p S).how ≡ None
      falling = ap (λ (x : Step). x.how) by ∙ ap how_falling n

      there : earlier_in_group p W ≡ g.place ∷ earlier_in_group p w
      there = walks_group p S w program on.known goes ∙ ap (λ h. group_after h g.place (earlier_in_group p w)) falling

      later : (i : Place) → Mem i (g.place ∷ past) → Contains (g.place ∷ earlier_in_group p w) i
      later i (inl e) = in_head g.place i (earlier_in_group p w) (sym e)
      later i (inr m) = in_tail g.place i (earlier_in_group p w) (on.inside i m)

-- One slot, and the rest.
module _ (p : Program) (program : IsProgram p) (code : List ℕ) (most : ℕ) (rest : RestIs p code most) (first : Bool) (g : Gathered)
    (past : List Place) (w : Walk) (on : IsGroupOnWalk p g past w) (o : Outcome)
    (step : seq_step p (state_of g) ≡ step_by p (state_of g) o o.next) (joins : Joins p g past o (gathers first g o)) where
  abbrev Here : State
  Here = state_of g

  abbrev To : Place
  To = place_after g.place (next_of p.bundles g.place)

  -- By a step that goes so.
  abbrev By : Step → Group
  By x = added (frames_of g) (group_by p Here x x.how (group_within most p x.state))

  abbrev pub Rest : GatheredGroup
  Rest = gathered_within most p false (gathers first g o To)

  ends : (to : Place) (h : How) → ordered code (ends_with (gathers first g o to) g.place h None)
      ≡ record {
        state = record { registers = registers_after o Here.registers; memory = o.memory; place = to };
        last = g.place;
        slots = 1;
        how = Some h;
        end = None;
        frames = frames_of g ++ frame_changes o.writes;
      }
  ends to h =
      ordered_is p (g.place ∷ past) code (ends_with (gathers first g o to) g.place h None) (joins.way to)
      ∙ ap (λ x. record { state = x; last = g.place; slots = 1; how = Some h; end = None; frames = frames_of (gathers first g o to) })
      (sym (joins.state to))
      ∙ ap (λ f. record {
        state = record { registers = registers_after o Here.registers; memory = o.memory; place = to };
        last = g.place;
        slots = 1;
        how = Some h;
        end = None;
        frames = f;
      }) (sym (joins.frames to))

  stays : (e : End) → ordered code (ends_with g g.place how.Ends (Some e))
      ≡ record { state = Here; last = g.place; slots = 1; how = Some how.Ends; end = Some e; frames = frames_of g ++ [] }
  stays e =
      ordered_is p past code (ends_with g g.place how.Ends (Some e)) on.way
      ∙ ap (λ f. record { state = Here; last = g.place; slots = 1; how = Some how.Ends; end = Some e; frames = f })
      (sym (append-nil (frames_of g)))

  more : o.next ≡ next.Falls → is_stopped p.bundles g.place ≡ false
      → ordered code (one_more Rest) ≡ added (frames_of g) (group_by p Here (step_by p Here o next.Falls) None
      (group_within most p (step_by p Here o next.Falls).state))
  more e n =
      let h = on_next p program first g past w on o step joins e n in
      ap and_one (rest (gathers first g o To) (g.place ∷ past) (walk_after p Here w (seq_step p Here)) h.0 g.place h.1)
      ∙ ap (λ x. and_one (added (frames_of (gathers first g o To)) (group_within most p x))) (sym (joins.state To))
      ∙ ap (λ f. and_one (added f R)) (sym (joins.frames To))
      ∙ ap (λ f. record (and_one R) { frames = f }) (append_assoc (frames_of g) (frame_changes o.writes) R.frames)
    where
      R : Group
      R = group_within most p (step_by p Here o next.Falls).state

      and_one : Group → Group
      and_one group = record group { slots = suc group.slots }

  by_way : (way : NextWay) → o.next ≡ way → ordered code (gathered_by p first g o way Rest) ≡ By (step_by p Here o way)
  by_way (next.Breaks imm) e = stays _
  by_way (next.Faults kind) e = stays _
  by_way (next.Goes bundle) e = ends (first_of bundle) how.Taken
  by_way next.Falls e = by_stop (is_stopped p.bundles g.place) refl
    where
      by_stop : (b : Bool) → is_stopped p.bundles g.place ≡ b
          → ordered code (if b then ends_with (gathers first g o To) g.place how.Falls None else one_more Rest)
          ≡ added (frames_of g) (group_by p Here (step_by p Here o next.Falls) (how_falling b)
          (group_within most p (step_by p Here o next.Falls).state))
      by_stop true n = ends To how.Falls
      by_stop false n = more e n

  pub slot_is : ordered code (gathered_by p first g o o.next Rest) ≡ added (frames_of g) (group_within (suc most) p Here)
  slot_is = by_way o.next refl ∙ ap By (sym step)

-- The law of an outcome that may fall off.
law_settled : (j : Insn) (base s v : Registers) (n : Option Place) (m : Memory) (way : NextWay) (o : Outcome) → IsLawful j base s v o
    → IsLawful j base s v (settled n m way o)
law_settled j base s v None m next.Falls o h =
    record { frame = h.frame; covered = tt; apart = tt; spills = λ x q. absurd (cc); guard = h.guard }
law_settled j base s v n m way o h = h

-- A slot that is no `alloc` of a group under way.
module _ (p : Program) (program : IsProgram p) (free : HasNoViolation p) (g : Gathered) (past : List Place) (w : Walk)
    (on : IsGroupOnWalk p g past w) (j : Insn) (at : insn_at p.bundles g.place ≡ Some j) (na : is_alloc (insn_action j) ≡ false) where
  abbrev G : State
  G = state_of g

  abbrev V : Registers
  V = view j (now_of g) g.base

  abbrev O : Outcome
  O = outcome_from p g.place j V g.memory g.unat

  listed : IsListed j
  listed = listed_at p g.place j program at

  clean : ClashesWithNone p past j G.registers
  clean = clean_at p free G w on.known j at past on.inside

  before : (i : Place) → Mem i past → IsBefore i g.place
  before i m =
      let k = on.known.ends in subst (IsBefore i) k.ends (group_before (over_program p) (is_stopped p.bundles) w i k.walks (on.inside i m))

  law_effect : IsLawful j g.base G.registers V (effect (site p g.place.bundle) j V g.memory g.unat)
  law_effect =
      let is : IsFrame V.frame = on.way.frame in
      record {
        frame = named_as_found (insn_action j) V.frame na;
        covered =
            each_of (IsCovered j.qp (insn_action j) V) (effect (site p g.place.bundle) j V g.memory g.unat).writes
            (covered (site p g.place.bundle) j V g.memory g.unat is.predicates);
        apart =
            fit_of (effect (site p g.place.bundle) j V g.memory g.unat).writes
            (apart (site p g.place.bundle) j V g.memory g.unat listed is);
        spills = λ x e. spills (site p g.place.bundle) j V g.memory g.unat x e;
        guard = qp_same p past g.base g.writes g.unat j on.way clean listed na;
      }

  law : IsLawful j g.base G.registers V O
  law =
      law_settled j g.base G.registers V (next_of p.bundles g.place) g.memory (effect (site p g.place.bundle) j V g.memory g.unat).next
      (effect (site p g.place.bundle) j V g.memory g.unat) law_effect

  pub plain_same : O ≡ outcome_of p G j
  plain_same =
      ap (λ (x : Outcome). settled (next_of p.bundles g.place) g.memory x.next x)
      (same_effect p past g.base g.writes g.unat j on.way clean listed na (site p g.place.bundle) g.memory)

  pub plain_step : seq_step p G ≡ step_by p G O O.next
  plain_step = step_here p G j at ∙ ap (λ (x : Outcome). step_by p G x x.next) (sym plain_same)

  pub plain_joins : Joins p g past O (gathers false g O)
  plain_joins = record {
    way = λ q. advance p past g.base g.writes g.unat j on.way clean listed na g.place at before V O law;
    state =
        λ q. ap (λ r. record { registers = r; memory = O.memory; place = q })
        (after_joined p past g.base g.writes g.unat j on.way clean listed na g.place at before V O law);
    frames =
        λ q. append_assoc g.frames (frame_changes g.writes) (frame_changes O.writes)
        ∙ ap (λ f. g.frames ++ f) (sym (frames_append g.writes O.writes));
  }

-- The rest of a group, from the next slot on.
abbrev pub From : Program → List ℕ → ℕ → Bool → Gathered → Option Insn → Group
From p code most begins g x =
    ordered code (gathered_by p (begins && allocates x) g (slot_outcome p g x) (slot_outcome p g x).next
    (gathered_within most p false (gathers (begins && allocates x) g (slot_outcome p g x)
    (place_after g.place (next_of p.bundles g.place)))))

pub rest_is : (p : Program) → IsProgram p → HasNoViolation p → (code : List ℕ) (most : ℕ) → RestIs p code most
rest_is p program free code zero g past w on i c =
    ordered_is p past code (gathered_within 0 p false g) on.way
    ∙ ap (λ f. record { state = state_of g; last = g.place; slots = 0; how = None; end = None; frames = f })
    (sym (append-nil (frames_of g)))
rest_is p program free code (suc most) g past w on i c =
    go (rest_is p program free code most) (insn_here p (state_of g) on.known.state.place)
  where
    go : RestIs p code most → (j : Insn) × (insn_at p.bundles g.place ≡ Some j)
        → ordered code (gathered_within (suc most) p false g) ≡ added (frames_of g) (group_within (suc most) p (state_of g))
    go rest (j, at) =
        let na : is_alloc (insn_action j) ≡ false =
        false_from_ne_true (is_alloc (insn_action j)) (no_alloc p free (state_of g) w on.known j at i c) in
        ap (From p code most false g) at
        ∙ slot_is p program code most rest false g past w on (slot_outcome p g (Some j))
        (plain_step p program free g past w on j at na) (plain_joins p program free g past w on j at na)
