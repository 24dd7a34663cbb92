-- A group of the engine.
use Rattle.std.proofs.Common.{◌≡◌, ℕ, ◌+◌, Bool, true, List, [], ◌++◌, length, Option, refl, sym, ◌∙◌, subst}
use Rattle.std.specs.Prelude.{IsSome}
use Rattle.ia_program.specs.declared.limits.TheConstants.{RUN_LIMIT}
use Rattle.ia_program.specs.declared.ending.End.{End}
use Rattle.ia_program.specs.Programs.{Program, IsProgram}
use Rattle.ia_program.specs.Places.{IsPlaceOf}
use Rattle.ia_program.specs.declared.place.Place.{Place}
use Rattle.ia_meaning.specs.declared.state.Rse.{Rse}
use Rattle.ia_meaning.specs.State.{Registers, Memory, State}
use Rattle.ia_meaning.specs.ResidentRange.{range_of}
use Rattle.ia_meaning.specs.declared.write.Write.{Write}
use Rattle.ia_meaning.specs.Writes.{apply, frame_changes}
use Rattle.ia_meaning.specs.WriteOrders.{arranged}
use Rattle.ia_meaning.specs.Steps.{Group}
use Rattle.ia_meaning.specs.ParallelGroups.{Gathered, GatheredGroup, gathered_from, gathered_within}
use Rattle.ia_meaning.specs.NumberedRuns.{order, made_in_order, numbered_group}
use Rattle.ia_meaning.specs.Runs.{ParGroupEnds}
use Rattle.group_engine.specs.Engine.{Engine, after_group}
use Rattle.group_engine.specs.Groups.{rest_of, HasGathered, HasRestOf}

-- The writes of a group in the order with a number.
abbrev pub in_order : ℕ → Gathered → List Write
in_order number g = arranged (order number (length g.writes)) g.writes

-- What is left where the writes of a group are made in the order with a number.
pub record IsMade (group : Group) (number : ℕ) (g : Gathered) (last : Option End) : Type 0 where
  pub state : group.state ≡ record {
    registers = apply (in_order number g) (record g.base { unat = g.unat });
    memory = g.memory;
    place = g.place;
  }
  pub end : group.end ≡ last
  pub frames : group.frames ≡ g.frames ++ frame_changes (in_order number g)

made_is : (number : ℕ) (group : GatheredGroup) (g : Gathered) (last : Option End) → HasGathered group g last
    → IsMade (made_in_order number group) number g last
made_is number group g last h = let a = h.all in let e = h.end in record { state = cc; end = e; frames = cc }

-- A group that is gathered and made is the group with the number.
pub group_made : (number : ℕ) (p : Program) (s : State) (g : Gathered) (last : Option End)
    → HasGathered (rest_of RUN_LIMIT p true (gathered_from s)) g last → IsMade (numbered_group number p s) number g last
unfolding numbered_group rest_of
group_made number p s g last h = made_is number (gathered_within RUN_LIMIT p true (gathered_from s)) g last h

-- The engine after such a group.
pub engine_made : (number : ℕ) (p : Program) (s : State) (g : Gathered) (last before after : Option End) (groups : ℕ) (range left : Rse)
    (registers : Registers) (memory : Memory) (place : Place) (e : Engine)
    → IsMade (numbered_group number p s) number g last
    → e ≡ record { program = p; state = s; end = before; groups = groups; range = range }
    → registers ≡ apply (in_order number g) (record g.base { unat = g.unat }) → memory ≡ g.memory → place ≡ g.place
    → left ≡ range_of range (g.frames ++ frame_changes (in_order number g)) → after ≡ last
    → record {
      program = p;
      state = record { registers = registers; memory = memory; place = place };
      end = after;
      groups = groups + 1;
      range = left;
    } ≡ after_group (numbered_group number e.program e.state) e
engine_made number p s g last before after groups range left registers memory place e m is a b c d f =
    let state = m.state in
    let end = m.end in
    let frames = m.frames in
    rw (is, a, b, c, d, f, state, end, frames) refl

-- A group that begins at a place of the program is over after its RUN_LIMIT slots.
pub comes_to_end : (p : Program) (s : State) (g : Gathered) (begins : Bool) → ParGroupEnds → IsProgram p → IsPlaceOf p.bundles s.place
    → HasRestOf (rest_of RUN_LIMIT p true (gathered_from s)) (rest_of 0 p begins g) → ⊥
unfolding rest_of
comes_to_end p s g begins ends program is h =
    let over : IsSome (gathered_within RUN_LIMIT p true (gathered_from s)).how = ends p [] s program is in
    let how = h.how in
    cc

-- What the rest of a group comes to is what the group does.
pub over_from : (group rest : GatheredGroup) (g : Gathered) (last : Option End) → HasRestOf group rest → HasGathered rest g last
    → HasGathered group g last
over_from group rest g last h k =
    record { all = h.all ∙ k.all; end = h.end ∙ k.end; over = subst IsSome (sym h.how) k.over }
