-- The places of a sequence, and the falls from one to the next.
use Rattle.std.proofs.Common.{◌≡◌, ℕ, ◌+◌, ◌<◌, Bool, true, false, nat_lt, ◌==◌, cond, List, length, Option, Some, None, refl, ap, arith}
use Rattle.std.specs.Prelude.{IsSome, slice_get}
use Rattle.std.proofs.lemmas.Bool.{lt-ltb}
use Rattle.std.proofs.lemmas.Bool.Decides.{nat_tests}
use Rattle.std.proofs.lemmas.Option.{slice_get_within}
use Rattle.ia_insn.specs.declared.insn.Insn.{Insn}
use Rattle.ia_program.specs.declared.place.Place.{Place}
use Rattle.ia_program.proofs.Reaching.{same_place}
use Rattle.ia_meaning.specs.Sequence.{first_of}
use Rattle.predicate_rel.specs.declared.edge.Edge.TheVariants.{Falls}
use Rattle.flow_facts.specs.Graphs.{InsnSequence, over_sequence, sequence_insn, sequence_next, HasSequenceEdge}
use Rattle.flow_facts.specs.Walks.{Walk, begins, goes_on, end_of, IsWalkIn}
use Rattle.order_laws.proofs.Falling.{falls_next}

-- The number of the instruction at a place of the sequence.
pub record IsNumbered (insns : List Insn) (place : Place) : Type 0 where
  pub number : ℕ
  pub inside : number < length insns
  pub is : place ≡ first_of number

-- The n-th instruction stands at the n-th place.
pub sequence_insn_is : (insns : List Insn) (n : ℕ) → sequence_insn insns (first_of n) ≡ slice_get insns n
unfolding sequence_insn
sequence_insn_is insns n = refl

-- Each of its places is one of its instructions'.
pub sequence_numbered : (insns : List Insn) (place : Place) → IsSome (sequence_insn insns place) → IsNumbered insns place
unfolding sequence_insn
sequence_numbered insns place h = of (place.slot == 0) refl (slice_get insns place.bundle) refl h
  where
    of : (b : Bool) → (place.slot == 0) ≡ b → (o : Option Insn) → slice_get insns place.bundle ≡ o → IsSome (cond b o None)
        → IsNumbered insns place
    of true e (Some i) there h = record {
      number = place.bundle;
      inside = slice_get_within insns place.bundle i there;
      is = same_place place (first_of place.bundle) refl (grind (arith, nat_tests));
    }
    of true e None there h = absurd cc
    of false e o there h = absurd cc

-- Where the n-th place is one, there is an n-th instruction.
pub sequence_inside : (insns : List Insn) (n : ℕ) → IsSome (sequence_insn insns (first_of n)) → n < length insns
sequence_inside insns n is =
    let numbered = sequence_numbered insns (first_of n) is in
    let same : n ≡ numbered.number = ap (λ (q : Place). q.bundle) numbered.is in
    omega (arith, numbered.inside)

-- A walk of the sequence ends at one of its places.
pub sequence_walk_place : (sequence : InsnSequence) (u : Walk) → IsWalkIn (over_sequence sequence) u → IsNumbered sequence.insns (end_of u)
sequence_walk_place sequence (begins n) is = record { number = n; inside = is.inside; is = refl }
sequence_walk_place sequence (goes_on u e place) is = sequence_numbered sequence.insns place is.1.lands

-- The next place.
pub sequence_next_is : (insns : List Insn) (n : ℕ) → n + 1 < length insns → sequence_next insns (first_of n) ≡ Some (first_of (n + 1))
unfolding sequence_next
sequence_next_is insns n inside = rw (lt-ltb (n + 1) (length insns) inside) refl

-- What a fall of the sequence from the n-th instruction is.
pub record IsSequenceFall (sequence : InsnSequence) (n : ℕ) (to : Place) : Type 0 where
  pub inside : n + 1 < length sequence.insns
  pub leads : to ≡ first_of (n + 1)

pub sequence_fall_is : (sequence : InsnSequence) (n : ℕ) (to : Place) → HasSequenceEdge sequence (first_of n) Falls to
    → IsSequenceFall sequence n to
unfolding sequence_next
sequence_fall_is sequence n to edge =
    of (nat_lt (n + 1) (length sequence.insns)) refl (falls_next (over_sequence sequence) (first_of n) to edge)
  where
    of : (more : Bool) → nat_lt (n + 1) (length sequence.insns) ≡ more → cond more (Some (first_of (n + 1))) None ≡ Some to
        → IsSequenceFall sequence n to
    of true e h = record { inside = grind (arith, nat_tests); leads = cc }
    of false e h = absurd cc
