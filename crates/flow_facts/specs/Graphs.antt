-- What walks go over: a program, or a sequence of instructions, each of which is a place of its own (volume 1, chapter 3,
-- instruction sequencing).
use Rattle.std.specs.Prelude.{◌≡◌, ℕ, ◌+◌, ◌-◌, ◌<◌, ◌≤◌, ◌⊎◌, ◌==◌, List, [], ◌∷◌, Option, None, Some, IsSome, IsSomeAnd, Contains, length, slice_get, nat_lt, if◌then◌else◌}
use Rattle.ia_insn.specs.declared.insn.Insn.{Insn}
use Rattle.ia_program.specs.declared.place.Place.{Place}
use Rattle.ia_program.specs.declared.relations.Relation.{Relation}
use Rattle.ia_program.specs.Places.{insn_at}
use Rattle.ia_program.specs.Programs.{Program, IsCall, IsEntry, relations_at}
use Rattle.ia_meaning.specs.Actions.{insn_action}
use Rattle.ia_meaning.specs.Sequence.{first_of, next_of}
use Rattle.predicate_rel.specs.declared.edge.Edge.{Edge}
use Rattle.predicate_rel.specs.declared.edge.Edge.TheVariants.{Falls, Taken}
use Rattle.predicate_rel.specs.Pairs.{Pairs, no_pairs, with_pair}
use Rattle.predicate_rel.specs.Edges.{HasEdge, may_fall, displacement_of, target_at, pairs_past, pairs_past_insn}

-- Instructions without bundles: the n-th stands at slot 0 of what counts as bundle n, and a displacement counts
-- instructions. Declared entries and relations are of instructions, by their numbers.
pub record InsnSequence : Type 0 where
  pub insns : List Insn
  pub entries : List ℕ
  pub relations : List Relation

pub data Graph : Type 0 where
  over_program : Program → Graph
  over_sequence : InsnSequence → Graph

-- The instruction of a sequence at a place.
unfoldable pub sequence_insn : List Insn → Place → Option Insn
sequence_insn insns place = if place.slot == 0 then slice_get insns place.bundle else None

-- The place of the next one, where there is one.
unfoldable pub sequence_next : List Insn → Place → Option Place
sequence_next insns place = if nat_lt (place.bundle + 1) (length insns) then Some (first_of (place.bundle + 1)) else None

-- An entry of a sequence: the first instruction, a declared one, or the one behind a call, which comes back to it.
pub record IsSequenceEntry (sequence : InsnSequence) (n : ℕ) : Type 0 where
  pub inside : n < length sequence.insns
  pub kind : (n ≡ 0) ⊎ (Contains sequence.entries n ⊎ ((1 ≤ n) × IsSomeAnd (slice_get sequence.insns (n - 1)) (λ i. IsCall i.op)))

-- By the instruction at the place.
abbrev pub sequence_end_of : List Insn → Place → Option Insn → Edge → Option Place
sequence_end_of insns from None e = None
sequence_end_of insns from (Some insn) Falls = if may_fall insn then sequence_next insns from else None
sequence_end_of insns from (Some insn) Taken = target_at from.bundle (displacement_of (insn_action insn))

-- An edge leads from a place of the sequence to a place of it: a fall to the next one, a taken direct branch or check to its
-- target.
pub record HasSequenceEdge (sequence : InsnSequence) (from : Place) (e : Edge) (to : Place) : Type 0 where
  pub inside : IsSome (sequence_insn sequence.insns from)
  pub leads : sequence_end_of sequence.insns from (sequence_insn sequence.insns from) e ≡ Some to
  pub lands : IsSome (sequence_insn sequence.insns to)

-- The instruction at a place.
abbrev pub insn_in : Graph → Place → Option Insn
insn_in (over_program p) place = insn_at p.bundles place
insn_in (over_sequence sequence) place = sequence_insn sequence.insns place

-- The next place, where there is one.
abbrev pub next_in : Graph → Place → Option Place
next_in (over_program p) place = next_of p.bundles place
next_in (over_sequence sequence) place = sequence_next sequence.insns place

-- A place of it: one that has an instruction.
abbrev pub IsPlaceIn : Graph → Place → Type 0
IsPlaceIn g place = IsSome (insn_in g place)

-- Where walks begin, by the bundle.
abbrev pub IsEntryIn : Graph → ℕ → Type 0
IsEntryIn (over_program p) n = IsEntry p n
IsEntryIn (over_sequence sequence) n = IsSequenceEntry sequence n

abbrev pub IsEdgeIn : Graph → Place → Edge → Place → Type 0
IsEdgeIn (over_program p) from e to = HasEdge p from e to
IsEdgeIn (over_sequence sequence) from e to = HasSequenceEdge sequence from e to

-- What is known past the instruction at a place, on the way along an edge; before it, the pairs f are known.
unfoldable pub sequence_past : List Insn → Place → Edge → Pairs → Pairs
sequence_past insns place e f = pairs_past_insn (sequence_insn insns place) e f

abbrev pub pairs_past_in : Graph → Place → Edge → Pairs → Pairs
pairs_past_in (over_program p) place e f = pairs_past p place e f
pairs_past_in (over_sequence sequence) place e f = sequence_past sequence.insns place e f

-- The pairs of f and those of declared relations.
abbrev pub with_relations : Pairs → List Relation → Pairs
with_relations f [] = f
with_relations f (r ∷ rs) = with_relations (with_pair f r.p r.q) rs

-- What is known where a walk begins at an entry: what the entry declares.
unfoldable pub known_at_entry : List Relation → ℕ → Pairs
known_at_entry relations n = with_relations no_pairs (relations_at relations n)

abbrev pub known_first_in : Graph → ℕ → Pairs
known_first_in (over_program p) n = known_at_entry p.relations n
known_first_in (over_sequence sequence) n = known_at_entry sequence.relations n
