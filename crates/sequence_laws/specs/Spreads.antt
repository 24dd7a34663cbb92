-- A sequence of instructions, and a program that has them in its bundles: in order, with nops in the other slots, and with the
-- same entries, targets and relations (volume 1, chapter 3, instruction encoding and instruction sequencing).
use Rattle.std.specs.Prelude.{◌≡◌, ◌⊎◌, ℕ, ◌+◌, ◌<◌, Bool, true, false, length, slice_get, Some, None}
use Rattle.ia_insn.specs.declared.insn.Insn.{Insn}
use Rattle.ia_insn.specs.declared.insn.Op.TheVariants.{Nop}
use Rattle.ia_insn.specs.declared.choices.Unit.{Unit as ExecutionUnit}
use Rattle.ia_program.specs.declared.place.Place.{Place}
use Rattle.ia_program.specs.Places.{insn_at, IsPlaceOf, IsBefore}
use Rattle.ia_program.specs.Programs.{Program, IsEntry}
use Rattle.ia_meaning.specs.Actions.{insn_action, is_alloc}
use Rattle.ia_meaning.specs.Sequence.{first_of, next_of}
use Rattle.resource_sets.specs.Accesses.{accesses}
use Rattle.predicate_rel.specs.declared.edge.Edge.{Edge}
use Rattle.predicate_rel.specs.declared.edge.Edge.TheVariants.{Taken}
use Rattle.predicate_rel.specs.Pairs.{Pairs}
use Rattle.predicate_rel.specs.Rules.{pairs_after}
use Rattle.predicate_rel.specs.Edges.{HasEdge, may_fall}
use Rattle.flow_facts.specs.Graphs.{InsnSequence, over_sequence, IsSequenceEntry, HasSequenceEdge, known_at_entry}
use Rattle.order_laws.specs.Violations.{allocates_at, clears_at, clears}

-- Two instructions do the same within a group: they may differ in where they lead.
pub record DoesLike (i j : Insn) : Type 0 where
  pub accesses : accesses i ≡ accesses j
  pub falls : may_fall i ≡ may_fall j
  pub pairs : (f : Pairs) (e : Edge) → pairs_after f i e ≡ pairs_after f j e
  pub allocates : is_alloc (insn_action i) ≡ is_alloc (insn_action j)
  pub clears : clears (insn_action i) ≡ clears (insn_action j)

-- A `nop` with immediate 0 under p0.
abbrev pub IsFiller : Insn → Type 0
IsFiller i = (unit : ExecutionUnit) × (i ≡ record { qp = 0; op = Nop unit 0 })

-- The n-th instruction is the first in its bundle.
abbrev pub IsHead : (ℕ → Place) → ℕ → Type 0
IsHead at n = (k : ℕ) → k < n → (at k).bundle < (at n).bundle

-- The program has the instructions of the sequence at these places.
pub record IsSpread (sequence : InsnSequence) (p : Program) (at : ℕ → Place) : Type 0 where
  -- Each instruction does the same at its place, and the places are in order.
  pub there : (n : ℕ) (i : Insn) → slice_get sequence.insns n ≡ Some i → (j : Insn) × (insn_at p.bundles (at n) ≡ Some j) × DoesLike i j
  pub rises : (n m : ℕ) → n < m → m < length sequence.insns → IsBefore (at n) (at m)
  -- Every other place has a nop.
  pub fillers : (place : Place) (j : Insn) → insn_at p.bundles place ≡ Some j
      → ((n : ℕ) × (n < length sequence.insns) × (place ≡ at n)) ⊎ IsFiller j
  -- The entries are the bundles of the sequence's entries, which are first there and declare the same.
  pub entries : (bundle : ℕ) → IsEntry p bundle → (n : ℕ) × IsSequenceEntry sequence n × ((at n).bundle ≡ bundle) × IsHead at n
  pub sequence_entries : (n : ℕ) → IsSequenceEntry sequence n → IsEntry p (at n).bundle × IsHead at n
  pub known : (n : ℕ) → IsSequenceEntry sequence n → known_at_entry sequence.relations n ≡ known_at_entry p.relations (at n).bundle
  -- The targets of branches are the bundles of the sequence's targets, which are first there.
  pub targets : (bundle : ℕ) (n : ℕ) → n < length sequence.insns → HasEdge p (at n) Taken (first_of bundle)
      → (m : ℕ) × HasSequenceEdge sequence (first_of n) Taken (first_of m) × ((at m).bundle ≡ bundle) × IsHead at m
  pub sequence_targets : (n m : ℕ) → HasSequenceEdge sequence (first_of n) Taken (first_of m)
      → HasEdge p (at n) Taken (first_of (at m).bundle) × IsHead at m

-- The place stands from the n-th instruction on and before the next one.
pub record IsBetween (p : Program) (at : ℕ → Place) (n : ℕ) (place : Place) : Type 0 where
  pub is : IsPlaceOf p.bundles place
  pub from : ¬ IsBefore place (at n)
  pub below : IsBefore place (at (n + 1))

-- The stops of the program are those of the sequence: one follows a place between two neighbours exactly where the sequence has
-- one behind the first of them.
pub record AreStops (sequence : InsnSequence) (p : Program) (at : ℕ → Place) (sequence_stop has_stop : Place → Bool) : Type 0 where
  pub stopped : (n : ℕ) → n + 1 < length sequence.insns → sequence_stop (first_of n) ≡ true
      → (place : Place) × IsBetween p at n place × (has_stop place ≡ true)
  pub unstopped : (n : ℕ) → n + 1 < length sequence.insns → sequence_stop (first_of n) ≡ false → (place : Place) → IsBetween p at n place
      → has_stop place ≡ false

-- Where `alloc` and `clrrrb` stand, for the rules on slots. An `alloc` that is first in its bundle stands in slot 0. A stop
-- between it and the instruction before it follows the place right before it. A stop behind a `clrrrb` follows it right away.
-- After the last instruction of the sequence a `clrrrb` has no place behind it.
pub record KeepsSlotRules (sequence : InsnSequence) (p : Program) (at : ℕ → Place) (has_stop : Place → Bool) : Type 0 where
  pub alloc_head : (n : ℕ) → allocates_at (over_sequence sequence) (first_of n) ≡ true → IsHead at n → (at n).slot ≡ 0
  pub alloc_stop : (n : ℕ) → n + 1 < length sequence.insns → allocates_at (over_sequence sequence) (first_of (n + 1)) ≡ true
      → (place : Place) → IsBetween p at n place → has_stop place ≡ true → next_of p.bundles place ≡ Some (at (n + 1))
  pub clear_stop : (n : ℕ) → n + 1 < length sequence.insns → clears_at (over_sequence sequence) (first_of n) ≡ true
      → (place : Place) → IsBetween p at n place → has_stop place ≡ true → place ≡ at n
  pub clear_last : (n : ℕ) → n + 1 ≡ length sequence.insns → clears_at (over_sequence sequence) (first_of n) ≡ true
      → next_of p.bundles (at n) ≡ None
