-- Loose texts: instructions without bundles, what the names in them mean, entries, relations and data.
use Rattle.std.specs.Prelude.{◌≡◌, ℕ, ◌-◌, ◌*◌, ◌%◌, ◌<◌, ◌≤◌, ◌⊎◌, true, List, length, slice_get, Contains, Option, Some, None, is_some, IfSome, IsSomeAnd}
use Rattle.ia_insn.specs.declared.insn.Op.{Op}
use Rattle.ia_insn.specs.Displacements.{displacement}
use Rattle.ia_program.specs.declared.limits.TheConstants.{BUNDLE_LIMIT, DATA_LIMIT, ENTRY_LIMIT, RELATION_LIMIT}
use Rattle.ia_program.specs.declared.relations.Relation.{Relation}
use Rattle.ia_program.specs.Listed.{IsListed}
use Rattle.ia_program.specs.Programs.{IsCall, AreEntries, AreBytes}
use Rattle.asm_build.specs.declared.address.Address.{Address}
use Rattle.asm_build.specs.declared.address.Address.TheVariants.{Bundle, Byte}
use Rattle.asm_build.specs.Addresses.{addressed}
use Rattle.asm_build.specs.Relations.{AreRelationsOf}
use Rattle.loose_items.specs.declared.item.Item.{Item}
use Rattle.loose_items.specs.Packings.{plain_of}

-- What a loose text is: its instructions, of each what the name of its target names, the numbers of the declared
-- entries, the relations, and the data bytes. Labels of text, entries and relations count instructions.
pub record Loose : Type 0 where
  pub items : List Item
  pub targets : List (Option Address)
  pub entries : List ℕ
  pub relations : List Relation
  pub bytes : List ℕ

-- A label of text or a relation line stands before the n-th instruction, and after the one before it.
abbrev pub BreaksAt : List Item → ℕ → Type 0
BreaksAt items n = IsSomeAnd (slice_get items n) (λ i. i.breaks ≡ true)

-- The instruction before the n-th is a call, which comes back to the n-th.
abbrev pub IsAfterCall : List Item → ℕ → Type 0
IsAfterCall items n = (1 ≤ n) × IsSomeAnd (slice_get items (n - 1)) (λ i. IsCall i.insn.op)

-- An entry, where a run may start and indirect branches may land: instruction 0, a declared entry, or the instruction
-- after a call.
pub record IsItemEntry (items : List Item) (entries : List ℕ) (n : ℕ) : Type 0 where
  pub inside : n < length items
  pub kind : (n ≡ 0) ⊎ (Contains entries n ⊎ IsAfterCall items n)

-- What a name of the text may mean: an instruction that a label stands before, or a byte of data or their end.
abbrev pub IsPlace : List Item → Address → Type 0
IsPlace items (Bundle n) = BreaksAt items n
IsPlace items (Byte at) = at ≤ DATA_LIMIT

-- What the name of its target means for an operation: without a name it has none, and else the address can be put in,
-- wherever the operation stands.
abbrev pub IsTargetOf : List Item → Op → Option Address → Type 0
IsTargetOf items x None = displacement x ≡ None
IsTargetOf items x (Some a) = ((n : ℕ) → is_some (addressed x a n) ≡ true) × IsPlace items a

-- What a packer may go by.
pub record IsLoose (t : Loose) : Type 0 where
  pub some : 1 ≤ length t.items
  pub few : length t.items ≤ 3 * BUNDLE_LIMIT
  pub bundles : length (plain_of t.items) ≤ BUNDLE_LIMIT
  pub listed : (n : ℕ) → IfSome (slice_get t.items n) (λ i. IsListed i.insn)
  pub targets : length t.targets ≡ length t.items
  pub named : (n : ℕ) → IfSome (slice_get t.items n) (λ i. IfSome (slice_get t.targets n) (IsTargetOf t.items i.insn.op))
  pub entries : AreEntries (length t.items) t.entries
  pub few_entries : length t.entries ≤ ENTRY_LIMIT
  pub entries_break : (n : ℕ) → Contains t.entries n → BreaksAt t.items n
  pub relations : AreRelationsOf (IsItemEntry t.items t.entries) t.relations
  pub few_relations : length t.relations ≤ RELATION_LIMIT
  pub relations_break : (r : Relation) → Contains t.relations r → BreaksAt t.items r.bundle
  pub bytes : AreBytes t.bytes
  pub few_bytes : length t.bytes ≤ DATA_LIMIT
  pub words : length t.bytes % 8 ≡ 0
