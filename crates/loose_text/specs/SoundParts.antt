-- What holds of what the lines of a loose text say.
use Rattle.std.specs.Prelude.{◌≡◌, ℕ, ◌≤◌, Bool, true, false, List, [], ◌∷◌, ◌++◌, map, length, get_or}
use Rattle.std.specs.List.{AllByRecursion}
use Rattle.std.specs.Map.{values_of}
use Rattle.ia_program.specs.declared.limits.TheConstants.{DATA_LIMIT}
use Rattle.ia_program.specs.Listed.{IsListed}
use Rattle.asm_build.specs.declared.address.Address.{Address}
use Rattle.asm_build.specs.declared.address.Address.TheVariants.{Bundle, Byte}
use Rattle.asm_build.specs.declared.text_parts.RelationLine.{RelationLine}
use Rattle.loose_text.specs.declared.item.ItemLine.{ItemLine}
use Rattle.loose_text.specs.LooseParts.{LooseParts}

-- Of each instruction and of the next one, whether a label of text or a relation line stands before it.
abbrev pub marks : LooseParts → List Bool
marks s = map (λ (l : ItemLine). l.item.breaks) s.items ++ s.fresh ∷ []

abbrev pub IsMarked : LooseParts → ℕ → Type 0
IsMarked s n = get_or (marks s) n false ≡ true

-- What a label may name: a marked instruction, or a byte of data or their end.
abbrev pub MayBeNamed : LooseParts → Address → Type 0
MayBeNamed s (Bundle n) = IsMarked s n
MayBeNamed s (Byte at) = at ≤ DATA_LIMIT

-- The instructions are listed, and labels and relations are of marked ones.
pub record IsSound (s : LooseParts) : Type 0 where
  pub listed : AllByRecursion (λ (l : ItemLine). IsListed l.item.insn) s.items
  pub labels : AllByRecursion (MayBeNamed s) (values_of s.declared.labels)
  pub relations : AllByRecursion (λ (l : RelationLine). IsMarked s l.bundle) s.declared.relations
  pub bytes : length s.declared.bytes ≤ DATA_LIMIT
