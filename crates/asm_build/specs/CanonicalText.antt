-- The canonical text of a program: its bundles in order, and its data.
use Rattle.std.specs.Prelude.{ℕ, ◌+◌, ◌*◌, ◌%◌, ◌==◌, ◌||◌, Bool, true, false, if◌then◌else◌, List, [], ◌∷◌, ◌++◌, map, codes, Option, Some, None}
use Rattle.std.specs.List.{list_any}
use Rattle.std.specs.Fmt.{decimal, digits}
use Rattle.ia_insn.specs.declared.choices.Unit.{Unit as ExecutionUnit}
use Rattle.ia_insn.specs.declared.choices.Unit.TheVariants as unit
use Rattle.ia_program.specs.declared.bundle.Slots.{Slots}
use Rattle.ia_program.specs.declared.bundle.Slots.TheVariants.{Three, Long}
use Rattle.ia_program.specs.Bundles.{Bundle}
use Rattle.ia_program.specs.declared.relations.Relation.{Relation}
use Rattle.ia_program.specs.Programs.{Program, relations_at}
use Rattle.ia_program.specs.Templates.{units_of, stops_of}
use Rattle.asm_printing.specs.SlotTexts.{label_text, slot_text, target_of}

-- The number is one of them.
abbrev pub is_among : List ℕ → ℕ → Bool
is_among numbers n = list_any (λ m. m == n) numbers

abbrev pub listed_once : Option ℕ → List ℕ
listed_once None = []
listed_once (Some n) = n ∷ []

-- The targets of the instructions of the n-th bundle, by slot.
abbrev pub bundle_targets : ℕ → Slots → List ℕ
bundle_targets n (Three a b c) = listed_once (target_of n a.op) ++ (listed_once (target_of n b.op) ++ listed_once (target_of n c.op))
bundle_targets n (Long first long) = listed_once (target_of n first.op) ++ listed_once (target_of n long.op)

-- The targets of bundles, the first of which is the n-th.
abbrev pub targets_from : ℕ → List Bundle → List ℕ
targets_from n [] = []
targets_from n (b ∷ bs) = bundle_targets n b.slots ++ targets_from (n + 1) bs

-- A stop of the template follows the slot.
abbrev pub has_stop : ℕ → ℕ → Bool
has_stop template slot = is_among (stops_of template) slot

abbrev pub line : List ℕ → List ℕ
line text = text ++ 10 ∷ []

-- The lines of the slots; the stop of a long instruction follows slot 2 of its template.
abbrev pub slots_text : ℕ → ℕ → Slots → List ℕ
slots_text n template (Three a b c) =
    line (slot_text a n (has_stop template 0)) ++ (line (slot_text b n (has_stop template 1)) ++ line (slot_text c n (has_stop template 2)))
slots_text n template (Long first long) = line (slot_text first n false) ++ line (slot_text long n (has_stop template 2))

abbrev pub unit_letter : ExecutionUnit → ℕ
unit_letter unit.M = 109
unit_letter unit.I = 105
unit_letter unit.F = 102
unit_letter unit.B = 98
unit_letter unit.L = 108
unit_letter unit.X = 120

-- `{ .mii` and so on
abbrev pub head_text : ℕ → List ℕ
head_text template = line (codes "{ ." ++ map unit_letter (units_of template))

-- `.pred.rel "mutex",p6,p7`, of a relation between two predicates
abbrev pub relation_text : ℕ → ℕ → List ℕ
relation_text p q = codes ".pred.rel \"mutex\",p" ++ decimal p ++ codes ",p" ++ decimal q

-- The lines of relations.
abbrev pub relations_text : List Relation → List ℕ
relations_text [] = []
relations_text (r ∷ rs) = line (relation_text r.p r.q) ++ relations_text rs

-- The text of a bundle, where it is known whether it is a declared entry and whether it is a target, and its relations:
-- that it is an entry, its label where it is one or a target, its relations, and its slots.
abbrev pub marked_text : Bool → Bool → List Relation → ℕ → Bundle → List ℕ
marked_text entry target relations n b =
    (if entry then line (codes ".entry " ++ label_text n) else [])
    ++ ((if entry || target then line (label_text n ++ codes ":") else [])
    ++ (relations_text relations
    ++ (head_text b.template ++ (slots_text n b.template b.slots ++ line (codes "}")))))

-- The text of the n-th bundle of a program with these entries, targets and relations.
abbrev pub bundle_text : List ℕ → List ℕ → List Relation → ℕ → Bundle → List ℕ
bundle_text entries targets relations n b =
    marked_text (is_among entries n) (is_among targets n) (relations_at relations n) n b

abbrev pub bundles_text : List ℕ → List ℕ → List Relation → ℕ → List Bundle → List ℕ
bundles_text entries targets relations n [] = []
bundles_text entries targets relations n (b ∷ bs) =
    bundle_text entries targets relations n b ++ bundles_text entries targets relations (n + 1) bs

-- A word of eight bytes, the lowest first.
abbrev pub data_word : ℕ → ℕ → ℕ → ℕ → ℕ → ℕ → ℕ → ℕ → ℕ
data_word a b c d e f g h = a + 256 * (b + 256 * (c + 256 * (d + 256 * (e + 256 * (f + 256 * (g + 256 * h))))))

-- The words of data, whose length is a multiple of eight.
abbrev pub words_of : List ℕ → List ℕ
words_of (a ∷ b ∷ c ∷ d ∷ e ∷ f ∷ g ∷ h ∷ rest) = data_word a b c d e f g h ∷ words_of rest
words_of _ = []

abbrev pub is_nothing : List ℕ → Bool
is_nothing [] = true
is_nothing (w ∷ ws) = false

-- Words, the first of which is the k-th: lines of eight, and the last may have fewer.
abbrev pub words_text : ℕ → List ℕ → List ℕ
words_text k [] = []
words_text k (w ∷ ws) =
    (if k % 8 == 0 then codes "data8 " else codes ",") ++ (48 ∷ 120 ∷ digits 16 false w)
    ++ ((if (k % 8 == 7) || is_nothing ws then 10 ∷ [] else []) ++ words_text (k + 1) ws)

abbrev pub data_text : List ℕ → List ℕ
data_text [] = []
data_text (b ∷ bytes) = line (codes ".data") ++ words_text 0 (words_of (b ∷ bytes))

-- The canonical text.
abbrev pub canonical_text : Program → List ℕ
canonical_text p = bundles_text p.entries (targets_from 0 p.bundles) p.relations 0 p.bundles ++ data_text p.bytes
