-- Chunks: what each bundle of a loose text is to hold, in order.
use Rattle.std.specs.Prelude.{◌≡◌, ℕ, ◌+◌, ◌<◌, ◌≤◌, Bool, true, false, not, ◌&&◌, List, [], ◌∷◌, ◌++◌, take, drop, length, IsSome, IsSomeAnd, slice_get, ⊤}
use Rattle.ia_program.specs.declared.limits.TheConstants.{BUNDLE_LIMIT}
use Rattle.ia_program.specs.Programs.{IsCall}
use Rattle.slot_layouts.specs.declared.layout.Wanted.{Wanted}
use Rattle.slot_layouts.specs.Layouts.{laid_out}
use Rattle.slot_layouts.specs.Classes.{class_of}
use Rattle.loose_items.specs.declared.item.Item.{Item}
use Rattle.loose_text.specs.LooseTexts.{Loose}
use Rattle.bundling.specs.declared.chunk.TheConstants.{QUIET_LIMIT}
use Rattle.bundling.specs.Chunk.{Chunk}

-- The bundle holds these instructions: of the classes that are wanted.
abbrev pub Holds : List Wanted → List Item → Type 0
Holds [] [] = ⊤
Holds (w ∷ ws) (item ∷ items) = (w.class ≡ class_of item.insn.op) × Holds ws items
Holds ws items = ⊥

-- A label or a relation stands before the first of them alone, and a call is the last.
abbrev pub KeepTogether : List Item → Type 0
KeepTogether [] = ⊤
KeepTogether (item ∷ []) = ⊤
KeepTogether (item ∷ next ∷ items) = (next.breaks ≡ false) × ¬ IsCall item.insn.op × KeepTogether (next ∷ items)

-- The bundle holds these instructions, at least one, and has a layout.
pub record IsChunk (c : Chunk) (items : List Item) : Type 0 where
  pub holds : Holds c.wanted items
  pub together : KeepTogether items
  pub laid : IsSome (laid_out c.wanted c.end)

-- Each bundle holds the next instructions, and together they hold all.
abbrev pub AreChunks : List Chunk → List Item → Type 0
AreChunks [] [] = ⊤
AreChunks [] (item ∷ items) = ⊥
AreChunks (c ∷ cs) items = IsChunk c (take (length c.wanted) items) × AreChunks cs (drop (length c.wanted) items)

-- The bundles of the text's instructions, at most as many as a program may have.
pub record AreChunksOf (s : Loose) (cs : List Chunk) : Type 0 where
  pub chunks : AreChunks cs s.items
  pub few : length cs ≤ BUNDLE_LIMIT

-- Whether a stop is wanted behind each instruction, in order: between two in a bundle as the second one's gap says, and
-- behind the last of a bundle as its end says.
abbrev pub gaps_in : List Wanted → Bool → List Bool
gaps_in [] end = []
gaps_in (w ∷ []) end = end ∷ []
gaps_in (w ∷ x ∷ ws) end = x.gap ∷ gaps_in (x ∷ ws) end

abbrev pub gaps_of : List Chunk → List Bool
gaps_of [] = []
gaps_of (c ∷ cs) = gaps_in c.wanted c.end ++ gaps_of cs

-- No gap is wanted inside a bundle.
abbrev pub has_no_gap : List Wanted → Bool
has_no_gap [] = true
has_no_gap (w ∷ []) = true
has_no_gap (w ∷ x ∷ ws) = not x.gap && has_no_gap (x ∷ ws)

-- No stop is wanted in the bundle or after it.
abbrev pub is_quiet : Chunk → Bool
is_quiet c = not c.end && has_no_gap c.wanted

-- Of n bundles that follow one another with one more behind them, some wants a stop.
abbrev pub HasNoLongQuiet : List Chunk → Type 0
HasNoLongQuiet cs =
    (i : ℕ) → i + QUIET_LIMIT < length cs → (k : ℕ) × (i ≤ k) × (k < i + QUIET_LIMIT) × IsSomeAnd (slice_get cs k) (λ c. is_quiet c ≡ false)
