-- The state as it is printed. Every line ends with a line feed.
use Rattle.std.specs.Prelude.{ℕ, zero, suc, ◌+◌, ◌-◌, ◌*◌, ◌/◌, false, ◌==◌, if◌then◌else◌, List, [], ◌∷◌, ◌++◌, length, replicate, get_or, Option, Some, None, codes, decimal, flat_map}
use Rattle.std.specs.Fmt.{digits}
use Rattle.ia_insn.specs.RegisterTexts.{gr_text, br_text}
use Rattle.ia_program.specs.Texts.{place_text, fault_name}
use Rattle.ia_program.specs.declared.ending.End.{End}
use Rattle.ia_program.specs.declared.ending.End.TheVariants.{Break, Limit, Fault}
use Rattle.ia_program.specs.Addresses.{data_base}
use Rattle.ia_meaning.specs.declared.state.Cell.{Cell}
use Rattle.ia_meaning.specs.declared.state.FrameShape.{FrameShape}
use Rattle.ia_meaning.specs.declared.state.Rse.{Rse}
use Rattle.ia_meaning.specs.declared.state.Spot.{Spot}
use Rattle.ia_meaning.specs.declared.state.Spot.TheVariants.{Static, Stacked}
use Rattle.ia_meaning.specs.declared.state.AlatEntry.{AlatEntry}
use Rattle.ia_meaning.specs.State.{Registers, Memory, State}
use Rattle.ia_meaning.specs.Names.{look}
use Rattle.ia_meaning.specs.Moves.{predicate_word}
use Rattle.ia_meaning.specs.Loads.{loaded}

abbrev pub line : List ℕ → List ℕ
line text = text ++ 10 ∷ []

-- A number as 16 hexadecimal digits.
unfoldable pub word_text : ℕ → List ℕ
word_text n = replicate (16 - length (digits 16 false n)) 48 ++ digits 16 false n

abbrev pub end_text : End → List ℕ
end_text (Break imm place) = codes "end break 0x" ++ digits 16 false imm ++ codes " at " ++ place_text place
end_text (Limit place) = codes "end limit at " ++ place_text place
end_text (Fault kind place) = codes "end fault " ++ fault_name kind ++ codes " at " ++ place_text place

abbrev pub frame_text : FrameShape → List ℕ
frame_text f =
    codes "frame " ++ decimal f.base ++ codes " sof " ++ decimal f.sof ++ codes " sol " ++ decimal f.sol ++ codes " sor " ++ decimal f.sor
    ++ codes " rrb " ++ decimal f.rrbs.gr ++ codes " " ++ decimal f.rrbs.fr ++ codes " " ++ decimal f.rrbs.pr

abbrev pub range_text : Rse → List ℕ
range_text r =
    codes "rse " ++ decimal r.low ++ codes " " ++ decimal r.high ++ codes " " ++ decimal r.spilled ++ codes " " ++ decimal r.filled

-- The numbers from n up, as many as the second number says.
abbrev pub count_up : ℕ → ℕ → List ℕ
count_up n zero = []
count_up n (suc more) = n ∷ count_up (suc n) more

-- A register that is 0 without NaT isn't printed.
abbrev pub cell_line : List ℕ → Option Cell → List ℕ
cell_line name None = []
cell_line name (Some c) =
    if c.nat then line (name ++ codes " " ++ word_text c.value ++ codes " nat")
    else if c.value == 0 then [] else line (name ++ codes " " ++ word_text c.value)

abbrev pub gr_line : Registers → ℕ → List ℕ
gr_line r n = cell_line (gr_text n) (look r n)

-- r1 to r31, and the registers of the frame by name.
abbrev pub gr_lines : Registers → List ℕ
gr_lines r = flat_map (gr_line r) (count_up 1 (31 + r.frame.sof))

-- A number that is 0 isn't printed.
abbrev pub word_line : List ℕ → ℕ → List ℕ
word_line name n = if n == 0 then [] else line (name ++ codes " " ++ word_text n)

abbrev pub br_line : Registers → ℕ → List ℕ
br_line r n = word_line (br_text n) (get_or r.branches n 0)

abbrev pub br_lines : Registers → List ℕ
br_lines r = flat_map (br_line r) (count_up 0 8)

abbrev pub application_lines : Registers → List ℕ
application_lines r =
    word_line (codes "ar.unat") r.unat ++ word_line (codes "ar.pfs") r.pfs ++ word_line (codes "ar.lc") r.lc ++ word_line (codes "ar.ec")
    r.ec

-- The n-th word of the data.
abbrev pub data_line : List ℕ → ℕ → List ℕ
data_line bytes n = word_line (codes "m " ++ word_text (data_base + 8 * n)) (loaded bytes (data_base + 8 * n) 8)

-- The lines of the words of the data that aren't 0.
abbrev pub data_lines : List ℕ → List ℕ
data_lines bytes = flat_map (data_line bytes) (count_up 0 (length bytes / 8))

-- A register's place: `rN` of a static one, and `sN` of the cell N.
abbrev pub key_text : Spot → List ℕ
key_text (Static n) = gr_text n
key_text (Stacked n) = codes "s" ++ decimal n

abbrev pub entry_line : AlatEntry → List ℕ
entry_line e = line (codes "alat " ++ key_text e.key ++ codes " " ++ word_text e.address ++ codes " " ++ decimal e.size)

abbrev pub entry_lines : List AlatEntry → List ℕ
entry_lines es = flat_map entry_line es

-- How the run ended, how many groups there were, the frame, the resident range, the registers by name, the predicates by
-- place, the branch and application registers, the data, and the ALAT, oldest first.
abbrev pub parts_text : End → ℕ → Rse → Registers → Memory → List ℕ
parts_text end groups range r m =
    line (end_text end) ++ line (codes "groups " ++ decimal groups) ++ line (frame_text r.frame) ++ line (range_text range)
    ++ gr_lines r ++ line (codes "pr " ++ word_text (predicate_word r.predicates))
    ++ br_lines r ++ application_lines r
    ++ data_lines m.bytes ++ entry_lines m.alat

-- The printed state: its end, its number of groups and its parts. The place of the next slot isn't printed.
abbrev pub state_text : End → ℕ → Rse → State → List ℕ
state_text end groups range s = parts_text end groups range s.registers s.memory
