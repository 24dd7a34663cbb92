-- The state of the machine (volume 1, chapter 3, application register state, and chapter 4).
use Rattle.std.specs.Prelude.{◌≡◌, ◌≢◌, ℕ, ◌+◌, ◌*◌, ◌/◌, ◌%◌, ◌<◌, ◌≤◌, ◌^◌, ◌⊎◌, Bool, true, false, List, [], ◌∷◌, length, replicate, get_or, take, AllPairs, All}
use Rattle.ia_meaning.specs.declared.limits.TheConstants.{ALAT_LIMIT, STACK_LIMIT}
use Rattle.ia_program.specs.declared.place.Place.{Place}
use Rattle.ia_program.specs.Places.{IsPlaceOf}
use Rattle.ia_meaning.specs.Landings.{breaks_relation}
use Rattle.ia_insn.specs.Ranges.{IsAccessSize}
use Rattle.ia_program.specs.Programs.{Program, IsProgram, IsEntry, AreBytes}
use Rattle.ia_program.specs.Addresses.{data_base}
use Rattle.ia_meaning.specs.declared.state.Cell.{Cell}
use Rattle.ia_meaning.specs.declared.state.Rrbs.{Rrbs}
use Rattle.ia_meaning.specs.declared.state.FrameShape.{FrameShape}
use Rattle.ia_meaning.specs.declared.state.Spot.{Spot}
use Rattle.ia_meaning.specs.declared.state.Spot.TheVariants.{Static, Stacked}
use Rattle.ia_meaning.specs.declared.state.AlatEntry.{AlatEntry}

-- 0 without NaT.
abbrev pub zero_cell : Cell
zero_cell = record { value = 0; nat = false }

abbrev pub zero_bases : Rrbs
zero_bases = record { gr = 0; fr = 0; pr = 0 }

abbrev pub zero_frame : FrameShape
zero_frame = record { base = 0; sof = 0; sol = 0; sor = 0; rrbs = zero_bases }

-- What a group reads at its start and writes at its end: r0 to r31, the cell of every stacked register since
-- the start, the frame, the predicates by place, b0 to b7, and the application registers.
pub record Registers : Type 0 where
  pub statics : List Cell
  pub cells : List Cell
  pub frame : FrameShape
  pub predicates : List Bool
  pub branches : List ℕ
  pub unat : ℕ
  pub pfs : ℕ
  pub lc : ℕ
  pub ec : ℕ

-- What goes from slot to slot: the data bytes, and the entries of the ALAT, oldest first.
pub record Memory : Type 0 where
  pub bytes : List ℕ
  pub alat : List AlatEntry

-- A state: registers, memory, and the place of the next slot.
pub record State : Type 0 where
  pub registers : Registers
  pub memory : Memory
  pub place : Place

-- Slot 0 of bundle 0 is next, every register is 0 without NaT, p0 is 1 and all other predicates are 0, the
-- frame is empty, and so is the ALAT; the data are those of the program.
abbrev pub zero_registers : Registers
zero_registers =
    record {
      statics = replicate 32 zero_cell;
      cells = [];
      frame = zero_frame;
      predicates = true ∷ replicate 63 false;
      branches = replicate 8 0;
      unat = 0;
      pfs = 0;
      lc = 0;
      ec = 0;
    }

abbrev pub zero_state : Program → State
zero_state p = record {
  registers = zero_registers;
  memory = record { bytes = p.bytes; alat = [] };
  place = record { bundle = 0; slot = 0 };
}

-- Bits 51:38 and 61:58 of a previous function state are zero.
abbrev pub HasReservedZeros : ℕ → Type 0
HasReservedZeros pfs = ((pfs / 2 ^ 38) % 2 ^ 14 ≡ 0) × ((pfs / 2 ^ 58) % 2 ^ 4 ≡ 0)

-- 64 bits.
abbrev pub IsWord : ℕ → Type 0
IsWord n = n < 2 ^ 64

abbrev pub AreWords : List ℕ → Type 0
AreWords = All IsWord

abbrev pub AreCells : List Cell → Type 0
AreCells = All (λ c. IsWord c.value)

-- The frame's sizes and bases.
pub record IsFrame (f : FrameShape) : Type 0 where
  pub size : f.sof ≤ 96
  pub locals : f.sol ≤ f.sof
  pub rotating : 8 * f.sor ≤ f.sof
  pub general : (f.rrbs.gr < 8 * f.sor) ⊎ (f.rrbs.gr ≡ 0)
  pub floating : f.rrbs.fr < 96
  pub predicates : f.rrbs.pr < 48

pub record AreRegisters (r : Registers) : Type 0 where
  pub static_count : length r.statics ≡ 32
  pub statics : AreCells r.statics
  pub zero : get_or r.statics 0 zero_cell ≡ zero_cell
  pub frame : IsFrame r.frame
  pub cell_count : length r.cells ≡ r.frame.base + r.frame.sof
  pub most : length r.cells ≤ STACK_LIMIT
  pub cells : AreCells r.cells
  pub predicate_count : length r.predicates ≡ 64
  pub one : get_or r.predicates 0 false ≡ true
  pub branch_count : length r.branches ≡ 8
  pub branches : AreWords r.branches
  pub unat : IsWord r.unat
  pub pfs : IsWord r.pfs
  pub reserved : HasReservedZeros r.pfs
  pub lc : IsWord r.lc
  pub ec : r.ec < 64

abbrev pub IsKey : Spot → Type 0
IsKey (Static n) = (1 ≤ n) × (n ≤ 31)
IsKey (Stacked n) = n < STACK_LIMIT

-- An entry of the ALAT where there are `count` bytes of data: its key, and an access that lies within them.
pub record IsAlatEntry (count : ℕ) (e : AlatEntry) : Type 0 where
  pub key : IsKey e.key
  pub size : IsAccessSize e.size
  pub aligned : e.address % e.size ≡ 0
  pub above : data_base ≤ e.address
  pub within : e.address + e.size ≤ data_base + count

pub record IsMemory (p : Program) (m : Memory) : Type 0 where
  pub count : length m.bytes ≡ length p.bytes
  pub bytes : AreBytes m.bytes
  pub most : length m.alat ≤ ALAT_LIMIT
  pub entries : All (IsAlatEntry (length m.bytes)) m.alat
  pub apart : AllPairs (λ d e. d.key ≢ e.key) m.alat

-- A state of the program.
pub record IsState (p : Program) (s : State) : Type 0 where
  pub registers : AreRegisters s.registers
  pub memory : IsMemory p s.memory
  pub place : IsPlaceOf p.bundles s.place

-- A state from which a run may start: the next slot is slot 0 of an entry, and what the entry declares of predicates holds.
pub record IsStart (p : Program) (s : State) : Type 0 where
  pub state : IsState p s
  pub slot : s.place.slot ≡ 0
  pub entry : IsEntry p s.place.bundle
  pub promised : breaks_relation p (take 16 s.registers.predicates) s.place.bundle ≡ false

-- The zero state is one from which a run may start.
abbrev pub ZeroIsStart : Type 0
ZeroIsStart = (p : Program) → IsProgram p → IsStart p (zero_state p)
