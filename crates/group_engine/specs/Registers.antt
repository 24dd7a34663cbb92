-- What is seen of the registers of a group's start, and what is true of them.
use Rattle.std.specs.Prelude.{◌≡◌, ◌+◌, ◌<◌, ◌≤◌, true, false, length, get_or, vec_capacity}
use Rattle.ia_meaning.specs.declared.limits.TheConstants.{STACK_LIMIT}
use Rattle.ia_meaning.specs.State.{zero_cell, Registers, IsFrame}
use Rattle.group_engine.specs.declared.registers.GroupRegisters.TheInside.{Inside}

abbrev pub registers_of : Inside → Registers
registers_of r =
    record {
      statics = r.statics;
      cells = r.cells.items;
      frame = r.frame;
      predicates = r.branch_inputs.predicates;
      branches = r.branch_inputs.branches;
      unat = r.unat;
      pfs = r.branch_inputs.pfs;
      lc = r.lc;
      ec = r.ec;
    }

-- The frame is one, the cells end with it, and there is room for the most that there may be; r0 is 0 without NaT, p0 is 1,
-- and EC has six bits.
pub record AreGroupRegisters (r : Inside) : Type 0 where
  pub frame : IsFrame r.frame
  pub count : length r.cells.items ≡ r.frame.base + r.frame.sof
  pub most : r.frame.base + r.frame.sof ≤ STACK_LIMIT
  pub room : STACK_LIMIT ≤ vec_capacity r.cells
  pub zero : get_or r.statics 0 zero_cell ≡ zero_cell
  pub one : get_or r.branch_inputs.predicates 0 false ≡ true
  pub epilog : r.ec < 64
