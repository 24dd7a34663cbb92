-- What is seen of the state of the machine, and what is true of it.
use Rattle.std.specs.Prelude.{◌≡◌, ◌<◌, true, false, get_or}
use Rattle.ia_meaning.specs.declared.limits.TheConstants.{STACK_LIMIT}
use Rattle.ia_meaning.specs.State.{zero_cell, HasReservedZeros}
use Rattle.machine_state.specs.declared.state.MachineState.TheInside.{Inside}
use Rattle.machine_state.specs.Contents.{Contents}

abbrev pub contents_of : Inside → Contents
contents_of s = record {
  registers =
      record {
        statics = s.statics;
        cells = s.stack.cells;
        frame = s.stack.frame;
        predicates = s.predicates;
        branches = s.branches;
        unat = s.unat;
        pfs = s.pfs;
        lc = s.lc;
        ec = s.ec;
      };
  memory = record { bytes = s.data; alat = s.alat };
  range = s.stack.range;
}

-- The stack has room for the most cells, r0 is 0 without NaT, p0 is 1, the reserved bits of PFS are zero, and EC has six
-- bits.
pub record IsKept (s : Inside) : Type 0 where
  pub limit : s.stack.limit ≡ STACK_LIMIT
  pub zero : get_or s.statics 0 zero_cell ≡ zero_cell
  pub one : get_or s.predicates 0 false ≡ true
  pub reserved : HasReservedZeros s.pfs
  pub epilog : s.ec < 64
