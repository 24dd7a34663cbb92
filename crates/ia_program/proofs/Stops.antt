-- The stops of a template.
use Rattle.std.proofs.Common.{ℕ, ◌<◌, arith}
use Rattle.std.proofs.lemmas.Bool.Decides.{nat_tests}
use Rattle.std.specs.Prelude.{Contains}
use Rattle.ia_program.specs.declared.bundle.Slots.{Slots}
use Rattle.ia_program.specs.declared.bundle.Slots.TheVariants.{Three, Long}
use Rattle.ia_program.specs.Templates.{stops_of}
use Rattle.ia_program.specs.Bundles.{IsStopAfter}

stop_small : (template slot : ℕ) → Contains (stops_of template) slot → slot < 3
stop_small template slot h = grind (arith, nat_tests)

-- No stop stands after a slot beyond slot 2.
pub no_stop_beyond : (template : ℕ) (slots : Slots) (slot : ℕ) → IsStopAfter template slots slot → slot < 3
no_stop_beyond template (Three a b c) slot h = stop_small template slot h
no_stop_beyond template (Long first long) slot h = omega (arith, h.0)
