use Rattle.std.proofs.Common.{◌≡◌, drop}
use Rattle.asm_matching.specs.Relations.{is_named}
use Rattle.asm_matching.proofs.relation.is_named.Given as goal

abbrev pub invariant-loop-token : goal.invariant-loop-token
invariant-loop-token l = is_named (drop l.token-index l.tokens) l.p ≡ is_named l.tokens l.p
