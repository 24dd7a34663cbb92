use Rattle.std.proofs.Common.{◌≡◌, ℕ, false, ◌&&◌, not, eqb, eqb-true}
use Rattle.std.specs.Prelude.{bit_and}
use Rattle.std.proofs.lemmas.Bool.{or_parts, not-false}
use Rattle.resource_sets.proofs.SetBits.{none_met}
use Rattle.resource_sets.proofs.sets.ResourceSet.meets.Goals as goal

no_bit : (n : ℕ) → not (eqb n 0) ≡ false → n ≡ 0
no_bit n e = eqb-true n 0 (not-false (eqb n 0) e)

pub returns : goal.returns
returns c none =
    let s = c.args.self.now in
    let t = c.args.other.now in
    let cfm = or_parts _ (s.cfm && t.cfm) none in
    let ec = or_parts _ (s.ec && t.ec) cfm.0 in
    let lc = or_parts _ (s.lc && t.lc) ec.0 in
    let pfs = or_parts _ (s.pfs && t.pfs) lc.0 in
    let unat = or_parts _ (s.unat && t.unat) pfs.0 in
    let branches = or_parts _ (not (eqb (bit_and s.branches t.branches) 0)) unat.0 in
    let words = or_parts (not (eqb (bit_and s.registers t.registers) 0)) (not (eqb (bit_and s.predicates t.predicates) 0)) branches.0 in
    none_met s t (no_bit _ words.0) (no_bit _ words.1) (no_bit _ branches.1) unat.1 pfs.1 lc.1 ec.1 cfm.1
