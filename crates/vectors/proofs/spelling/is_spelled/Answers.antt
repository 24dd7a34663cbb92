use Rattle.std.proofs.Common.{subst, sym, ◌∙◌, ℕ, List}
use Rattle.std.proofs.lemmas.Slice.Eq.{bytes_eq-Decides}
use Rattle.insn_codec.specs.Spelling.{IsSpelled}
use Rattle.vectors.proofs.spelling.is_spelled.Goals as goal

-- A bundle has one spelling, the bytes that it is encoded to.
pub returns : goal.returns
returns c =
    let own = c.encode_bundle.result in
    let wanted = c.args.bytes.now in
    let same = bytes_eq-Decides own wanted in (
      λ equal. subst (λ (bytes : List ℕ). IsSpelled c.args.bundle.now bytes)
          (same.0 (sym c.eq.ensures ∙ equal)) c.encode_bundle.ensures.spelled,
      λ spelled. c.eq.ensures ∙ same.1 (sym (c.encode_bundle.ensures.only wanted spelled)),
    )
