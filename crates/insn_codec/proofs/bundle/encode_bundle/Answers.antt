use Rattle.insn_codec.proofs.bundle.encode_bundle.Goals as goal

pub returns-clause-only : goal.returns-clause-only
returns-clause-only c bytes s = c.one_spelling.ensures c.args.bundle.now bytes c.write_bundle.result s c.write_bundle.ensures
