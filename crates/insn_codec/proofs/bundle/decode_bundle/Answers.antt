use Rattle.insn_codec.proofs.Answers.{answers_bundle, answers_fault}
use Rattle.insn_codec.proofs.bundle.decode_bundle.Goals as goal

pub returns-clause-only : goal.returns-clause-only
returns-clause-only c =
    answers_bundle c.one_bundle.ensures c.no_fault_where_spelled.ensures c.args.bytes.now c.read_bundle.result c.read_bundle.ensures.found
    c.read_bundle.ensures.fault

pub returns-clause-only_fault : goal.returns-clause-only_fault
returns-clause-only_fault c =
    answers_fault c.one_fault.ensures c.no_fault_where_spelled.ensures c.args.bytes.now c.read_bundle.result c.read_bundle.ensures.found
    c.read_bundle.ensures.fault
