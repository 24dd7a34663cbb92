use Rattle.std.proofs.Common.{◌≤◌, length, Err, Some, sym, ap, subst, arith}
use Rattle.ia64_top.specs.Arguments.{IsTrial}
use Rattle.ia64_top.specs.declared.status.Status.TheVariants.{Words, TooLong}
use Rattle.ia64_top.specs.declared.limits.TheConstants.{INPUT_LIMIT}
use Rattle.ia64_top.proofs.Outputs.{either_gives_one, either_refuses_none}
use Rattle.ia64_top.proofs.Ordering.{promised, run_in_each_order, promised_beyond, runs_beyond}
use Rattle.ia64_top.proofs.Answering.{no_command, too_long, answered, given_in_part, accepted_beyond, accepted_within, judged_beyond, judged_within, ended_beyond, ended_within, watched_beyond, watched_within, cut_within, not_run_within, beyond, untouched, read_whole, same_read}
use Rattle.ia64_top.proofs.NumberedRuns.{ended_at_once_beyond, ended_at_once_within, same_as_run_beyond, same_as_run_within}
use Rattle.ia64_top.proofs.OneOutput.{only_output}
use Rattle.ia64_top.proofs.Running.{accepted_of, judged_of, ended_of}
use Rattle.ia64_top.proofs.Trying.{tried, untried, gives_trial, gives_trial_part, ends_trial}
use Rattle.ia64_top.proofs.Causes.{cause_within, refused_within, served_within, none_beyond, clashes_within}
use Rattle.ia64_top.proofs.Ranges.{in_range}
use Rattle.ia64_top.proofs.top.ia64.Goals as goal

pub respond-requires-clause-command : goal.respond-requires-clause-command
respond-requires-clause-command g c = in_range c.args.arguments.now c.in-Some.command (sym c.in-Some.ensures)

pub returns-in-Err-TooLong-clause-output : goal.returns-in-Err-TooLong-clause-output
returns-in-Err-TooLong-clause-output g c u =
    too_long c.args.arguments.now c.in-Some.command _ (g.S.Source.left c.args.source.now) (g.K.Sink.given c.args.sink.now)
    (sym c.in-Some.ensures) c.in-Err-TooLong.ensures.reads (beyond _ (g.S.Source.left c.args.source.now)
    (g.S.Source.left c.read_input.new.source) (ap Err c.in-Err-TooLong.field-0-is) c.in-Err-TooLong.ensures.too_long)

pub returns-in-Err-TooLong-clause-accepted : goal.returns-in-Err-TooLong-clause-accepted
returns-in-Err-TooLong-clause-accepted g c u =
    accepted_beyond c.image_size.ensures c.args.arguments.now (g.S.Source.left c.args.source.now)
    (beyond _ (g.S.Source.left c.args.source.now) (g.S.Source.left c.read_input.new.source)
    (ap Err c.in-Err-TooLong.field-0-is) c.in-Err-TooLong.ensures.too_long)

pub returns-in-Err-TooLong-clause-judged : goal.returns-in-Err-TooLong-clause-judged
returns-in-Err-TooLong-clause-judged g c u =
    judged_beyond c.image_size.ensures c.args.arguments.now (g.S.Source.left c.args.source.now)
    (beyond _ (g.S.Source.left c.args.source.now) (g.S.Source.left c.read_input.new.source)
    (ap Err c.in-Err-TooLong.field-0-is) c.in-Err-TooLong.ensures.too_long)

pub returns-in-Err-TooLong-clause-ended : goal.returns-in-Err-TooLong-clause-ended
returns-in-Err-TooLong-clause-ended g c u =
    ended_beyond c.image_size.ensures c.args.arguments.now (g.S.Source.left c.args.source.now)
    (beyond _ (g.S.Source.left c.args.source.now) (g.S.Source.left c.read_input.new.source)
    (ap Err c.in-Err-TooLong.field-0-is) c.in-Err-TooLong.ensures.too_long)

pub returns-in-Ok-write_all-clause-output : goal.returns-in-Ok-write_all-clause-output
returns-in-Ok-write_all-clause-output g c u =
    let whole =
    same_read c.in-Some.command (g.S.Source.left c.args.source.now) c.deref.result.now c.in-Ok.input.items c.deref.ensures.value
    c.in-Ok.ensures.whole in
    let written = rw c.deref-2.ensures.value at c.in-Ok-write_all.ensures in
    let within : length c.deref.result.now ≤ INPUT_LIMIT =
    omega (arith, c.in-Ok.ensures.within, c.deref.ensures.len, ap length c.deref.ensures.value) in
    answered c.args.arguments.now c.in-Some.command _ (g.S.Source.left c.args.source.now) (g.K.Sink.given c.args.sink.now)
    (g.K.Sink.given c.write_all.new.sink) c.deref.result.now c.in-Ok-respond.answer.bytes.items c.in-Ok-respond.answer.status
    (sym c.in-Some.ensures) whole within c.in-Ok-respond.ensures.output written.ok

pub returns-in-Ok-write_all-clause-only : goal.returns-in-Ok-write_all-clause-only
returns-in-Ok-write_all-clause-only g c u =
    let whole =
    same_read c.in-Some.command (g.S.Source.left c.args.source.now) c.deref.result.now c.in-Ok.input.items c.deref.ensures.value
    c.in-Ok.ensures.whole in
    let written = rw c.deref-2.ensures.value at c.in-Ok-write_all.ensures in
    let within : length c.deref.result.now ≤ INPUT_LIMIT =
    omega (arith, c.in-Ok.ensures.within, c.deref.ensures.len, ap length c.deref.ensures.value) in
    let output =
    answered c.args.arguments.now c.in-Some.command _ (g.S.Source.left c.args.source.now) (g.K.Sink.given c.args.sink.now)
    (g.K.Sink.given c.write_all.new.sink) c.deref.result.now c.in-Ok-respond.answer.bytes.items c.in-Ok-respond.answer.status
    (sym c.in-Some.ensures) whole within c.in-Ok-respond.ensures.output written.ok in
    only_output c.one_output.ensures c.args.arguments.now _ (g.S.Source.left c.args.source.now) (g.K.Sink.given c.args.sink.now)
    (g.K.Sink.given c.write_all.new.sink) c.in-Ok-respond.answer.status output

pub returns-in-Err-TooLong-clause-only : goal.returns-in-Err-TooLong-clause-only
returns-in-Err-TooLong-clause-only g c u =
    let output =
    too_long c.args.arguments.now c.in-Some.command _ (g.S.Source.left c.args.source.now) (g.K.Sink.given c.args.sink.now)
    (sym c.in-Some.ensures) c.in-Err-TooLong.ensures.reads (beyond _ (g.S.Source.left c.args.source.now)
    (g.S.Source.left c.read_input.new.source) (ap Err c.in-Err-TooLong.field-0-is) c.in-Err-TooLong.ensures.too_long) in
    only_output c.one_output.ensures c.args.arguments.now _ (g.S.Source.left c.args.source.now) (g.K.Sink.given c.args.sink.now)
    (g.K.Sink.given c.args.sink.now) TooLong output

pub returns-in_default-clause-only : goal.returns-in_default-clause-only
returns-in_default-clause-only g c u =
    let output =
    no_command c.args.arguments.now _ (g.S.Source.left c.args.source.now) (g.K.Sink.given c.args.sink.now) (sym c.in_default.ensures) in
    only_output c.one_output.ensures c.args.arguments.now _ (g.S.Source.left c.args.source.now) (g.K.Sink.given c.args.sink.now)
    (g.K.Sink.given c.args.sink.now) Words output

pub returns-in-Ok-write_all-clause-accepted : goal.returns-in-Ok-write_all-clause-accepted
returns-in-Ok-write_all-clause-accepted g c u =
    let one = either_gives_one c.one_program.ensures c.one_text_program.ensures in
    let none = either_refuses_none c.no_fault_where_spelled.ensures c.no_fault_where_read.ensures in
    let whole =
    same_read c.in-Some.command (g.S.Source.left c.args.source.now) c.deref.result.now c.in-Ok.input.items c.deref.ensures.value
    c.in-Ok.ensures.whole in
    accepted_within c.args.arguments.now c.in-Some.command (g.S.Source.left c.args.source.now) c.deref.result.now
    c.in-Ok-respond.answer.status (sym c.in-Some.ensures) whole
    (accepted_of one none c.in-Some.command _ c.deref.result.now c.in-Ok-respond.answer.bytes.items c.in-Ok-respond.answer.status
    c.in-Ok-respond.ensures.output)

pub returns-in-Ok-write_all-clause-judged : goal.returns-in-Ok-write_all-clause-judged
returns-in-Ok-write_all-clause-judged g c u =
    let one = either_gives_one c.one_program.ensures c.one_text_program.ensures in
    let none = either_refuses_none c.no_fault_where_spelled.ensures c.no_fault_where_read.ensures in
    let whole =
    same_read c.in-Some.command (g.S.Source.left c.args.source.now) c.deref.result.now c.in-Ok.input.items c.deref.ensures.value
    c.in-Ok.ensures.whole in
    judged_within c.args.arguments.now c.in-Some.command (g.S.Source.left c.args.source.now) c.deref.result.now
    c.in-Ok-respond.answer.status (sym c.in-Some.ensures) whole
    (judged_of one none c.in-Some.command _ c.deref.result.now c.in-Ok-respond.answer.bytes.items c.in-Ok-respond.answer.status
    c.in-Ok-respond.ensures.output)

pub returns-in-Ok-write_all-clause-ended : goal.returns-in-Ok-write_all-clause-ended
returns-in-Ok-write_all-clause-ended g c u =
    let one = either_gives_one c.one_program.ensures c.one_text_program.ensures in
    let none = either_refuses_none c.no_fault_where_spelled.ensures c.no_fault_where_read.ensures in
    let whole =
    same_read c.in-Some.command (g.S.Source.left c.args.source.now) c.deref.result.now c.in-Ok.input.items c.deref.ensures.value
    c.in-Ok.ensures.whole in
    ended_within c.args.arguments.now c.in-Some.command (g.S.Source.left c.args.source.now) c.deref.result.now c.in-Ok-respond.answer.status
    (sym c.in-Some.ensures) whole (ended_of one none c.in-Some.command _ c.deref.result.now c.in-Ok-respond.answer.bytes.items
    c.in-Ok-respond.answer.status c.in-Ok-respond.ensures.output)

pub returns-clause-written_part : goal.returns-clause-written_part
returns-clause-written_part g c u =
    let whole =
    same_read c.in-Some.command (g.S.Source.left c.args.source.now) c.deref.result.now c.in-Ok.input.items c.deref.ensures.value
    c.in-Ok.ensures.whole in
    let written = rw c.deref-2.ensures.value at c.in-Err.ensures in
    let within : length c.deref.result.now ≤ INPUT_LIMIT =
    omega (arith, c.in-Ok.ensures.within, c.deref.ensures.len, ap length c.deref.ensures.value) in (
      λ other. c.in-Ok.ensures.end (subst (λ o. ¬ IsTrial o) (sym c.in-Some.ensures) other),
      c.in-Ok.ensures.unchanged_faults,
      given_in_part c.args.arguments.now c.in-Some.command _ (g.S.Source.left c.args.source.now) (g.K.Sink.given c.args.sink.now)
          (g.K.Sink.given c.write_all.new.sink) c.deref.result.now c.in-Ok-respond.answer.bytes.items c.in-Ok-respond.answer.status
          (sym c.in-Some.ensures) whole within c.in-Ok-respond.ensures.output written.prefix,
    )

pub returns-in_default-clause-too_long : goal.returns-in_default-clause-too_long
returns-in_default-clause-too_long g c = untouched _ (g.S.Source.left c.args.source.now) (λ e. cc)

pub returns-in-Ok-write_all-clause-too_long : goal.returns-in-Ok-write_all-clause-too_long
returns-in-Ok-write_all-clause-too_long g c =
    read_whole _ c.in-Some.command _ (g.S.Source.left c.args.source.now)
    (g.S.Source.left c.read_input.new.source) c.deref.result.now c.in-Ok-respond.answer.bytes.items c.in-Ok-respond.answer.status
    (λ e. cc) c.in-Ok.ensures.too_long c.in-Ok-respond.ensures.output

pub returns-in-Err-TooLong-clause-order_independent : goal.returns-in-Err-TooLong-clause-order_independent
returns-in-Err-TooLong-clause-order_independent g c u = promised_beyond c.args.arguments.now (g.S.Source.left c.args.source.now)

pub returns-in-Err-TooLong-clause-ordered : goal.returns-in-Err-TooLong-clause-ordered
returns-in-Err-TooLong-clause-ordered g c u = runs_beyond c.args.arguments.now _ (g.S.Source.left c.args.source.now) _ _

pub returns-in-Ok-write_all-clause-order_independent : goal.returns-in-Ok-write_all-clause-order_independent
returns-in-Ok-write_all-clause-order_independent g c u =
    let one = either_gives_one c.one_program.ensures c.one_text_program.ensures in
    let whole =
    same_read c.in-Some.command (g.S.Source.left c.args.source.now) c.deref.result.now c.in-Ok.input.items c.deref.ensures.value
    c.in-Ok.ensures.whole in
    promised c.orders_leave_the_same.ensures.run one c.one_placed.ensures c.args.arguments.now c.in-Some.command _
    (g.S.Source.left c.args.source.now) c.deref.result.now c.in-Ok-respond.answer.bytes.items c.in-Ok-respond.answer.status
    (sym c.in-Some.ensures) whole c.in-Ok-respond.ensures.output

pub returns-in-Ok-write_all-clause-ordered : goal.returns-in-Ok-write_all-clause-ordered
returns-in-Ok-write_all-clause-ordered g c u =
    let one = either_gives_one c.one_program.ensures c.one_text_program.ensures in
    let whole =
    same_read c.in-Some.command (g.S.Source.left c.args.source.now) c.deref.result.now c.in-Ok.input.items c.deref.ensures.value
    c.in-Ok.ensures.whole in
    let written = rw c.deref-2.ensures.value at c.in-Ok-write_all.ensures in
    run_in_each_order c.orders_leave_the_same.ensures.run c.zero_is_start.ensures one c.args.arguments.now c.in-Some.command _
    (g.S.Source.left c.args.source.now) (g.K.Sink.given c.args.sink.now)
    (g.K.Sink.given c.write_all.new.sink) c.deref.result.now c.in-Ok-respond.answer.bytes.items c.in-Ok-respond.answer.status
    (sym c.in-Some.ensures) whole c.in-Ok-respond.ensures.output written.ok

pub returns-in-Err-TooLong-clause-ended_at_once : goal.returns-in-Err-TooLong-clause-ended_at_once
returns-in-Err-TooLong-clause-ended_at_once g c u =
    ended_at_once_beyond c.image_size.ensures c.args.arguments.now (g.S.Source.left c.args.source.now)
    (beyond _ (g.S.Source.left c.args.source.now) (g.S.Source.left c.read_input.new.source)
    (ap Err c.in-Err-TooLong.field-0-is) c.in-Err-TooLong.ensures.too_long)

pub returns-in-Err-TooLong-clause-same_as_run : goal.returns-in-Err-TooLong-clause-same_as_run
returns-in-Err-TooLong-clause-same_as_run g c u =
    same_as_run_beyond c.image_size.ensures c.args.arguments.now _ (g.S.Source.left c.args.source.now) _ _
    (beyond _ (g.S.Source.left c.args.source.now) (g.S.Source.left c.read_input.new.source)
    (ap Err c.in-Err-TooLong.field-0-is) c.in-Err-TooLong.ensures.too_long)

pub returns-in-Ok-write_all-clause-ended_at_once : goal.returns-in-Ok-write_all-clause-ended_at_once
returns-in-Ok-write_all-clause-ended_at_once g c u =
    let one = either_gives_one c.one_program.ensures c.one_text_program.ensures in
    let none = either_refuses_none c.no_fault_where_spelled.ensures c.no_fault_where_read.ensures in
    let whole =
    same_read c.in-Some.command (g.S.Source.left c.args.source.now) c.deref.result.now c.in-Ok.input.items c.deref.ensures.value
    c.in-Ok.ensures.whole in
    ended_at_once_within one none c.args.arguments.now c.in-Some.command _ (g.S.Source.left c.args.source.now) c.deref.result.now
    c.in-Ok-respond.answer.bytes.items c.in-Ok-respond.answer.status (sym c.in-Some.ensures) whole c.in-Ok-respond.ensures.output

pub returns-in-Ok-write_all-clause-same_as_run : goal.returns-in-Ok-write_all-clause-same_as_run
returns-in-Ok-write_all-clause-same_as_run g c u =
    let one = either_gives_one c.one_program.ensures c.one_text_program.ensures in
    let none = either_refuses_none c.no_fault_where_spelled.ensures c.no_fault_where_read.ensures in
    let whole =
    same_read c.in-Some.command (g.S.Source.left c.args.source.now) c.deref.result.now c.in-Ok.input.items c.deref.ensures.value
    c.in-Ok.ensures.whole in
    let written = rw c.deref-2.ensures.value at c.in-Ok-write_all.ensures in
    let within : length c.deref.result.now ≤ INPUT_LIMIT =
    omega (arith, c.in-Ok.ensures.within, c.deref.ensures.len, ap length c.deref.ensures.value) in
    same_as_run_within c.orders_leave_the_same.ensures.run c.zero_is_start.ensures c.numbered_run_is_parallel.ensures one none
    c.args.arguments.now c.in-Some.command _ (g.S.Source.left c.args.source.now) (g.K.Sink.given c.args.sink.now)
    (g.K.Sink.given c.write_all.new.sink) c.deref.result.now c.in-Ok-respond.answer.bytes.items c.in-Ok-respond.answer.status
    (sym c.in-Some.ensures) whole within c.in-Ok-respond.ensures.output written.ok

pub returns-in-Err-TooLong-clause-tried : goal.returns-in-Err-TooLong-clause-tried
returns-in-Err-TooLong-clause-tried g c u =
    λ seed bundles f. absurd (untried c.args.arguments.now c.in-Some.command (sym c.in-Some.ensures) c.in-Err-TooLong.ensures.reads seed
    bundles f)

pub returns-in-Ok-write_all-clause-tried : goal.returns-in-Ok-write_all-clause-tried
returns-in-Ok-write_all-clause-tried g c u =
    tried c.args.arguments.now c.in-Some.command _ c.deref.result.now c.in-Ok-respond.answer.bytes.items c.in-Ok-respond.answer.status
    (sym c.in-Some.ensures) c.in-Ok-respond.ensures.output

pub returns-in-Ok-write_all-clause-read : goal.returns-in-Ok-write_all-clause-read
returns-in-Ok-write_all-clause-read g c u = λ w t other. c.in-Ok.ensures.end (subst (λ o. ¬ IsTrial o) (sym c.in-Some.ensures) other)

pub returns-in-Ok-write_all-clause-reads_nothing : goal.returns-in-Ok-write_all-clause-reads_nothing
returns-in-Ok-write_all-clause-reads_nothing g c is =
    let mine : IsTrial (Some c.in-Some.command) = subst IsTrial (sym c.in-Some.ensures) is in
    let kept = c.in-Ok.ensures.untouched mine in (
      kept.0,
      kept.1,
      ends_trial c.in-Some.command _ c.deref.result.now c.in-Ok-respond.answer.bytes.items c.in-Ok-respond.answer.status mine
          c.in-Ok-respond.ensures.output,
    )

pub returns-clause-reads_nothing : goal.returns-clause-reads_nothing
returns-clause-reads_nothing g c is =
    let kept = c.in-Ok.ensures.untouched (subst IsTrial (sym c.in-Some.ensures) is) in (kept.0, kept.1, tt)

pub returns-in-Err-TooLong-clause-reads_nothing : goal.returns-in-Err-TooLong-clause-reads_nothing
returns-in-Err-TooLong-clause-reads_nothing g c is = absurd (c.in-Err-TooLong.ensures.reads (subst IsTrial (sym c.in-Some.ensures) is))

pub returns-in-Err-TooLong-clause-watched : goal.returns-in-Err-TooLong-clause-watched
returns-in-Err-TooLong-clause-watched g c u =
    watched_beyond c.image_size.ensures c.args.arguments.now (g.S.Source.left c.args.source.now) _ _
    (beyond _ (g.S.Source.left c.args.source.now) (g.S.Source.left c.read_input.new.source)
    (ap Err c.in-Err-TooLong.field-0-is) c.in-Err-TooLong.ensures.too_long)

pub returns-in-Ok-write_all-clause-watched : goal.returns-in-Ok-write_all-clause-watched
returns-in-Ok-write_all-clause-watched g c u =
    let whole =
    same_read c.in-Some.command (g.S.Source.left c.args.source.now) c.deref.result.now c.in-Ok.input.items c.deref.ensures.value
    c.in-Ok.ensures.whole in
    watched_within c.args.arguments.now c.in-Some.command (g.S.Source.left c.args.source.now) _ _ c.deref.result.now (sym c.in-Some.ensures)
    whole c.in-Ok-respond.ensures.watched

pub returns-clause-watched : goal.returns-clause-watched
returns-clause-watched g c u =
    let whole =
    same_read c.in-Some.command (g.S.Source.left c.args.source.now) c.deref.result.now c.in-Ok.input.items c.deref.ensures.value
    c.in-Ok.ensures.whole in
    watched_within c.args.arguments.now c.in-Some.command (g.S.Source.left c.args.source.now) _ _ c.deref.result.now (sym c.in-Some.ensures)
    whole c.in-Ok-respond.ensures.watched

pub returns-in_default-respond-clause-cut_short : goal.returns-in_default-respond-clause-cut_short
returns-in_default-respond-clause-cut_short g c u =
    let whole =
    same_read c.in-Some.command (g.S.Source.left c.args.source.now) c.deref.result.now c.in-Ok.input.items c.deref.ensures.value
    c.in-Ok.ensures.whole in
    cut_within c.args.arguments.now c.in-Some.command (g.S.Source.left c.args.source.now) _ _ c.deref.result.now (sym c.in-Some.ensures)
    whole c.in_default-respond.ensures.cut_short

pub returns-clause-not_run_in_part : goal.returns-clause-not_run_in_part
returns-clause-not_run_in_part g c u =
    let whole =
    same_read c.in-Some.command (g.S.Source.left c.args.source.now) c.deref.result.now c.in-Ok.input.items c.deref.ensures.value
    c.in-Ok.ensures.whole in
    not_run_within c.in-Some.command (g.S.Source.left c.args.source.now) _ c.args.watchers.now c.respond.new.watchers c.deref.result.now
    c.in-Ok-respond.answer.bytes.items c.in-Ok-respond.answer.status whole c.in-Ok-respond.ensures.output c.respond.ensures.only_watch
    c.in-Ok-respond.ensures.not_run

pub returns-in-Err-TooLong-clause-trial_output : goal.returns-in-Err-TooLong-clause-trial_output
returns-in-Err-TooLong-clause-trial_output g c u =
    λ seed bundles f. absurd (untried c.args.arguments.now c.in-Some.command (sym c.in-Some.ensures) c.in-Err-TooLong.ensures.reads seed
    bundles f)

pub returns-in-Ok-write_all-clause-trial_output : goal.returns-in-Ok-write_all-clause-trial_output
returns-in-Ok-write_all-clause-trial_output g c u =
    let written = rw c.deref-2.ensures.value at c.in-Ok-write_all.ensures in
    gives_trial c.args.arguments.now c.in-Some.command _ c.deref.result.now c.in-Ok-respond.answer.bytes.items c.in-Ok-respond.answer.status
    (g.K.Sink.given c.args.sink.now) (g.K.Sink.given c.write_all.new.sink)
    (sym c.in-Some.ensures) c.in-Ok-respond.ensures.output written.ok

pub returns-in-Err-TooLong-clause-refused : goal.returns-in-Err-TooLong-clause-refused
returns-in-Err-TooLong-clause-refused g c u =
    none_beyond _ c.args.arguments.now c.in-Some.command (g.S.Source.left c.args.source.now)
    (sym c.in-Some.ensures) c.in-Err-TooLong.ensures.reads (beyond _ (g.S.Source.left c.args.source.now)
    (g.S.Source.left c.read_input.new.source) (ap Err c.in-Err-TooLong.field-0-is) c.in-Err-TooLong.ensures.too_long)

pub returns-in-Err-TooLong-clause-served : goal.returns-in-Err-TooLong-clause-served
returns-in-Err-TooLong-clause-served g c u w =
    none_beyond _ c.args.arguments.now c.in-Some.command (g.S.Source.left c.args.source.now)
    (sym c.in-Some.ensures) c.in-Err-TooLong.ensures.reads (beyond _ (g.S.Source.left c.args.source.now)
    (g.S.Source.left c.read_input.new.source) (ap Err c.in-Err-TooLong.field-0-is) c.in-Err-TooLong.ensures.too_long)

pub returns-in-Ok-write_all-clause-refused : goal.returns-in-Ok-write_all-clause-refused
returns-in-Ok-write_all-clause-refused g c u =
    let whole =
    same_read c.in-Some.command (g.S.Source.left c.args.source.now) c.deref.result.now c.in-Ok.input.items c.deref.ensures.value
    c.in-Ok.ensures.whole in
    refused_within c.args.arguments.now (g.S.Source.left c.args.source.now) c.in-Ok-respond.answer.status
    (cause_within c.no_fault_where_spelled.ensures c.no_fault_where_raw.ensures c.no_fault_where_read.ensures
    c.no_fault_where_placed.ensures c.args.arguments.now c.in-Some.command _ (g.S.Source.left c.args.source.now) c.deref.result.now
    c.in-Ok-respond.answer.bytes.items c.in-Ok-respond.answer.status (sym c.in-Some.ensures) whole c.in-Ok-respond.ensures.output)

pub returns-in-Ok-write_all-clause-served : goal.returns-in-Ok-write_all-clause-served
returns-in-Ok-write_all-clause-served g c u w =
    let whole =
    same_read c.in-Some.command (g.S.Source.left c.args.source.now) c.deref.result.now c.in-Ok.input.items c.deref.ensures.value
    c.in-Ok.ensures.whole in
    served_within c.args.arguments.now (g.S.Source.left c.args.source.now) c.in-Ok-respond.answer.status
    (cause_within c.no_fault_where_spelled.ensures c.no_fault_where_raw.ensures c.no_fault_where_read.ensures
    c.no_fault_where_placed.ensures c.args.arguments.now c.in-Some.command _ (g.S.Source.left c.args.source.now) c.deref.result.now
    c.in-Ok-respond.answer.bytes.items c.in-Ok-respond.answer.status (sym c.in-Some.ensures) whole c.in-Ok-respond.ensures.output)

pub returns-in-Ok-write_all-clause-clashes : goal.returns-in-Ok-write_all-clause-clashes
returns-in-Ok-write_all-clause-clashes g c is =
    let one = either_gives_one c.one_program.ensures c.one_text_program.ensures in
    let whole =
    same_read c.in-Some.command (g.S.Source.left c.args.source.now) c.deref.result.now c.in-Ok.input.items c.deref.ensures.value
    c.in-Ok.ensures.whole in
    let written = rw c.deref-2.ensures.value at c.in-Ok-write_all.ensures in
    clashes_within one c.args.arguments.now c.in-Some.command _ (g.S.Source.left c.args.source.now) (g.K.Sink.given c.args.sink.now)
    (g.K.Sink.given c.write_all.new.sink) c.deref.result.now c.in-Ok-respond.answer.bytes.items c.in-Ok-respond.answer.status
    (sym c.in-Some.ensures) whole c.in-Ok-respond.ensures.output written.ok is

pub returns-clause-trial_part : goal.returns-clause-trial_part
returns-clause-trial_part g c u =
    let written = rw c.deref-2.ensures.value at c.in-Err.ensures in
    gives_trial_part c.args.arguments.now c.in-Some.command _ c.deref.result.now c.in-Ok-respond.answer.bytes.items
    c.in-Ok-respond.answer.status (g.K.Sink.given c.args.sink.now) (g.K.Sink.given c.write_all.new.sink)
    (sym c.in-Some.ensures) c.in-Ok-respond.ensures.output written.prefix
