-- What is reported of a run of two groups, each of the three slots of a bundle: one falls through, and one ends the run.
use Rattle.std.proofs.Common.{◌≡◌, ◌++◌, ℕ, refl}
use Rattle.std.specs.Prelude.{codes}
use Rattle.std.specs.Fmt.{digits}
use Rattle.ia_program.specs.declared.ending.GroupEvent.{GroupEvent}
use Rattle.ia_program.specs.declared.ending.How.{How}
use Rattle.ia_program.specs.declared.ending.How.TheVariants.{Falls, Ends}
use Rattle.watch_seam.specs.declared.watch.Keep.TheVariants.{Stay, Full}
use Rattle.watch_seam.specs.Watchers.{Sort, counter, tracer, WatchState, fresh, after, keep_of, line, report_text}

abbrev group : ℕ → ℕ → How → GroupEvent
group n b how =
    record { number = n; first = record { bundle = b; slot = 0 }; last = record { bundle = b; slot = 2 }; slots = 3; how = how }

abbrev seen_one : Sort → ℕ → WatchState
seen_one sort fill = after (fresh sort fill) (group 1 0 Falls)

abbrev seen_two : Sort → ℕ → WatchState
seen_two sort fill = after (seen_one sort fill) (group 2 1 Ends)

counts : report_text (seen_two counter 10_000_001) ≡ line (codes "groups 2 slots 6 taken 0")
unfolding digits
counts = refl

first_line : report_text (seen_one tracer 8) ≡ line (codes "1 0.0 0.2 falls")
unfolding digits
first_line = refl

lines : report_text (seen_two tracer 8) ≡ line (codes "1 0.0 0.2 falls") ++ line (codes "2 1.0 1.2 ends")
unfolding digits
lines = refl

stays : keep_of (seen_one counter 2) ≡ Stay
stays = refl

is_full : keep_of (seen_two counter 2) ≡ Full
is_full = refl
