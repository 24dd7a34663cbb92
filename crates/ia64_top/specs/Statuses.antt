-- How a call of the top call may end.
use Rattle.std.specs.Prelude.{ℕ, List, Option, IfSome}
use Rattle.ia64_top.specs.declared.arguments.Command.{Command}
use Rattle.ia64_top.specs.declared.arguments.Command.TheVariants as command
use Rattle.ia64_top.specs.declared.status.Status.{Status}
use Rattle.ia64_top.specs.declared.status.Status.TheVariants.{Done, Violated, Words, Refused, TooLong}
use Rattle.ia64_top.specs.declared.status.Status.TheVariants.{ReadFault, WriteFault, NoMemory, Limit, Faulted}

-- The exit status.
abbrev pub status_number : Status → ℕ
status_number Done = 0
status_number Violated = 1
status_number Words = 2
status_number Refused = 3
status_number TooLong = 4
status_number ReadFault = 5
status_number WriteFault = 6
status_number NoMemory = 7
status_number Limit = 8
status_number Faulted = 9

-- The call gave an answer: no fault of the source or the sink and no want of memory came in its place.
abbrev pub IsAnswer : Status → Type 0
IsAnswer ReadFault = ⊥
IsAnswer WriteFault = ⊥
IsAnswer NoMemory = ⊥
IsAnswer status = Unit {0}

-- What is said of the whole input of a call that gave an answer, where the source tells its bytes.
abbrev pub IfAnswered : Status → Option (List ℕ) → (List ℕ → Type 0) → Type 0
IfAnswered status left Says = IsAnswer status → IfSome left Says

-- The status tells of a program: it was made into something else or judged, or its run ended or came to its limit.
abbrev pub TellsOfProgram : Status → Type 0
TellsOfProgram Done = Unit {0}
TellsOfProgram Violated = Unit {0}
TellsOfProgram Limit = Unit {0}
TellsOfProgram Faulted = Unit {0}
TellsOfProgram status = ⊥

-- The status of a command tells that the program is accepted: `check`, `stops` or `trial` is done, or `run`, `watch` or `trace`
-- printed a state.
abbrev pub TellsAccepted : Status → Command → Type 0
TellsAccepted Done command.Check = Unit {0}
TellsAccepted Done command.Stops = Unit {0}
TellsAccepted Done (command.Trial seed bundles) = Unit {0}
TellsAccepted Done (command.Run groups) = Unit {0}
TellsAccepted Limit (command.Run groups) = Unit {0}
TellsAccepted Faulted (command.Run groups) = Unit {0}
TellsAccepted Done (command.Watch groups) = Unit {0}
TellsAccepted Limit (command.Watch groups) = Unit {0}
TellsAccepted Faulted (command.Watch groups) = Unit {0}
TellsAccepted Done (command.Trace first count) = Unit {0}
TellsAccepted Limit (command.Trace first count) = Unit {0}
TellsAccepted Faulted (command.Trace first count) = Unit {0}
TellsAccepted status command = ⊥

-- A call with `trial` ends so: the trial is done, its program has violations, the sink failed, or memory ran out.
abbrev pub EndsTrial : Status → Type 0
EndsTrial Done = Unit {0}
EndsTrial Violated = Unit {0}
EndsTrial WriteFault = Unit {0}
EndsTrial NoMemory = Unit {0}
EndsTrial status = ⊥
