-- What a schedule takes and writes, by its end.
--     EndsWith end input output
use Rattle.std.specs.Prelude.{◌≤◌, ◌^◌, length}
use Rattle.vs_defs.specs.Bytes.{Bytes}
use Rattle.vs_thread_defs.specs.Schedule as schedule
use Rattle.vs_thread_defs.specs.Schedule.{Schedules, SchedulesPart, SchedulesFirst}
use Rattle.vs_schedule.specs.declared.end.ScheduleEnd.{ScheduleEnd}
use Rattle.vs_schedule.specs.declared.end.ScheduleEnd.TheVariants.{Ended, BadLine, ReadFault, WriteFault, Spent, NoMemory}

-- of a bad line what stands behind it was taken, perhaps in part, and isn't looked at
abbrev pub EndsWith : ScheduleEnd → Bytes → Bytes → Type 0
EndsWith Ended input output = Schedules input output schedule.Ended
EndsWith (BadLine line) input output = Schedules input output (schedule.BadLine line)
EndsWith ReadFault input output = SchedulesPart input output
EndsWith Spent input output = (2 ^ 62 ≤ length input) × SchedulesPart input output
EndsWith NoMemory input output = SchedulesFirst input output
EndsWith WriteFault input output = SchedulesFirst input output
