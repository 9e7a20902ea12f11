-- How the program ends, and its exit status.
--     status_of, served_of, scheduled_of     the status of a connection's end, of a server's, and of a schedule's
use Rattle.std.specs.Prelude.{ℕ}
use Rattle.vs_program.specs.declared.status.Status.{Status}
use Rattle.vs_program.specs.declared.status.Status.TheVariants.{Done, BadWords, Protocol, CutShort, ReadFault, WriteFault, NoMemory, Spent, BadLine, AcceptFault, BindFault}
use Rattle.vs_connection.specs.declared.end.SessionEnd.{SessionEnd}
use Rattle.vs_connection.specs.declared.end.SessionEnd.TheVariants as ends
use Rattle.vs_server.specs.declared.serve.ServeEnd.{ServeEnd}
use Rattle.vs_server.specs.declared.serve.ServeEnd.TheVariants as served
use Rattle.vs_schedule.specs.declared.end.ScheduleEnd.{ScheduleEnd}
use Rattle.vs_schedule.specs.declared.end.ScheduleEnd.TheVariants as scheduled

abbrev pub status_of : SessionEnd → Status
status_of ends.Ended = Done
status_of ends.Quit = Done
status_of (ends.Protocol fault at) = Protocol
status_of ends.CutShort = CutShort
status_of ends.ReadFault = ReadFault
status_of ends.WriteFault = WriteFault
status_of ends.Spent = Spent
status_of ends.NoMemory = NoMemory

abbrev pub served_of : ServeEnd → Status
served_of served.Done = Done
served_of served.AcceptFault = AcceptFault
served_of served.NoMemory = NoMemory

abbrev pub scheduled_of : ScheduleEnd → Status
scheduled_of scheduled.Ended = Done
scheduled_of (scheduled.BadLine line) = BadLine
scheduled_of scheduled.ReadFault = ReadFault
scheduled_of scheduled.WriteFault = WriteFault
scheduled_of scheduled.Spent = Spent
scheduled_of scheduled.NoMemory = NoMemory

abbrev pub exit_code : Status → ℕ
exit_code Done = 0
exit_code BadWords = 2
exit_code Protocol = 3
exit_code CutShort = 4
exit_code ReadFault = 5
exit_code WriteFault = 6
exit_code NoMemory = 7
exit_code Spent = 8
exit_code BadLine = 9
exit_code AcceptFault = 10
exit_code BindFault = 16
