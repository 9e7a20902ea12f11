-- A count of faults that rose names the end.
use Rattle.std.proofs.Common.{◌≡◌, ◌≢◌, ◌<◌, ℕ, refl, arith}
use Rattle.vs_connection.specs.declared.end.SessionEnd.{SessionEnd}
use Rattle.vs_connection.specs.declared.end.SessionEnd.TheVariants.{Ended, Quit, Protocol, CutShort, ReadFault, WriteFault, Spent, NoMemory}

rose_not : (P : Type 0) (before after : ℕ) → after ≡ before → before < after → P
rose_not P before after same rose = absurd (omega arith)

pub read_rose : (end : SessionEnd) (before after : ℕ) → (end ≢ ReadFault → after ≡ before) → before < after → end ≡ ReadFault
read_rose Ended before after kept rose = rose_not (Ended ≡ ReadFault) before after (kept (λ e. cc)) rose
read_rose Quit before after kept rose = rose_not (Quit ≡ ReadFault) before after (kept (λ e. cc)) rose
read_rose (Protocol fault at) before after kept rose = rose_not ((Protocol fault at) ≡ ReadFault) before after (kept (λ e. cc)) rose
read_rose CutShort before after kept rose = rose_not (CutShort ≡ ReadFault) before after (kept (λ e. cc)) rose
read_rose ReadFault before after kept rose = refl
read_rose WriteFault before after kept rose = rose_not (WriteFault ≡ ReadFault) before after (kept (λ e. cc)) rose
read_rose Spent before after kept rose = rose_not (Spent ≡ ReadFault) before after (kept (λ e. cc)) rose
read_rose NoMemory before after kept rose = rose_not (NoMemory ≡ ReadFault) before after (kept (λ e. cc)) rose

pub write_rose : (end : SessionEnd) (before after : ℕ) → (end ≢ WriteFault → after ≡ before) → before < after → end ≡ WriteFault
write_rose Ended before after kept rose = rose_not (Ended ≡ WriteFault) before after (kept (λ e. cc)) rose
write_rose Quit before after kept rose = rose_not (Quit ≡ WriteFault) before after (kept (λ e. cc)) rose
write_rose (Protocol fault at) before after kept rose = rose_not ((Protocol fault at) ≡ WriteFault) before after (kept (λ e. cc)) rose
write_rose CutShort before after kept rose = rose_not (CutShort ≡ WriteFault) before after (kept (λ e. cc)) rose
write_rose ReadFault before after kept rose = rose_not (ReadFault ≡ WriteFault) before after (kept (λ e. cc)) rose
write_rose WriteFault before after kept rose = refl
write_rose Spent before after kept rose = rose_not (Spent ≡ WriteFault) before after (kept (λ e. cc)) rose
write_rose NoMemory before after kept rose = rose_not (NoMemory ≡ WriteFault) before after (kept (λ e. cc)) rose
