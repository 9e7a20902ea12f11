pub mod RunExample
mod MachineExample
mod CoreExample
mod Refused
mod ScheduleExamples
mod GeneratorExample
pub mod Lasting
pub mod Chosen
mod Drafts
