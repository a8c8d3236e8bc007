mod Numbers
mod Split
pub mod Complete
pub mod CompletionExamples
pub mod Deep
pub mod Ends
pub mod FaultKinds
pub mod Good
pub mod Heads
pub mod Known
pub mod Live
pub mod MachineExamples
pub mod Meant
pub mod Over
pub mod Place
pub mod Sees
pub mod Sound
pub mod Stack
pub mod Taken
