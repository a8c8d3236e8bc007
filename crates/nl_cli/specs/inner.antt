-- What the parts of the top call owe to each other: it changes nothing of what an answer is.
pub mod Stages
