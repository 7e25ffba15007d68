-- What the contracts of `tool_call` cite: the status of the program.
pub mod Status
