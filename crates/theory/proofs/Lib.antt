-- The theorems on what specs/ states of calls, orders and loops; computed cases of theory, and the table of cases for direct calls.
pub mod Rounds
pub mod Cases
pub mod Passing
pub mod Worked
pub mod Reach
pub mod Loops
pub mod Matrix
pub mod Digraph
pub mod Demand3Proof
pub mod PassingProof
pub mod RoundsOpens
pub mod RoundsPresent
pub mod RoundsProof
