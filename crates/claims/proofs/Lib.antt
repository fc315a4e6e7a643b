-- The claims, to be read in this order. Every definition that they speak of is listed in specs/Definitions.antt.

-- Demand 1: a defined result for everybody, the number of the first check that fails, and nothing changed by a refused call.
pub mod Demand1
-- Demand 2: a call run alone answers as the plain table; frames written read back, and frames read write back.
pub mod Demand2
-- Demand 3: every history agrees with the plain table under some moments; a station alone is answered in time.
pub mod Demand3
-- Demand 3: what an event may touch.
pub mod Touch
-- The table of the proved cases P1 to P10; its rows are in specs/Cases.antt.
pub mod Cases
-- What the rules say besides: openings, report, audit, question 11, runs, comparisons.
pub mod Distance
pub mod Further
-- The fault that was seen: a farther record found while a nearer one was held.
pub mod Nearer
-- Taking back a call (Rules 2.9, 2.10).
pub mod Withdrawn
-- How long the busy case can last (Rules 8.4, 8.5).
pub mod Somebody
-- A search that nobody can hold up: how long a nearest can take, whatever the others do (Rules 8.6).
pub mod WaitFree
-- The window of the last moisture readings, which is no part of the index (Rules 11).
pub mod Scans
-- What the claims rest on beside the laws of the other crates: the same facts said step by step instead of along a list.
pub mod Unrolled
pub mod Effects
pub mod Stepping
-- Demand 3 as it is written out here says the same as the definition that `history` proves.
pub mod Same
pub mod Contracts
