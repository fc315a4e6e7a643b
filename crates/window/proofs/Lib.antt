-- the tail of a list
pub mod TailLaws
-- the figures of some readings, in words and as they are worked out
pub mod FiguresLaws
pub mod LeastLaws
pub mod MeanLaws
pub mod ToldLaws
-- the states that readings could leave
pub mod WindowLaws
-- a reading more
pub mod SlideLaws
pub mod UpdateLaws
-- the whole run of accepted readings
pub mod BeginLaws
pub mod LogLaws
-- which calls are refused
pub mod RefusedLaws
-- whether the moisture is steady
pub mod SteadyLaws
-- examples, by computation
pub mod Cases
